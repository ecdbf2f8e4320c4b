use Rattle.std.proofs.Common.{rules, sym, subst}
use Rattle.bg_text.specs.Tokens.{views}
use Rattle.bg_text.specs.Views.{decls_of}
use Rattle.bg_ast.specs.Views.{program_of}
use Rattle.bg_front.specs.Programs.{IsMeaningFrom, IsProgramFrom}
use Rattle.bg_front.proofs.text.read_text.Goals as goal

pub typed-requires : goal.typed-requires
typed-requires c =
    let p = program_of c.in_ok-program.program in
    let bytes = c.args.bytes.now in
    record {
      meant =
          subst (λ ts. IsMeaningFrom bytes (views ts) (decls_of c.deref-4.result.now) p) (sym c.deref-3.ensures.value)
          (subst (λ ds. IsMeaningFrom bytes (views c.in_ok-read.read.tokens.items) (decls_of ds) p) (sym c.deref-4.ensures.value)
          (subst (λ ts. IsMeaningFrom bytes (views ts) (decls_of c.in_ok-read.read.tree.decls.items) p) c.deref.ensures.value
          (subst (λ ds. IsMeaningFrom bytes (views c.deref.result.now) (decls_of ds) p) c.deref-2.ensures.value c.in_ok-program.ensures.meant)));
    }

pub counted-requires-clause-meant : goal.counted-requires-clause-meant
counted-requires-clause-meant c =
    let p = program_of c.in_ok-typed.typed.program in
    let bytes = c.args.bytes.now in
    subst (λ ts. IsMeaningFrom bytes (views ts) (decls_of c.deref-6.result.now) p) (sym c.deref-5.ensures.value)
    (subst (λ ds. IsMeaningFrom bytes (views c.in_ok-read.read.tokens.items) (decls_of ds) p) (sym c.deref-6.ensures.value)
    (subst (λ ts. IsMeaningFrom bytes (views ts) (decls_of c.in_ok-read.read.tree.decls.items) p) c.deref-3.ensures.value
    (subst (λ ds. IsMeaningFrom bytes (views c.deref-3.result.now) (decls_of ds) p) c.deref-4.ensures.value c.in_ok-typed.ensures.meant)))

pub returns-in_err-read-clause-refused : goal.returns-in_err-read-clause-refused
returns-in_err-read-clause-refused c = let why = c.in_err-read.ensures.refused c.args.guess in search (rules, why)

pub returns-in_err-program-clause-refused : goal.returns-in_err-program-clause-refused
returns-in_err-program-clause-refused c = let why = c.in_err-program.ensures.refused c.args.guess in search (rules, why)

pub returns-in_err-typed-clause-refused : goal.returns-in_err-typed-clause-refused
returns-in_err-typed-clause-refused c = let why = c.in_err-typed.ensures.refused c.args.guess in search (rules, why)

pub returns-clause-program : goal.returns-clause-program
returns-clause-program c =
    subst (λ ds. IsProgramFrom c.args.guess c.args.bytes.now (decls_of ds) (program_of c.in_ok-made.made.program)) c.deref-6.ensures.value c.in_ok-made.ensures.program
