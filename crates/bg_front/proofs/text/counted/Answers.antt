use Rattle.std.proofs.Common.{rules, ◌≡◌, None, sym, subst}
use Rattle.bg_text.specs.Tokens.{views}
use Rattle.bg_ast.specs.Resolved.{Program}
use Rattle.bg_ast.specs.Views.{program_of}
use Rattle.bg_front.specs.Programs.{limit_of}
use Rattle.bg_front.proofs.Large.{limit_is_refused}
use Rattle.bg_front.proofs.text.counted.Goals as goal

pub returns-in_err-program-clause-refused : goal.returns-in_err-program-clause-refused
returns-in_err-program-clause-refused c =
    let why = limit_is_refused c.args.guess c.args.bytes.now (views c.args.tokens.now) (program_of c.args.typed.program) c.in_err-program.field-0.0 c.requires.meant.0 c.requires.typed c.in_err-program.ensures.limit in
    search (rules, why)

pub returns-clause-program : goal.returns-clause-program
returns-clause-program c = (
  record {
    tokens = views c.args.tokens.now;
    written = program_of c.args.typed.program;
    spelled = c.requires.meant.0;
    typed = c.requires.typed;
    is = c.in_ok-program.ensures.made;
    within = subst (λ (p : Program). limit_of p ≡ None) (sym c.in_ok-program.ensures.made) c.in_ok-program.ensures.within;
  },
  c.requires.meant.1,
)
