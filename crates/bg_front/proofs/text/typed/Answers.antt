use Rattle.std.proofs.Common.{sym, subst}
use Rattle.bg_text.specs.Tokens.{views}
use Rattle.bg_text.specs.Views.{decls_of}
use Rattle.bg_front.specs.Programs.{IsMeaningFrom}
use Rattle.bg_ast.specs.Views.{program_of}
use Rattle.bg_typed.specs.Rules.{KeepsTypes}
use Rattle.bg_front.proofs.TypedPrograms.{keeps_types}
use Rattle.bg_front.proofs.text.typed.Goals as goal

pub returns-in-Ok-clause-meant : goal.returns-in-Ok-clause-meant
returns-in-Ok-clause-meant c =
    subst (IsMeaningFrom c.args.bytes.now (views c.args.tokens.now) (decls_of c.args.decls.now)) (sym c.in-Ok.ensures.ok.0) c.requires.meant

pub returns-in-Ok-clause-typed : goal.returns-in-Ok-clause-typed
returns-in-Ok-clause-typed c =
    let w = c.in-Ok.ensures.ok in
    subst KeepsTypes (sym w.0) (keeps_types c.resolved_programs_are_named.ensures c.faultless_programs_keep_the_rules.ensures c.args.bytes.now (views c.args.tokens.now) (program_of c.args.program) c.requires.meant.0 w.1)
