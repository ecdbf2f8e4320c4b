use Rattle.bg_ast.specs.Meaning.{meaning_of}
use Rattle.bg_ast.specs.Views.{program_of}
use Rattle.bg_check.proofs.Attempting.{tables_here}
use Rattle.bg_check.proofs.attempt.tried.Goals as goal

pub used_up-requires-clause-fails : goal.used_up-requires-clause-fails
used_up-requires-clause-fails c =
    let p = program_of c.args.question.program.now in
    let none = (c.programs_over_values_are_tabled.ensures (meaning_of p) c.requires.typed c.requires.scalars).bodies in
    c.in_ok-fails.ensures c.if-not-fails.false
    (tables_here c.args.question.program.now c.deref.result.now c.deref-2.result.now c.deref-3.result.now c.args.cex c.deref.ensures.value c.deref-2.ensures.value c.deref-3.ensures.value none (c.in_ok-fits.ensures c.if-not-fits.false))
    c.requires.state c.requires.types

pub returns : goal.returns
returns c =
    (c.in_ok-left.ensures.fails.0, (c.in_ok-left.ensures.fails.1.0, (c.in_ok-left.ensures.used, c.in_ok-left.ensures.fails.1.1)))
