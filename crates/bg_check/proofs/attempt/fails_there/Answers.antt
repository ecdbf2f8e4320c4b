use Rattle.bg_ast.specs.Meaning.{meaning_of}
use Rattle.bg_ast.specs.Views.{program_of}
use Rattle.bg_places.specs.Views.{placed_of}
use Rattle.bg_check.proofs.Attempting.{failed_here}
use Rattle.bg_check.proofs.attempt.fails_there.Goals as goal

pub returns-in-Failed : goal.returns-in-Failed
returns-in-Failed c same normal state types =
    let p = program_of c.args.question.program.now in
    let t = (placed_of c.args.question.place.now).place in
    failed_here c.replays_are_induction_runs.ensures c.tables_meet_programs_over_values.ensures p c.requires.scalars (c.programs_over_values_are_tabled.ensures (meaning_of p) c.requires.typed c.requires.scalars).bodies c.args.question.set.now t c.args.cex.now c.args.question.prepared.now c.requires.prepared c.deref.result.now c.deref-2.result.now c.deref-3.result.now c.deref-4.result.now c.deref-5.result.now c.in_ok-ending.ending c.deref.ensures.value c.deref-2.ensures.value c.deref-3.ensures.value c.deref-4.ensures.value c.deref-5.ensures.value c.in_ok-ending.ensures c.in-Failed.spot c.in-Failed.is (c.same_spot.ensures same) normal state types
