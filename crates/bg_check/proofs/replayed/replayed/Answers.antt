use Rattle.std.proofs.Common.{subst}
use Rattle.bg_ast.specs.Meaning.{meaning_of}
use Rattle.bg_ast.specs.Views.{program_of}
use Rattle.bg_cert.specs.Walks.{has}
use Rattle.bg_places.specs.Views.{placed_of}
use Rattle.bg_check.proofs.Replaying.{Arm, arm_here}
use Rattle.bg_check.proofs.replayed.replayed.Goals as goal

pub unreachable-requires : goal.unreachable-requires
unreachable-requires c =
    let p = program_of c.args.question.program.now in
    let t = (placed_of c.args.question.place.now).place in
    subst (Arm (meaning_of p) (has c.args.question.set.now) t c.args.cex) c.in-Ended.is
    (arm_here c.replays_are_induction_runs.ensures c.blocks_are_typed.ensures p c.args.question.set.now t c.args.cex c.args.question.prepared.now c.requires.prepared c.deref.result.now c.deref-2.result.now c.deref-3.result.now c.deref-4.result.now c.deref-5.result.now c.in_ok-ending.ending c.requires.typed c.requires.scalars c.deref.ensures.value c.deref-2.ensures.value c.deref-3.ensures.value c.deref-4.ensures.value c.deref-5.ensures.value c.requires.fails c.in_ok-ending.ensures)

pub unreachable-requires-in-Blocked : goal.unreachable-requires-in-Blocked
unreachable-requires-in-Blocked c =
    let p = program_of c.args.question.program.now in
    let t = (placed_of c.args.question.place.now).place in
    subst (Arm (meaning_of p) (has c.args.question.set.now) t c.args.cex) c.in-Blocked.is
    (arm_here c.replays_are_induction_runs.ensures c.blocks_are_typed.ensures p c.args.question.set.now t c.args.cex c.args.question.prepared.now c.requires.prepared c.deref.result.now c.deref-2.result.now c.deref-3.result.now c.deref-4.result.now c.deref-5.result.now c.in_ok-ending.ending c.requires.typed c.requires.scalars c.deref.ensures.value c.deref-2.ensures.value c.deref-3.ensures.value c.deref-4.ensures.value c.deref-5.ensures.value c.requires.fails c.in_ok-ending.ensures)

pub unreachable-requires-in-BadChoice : goal.unreachable-requires-in-BadChoice
unreachable-requires-in-BadChoice c =
    let p = program_of c.args.question.program.now in
    let t = (placed_of c.args.question.place.now).place in
    subst (Arm (meaning_of p) (has c.args.question.set.now) t c.args.cex) c.in-BadChoice.is
    (arm_here c.replays_are_induction_runs.ensures c.blocks_are_typed.ensures p c.args.question.set.now t c.args.cex c.args.question.prepared.now c.requires.prepared c.deref.result.now c.deref-2.result.now c.deref-3.result.now c.deref-4.result.now c.deref-5.result.now c.in_ok-ending.ending c.requires.typed c.requires.scalars c.deref.ensures.value c.deref-2.ensures.value c.deref-3.ensures.value c.deref-4.ensures.value c.deref-5.ensures.value c.requires.fails c.in_ok-ending.ensures)

pub unreachable-requires-in-NoValues : goal.unreachable-requires-in-NoValues
unreachable-requires-in-NoValues c =
    let p = program_of c.args.question.program.now in
    let t = (placed_of c.args.question.place.now).place in
    subst (Arm (meaning_of p) (has c.args.question.set.now) t c.args.cex) c.in-NoValues.is
    (arm_here c.replays_are_induction_runs.ensures c.blocks_are_typed.ensures p c.args.question.set.now t c.args.cex c.args.question.prepared.now c.requires.prepared c.deref.result.now c.deref-2.result.now c.deref-3.result.now c.deref-4.result.now c.deref-5.result.now c.in_ok-ending.ending c.requires.typed c.requires.scalars c.deref.ensures.value c.deref-2.ensures.value c.deref-3.ensures.value c.deref-4.ensures.value c.deref-5.ensures.value c.requires.fails c.in_ok-ending.ensures)

pub returns-in-OutOfRange-clause-found : goal.returns-in-OutOfRange-clause-found
returns-in-OutOfRange-clause-found c left lines leaf =
    let p = program_of c.args.question.program.now in
    let t = (placed_of c.args.question.place.now).place in
    let arm = subst (Arm (meaning_of p) (has c.args.question.set.now) t c.args.cex) c.in-OutOfRange.is
    (arm_here c.replays_are_induction_runs.ensures c.blocks_are_typed.ensures p c.args.question.set.now t c.args.cex c.args.question.prepared.now c.requires.prepared c.deref.result.now c.deref-2.result.now c.deref-3.result.now c.deref-4.result.now c.deref-5.result.now c.in_ok-ending.ending c.requires.typed c.requires.scalars c.deref.ensures.value c.deref-2.ensures.value c.deref-3.ensures.value c.deref-4.ensures.value c.deref-5.ensures.value c.requires.fails c.in_ok-ending.ensures) in
    (leaf, (c.requires.fails, arm))

pub used_up-requires-clause-fails : goal.used_up-requires-clause-fails
used_up-requires-clause-fails c =
    let p = program_of c.args.question.program.now in
    let t = (placed_of c.args.question.place.now).place in
    let arm = subst (Arm (meaning_of p) (has c.args.question.set.now) t c.args.cex) c.in-Failed.is
    (arm_here c.replays_are_induction_runs.ensures c.blocks_are_typed.ensures p c.args.question.set.now t c.args.cex c.args.question.prepared.now c.requires.prepared c.deref.result.now c.deref-2.result.now c.deref-3.result.now c.deref-4.result.now c.deref-5.result.now c.in_ok-ending.ending c.requires.typed c.requires.scalars c.deref.ensures.value c.deref-2.ensures.value c.deref-3.ensures.value c.deref-4.ensures.value c.deref-5.ensures.value c.requires.fails c.in_ok-ending.ensures) in
    (c.requires.fails, (arm, c.requires.types))

pub returns-in_ok-left-in-Failed-clause-found : goal.returns-in_ok-left-in-Failed-clause-found
returns-in_ok-left-in-Failed-clause-found c left lines leaf =
    (c.in_ok-left-in-Failed.ensures.fails.0, (c.in_ok-left-in-Failed.ensures.fails.1.0, (c.in_ok-left-in-Failed.ensures.used, c.in_ok-left-in-Failed.ensures.fails.1.1)))
