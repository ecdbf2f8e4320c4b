use Rattle.std.proofs.Common.{◌≡◌, ℕ, ◌<◌, length, Some, refl, sym, subst}
use Rattle.std.specs.Prelude.{slice_get}
use Rattle.std.proofs.lemmas.Option.{slice_get_read}
use Rattle.bg_houdini.specs.Tasks.{tasks_of}
use Rattle.bg_houdini.specs.Checkers.{meaning_in}
use Rattle.bg_houdini.proofs.Listed.{low_task, task_has_one, candidate_at_task}
use Rattle.bg_houdini.proofs.judging.JudgingCheckerOptionProofReasonDesk.cand_of.Goals as goal

pub unreachable-requires : goal.unreachable-requires
unreachable-requires c =
    let j = c.args.self.now in
    let ts = j.tasks.items in
    let low = low_task ts (tasks_of (meaning_in j)) c.args.t.0 c.requires.stands.tasks_are c.requires.target in
    let at : slice_get ts c.args.t.0 ≡ Some c.index.result.now = slice_get_read ts (length ts) c.args.t.0 c.index.result.now refl low c.index.ensures in
    task_has_one (meaning_in j) ts c.args.t.0 c.index.result.now c.requires.stands.tasks_are at c.in-None.is

pub returns-clause-is : goal.returns-clause-is
returns-clause-is c =
    let j = c.args.self.now in
    let ts = j.tasks.items in
    let low = low_task ts (tasks_of (meaning_in j)) c.args.t.0 c.requires.stands.tasks_are c.requires.target in
    let at : slice_get ts c.args.t.0 ≡ Some c.index.result.now = slice_get_read ts (length ts) c.args.t.0 c.index.result.now refl low c.index.ensures in
    candidate_at_task (meaning_in j) ts c.args.t.0 c.index.result.now c.in-Some.c c.requires.stands.tasks_are at c.in-Some.is

pub returns-clause-below : goal.returns-clause-below
returns-clause-below c =
    let j = c.args.self.now in
    let p = meaning_in j in
    let ts = j.tasks.items in
    let low = low_task ts (tasks_of p) c.args.t.0 c.requires.stands.tasks_are c.requires.target in
    let at : slice_get ts c.args.t.0 ≡ Some c.index.result.now = slice_get_read ts (length ts) c.args.t.0 c.index.result.now refl low c.index.ensures in
    subst (λ (b : ℕ). b < p.candidates) (sym (candidate_at_task p ts c.args.t.0 c.index.result.now c.in-Some.c c.requires.stands.tasks_are at c.in-Some.is)) (c.requires.stands.owed.below c.args.t.0 c.requires.target)
