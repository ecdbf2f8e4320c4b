use Rattle.std.proofs.Common.{◌<◌, Bool, true, List, length, Some, refl, sym, ◌∙◌, subst, arith}
use Rattle.std.specs.Prelude.{◌≡◌, slice_get}
use Rattle.std.proofs.lemmas.Option.{slice_get_read}
use Rattle.bg_ast.specs.Execution as run
use Rattle.bg_words.specs.Sets.{has}
use Rattle.bg_check.specs.Verdicts.{IsRight}
use Rattle.bg_places.specs.Placed.{place_in}
use Rattle.bg_places.specs.Views.{placed_of}
use Rattle.bg_houdini.specs.Tasks.{tasks_of, candidate_of}
use Rattle.bg_houdini.specs.Checkers.{program_in, meaning_in}
use Rattle.bg_houdini.proofs.Once.{if_ok}
use Rattle.bg_houdini.proofs.Listed.{low_task, task_is, task_within, task_asked}
use Rattle.bg_houdini.proofs.judging.verdict_on.Goals as goal

pub index-prepared-requires : goal.index-prepared-requires
index-prepared-requires c =
    let j = c.args.judging.now in
    let p = program_in j in
    let ts = j.tasks.items in
    let x = c.index-place.result.now in
    let low = low_task ts (tasks_of (meaning_in j)) c.args.t.0 c.requires.stands.tasks_are c.requires.target in
    let at : slice_get ts c.args.t.0 ≡ Some x = slice_get_read ts (length ts) c.args.t.0 x refl low c.index-place.ensures in
    let there = task_within p ts c.args.t.0 x (c.placed_are_places.ensures p) c.requires.stands.tasks_are at in
    let count = c.requires.stands.prepared.count_is in
    let ok = j.prepared.ok.0 in
    omega (arith, there, count, ok)

pub check_place-requires-clause-prepared : goal.check_place-requires-clause-prepared
check_place-requires-clause-prepared c =
    let j = c.args.judging.now in
    let p = program_in j in
    let ts = j.tasks.items in
    let ws = j.prepared.items in
    let x = c.index-place.result.now in
    let low = low_task ts (tasks_of (meaning_in j)) c.args.t.0 c.requires.stands.tasks_are c.requires.target in
    let at : slice_get ts c.args.t.0 ≡ Some x = slice_get_read ts (length ts) c.args.t.0 x refl low c.index-place.ensures in
    let there = task_within p ts c.args.t.0 x (c.placed_are_places.ensures p) c.requires.stands.tasks_are at in
    let inside : x.implementation < length ws = let count = c.requires.stands.prepared.count_is in omega (arith, there, count) in
    c.requires.stands.prepared.each x.implementation c.index-prepared.result.now (slice_get_read ws (length ws) x.implementation c.index-prepared.result.now refl inside c.index-prepared.ensures)

pub check_place-requires-clause-asked : goal.check_place-requires-clause-asked
check_place-requires-clause-asked c =
    let j = c.args.judging.now in
    let ts = j.tasks.items in
    let low = low_task ts (tasks_of (meaning_in j)) c.args.t.0 c.requires.stands.tasks_are c.requires.target in
    let at : slice_get ts c.args.t.0 ≡ Some c.index-place.result.now = slice_get_read ts (length ts) c.args.t.0 c.index-place.result.now refl low c.index-place.ensures in
    let same : c.deref.result.now ≡ c.args.set.now = c.deref.ensures.value ∙ c.in_ok-lay.ensures in
    task_asked (meaning_in j) (has c.deref.result.now) ts c.args.t.0 c.index-place.result.now c.requires.stands.resolved c.requires.stands.tasks_are at
    (subst (λ (s : List Bool). has s (candidate_of (meaning_in j) c.args.t.0) ≡ true) (sym same) c.requires.inside)

pub returns-clause-whole : goal.returns-clause-whole
returns-clause-whole c =
    if_ok c.check_place.result (λ verdict whole. whole refl) c.check_place.ensures.whole

pub returns-clause-right : goal.returns-clause-right
returns-clause-right c =
    let j = c.args.judging.now in
    let ts = j.tasks.items in
    let low = low_task ts (tasks_of (meaning_in j)) c.args.t.0 c.requires.stands.tasks_are c.requires.target in
    let at : slice_get ts c.args.t.0 ≡ Some c.index-place.result.now = slice_get_read ts (length ts) c.args.t.0 c.index-place.result.now refl low c.index-place.ensures in
    if_ok c.check_place.result
    (λ verdict right task there.
    subst (λ (u : run.Place). IsRight j.effort.budget (meaning_in j) (has c.args.set.now) u verdict) (task_is ts (tasks_of (meaning_in j)) c.args.t.0 c.index-place.result.now task c.requires.stands.tasks_are at there)
    (subst (λ (s : List Bool). IsRight j.effort.budget (meaning_in j) (has s) (place_in (placed_of c.index-place.result.now)) verdict) (c.deref.ensures.value ∙ c.in_ok-lay.ensures) right))
    c.check_place.ensures.right
