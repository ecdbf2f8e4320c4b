-- The checker's tasks are those of its program.
use Rattle.std.proofs.Common.{◌≡◌, ℕ, zero, suc, ◌<◌, Bool, true, List, [], ◌∷◌, length, map, Some, None, sym, ap, ◌∙◌, subst, arith}
use Rattle.std.specs.Prelude.{slice_get}
use Rattle.std.proofs.lemmas.List.{length-map}
use Rattle.bg_base.specs.declared.ids.CandId.{CandId}
use Rattle.bg_text.specs.Views.{option_of}
use Rattle.bg_ast.specs.Resolved as r
use Rattle.bg_ast.specs.Views as view
use Rattle.bg_ast.specs.Syntax.{Prog}
use Rattle.bg_ast.specs.Meaning.{meaning_of}
use Rattle.bg_ast.specs.Execution as run
use Rattle.bg_sense.specs.Clauses.{is_kept}
use Rattle.bg_sense.specs.Places.{places}
use Rattle.bg_sense.specs.Resolved.{IsResolved}
use Rattle.bg_sense.proofs.Members.{In, contained}
use Rattle.bg_places.specs.Placed.{place_in, placed}
use Rattle.bg_places.specs.Views.{placed_of, placed_in}
use Rattle.bg_places.specs.declared.place.Place.{Place}
use Rattle.bg_task.specs.Asked.{IsAsked}
use Rattle.bg_task.proofs.Numbered.{has}
use Rattle.bg_houdini.specs.Tasks.{tasks_of, number_or, candidate_of}
use Rattle.bg_houdini.proofs.Tasks.{get_below, task_place, task_candidate}

pub as_many : (ts : List Place) (us : List run.Place) → map place_in (placed_in ts) ≡ us → length ts ≡ length us
as_many ts us e = sym (length-map ts placed_of) ∙ (sym (length-map (placed_in ts) place_in) ∙ ap length e)

-- a task's number is that of a place kept
pub low_task : (ts : List Place) (us : List run.Place) (k : ℕ) → map place_in (placed_in ts) ≡ us → k < length us → k < length ts
low_task ts us k e l = let long = as_many ts us e in omega (arith, long, l)

mapped : (ts : List Place) (k : ℕ) (x : Place) → slice_get ts k ≡ Some x → slice_get (map place_in (placed_in ts)) k ≡ Some (place_in (placed_of x))
mapped [] k x e = absurd (let bad : ⊥ = cc in bad)
mapped (t ∷ ts) zero x e = ap (λ (y : Place). Some (place_in (placed_of y))) (let same : t ≡ x = cc in same)
mapped (t ∷ ts) (suc k) x e = mapped ts k x e

pub task_is : (ts : List Place) (us : List run.Place) (k : ℕ) (x : Place) (task : run.Place) → map place_in (placed_in ts) ≡ us → slice_get ts k ≡ Some x → slice_get us k ≡ Some task → place_in (placed_of x) ≡ task
task_is ts us k x task e at there =
    let same : Some (place_in (placed_of x)) ≡ Some task = sym (mapped ts k x at) ∙ (ap (λ l. slice_get l k) e ∙ there) in
    cc

-- a task is one of an implementation that is there
pub task_within : (p : r.Program) (ts : List Place) (k : ℕ) (x : Place) → map place_in (placed p) ≡ places (meaning_of p) → map place_in (placed_in ts) ≡ tasks_of (meaning_of p) → slice_get ts k ≡ Some x → x.implementation < length p.implementations
task_within p ts k x law e at =
    let there = ap (λ l. slice_get l k) (sym e) ∙ mapped ts k x at in
    let h = has p.procedures 0 p.implementations (place_in (placed_of x)) (subst (λ l. In l (place_in (placed_of x))) (sym law) (task_place (meaning_of p) k (place_in (placed_of x)) there)) in
    let low = get_below p.implementations h.index h.implementation h.there in
    let number = h.number in
    omega (arith, low, number)

-- a task whose candidate is in the set is one that may be asked about
pub task_asked : (p : Prog) (set : ℕ → Bool) (ts : List Place) (k : ℕ) (x : Place) → IsResolved p → map place_in (placed_in ts) ≡ tasks_of p → slice_get ts k ≡ Some x → set (candidate_of p k) ≡ true → IsAsked p set (place_in (placed_of x))
task_asked p set ts k x h e at inside =
    let t = place_in (placed_of x) in
    let there : slice_get (tasks_of p) k ≡ Some t = ap (λ l. slice_get l k) (sym e) ∙ mapped ts k x at in
    record {
      resolved = h;
      is_place = contained (places p) t (task_place p k t there);
      kept = ap (is_kept set) (task_candidate p k t there) ∙ inside;
    }

-- the candidate of a task that is kept
view_at_task : (p : Prog) (ts : List Place) (k : ℕ) (x : Place) → map place_in (placed_in ts) ≡ tasks_of p → slice_get ts k ≡ Some x → option_of view.candidate_of x.candidate ≡ Some (candidate_of p k)
view_at_task p ts k x e at =
    task_candidate p k (place_in (placed_of x)) (ap (λ l. slice_get l k) (sym e) ∙ mapped ts k x at)

pub task_has_one : (p : Prog) (ts : List Place) (k : ℕ) (x : Place) → map place_in (placed_in ts) ≡ tasks_of p → slice_get ts k ≡ Some x → x.candidate ≡ None → ⊥
task_has_one p ts k x e at none =
    let gone : None ≡ Some (candidate_of p k) = sym (ap (option_of view.candidate_of) none) ∙ view_at_task p ts k x e at in
    let bad : ⊥ = cc in bad

pub candidate_at_task : (p : Prog) (ts : List Place) (k : ℕ) (x : Place) (c : CandId) → map place_in (placed_in ts) ≡ tasks_of p → slice_get ts k ≡ Some x → x.candidate ≡ Some c → c.0 ≡ candidate_of p k
candidate_at_task p ts k x c e at is = ap number_or (sym (ap (option_of view.candidate_of) is) ∙ view_at_task p ts k x e at)
