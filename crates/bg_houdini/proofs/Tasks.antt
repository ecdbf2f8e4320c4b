-- The tasks are the places that have a candidate.
use Rattle.std.proofs.Common.{◌≡◌, ℕ, zero, suc, ◌<◌, Bool, true, false, cond, List, [], ◌∷◌, length, Option, Some, None, is_some, refl, sym, ap, ◌∙◌, subst, inl, inr, arith}
use Rattle.std.specs.Prelude.{slice_get, filter, Contains}
use Rattle.bg_ast.specs.Syntax.{Prog}
use Rattle.bg_ast.specs.Execution.{Place}
use Rattle.bg_sense.specs.Places.{places}
use Rattle.bg_sense.proofs.Members.{In, in_at, member}
use Rattle.bg_houdini.specs.Tasks.{has_candidate, tasks_of, number_or, candidate_at, candidate_of}

module _ {A : Type 0} (f : A → Bool) where
  pub in_filter : (xs : List A) (u : A) → In (filter f xs) u → In xs u × (f u ≡ true)
  in_filter [] u i = absurd i
  in_filter (x ∷ xs) u i = on (f x) refl i (in_filter xs u)
    where
      behind : In xs u × (f u ≡ true) → In (x ∷ xs) u × (f u ≡ true)
      behind h = (inr h.0, h.1)

      on : (b : Bool) → f x ≡ b → In (cond b (x ∷ filter f xs) (filter f xs)) u → (In (filter f xs) u → In xs u × (f u ≡ true)) → In (x ∷ xs) u × (f u ≡ true)
      on true e (inl s) rest = (inl s, ap f (sym s) ∙ e)
      on true e (inr j) rest = behind (rest j)
      on false e j rest = behind (rest j)

  pub filter_in : (xs : List A) (u : A) → In xs u → f u ≡ true → In (filter f xs) u
  filter_in [] u i e = absurd i
  filter_in (x ∷ xs) u (inl s) e =
      subst (λ (b : Bool). In (cond b (x ∷ filter f xs) (filter f xs)) u) (sym (ap f s ∙ e)) (inl s)
  filter_in (x ∷ xs) u (inr i) e = behind (f x) (filter_in xs u i e)
    where
      behind : (b : Bool) → In (filter f xs) u → In (cond b (x ∷ filter f xs) (filter f xs)) u
      behind true j = inr j
      behind false j = j

-- where a member stands
pub at_in : {A : Type 0} (xs : List A) (u : A) → In xs u → (k : ℕ) × (slice_get xs k ≡ Some u)
at_in [] u i = absurd i
at_in (x ∷ xs) u (inl e) = (0, ap Some e)
at_in (x ∷ xs) u (inr i) = let h = at_in xs u i in (suc h.0, h.1)

pub get_below : {A : Type 0} (xs : List A) (k : ℕ) (u : A) → slice_get xs k ≡ Some u → k < length xs
get_below [] k u e = absurd (let bad : ⊥ = cc in bad)
get_below (x ∷ xs) zero u e = omega arith
get_below (x ∷ xs) (suc k) u e = let l = get_below xs k u e in omega (arith, l)

pub get_there : {A : Type 0} (xs : List A) (k : ℕ) → k < length xs → (u : A) × (slice_get xs k ≡ Some u)
get_there [] k l = absurd (omega arith)
get_there (x ∷ xs) zero l = (x, refl)
get_there (x ∷ xs) (suc k) l = get_there xs k (omega arith)

-- a place with a candidate is the task of some number
pub as_task : (p : Prog) (t : Place) (b : ℕ) → Contains (places p) t → t.candidate ≡ Some b → (k : ℕ) × (slice_get (tasks_of p) k ≡ Some t)
as_task p t b c e =
    at_in (tasks_of p) t (filter_in has_candidate (places p) t (member (places p) t c) (ap is_some e))

-- a task is a place, and has a candidate
pub task_place : (p : Prog) (k : ℕ) (t : Place) → slice_get (tasks_of p) k ≡ Some t → In (places p) t
task_place p k t e = (in_filter has_candidate (places p) t (in_at (tasks_of p) k t e)).0

some_number : (o : Option ℕ) → is_some o ≡ true → o ≡ Some (number_or o)
some_number None e = absurd (let bad : false ≡ true = e in cc)
some_number (Some b) e = refl

pub task_candidate : (p : Prog) (k : ℕ) (t : Place) → slice_get (tasks_of p) k ≡ Some t → t.candidate ≡ Some (candidate_of p k)
task_candidate p k t e =
    some_number t.candidate (in_filter has_candidate (places p) t (in_at (tasks_of p) k t e)).1
    ∙ ap Some (sym (ap candidate_at e))

pub candidate_is : (p : Prog) (k : ℕ) (t : Place) (b : ℕ) → slice_get (tasks_of p) k ≡ Some t → t.candidate ≡ Some b → candidate_of p k ≡ b
candidate_is p k t b e h = ap candidate_at e ∙ ap number_or h
