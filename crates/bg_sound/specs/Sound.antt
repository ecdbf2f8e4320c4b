-- When what a report tells is true of a program.
use Rattle.std.specs.Prelude.{◌≡◌, ℕ, suc, Bool, true, false, List, [], ◌∷◌, length, map, filter, Some, slice_get, Contains}
use Rattle.bg_ast.specs.Syntax.{Prog}
use Rattle.bg_ast.specs.Resolved as r
use Rattle.bg_ast.specs.Meaning.{meaning_of}
use Rattle.bg_ast.specs.Execution.{Interp, State, Choice, Place}
use Rattle.bg_sense.specs.Claims.{Meets, IsSetOf, Inductive, Greatest, Safe, Fails, places}
use Rattle.bg_places.specs.Placed.{placed_impl}
use Rattle.bg_sound.specs.Used.{UsesAll}
use Rattle.bg_sound.specs.Chosen.{choices_are_of}
use Rattle.bg_sound.specs.Told.{Axioms, Consistent, Contradictory, Undecided, Unchecked, Verdict, Proved, Refuted, Unknown, Judged, Outcome, retained, placed_at, is_ordinary, AllProved, word_of}

-- the axioms: some interpretation meets the program, or none does
abbrev pub AreAxioms : Prog → Axioms → Type 0
AreAxioms p Consistent = (i : Interp) × Meets p i
AreAxioms p Contradictory = (i : Interp) → Meets p i → ⊥
AreAxioms p (Undecided why) = Unit {0}

-- the retained set: candidates of the program that are mutually inductive; and the greatest such set where it is called so
abbrev pub IsRetained : Prog → (ℕ → Bool) → Bool → Type 0
IsRetained p set true = Greatest p set
IsRetained p set false = IsSetOf p set × Inductive p set

-- no check names a candidate that is called unchecked
abbrev pub AreUnchecked : Prog → Outcome → Type 0
AreUnchecked p o =
    (b : ℕ) (t : Place) → slice_get o.fates b ≡ Some Unchecked → Contains (places p) t → t.candidate ≡ Some b → ⊥

-- a place: proved where no induction run fails there, refuted where the printed one does, with no choice left over, and its choices are
-- of the types by which they are printed
abbrev pub IsTrueAt : Prog → (ℕ → Bool) → Place → Verdict → Type 0
IsTrueAt p set t Proved = (i : Interp) (s : State) (choices : List Choice) → Fails p set t i s choices → ⊥
IsTrueAt p set t (Refuted i s ts choices) =
    Fails p set t i s choices × (UsesAll p set t i s choices × (choices_are_of ts choices ≡ true))
IsTrueAt p set t (Unknown why) = Unit {0}

abbrev pub AreTrueAt : Prog → (ℕ → Bool) → List Judged → Type 0
AreTrueAt p set [] = Unit {0}
AreTrueAt p set (j ∷ js) = IsTrueAt p set j.placed.place j.verdict × AreTrueAt p set js

-- an implementation: its ordinary places, each once and in order, what is said of each is true, and where all are proved no
-- execution fails, of any number of steps
pub record IsTrueOf (p : r.Program) (set : ℕ → Bool) (k : ℕ) (m : r.Impl) (js : List Judged) : Type 0 where
  pub places : map placed_at js ≡ filter is_ordinary (placed_impl p.procedures k m)
  pub right : AreTrueAt (meaning_of p) set js
  pub safe : word_of js ≡ AllProved → Safe (meaning_of p) set k

-- each of these implementations, numbered from k on
abbrev pub AreTrueFrom : r.Program → (ℕ → Bool) → ℕ → List r.Impl → List (List Judged) → Type 0
AreTrueFrom p set k [] [] = Unit {0}
AreTrueFrom p set k [] (js ∷ os) = ⊥
AreTrueFrom p set k (m ∷ ms) [] = ⊥
AreTrueFrom p set k (m ∷ ms) (js ∷ os) = IsTrueOf p set k m js × AreTrueFrom p set (suc k) ms os

-- all that is told is true
pub record IsSound (p : r.Program) (o : Outcome) : Type 0 where
  pub candidates : length o.fates ≡ (meaning_of p).candidates
  pub axioms : AreAxioms (meaning_of p) o.axioms
  pub retained_set : IsRetained (meaning_of p) (retained o) o.is_greatest
  pub unchecked : AreUnchecked (meaning_of p) o
  pub implementations : AreTrueFrom p (retained o) 0 p.implementations o.implementations
