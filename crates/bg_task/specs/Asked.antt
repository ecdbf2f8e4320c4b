-- What a place is of which it is asked whether its check can fail.
use Rattle.std.specs.Prelude.{◌≡◌, ℕ, Bool, true, List, [], ◌∷◌, Contains}
use Rattle.bg_ast.specs.Syntax.{Prog}
use Rattle.bg_ast.specs.Execution.{Place}
use Rattle.bg_sense.specs.Clauses.{is_kept}
use Rattle.bg_sense.specs.Places.{places}
use Rattle.bg_sense.specs.Resolved.{IsResolved}
use Rattle.bg_places.specs.Placed.{Placed}

-- a place of a program whose clauses have numbers of their own; its candidate, if it has one, is one of the set
pub record IsAsked (p : Prog) (set : ℕ → Bool) (t : Place) : Type 0 where
  pub resolved : IsResolved p
  pub is_place : Contains (places p) t
  pub kept : is_kept set t.candidate ≡ true

-- each is such a place
abbrev pub AreAsked : Prog → (ℕ → Bool) → List Placed → Type 0
AreAsked p set [] = Unit {0}
AreAsked p set (a ∷ xs) = IsAsked p set a.place × AreAsked p set xs
