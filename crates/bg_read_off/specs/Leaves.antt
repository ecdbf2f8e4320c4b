-- Leaves: the values behind their scalars.
use Rattle.std.specs.Prelude.{◌≡◌, ℕ, pos, true, List, Some, slice_get}
use Rattle.bg_ast.specs.Values.{Val, Num, Ty, truth_of}
use Rattle.bg_ast.specs.Syntax.{Fun}
use Rattle.bg_sense.specs.Eval.{value_at, ev, default_result}
use Rattle.bg_terms.specs.Terms.{Head, Applies, Term, over}
use Rattle.bg_terms.specs.Built.{built}
use Rattle.bg_terms.specs.Instances.{Congruent, instance_ex}

-- behind these scalars of incarnations and terms of these types stand these values
abbrev pub AreBuilt : ℕ → List Term → List Ty → (s w : List Val) → Type 0
AreBuilt n ts tys s w =
    (j : ℕ) (t : Ty) → slice_get tys j ≡ Some t → value_at w j ≡ built s n ts t (value_at s j)

-- no congruence of the terms is false
abbrev pub AreCongruent : List Val → ℕ → List Term → Type 0
AreCongruent s n ts = (a b : ℕ) → truth_of (ev (instance_ex n ts (Congruent a b)) (over s)) ≡ true

-- what a function gives where no term says
abbrev pub silent : List Fun → Head → Val
silent fs (Applies f) = default_result (slice_get fs f)
silent fs _ = Num (pos 0)
