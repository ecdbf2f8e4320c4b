-- Trees by their shape, and which of their inner nodes count.
use Rattle.std.specs.Prelude.{ℕ, ◌+◌, Bool, true, false, cond, List, [], ◌∷◌, ◌++◌}
use Rattle.bg_formula.specs.Meaning.{same}
use Rattle.bg_cert.specs.declared.cert.Node.{Node}
use Rattle.bg_cert.specs.declared.cert.Node.TheVariants.{Split}
use Rattle.bg_tree.specs.declared.part.Kept.{Kept}
use Rattle.bg_tree.specs.declared.part.Part.{Part}
use Rattle.bg_tree.specs.declared.part.Part.TheVariants.{Open, Plain, Bound}

-- a tree that is not finished
pub data Shape : Type 0 where
  IsOpen : Shape
  IsClosed : Node → Shape
  Splits : ℕ → Shape → Shape → Shape
  Halves : Kept → Shape → Shape → Shape

-- what closes a leaf is no split
abbrev pub AreLeaves : Shape → Type 0
AreLeaves IsOpen = Unit {0}
AreLeaves (IsClosed (Split a)) = ⊥
AreLeaves (IsClosed n) = Unit {0}
AreLeaves (Splits a t u) = AreLeaves t × AreLeaves u
AreLeaves (Halves k t u) = AreLeaves t × AreLeaves u

abbrev pub parts_of : Shape → List Part
parts_of IsOpen = Open ∷ []
parts_of (IsClosed n) = Plain n ∷ []
parts_of (Splits a t u) = Plain (Split a) ∷ (parts_of t ++ parts_of u)
parts_of (Halves k t u) = Bound k ∷ (parts_of t ++ parts_of u)

abbrev pub is_closed : Shape → Bool
is_closed IsOpen = false
is_closed (IsClosed n) = true
is_closed (Splits a t u) = false
is_closed (Halves k t u) = false

-- a node counts unless exactly one of its children is a closed leaf
abbrev pub weight : Shape → Shape → ℕ
weight t u = cond (same (is_closed t) (is_closed u)) 1 0

abbrev pub count : Shape → ℕ
count IsOpen = 0
count (IsClosed n) = 0
count (Splits a t u) = weight t u + (count t + count u)
count (Halves k t u) = weight t u + (count t + count u)
