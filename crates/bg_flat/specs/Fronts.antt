-- What stands in front of flat blocks: instances.
use Rattle.std.specs.Prelude.{◌≡◌, ℕ, List, [], ◌∷◌, map, Some, slice_get}
use Rattle.bg_ast.specs.Values.{Ty, BoolTy}
use Rattle.bg_ast.specs.Syntax.{Ex}
use Rattle.bg_sense.specs.Typed.{IsLinear, AreLinear}
use Rattle.bg_terms.specs.Terms.{Selects, Term}
use Rattle.bg_terms.specs.Alike.{HasFlatType}
use Rattle.bg_terms.specs.Instances.{Instance, instance_ex}

-- what instances say, where the terms stand behind n incarnations
abbrev pub stated : ℕ → List Term → List Instance → List Ex
stated n ts instances = map (instance_ex n ts) instances

-- each map that is selected from has an index
abbrev pub AreIndexed : List Term → Type 0
AreIndexed ts = (a : ℕ) (u : Term) (t : Ty) → slice_get ts a ≡ Some u → u.head ≡ Selects [] t → ⊥

-- the arguments of each term are linear
abbrev pub HaveLinearArgs : List Term → Type 0
HaveLinearArgs ts = (a : ℕ) (t : Term) → slice_get ts a ≡ Some t → AreLinear t.args

-- each is a truth where incarnations and terms have these types
abbrev pub AreTruths : List Ty → List Ex → Type 0
AreTruths tys [] = Unit {0}
AreTruths tys (x ∷ xs) = HasFlatType tys x BoolTy × AreTruths tys xs

-- each product in each has a constant side
abbrev pub EachLinear : List Ex → Type 0
EachLinear [] = Unit {0}
EachLinear (x ∷ xs) = IsLinear x × EachLinear xs
