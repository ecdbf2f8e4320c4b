use Rattle.std.proofs.Common.{ℕ, List, [], ◌∷◌, length}
use Rattle.bg_ast.specs.Values.{Ty, BoolTy}
use Rattle.bg_sense.specs.Typed.{IsLinear}
use Rattle.bg_terms.specs.Terms.{Term}
use Rattle.bg_terms.specs.Alike.{HasFlatType}
use Rattle.bg_terms.specs.Instances.{Instance, instance_ex}
use Rattle.bg_flat.specs.Fronts.{stated, AreTruths, EachLinear}
use Rattle.bg_flat.proofs.laws.instances_are_linear_truths.Goals as goal

truths : (tys : List Ty) (n : ℕ) (ts : List Term) → ((e : Instance) → HasFlatType tys (instance_ex n ts e) BoolTy) → (es : List Instance) → AreTruths tys (stated n ts es)
truths tys n ts f [] = tt
truths tys n ts f (e ∷ es) = (f e, truths tys n ts f es)

linear : (n : ℕ) (ts : List Term) → ((e : Instance) → IsLinear (instance_ex n ts e)) → (es : List Instance) → EachLinear (stated n ts es)
linear n ts f [] = tt
linear n ts f (e ∷ es) = (f e, linear n ts f es)

pub returns-clause-truths : goal.returns-clause-truths
returns-clause-truths c functions incs ts es terms =
    truths _ (length incs) ts (λ e. c.instances_are_typed.ensures functions incs ts e terms) es

pub returns-clause-linear : goal.returns-clause-linear
returns-clause-linear c n ts es args = linear n ts (λ e. c.instances_are_linear.ensures n ts e args) es
