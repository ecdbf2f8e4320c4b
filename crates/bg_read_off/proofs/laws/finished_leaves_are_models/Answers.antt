use Rattle.std.proofs.Common.{◌≡◌, ℕ, ◌+◌, ◌++◌, length, Some}
use Rattle.std.specs.Prelude.{slice_get}
use Rattle.bg_sense.specs.Eval.{value_at}
use Rattle.bg_terms.specs.Terms.{Term, term_value}
use Rattle.bg_terms.specs.Typed.{types_with}
use Rattle.bg_flat.proofs.Finished.{model_from}
use Rattle.bg_read_off.specs.Leaves.{silent}
use Rattle.bg_read_off.proofs.Behind.{stays}
use Rattle.bg_read_off.proofs.Standing.{each_scalar}
use Rattle.bg_read_off.proofs.laws.finished_leaves_are_models.Goals as goal

pub returns : goal.returns
returns c fs i incs ts us s w terms plain indexed typed built done read =
    let n = length incs in
    let right : (a : ℕ) (x : Term) → slice_get ts a ≡ Some x → value_at w (n + a) ≡ term_value i w x = λ a x e. c.finished_leaves_give_models.ensures.right fs incs (ts ++ us) s w i (silent fs) terms (each_scalar (types_with incs (ts ++ us)) s typed) done built read a x (stays ts us a x e) (plain a x e) (λ t h. indexed a x t e h) in
    model_from i w n ts right
