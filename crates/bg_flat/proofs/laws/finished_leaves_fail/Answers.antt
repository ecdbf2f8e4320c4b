use Rattle.std.proofs.Common.{◌≡◌, ℕ, ◌+◌, true, ◌++◌, map, length, Some}
use Rattle.std.specs.Prelude.{slice_get}
use Rattle.bg_ast.specs.Values.{Ty, is_of}
use Rattle.bg_sense.specs.Eval.{value_at}
use Rattle.bg_terms.specs.Terms.{Term, term_value}
use Rattle.bg_terms.specs.Alike.{StandFor, scalar_ty}
use Rattle.bg_terms.specs.Typed.{types_with}
use Rattle.bg_terms.proofs.Typed.{at_map, at_front}
use Rattle.bg_flat.proofs.Fronts.{each_of}
use Rattle.bg_flat.proofs.Finished.{model_from}
use Rattle.bg_flat.proofs.laws.finished_leaves_fail.Goals as goal

pub returns : goal.returns
returns c p i defaults incs ts us s w values set target front blocks flat none terms typed done built read plain first made denied =
    let all = ts ++ us in
    let tys = types_with incs all in
    let n = length incs in
    let each : (j : ℕ) (t : Ty) → slice_get tys j ≡ Some t → is_of (scalar_ty t) (value_at s j) ≡ true = λ j t e. each_of (map scalar_ty tys) s j (scalar_ty t) typed (at_map scalar_ty tys j t e) in
    let stand : StandFor tys w s = c.finished_leaves_give_models.ensures.stand p.functions incs all s w terms each done built in
    let right : (a : ℕ) (x : Term) → slice_get ts a ≡ Some x → value_at w (n + a) ≡ term_value i w x = λ a x e. c.finished_leaves_give_models.ensures.right p.functions incs all s w i defaults terms each done built read a x (at_front ts us a x e) (plain a x e).0 (plain a x e).1 in
    c.denied_flat_blocks_fail.ensures p i tys n ts w s values set target front blocks flat none (model_from i w n ts right) stand first made denied
