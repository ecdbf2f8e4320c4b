use Rattle.std.proofs.Common.{◌≡◌, ℕ, ◌<◌, Bool, true, false, List, Some, length, sym, ap, ◌∙◌, subst}
use Rattle.std.specs.Prelude.{not, ◌||◌, slice_get}
use Rattle.bg_ast.specs.Values.{Val, Ty, is_of}
use Rattle.bg_ast.specs.Syntax.{Fun}
use Rattle.bg_sense.specs.Eval.{value_at, look_up}
use Rattle.bg_passive.specs.Incarnations.{passive_scope}
use Rattle.bg_passive.specs.Equations.{is_well, equations}
use Rattle.bg_terms.specs.Terms.{IsModel, extended, are_in_order}
use Rattle.bg_terms.specs.Typed.{types_with}
use Rattle.bg_flat.specs.Fronts.{stated}
use Rattle.bg_flat.proofs.Fronts.{front_true, of_each, each_of, same_lengths, whole_length, table_typed}
use Rattle.bg_flat.proofs.laws.denied_blocks_have_scalars.Goals as goal

neither : (a b : Bool) → a ≡ true → b ≡ false → (not a || b) ≡ false
neither true b e f = f
neither false b e f = absurd (let bad : ⊥ = cc in bad)

pub returns : goal.returns
returns c p i incs ts values set target instances blocks flat none interp typed terms order indexed made denied =
    let n = length incs in
    let tys = types_with incs ts in
    let l = same_lengths incs values typed in
    let w = extended i ts values in
    let model : IsModel i w n ts = subst (λ k. IsModel i w k ts) l (c.terms_have_values.ensures.model i ts values (ap (λ k. are_in_order k ts) l ∙ order)) in
    let begins : (j : ℕ) → j < n → value_at w j ≡ value_at values j = λ j lt. c.terms_have_values.ensures.begins i ts values j (subst (λ k. j < k) (sym l) lt) in
    let first : (j : ℕ) (t : Ty) → j < n → slice_get incs j ≡ Some t → is_of t (value_at w j) ≡ true = λ j t lt e. ap (is_of t) (begins j lt) ∙ each_of incs values j t typed e in
    let tables : (f : ℕ) (fn : Fun) (args : List Val) → slice_get p.functions f ≡ Some fn → is_of fn.result (look_up (slice_get i.tables f) args) ≡ true = λ f fn args e. table_typed p.functions i.tables f fn args interp.tables e in
    let each = c.models_are_typed.ensures.values p.functions i incs ts w tables terms order model first in
    let fit = c.models_are_typed.ensures.arguments p.functions i incs ts w tables terms order model first in
    let r = c.values_have_scalars.ensures tys w (of_each tys w (whole_length i incs ts values l) each) in
    let s = r.0 in
    let stand = r.1.1 in
    let front = stated n ts instances in
    let front_is = front_true c.scalars_say_the_same.ensures c.instances_are_true.ensures.maps i n ts tys w s model stand fit indexed instances (c.instances_are_linear_truths.ensures.truths p.functions incs ts instances terms) in (
      s,
      (
        r.1.0,
        c.flat_blocks_are_well_alike.ensures p i tys n ts w s values set target front blocks flat none model begins stand made
            ∙ neither _ (is_well (slice_get (equations set target (passive_scope p i values) blocks) 0)) front_is denied,
      ),
    )
