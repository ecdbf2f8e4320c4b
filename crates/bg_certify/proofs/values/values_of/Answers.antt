use Rattle.std.proofs.Common.{List, map, refl, ap, ◌∙◌, arith}
use Rattle.std.proofs.lemmas.List.{map_push}
use Rattle.bg_ast.specs.Values.{Ty, IntTy}
use Rattle.bg_ast.specs.Views.{type_name_of}
use Rattle.bg_kinds.specs.Views.{ref_in}
use Rattle.bg_scalar.specs.declared.value.Value.{Value}
use Rattle.bg_scalar.specs.Values as scalar
use Rattle.bg_scalar.specs.Views.{vals_in}
use Rattle.bg_replay.specs.Holds.{type_at}
use Rattle.bg_certtext.specs.Views as text
use Rattle.bg_certify.specs.Given.{type_names, value_of, values_of}
use Rattle.bg_certify.proofs.Along.{one_more, all_done}
use Rattle.bg_certify.proofs.values.values_of.Goals as goal

pub loop-k-preserved : goal.loop-k-preserved
loop-k-preserved c =
    let types = type_names (map type_name_of c.args.types.now) in
    let ts = map ref_in c.args.kinds.now in
    let xs = c.args.values.now in
    one_more IntTy (λ (t : Ty) (x : Value). value_of types t (scalar.value_of x)) (λ (us : List Ty) (ys : List Value). values_of types us (vals_in ys)) (λ us y ys. refl) ts xs c.loop-k.k c.index-values-k.result (text.value_of c.in_ok-value.value) (map text.value_of c.loop-k.made.items) (map text.value_of c.push.new.self.items) (values_of types ts (vals_in xs)) c.loop-k-test.true
    (ap (map text.value_of) c.in_ok-push.ensures.items ∙ map_push text.value_of c.loop-k.made.items c.in_ok-value.value)
    (c.in_ok-value.ensures ∙ (ap (λ (t : Ty). value_of types t (scalar.value_of c.index-values-k.result)) c.type_at.ensures ∙ ap (λ (x : Value). value_of types (type_at ts c.loop-k.k) (scalar.value_of x)) c.index-values-k.is))
    c.loop-k.invariant

pub returns : goal.returns
returns c =
    let types = type_names (map type_name_of c.args.types.now) in
    let ts = map ref_in c.args.kinds.now in
    let xs = c.args.values.now in
    all_done IntTy (λ (t : Ty) (x : Value). value_of types t (scalar.value_of x)) (λ (us : List Ty) (ys : List Value). values_of types us (vals_in ys)) (λ us. refl) ts xs c.loop-k.k (map text.value_of c.loop-k.made.items) (values_of types ts (vals_in xs)) (omega (arith, c.loop-k-test.false)) c.loop-k.invariant
