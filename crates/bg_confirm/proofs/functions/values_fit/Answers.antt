use Rattle.std.proofs.Common.{◌+◌, ◌<◌, Bool, length, map, drop, sym, ap, ◌∙◌, arith}
use Rattle.std.specs.Prelude.{◌&&◌}
use Rattle.bg_ast.specs.Views.{type_name_of}
use Rattle.bg_kinds.specs.Views.{ref_in}
use Rattle.bg_certtext.specs.declared.text.Value.{Value}
use Rattle.bg_certtext.specs.Views.{value_of}
use Rattle.bg_confirm.specs.Pairs.{each_fits}
use Rattle.bg_confirm.specs.Typed.{values_fit}
use Rattle.bg_confirm.proofs.Each.{kind_fits, each_is, unlike, one_fits, fits_at}
use Rattle.bg_confirm.proofs.functions.values_fit.Goals as goal

pub returns-then-kinds-values : goal.returns-then-kinds-values
returns-then-kinds-values c =
    let types = map type_name_of c.args.types.now in
    sym (unlike types c.args.kinds.now c.args.values.now (λ e. omega (arith, e, c.if-kinds-values.true))) ∙ each_is types c.args.kinds.now c.args.values.now

pub loop-k-init : goal.loop-k-init
loop-k-init c = each_is (map type_name_of c.args.types.now) c.args.kinds.now c.args.values.now

pub returns-then-not-fits : goal.returns-then-not-fits
returns-then-not-fits c =
    let types = map type_name_of c.args.types.now in
    let ts = c.args.kinds.now in
    let xs = c.args.values.now in
    let k = c.loop-k.k in
    let whole = values_fit types (map ref_in ts) (map value_of xs) in
    let inside : k < length ts = omega (arith, c.loop-k-test.true, c.if-kinds-values.false) in
    ap (λ (b : Bool). b && each_fits (kind_fits types) (drop (k + 1) ts) (drop (k + 1) xs)) (sym c.if-not-fits.true)
    ∙ one_fits types ts xs k c.index-kinds-k.result c.index-values-k.result c.fits.result whole inside c.loop-k-test.true c.index-kinds-k.is (fits_at types _ _ c.index-values-k.result c.fits.result c.fits.ensures c.as_ref.ensures ∙ ap (λ (y : Value). kind_fits types c.index-kinds-k.result y) c.index-values-k.is) c.loop-k.invariant

pub loop-k-preserved : goal.loop-k-preserved
loop-k-preserved c =
    let types = map type_name_of c.args.types.now in
    let ts = c.args.kinds.now in
    let xs = c.args.values.now in
    let k = c.loop-k.k in
    let whole = values_fit types (map ref_in ts) (map value_of xs) in
    let inside : k < length ts = omega (arith, c.loop-k-test.true, c.if-kinds-values.false) in
    ap (λ (b : Bool). b && each_fits (kind_fits types) (drop (k + 1) ts) (drop (k + 1) xs)) (sym c.if-not-fits.false)
    ∙ one_fits types ts xs k c.index-kinds-k.result c.index-values-k.result c.fits.result whole inside c.loop-k-test.true c.index-kinds-k.is (fits_at types _ _ c.index-values-k.result c.fits.result c.fits.ensures c.as_ref.ensures ∙ ap (λ (y : Value). kind_fits types c.index-kinds-k.result y) c.index-values-k.is) c.loop-k.invariant
