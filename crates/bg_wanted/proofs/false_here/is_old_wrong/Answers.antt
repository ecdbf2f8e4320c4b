use Rattle.std.proofs.Common.{sym, ◌∙◌}
use Rattle.std.proofs.lemmas.Bool.{eqb-true}
use Rattle.bg_scalar.specs.Values.{val_of}
use Rattle.bg_sense.proofs.MapLaws.{val_same}
use Rattle.bg_terms.proofs.True.{not_true}
use Rattle.bg_wanted.proofs.Settlement.{val_known}
use Rattle.bg_wanted.proofs.Same.{are_known, are_other}
use Rattle.bg_wanted.proofs.false_here.is_old_wrong.Goals as goal

pub returns : goal.returns
returns c =
    λ e.
    let u = c.args.update in
    let x = c.args.x in
    let y = c.args.y in
    record {
      maps = eqb-true x.maps u.maps (sym c.is_one.ensures ∙ c.if-not-is_one.false);
      other_maps = eqb-true y.maps u.maps (sym c.is_one-2.ensures ∙ c.if-not-is_one-2.false);
      map = val_known x.map u.value (val_same (val_of x.map) (val_of u.value) (sym c.is_same.ensures ∙ c.if-not-is_same.false));
      before = val_known y.map u.before (val_same (val_of y.map) (val_of u.before) (sym c.is_same-2.ensures ∙ c.if-not-is_same-2.false));
      off = are_other x.index.now u.index.now c.are_same.result c.are_same.ensures c.if-are_same.false;
      index = are_known x.index.now y.index.now c.are_same-2.result c.are_same-2.ensures c.if-not-are_same.false;
      differ = sym c.is_same-3.ensures ∙ not_true c.is_same-3.result e;
    }
