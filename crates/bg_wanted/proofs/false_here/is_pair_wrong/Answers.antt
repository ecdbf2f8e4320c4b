use Rattle.std.proofs.Common.{◌≡◌, sym, ap, ◌∙◌}
use Rattle.bg_terms.proofs.True.{not_true}
use Rattle.bg_wanted.specs.Rows.{row_of}
use Rattle.bg_wanted.specs.Firsts.{key_of}
use Rattle.bg_wanted.proofs.Same.{are_known}
use Rattle.bg_wanted.proofs.false_here.is_pair_wrong.Goals as goal

pub returns : goal.returns
returns c =
    let x = c.args.x.now in
    let y = c.args.y.now in
    λ e.
    let classes : x.class ≡ y.class = c.is_one_class.ensures c.if-not-is_one_class.false in
    let args : x.args.items ≡ y.args.items = sym c.deref.ensures.value ∙ (are_known _ _ c.are_same.result c.are_same.ensures c.if-not-are_same.false ∙ c.deref-2.ensures.value) in
    let key : key_of (row_of x) ≡ key_of (row_of y) = ap (λ k. (k, x.args.items)) classes ∙ ap (λ l. (y.class, l)) args in
    (key, sym c.is_same.ensures ∙ not_true c.is_same.result e)
