use Rattle.std.proofs.Common.{◌+◌, ◌-◌, ◌^◌, min, length, get_or, ap, sym, ◌∙◌, arith}
use Rattle.bg_sense.specs.Types.{ty_eq}
use Rattle.bg_kinds.specs.Views.{ref_in, ref_of}
use Rattle.bg_opening.specs.declared.uniques.Unique.{Unique}
use Rattle.bg_expanded.proofs.Tallies.{one_more}
use Rattle.bg_expanded.proofs.pairs.count_from.Goals as goal

pub returns-then-is_same_type : goal.returns-then-is_same_type
returns-then-is_same_type c =
    let told = c.args.told.now in
    let i = c.args.at in
    let x = c.index-told-at.result in
    let is = c.is_same_type.ensures ∙ (ap (ty_eq (ref_of c.args.t)) c.as_ref.ensures ∙ ap (λ (u : Unique). ty_eq (ref_of c.args.t) (ref_in u.kind)) (sym c.index-told-at.is)) in
    let same = sym is ∙ c.if-is_same_type.true in
    let n = get_or c.args.counts.now ((length told - 1) - i) 0 in
    one_more told (ref_of c.args.t) i x n c.saturating_add.result c.requires.at c.index-told-at.is same (c.requires.counts i x (omega arith) c.requires.at c.index-told-at.is) (c.saturating_add.ensures ∙ ap (λ k. min (k + 1) (2 ^ 64 - 1)) c.read_at.ensures)
