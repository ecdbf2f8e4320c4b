use Rattle.std.proofs.Common.{Some, ap, sym, ◌∙◌}
use Rattle.bg_kinds.specs.Views.{ref_in}
use Rattle.bg_kinds.specs.KindViews.{kind_in_of}
use Rattle.bg_kinds.proofs.Sameness.{types_same}
use Rattle.bg_kinds.proofs.synonyms.is_same_kind.Goals as goal

pub returns-in-Some-Some : goal.returns-in-Some-Some
returns-in-Some-Some c =
    λ h.
    ap kind_in_of c.in-Some-Some.is-0
    ∙ (ap Some (types_same (ref_in c.in-Some-Some.t) (ref_in c.in-Some-Some.u) (sym c.is_same.ensures ∙ h)) ∙ sym (ap kind_in_of c.in-Some-Some.is-1))
