use Rattle.std.proofs.Common.{sym, ◌∙◌}
use Rattle.bg_houdini.proofs.Truths.{both_ways}
use Rattle.bg_houdini.proofs.desk.is_same.Goals as goal

pub returns : goal.returns
returns c =
    let long = sym c.declared.ensures ∙ (c.if-declared.false ∙ c.declared-2.ensures) in
    let one = c.is_subset.ensures.0 c.if-not-is_subset.false in
    λ h. both_ways c.args.a.now c.args.b.now long one (c.is_subset-2.ensures.0 h)
