use Rattle.std.proofs.Common.{sym, ap, ◌∙◌}
use Rattle.std.proofs.lemmas.Int.{to_z-of_z}
use Rattle.bg_ast.specs.Values.{Ty}
use Rattle.bg_confirm.specs.Met.{element_in}
use Rattle.bg_confirm.proofs.values.element_in.Goals as goal

pub returns-in-None : goal.returns-in-None
returns-in-None c =
    simp (to_z-of_z, c.ranges.z) (ap (λ (u : Ty). element_in u c.args.z) (sym c.in-None.ensures.is.1.1))

pub returns-in-Some : goal.returns-in-Some
returns-in-Some c =
    let told = simp (to_z-of_z, c.ranges.z) at c.element_of.ensures in
    told ∙ ap (λ (u : Ty). element_in u c.args.z) (sym c.in-Some.ensures.is)
