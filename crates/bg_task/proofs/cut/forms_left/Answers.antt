use Rattle.std.proofs.Common.{map, ap, ◌∙◌}
use Rattle.std.proofs.lemmas.Result.{IfOk-weaker}
use Rattle.bg_places.specs.Views.{spot_of}
use Rattle.bg_formed.specs.Views.{form_block_of}
use Rattle.bg_slice.specs.Slices.{sliced}
use Rattle.bg_atoms.specs.declared.product.Atoms.{Atoms}
use Rattle.bg_task.proofs.cut.forms_left.Goals as goal

pub returns : goal.returns
returns c =
    let t = spot_of c.args.cut.now.spot in
    let forms = c.deref.ensures.value ∙ ap (λ (a : Atoms). a.blocks.items) c.atoms_in.ensures in
    IfOk-weaker c.sliced.result _ _ (λ x is. is ∙ ap (λ l. sliced t (map form_block_of l)) forms) c.sliced.ensures
