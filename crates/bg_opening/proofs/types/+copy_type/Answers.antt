use Rattle.std.proofs.Common.{map, sym, ap, ◌∙◌}
use Rattle.bg_ast.specs.Views.{type_of, index_view}
use Rattle.bg_opening.proofs.TypeForms.{type-Map}
use Rattle.bg_opening.proofs.types.+copy_type.Goals as goal

pub copy_type-returns-in_ok-new-in-Map : goal.copy_type-returns-in_ok-new-in-Map
copy_type-returns-in_ok-new-in-Map t c =
    type-Map c.in-Map.brackets c.in-Map.e c.in_ok-brackets-in-Map.brackets c.in_ok-new-in-Map.field-0 (c.in_ok-brackets-in-Map.ensures ∙ ap (map index_view) c.deref-in-Map.ensures.value) (ap type_of c.in_ok-new-in-Map.ensures.ok ∙ c.in_ok-made-in-Map.ensures ∙ ap type_of c.deref-in-Map-2.ensures)
    ∙ ap type_of (sym c.in-Map.is)
