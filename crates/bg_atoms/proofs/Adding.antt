-- Rows behind which one more is put.
use Rattle.std.proofs.Common.{◌≡◌, List, [], ◌∷◌, ◌++◌, map, ap, ◌∙◌}
use Rattle.std.proofs.lemmas.List.{map-append}
use Rattle.bg_formula.specs.declared.atom.Linear.{Linear}
use Rattle.bg_formula.specs.Atoms.{view_linear}

pub pushed : (xs ys : List Linear) (a : Linear) → ys ≡ xs ++ a ∷ [] → map view_linear ys ≡ map view_linear xs ++ view_linear a ∷ []
pushed xs ys a h = ap (map view_linear) h ∙ map-append view_linear xs (a ∷ [])
