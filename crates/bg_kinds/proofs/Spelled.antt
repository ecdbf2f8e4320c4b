-- A row of brackets before a type is written bracket by bracket.
use Rattle.std.proofs.Common.{◌≡◌, List, [], ◌∷◌, ◌++◌, map, refl, sym, ap, ◌∙◌, append_assoc}
use Rattle.bg_ast.specs.Resolved as r
use Rattle.bg_kinds.specs.declared.kinds.Base.{Base}
use Rattle.bg_kinds.specs.declared.kinds.Keys.{Keys}
use Rattle.bg_kinds.specs.Views.{keys_of, base_of, tower}
use Rattle.bg_kinds.specs.Texts.{keys_text, maps_text, type_text}

pub spelled : (ds : List r.TypeName) (ks : List Keys) (b : Base) → type_text ds (tower ks (base_of b)) ≡ maps_text ds (map keys_of ks) ++ type_text ds (base_of b)
spelled ds [] b = refl
spelled ds (k ∷ ks) b = ap (λ l. keys_text ds (keys_of k) ++ l) (spelled ds ks b) ∙ sym (append_assoc (keys_text ds (keys_of k)) (maps_text ds (map keys_of ks)) (type_text ds (base_of b)))
