-- Types that are no maps.
use Rattle.std.proofs.Common.{◌≡◌, true, false, List, [], ◌∷◌, ◌++◌, refl, sym, ap, ◌∙◌}
use Rattle.std.specs.Prelude.{not}
use Rattle.bg_ast.specs.Values.{Ty, is_map}
use Rattle.bg_sense.proofs.Bools.{and_left, and_right, both}
use Rattle.bg_kinds.specs.declared.kinds.Base.{Base}
use Rattle.bg_kinds.specs.declared.kinds.Base.TheVariants as base
use Rattle.bg_kinds.specs.Views.{base_of}
use Rattle.bg_flatten.specs.Plain.{are_mapless}

base_plain : (b : Base) → false ≡ is_map (base_of b)
base_plain base.Bool = refl
base_plain base.Int = refl
base_plain (base.User u) = refl

pub told_base : (b : Base) (t : Ty) → t ≡ base_of b → false ≡ is_map t
told_base b t h = base_plain b ∙ sym (ap is_map h)

pub mapless_front : (ts us : List Ty) → are_mapless (ts ++ us) ≡ true → are_mapless ts ≡ true
mapless_front [] us h = refl
mapless_front (t ∷ ts) us h =
    both (not (is_map t)) (are_mapless ts) (and_left (not (is_map t)) (are_mapless (ts ++ us)) h) (mapless_front ts us (and_right (not (is_map t)) (are_mapless (ts ++ us)) h))
