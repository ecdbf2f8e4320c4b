-- Maps that are the same.
use Rattle.std.proofs.Common.{◌≡◌, ◌≢◌, suc, Bool, true, false, ◌&&◌, List, [], ◌∷◌, length, map, refl, ap, ◌∙◌, Vec, Box, Global}
use Rattle.bg_ast.specs.Values.{Val, Default, Entry, val_eq}
use Rattle.bg_scalar.specs.declared.scalar.Scalar.{Scalar}
use Rattle.bg_scalar.specs.declared.scalar.Scalar.TheVariants.{Truth, Number, Element}
use Rattle.bg_scalar.specs.Values.{val_of, value_of}
use Rattle.bg_scalar.specs.declared.value.Value.{Value}
use Rattle.bg_scalar.specs.declared.value.Value.TheVariants as value
use Rattle.bg_scalar.specs.declared.value.Entry as kept
use Rattle.bg_scalar.specs.Maps.{Item, entry_in, with_entries, entries_eq}
use Rattle.bg_scalar.proofs.Rows.{value_of-Map}
use Rattle.bg_scalar.proofs.Places.{maps_same}

and_false : (a b : Bool) → b ≡ false → (a && b) ≡ false
and_false true b h = h
and_false false b h = refl

pub entries_differ : (xs ys : List kept.Entry) → length xs ≢ length ys → entries_eq (map entry_in xs) (map entry_in ys) ≡ false
entries_differ [] [] h = absurd (h refl)
entries_differ [] (y ∷ ys) h = refl
entries_differ (x ∷ xs) [] h = refl
entries_differ (x ∷ xs) (y ∷ ys) h =
    and_false _ _ (and_false _ _ (entries_differ xs ys (λ e. h (ap suc e))))

no_map : (s : Scalar) (es : List Item) (d : Val) → val_eq (val_of s) (with_entries es (Default d)) ≡ false
no_map (Truth true) [] d = refl
no_map (Truth false) [] d = refl
no_map (Number z) [] d = refl
no_map (Element t z) [] d = refl
no_map (Truth true) (e ∷ es) d = refl
no_map (Truth false) (e ∷ es) d = refl
no_map (Number z) (e ∷ es) d = refl
no_map (Element t z) (e ∷ es) d = refl

no_scalar : (s : Scalar) (es : List Item) (d : Val) → val_eq (with_entries es (Default d)) (val_of s) ≡ false
no_scalar (Truth b) [] d = refl
no_scalar (Number z) [] d = refl
no_scalar (Element t z) [] d = refl
no_scalar (Truth b) (e ∷ es) d = refl
no_scalar (Number z) (e ∷ es) d = refl
no_scalar (Element t z) (e ∷ es) d = refl

pub scalar_and_map : (s : Scalar) (es : Vec kept.Entry Global) (d : Box Value Global) → val_eq (val_of s) (value_of (value.Map es d)) ≡ false
scalar_and_map s es d = ap (val_eq (val_of s)) (value_of-Map es d) ∙ no_map s (map entry_in es.items) (value_of d.value)

pub map_and_scalar : (s : Scalar) (es : Vec kept.Entry Global) (d : Box Value Global) → val_eq (value_of (value.Map es d)) (val_of s) ≡ false
map_and_scalar s es d = ap (λ v. val_eq v (val_of s)) (value_of-Map es d) ∙ no_scalar s (map entry_in es.items) (value_of d.value)

pub maps_alike : (es fs : Vec kept.Entry Global) (c d : Box Value Global) → val_eq (value_of (value.Map es c)) (value_of (value.Map fs d)) ≡ (entries_eq (map entry_in es.items) (map entry_in fs.items) && val_eq (value_of c.value) (value_of d.value))
maps_alike es fs c d =
    ap (λ v. val_eq v (value_of (value.Map fs d))) (value_of-Map es c)
    ∙ (ap (val_eq (with_entries (map entry_in es.items) (Default (value_of c.value)))) (value_of-Map fs d)
    ∙ maps_same (map entry_in es.items) (map entry_in fs.items) (value_of c.value) (value_of d.value))

pub ruleset forms = (scalar_and_map, map_and_scalar, maps_alike)
