-- Operators, brackets and signs behind maps and scalars, as the code tells them apart.
use Rattle.std.proofs.Common.{◌≡◌, ◌∙◌, ℤ, Bool, true, false, List, [], ◌∷◌, map, Option, Some, None, refl, ap, Vec, Box, Global}
use Rattle.bg_text.specs.declared.expr.PrefixSign.{PrefixSign}
use Rattle.bg_text.specs.declared.expr.PrefixSign.TheVariants as prefix
use Rattle.bg_ast.specs.Values.{Val, Default, Entry, val_eq, select}
use Rattle.bg_ast.specs.Syntax.{Op}
use Rattle.bg_scalar.specs.declared.scalar.Scalar.{Scalar}
use Rattle.bg_scalar.specs.declared.scalar.Scalar.TheVariants.{Truth, Number, Element}
use Rattle.bg_scalar.specs.declared.value.Value.{Value}
use Rattle.bg_scalar.specs.declared.value.Value.TheVariants as value
use Rattle.bg_scalar.specs.declared.value.Entry as kept
use Rattle.bg_scalar.specs.Worths.{NoValue, WorthOf, by_equality, is_table, is_truth, is_number, operate}
use Rattle.bg_scalar.specs.Signs.{prefix_on}
use Rattle.bg_scalar.specs.Values.{val_of, value_of}
use Rattle.bg_scalar.specs.Maps.{Item, with_entries, entry_in, map_of}
use Rattle.bg_scalar.specs.Indices.{part_in, kept_at}
use Rattle.bg_scalar.specs.Views.{truth_in}
use Rattle.bg_scalar.proofs.Rows.{value_of-Map}

-- ---- a map as its entries

scalar_then_map : (o : Op) (s : Scalar) (es : List Item) (d : Val) → operate o (val_of s) (with_entries es (Default d)) ≡ NoValue
scalar_then_map o (Truth b) [] d = refl
scalar_then_map o (Truth b) (e ∷ es) d = refl
scalar_then_map o (Number z) [] d = refl
scalar_then_map o (Number z) (e ∷ es) d = refl
scalar_then_map o (Element t z) [] d = refl
scalar_then_map o (Element t z) (e ∷ es) d = refl

map_then_scalar : (o : Op) (s : Scalar) (es : List Item) (d : Val) → operate o (with_entries es (Default d)) (val_of s) ≡ NoValue
map_then_scalar o (Truth b) [] d = refl
map_then_scalar o (Truth b) (e ∷ es) d = refl
map_then_scalar o (Number z) [] d = refl
map_then_scalar o (Number z) (e ∷ es) d = refl
map_then_scalar o (Element t z) [] d = refl
map_then_scalar o (Element t z) (e ∷ es) d = refl

map_then_map : (o : Op) (es fs : List Item) (c d : Val) → operate o (with_entries es (Default c)) (with_entries fs (Default d)) ≡ by_equality o (val_eq (with_entries es (Default c)) (with_entries fs (Default d)))
map_then_map o [] [] c d = refl
map_then_map o [] (f ∷ fs) c d = refl
map_then_map o (e ∷ es) [] c d = refl
map_then_map o (e ∷ es) (f ∷ fs) c d = refl

no_truth : (es : List Item) (d : Val) → is_truth (with_entries es (Default d)) ≡ false
no_truth [] d = refl
no_truth (e ∷ es) d = refl

no_number : (es : List Item) (d : Val) → is_number (with_entries es (Default d)) ≡ false
no_number [] d = refl
no_number (e ∷ es) d = refl

no_part : (es : List Item) (d : Val) → part_in (with_entries es (Default d)) ≡ None
no_part [] d = refl
no_part (e ∷ es) d = refl

no_truth_in : (es : List Item) (d : Val) → truth_in (with_entries es (Default d)) ≡ None
no_truth_in [] d = refl
no_truth_in (e ∷ es) d = refl

map_at : (es : List Item) (d : Val) (k : List ℤ) → kept_at (with_entries es (Default d)) k ≡ Some (select (with_entries es (Default d)) k)
map_at [] d k = refl
map_at (e ∷ es) d k = refl

before_map : (g : PrefixSign) (es : List Item) (d : Val) → prefix_on g (with_entries es (Default d)) ≡ NoValue
before_map prefix.Not [] d = refl
before_map prefix.Not (e ∷ es) d = refl
before_map prefix.Minus [] d = refl
before_map prefix.Minus (e ∷ es) d = refl

is_map : (es : List Item) (d : Val) → is_table (with_entries es (Default d)) ≡ true
is_map [] d = refl
is_map (e ∷ es) d = refl

-- ---- as the code's value

pub scalar_and_map : (o : Op) (s : Scalar) (es : Vec kept.Entry Global) (d : Box Value Global) → operate o (val_of s) (value_of (value.Map es d)) ≡ NoValue
scalar_and_map o s es d = ap (operate o (val_of s)) (value_of-Map es d) ∙ scalar_then_map o s (map entry_in es.items) (value_of d.value)

pub map_and_scalar : (o : Op) (s : Scalar) (es : Vec kept.Entry Global) (d : Box Value Global) → operate o (value_of (value.Map es d)) (val_of s) ≡ NoValue
map_and_scalar o s es d =
    ap (λ v. operate o v (val_of s)) (value_of-Map es d) ∙ map_then_scalar o s (map entry_in es.items) (value_of d.value)

pub two_maps : (o : Op) (es fs : Vec kept.Entry Global) (c d : Box Value Global) → operate o (value_of (value.Map es c)) (value_of (value.Map fs d)) ≡ by_equality o (val_eq (value_of (value.Map es c)) (value_of (value.Map fs d)))
two_maps o es fs c d =
    rw (value_of-Map es c, value_of-Map fs d) (map_then_map o (map entry_in es.items) (map entry_in fs.items) (value_of c.value) (value_of d.value))

pub ruleset operand_forms = (scalar_and_map, map_and_scalar, two_maps)

pub map_is_no_truth : (es : Vec kept.Entry Global) (d : Box Value Global) → is_truth (value_of (value.Map es d)) ≡ false
map_is_no_truth es d = ap is_truth (value_of-Map es d) ∙ no_truth (map entry_in es.items) (value_of d.value)

pub map_is_no_number : (es : Vec kept.Entry Global) (d : Box Value Global) → is_number (value_of (value.Map es d)) ≡ false
map_is_no_number es d = ap is_number (value_of-Map es d) ∙ no_number (map entry_in es.items) (value_of d.value)

pub map_is_no_part : (es : Vec kept.Entry Global) (d : Box Value Global) → part_in (value_of (value.Map es d)) ≡ None
map_is_no_part es d = ap part_in (value_of-Map es d) ∙ no_part (map entry_in es.items) (value_of d.value)

pub map_has_no_truth : (es : Vec kept.Entry Global) (d : Box Value Global) → truth_in (value_of (value.Map es d)) ≡ None
map_has_no_truth es d = ap truth_in (value_of-Map es d) ∙ no_truth_in (map entry_in es.items) (value_of d.value)

pub no_prefix : (g : PrefixSign) (es : Vec kept.Entry Global) (d : Box Value Global) → prefix_on g (value_of (value.Map es d)) ≡ NoValue
no_prefix g es d = ap (prefix_on g) (value_of-Map es d) ∙ before_map g (map entry_in es.items) (value_of d.value)

pub map_has : (es : Vec kept.Entry Global) (d : Box Value Global) (k : List ℤ) → kept_at (value_of (value.Map es d)) k ≡ Some (select (map_of es.items (value_of d.value)) k)
map_has es d k = ap (λ v. kept_at v k) (value_of-Map es d) ∙ map_at (map entry_in es.items) (value_of d.value) k

pub scalar_has : (s : Scalar) (k : List ℤ) → kept_at (val_of s) k ≡ None
scalar_has (Truth b) k = refl
scalar_has (Number z) k = refl
scalar_has (Element t z) k = refl

pub ruleset at_forms = (map_has, scalar_has)

pub is_table-Map : (es : Vec kept.Entry Global) (d : Box Value Global) → is_table (value_of (value.Map es d)) ≡ true
is_table-Map es d = ap is_table (value_of-Map es d) ∙ is_map (map entry_in es.items) (value_of d.value)

pub is_table-Plain : (s : Scalar) → is_table (val_of s) ≡ false
is_table-Plain (Truth b) = refl
is_table-Plain (Number z) = refl
is_table-Plain (Element t z) = refl
