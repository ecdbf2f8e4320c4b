-- Values of a certificate that are maps.
use Rattle.std.proofs.Common.{◌≡◌, ℕ, ℤ, List, [], ◌∷◌, map, refl, sym, ap, ◌∙◌, Vec, Box, Global}
use Rattle.bg_ast.specs.Values as v
use Rattle.bg_ast.specs.Values.{Ty, Val, result_of}
use Rattle.bg_scalar.specs.declared.value.Value as code
use Rattle.bg_scalar.specs.declared.value.Value.TheVariants as kept
use Rattle.bg_scalar.specs.declared.value.Entry.{Entry}
use Rattle.bg_scalar.specs.Values as scalar
use Rattle.bg_scalar.specs.Maps.{entry_in, with_entries}
use Rattle.bg_scalar.proofs.Rows as scalar_rows
use Rattle.bg_certtext.specs.declared.text.Value.{Value}
use Rattle.bg_certtext.specs.declared.text.Value.TheVariants as value
use Rattle.bg_certtext.specs.declared.text.Slot.{Slot}
use Rattle.bg_certtext.specs.Views as text
use Rattle.bg_certtext.specs.Views.{ValueOf, Default, slot_of, with_slots}
use Rattle.bg_certtext.proofs.Rows.{value_of-Map}
use Rattle.bg_certify.specs.Given.{keys_in, value_of, slot_for}

slotted : (types : List (List ℕ)) (t : Ty) (es : List (List ℤ × Val)) (d : Val) → with_slots (map (slot_for types (keys_in t) (result_of t)) es) (Default (value_of types (result_of t) d)) ≡ value_of types t (with_entries es (v.Default d))
slotted types t [] d = refl
slotted types t (e ∷ es) d =
    ap (λ (m : ValueOf). text.Slot (slot_for types (keys_in t) (result_of t) e).0 (slot_for types (keys_in t) (result_of t) e).1 m) (slotted types t es d)

pub map_made : (types : List (List ℕ)) (t : Ty) (es : Vec Entry Global) (d : Box code.Value Global) (ss : Vec Slot Global) (x : Box Value Global) → map slot_of ss.items ≡ map (slot_for types (keys_in t) (result_of t)) (map entry_in es.items) →
    text.value_of x.value ≡ value_of types (result_of t) (scalar.value_of d.value) → text.value_of (value.Map ss x) ≡ value_of types t (scalar.value_of (kept.Map es d))
map_made types t es d ss x h k =
    value_of-Map ss x
    ∙ (ap (λ l. with_slots l (Default (text.value_of x.value))) h
    ∙ (ap (λ (y : ValueOf). with_slots (map (slot_for types (keys_in t) (result_of t)) (map entry_in es.items)) (Default y)) k
    ∙ (slotted types t (map entry_in es.items) (scalar.value_of d.value)
    ∙ ap (value_of types t) (sym (scalar_rows.value_of-Map es d)))))

pub ruleset map_given = (map_made)
