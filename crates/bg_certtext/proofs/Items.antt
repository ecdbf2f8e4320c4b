-- Maps have a text where their slots and defaults do, and the slots are in order.
use Rattle.std.proofs.Common.{◌≡◌, ℕ, Bool, true, false, ◌&&◌, not, List, [], ◌∷◌, ◌++◌, map, flat_map, Option, Some, None, refl, ap, sym, ◌∙◌, append_assoc, Vec, Box, Global, codes}
use Rattle.std.specs.List.{list_all}
use Rattle.bg_certtext.specs.declared.text.Value.{Value}
use Rattle.bg_certtext.specs.declared.text.Value.TheVariants as value
use Rattle.bg_certtext.specs.declared.text.Slot as kept
use Rattle.bg_certtext.specs.Views.{PartOf, ValueOf, Truth, Number, Element, Default, Slot, Item, EntryOf, value_of, slot_of, with_slots}
use Rattle.bg_certtext.specs.Spellable.{is_index, is_value, index_lt, value_eq, default_of, comes_before, rises, are_slots}
use Rattle.bg_certtext.specs.Texts.{index_word, row_text, default_text, value_text, inside_text, key_text, entries_text, table_text}
use Rattle.bg_certtext.specs.Rows.{Row, row_front, rows_text, slot_rows, entry_rows}
use Rattle.bg_certtext.specs.Orders.{is_item}
use Rattle.bg_certtext.proofs.ReadsOptions.{both, all_of}
use Rattle.bg_certtext.proofs.Rows.{value_of-Map}
use Rattle.bg_certtext.proofs.ReadsRows.{row_joined}

pub default_behind : (es : List Item) (d : ValueOf) → default_of (with_slots es (Default d)) ≡ d
default_behind [] d = refl
default_behind (e ∷ es) d = default_behind es d

-- the first slot comes behind an index
first_behind : (k : List PartOf) (es : List Item) (d : ValueOf) → are_slots (Some k) d es ≡ true → comes_before k (with_slots es (Default d)) ≡ true
first_behind k [] d h = refl
first_behind k (e ∷ es) d h = (both (index_lt k e.0) (not (value_eq e.1 d) && are_slots (Some e.0) d es) h).0

pub map_good : (before : Option (List PartOf)) (es : List Item) (d : ValueOf) → list_all is_item es ≡ true → is_value d ≡ true → are_slots before d es ≡ true → is_value (with_slots es (Default d)) ≡ true
map_good before [] d g v h = v
map_good before (e ∷ es) d g v h =
    let m = with_slots es (Default d) in
    let p = both (is_item e) (list_all is_item es) g in
    let i = both (is_index e.0) (is_value e.1) p.0 in
    let a = both (rises before e.0) (not (value_eq e.1 d) && are_slots (Some e.0) d es) h in
    let b = both (not (value_eq e.1 d)) (are_slots (Some e.0) d es) a.1 in
    all_of (is_index e.0) _ i.0
    (all_of (is_value e.1) _ i.1
    (all_of (is_value m) _ (map_good (Some e.0) es d p.1 v b.1)
    (all_of (comes_before e.0 m) (not (value_eq e.1 (default_of m))) (first_behind e.0 es d b.1) (ap (λ (x : ValueOf). not (value_eq e.1 x)) (default_behind es d) ∙ b.0))))

pub record Parts (before : Option (List PartOf)) (es : List Item) (d : ValueOf) : Type 0 where
  pub good : is_value d ≡ true
  pub items : list_all is_item es ≡ true
  pub slots : are_slots before d es ≡ true

-- where the first slot rises behind what stands before
abbrev Begins : Option (List PartOf) → List Item → Type 0
Begins before [] = Unit {0}
Begins before (e ∷ es) = rises before e.0 ≡ true

begins_behind : (k : List PartOf) (es : List Item) (d : ValueOf) → comes_before k (with_slots es (Default d)) ≡ true → Begins (Some k) es
begins_behind k [] d h = tt
begins_behind k (e ∷ es) d h = h

map_parts : (before : Option (List PartOf)) (es : List Item) (d : ValueOf) → Begins before es → is_value (with_slots es (Default d)) ≡ true → Parts before es d
map_parts before [] d b h = record { good = h; items = refl; slots = refl }
map_parts before (e ∷ es) d b h =
    let m = with_slots es (Default d) in
    let h1 = both (is_index e.0) _ h in
    let h2 = both (is_value e.1) _ h1.1 in
    let h3 = both (is_value m) _ h2.1 in
    let h4 = both (comes_before e.0 m) (not (value_eq e.1 (default_of m))) h3.1 in
    let rest = map_parts (Some e.0) es d (begins_behind e.0 es d h4.0) h3.0 in
    let apart : not (value_eq e.1 d) ≡ true = ap (λ (x : ValueOf). not (value_eq e.1 x)) (sym (default_behind es d)) ∙ h4.1 in
    record {
      good = rest.good;
      items = all_of (is_item e) (list_all is_item es) (all_of (is_index e.0) (is_value e.1) h1.0 h2.0) rest.items;
      slots = all_of (rises before e.0) _ b (all_of (not (value_eq e.1 d)) (are_slots (Some e.0) d es) apart rest.slots);
    }

begins_none : (es : List Item) → Begins None es
begins_none [] = tt
begins_none (e ∷ es) = refl

pub parts_of_map : (es : List Item) (d : ValueOf) → is_value (with_slots es (Default d)) ≡ true → Parts None es d
parts_of_map es d h = map_parts None es d (begins_none es) h

same_truth : (a b : Bool) → (a ≡ true → b ≡ true) → (b ≡ true → a ≡ true) → a ≡ b
same_truth true b f g = sym (f refl)
same_truth false true f g = g refl
same_truth false false f g = refl

map_is : (es : List Item) (d : ValueOf) → is_value (with_slots es (Default d)) ≡ (is_value d && (list_all is_item es && are_slots None d es))
map_is es d =
    same_truth (is_value (with_slots es (Default d))) (is_value d && (list_all is_item es && are_slots None d es))
    (λ h. let p = parts_of_map es d h in all_of (is_value d) _ p.good (all_of (list_all is_item es) (are_slots None d es) p.items p.slots))
    (λ h.
    let a = both (is_value d) _ h in
    let b = both (list_all is_item es) (are_slots None d es) a.1 in
    map_good None es d b.0 a.0 b.1)

pub map_value : (ss : Vec kept.Slot Global) (d : Box Value Global) → is_value (value_of (value.Map ss d)) ≡ (is_value (value_of d.value) && (list_all is_item (map slot_of ss.items) && are_slots None (value_of d.value) (map slot_of ss.items)))
map_value ss d = ap is_value (value_of-Map ss d) ∙ map_is (map slot_of ss.items) (value_of d.value)

pub ruleset value_forms = (map_value)

-- ---- texts

inside_map : (es : List Item) (d : ValueOf) → inside_text (with_slots es (Default d)) ≡ rows_text (slot_rows es) (value_text d)
inside_map [] d = refl
inside_map (e ∷ es) d = ap (row_text (index_word e.0) (value_text e.1)) (inside_map es d)

pub map_text : (es : List Item) (d : ValueOf) → value_text (with_slots es (Default d)) ≡ codes "[" ++ rows_text (slot_rows es) (value_text d)
map_text [] d = refl
map_text (e ∷ es) d = ap (λ (x : List ℕ). codes "[" ++ row_text (index_word e.0) (value_text e.1) x) (inside_map es d)

pub map_texts : (ss : Vec kept.Slot Global) (d : Box Value Global) → value_text (value_of (value.Map ss d)) ≡ 91 ∷ rows_text (slot_rows (map slot_of ss.items)) (value_text (value_of d.value))
map_texts ss d = ap value_text (value_of-Map ss d) ∙ map_text (map slot_of ss.items) (value_of d.value)

-- ---- a map's slots and default

abbrev pub IsMap : ValueOf → Type 0
IsMap (Default d) = Unit {0}
IsMap (Slot k v m) = Unit {0}
IsMap v = ⊥

abbrev pub slots_of : ValueOf → List Item
slots_of (Slot k v m) = (k, v) ∷ slots_of m
slots_of v = []

-- what has a map behind it is no end
pub behind_map : (k : List PartOf) (m : ValueOf) → comes_before k m ≡ true → IsMap m
behind_map k (Default d) h = tt
behind_map k (Slot l w n) h = tt
behind_map k (Truth b) h = absurd (let bad : ⊥ = cc in bad)
behind_map k (Number z) h = absurd (let bad : ⊥ = cc in bad)
behind_map k (Element t z) h = absurd (let bad : ⊥ = cc in bad)

pub slots_whole : (v : ValueOf) → IsMap v → is_value v ≡ true → with_slots (slots_of v) (Default (default_of v)) ≡ v
slots_whole (Default d) i h = refl
slots_whole (Slot k v m) i h =
    let h1 = both (is_index k) _ h in
    let h2 = both (is_value v) _ h1.1 in
    let h3 = both (is_value m) _ h2.1 in
    let h4 = both (comes_before k m) _ h3.1 in
    ap (Slot k v) (slots_whole m (behind_map k m h4.0) h3.0)
slots_whole (Truth b) i h = absurd i
slots_whole (Number z) i h = absurd i
slots_whole (Element t z) i h = absurd i

-- ---- tables that are written: their rows, then the default

fronts_text : (rs : List Row) (d : List ℕ) → flat_map row_front rs ++ default_text d ≡ rows_text rs d
fronts_text [] d = refl
fronts_text (r ∷ rs) d =
    append_assoc (row_front r) (flat_map row_front rs) (default_text d)
    ∙ (ap (λ (x : List ℕ). row_front r ++ x) (fronts_text rs d) ∙ sym (row_joined r.0 r.1 [] (rows_text rs d)))

rows_written : (rs : List Row) (d old one new : List ℕ) → one ≡ old ++ (91 ∷ flat_map row_front rs) → new ≡ one ++ default_text d → new ≡ old ++ (91 ∷ rows_text rs d)
rows_written rs d old one new a b =
    b
    ∙ (ap (λ (x : List ℕ). x ++ default_text d) a
    ∙ (append_assoc old (91 ∷ flat_map row_front rs) (default_text d) ∙ ap (λ (x : List ℕ). old ++ (91 ∷ x)) (fronts_text rs d)))

pub map_written : (ss : Vec kept.Slot Global) (d : Box Value Global) (v : Value) (old one new : List ℕ) (slots : List kept.Slot) (default : Value) → v ≡ value.Map ss d → slots ≡ ss.items → default ≡ d.value → one ≡ old ++ (91 ∷ flat_map row_front (slot_rows (map slot_of slots))) → new ≡ one ++ default_text (value_text (value_of default)) → new ≡ old ++ value_text (value_of v)
map_written ss d v old one new slots default is are its a b =
    rows_written (slot_rows (map slot_of slots)) (value_text (value_of default)) old one new a b
    ∙ (ap (λ (l : List kept.Slot). old ++ (91 ∷ rows_text (slot_rows (map slot_of l)) (value_text (value_of default)))) are
    ∙ (ap (λ (x : Value). old ++ (91 ∷ rows_text (slot_rows (map slot_of ss.items)) (value_text (value_of x)))) its
    ∙ (ap (λ (x : List ℕ). old ++ x) (sym (map_texts ss d)) ∙ ap (λ (x : Value). old ++ value_text (value_of x)) (sym is))))

entries_are : (es : List EntryOf) (d : ValueOf) → rows_text (entry_rows es) (value_text d) ≡ entries_text es d
entries_are [] d = refl
entries_are (e ∷ es) d = ap (row_text (key_text e.key) (value_text e.value)) (entries_are es d)

pub table_written : (es : List EntryOf) (d : ValueOf) (old one new : List ℕ) → one ≡ old ++ (91 ∷ flat_map row_front (entry_rows es)) → new ≡ one ++ default_text (value_text d) → new ≡ old ++ table_text es d
table_written es d old one new a b = rows_written (entry_rows es) (value_text d) old one new a b ∙ ap (λ (x : List ℕ). old ++ (91 ∷ x)) (entries_are es d)
