-- Tables of a certificate, by name and type: those that the code finds fitting are tables of the program's functions in normal form.
use Rattle.std.proofs.Common.{◌≡◌, ℕ, ◌==◌, Bool, true, false, List, [], ◌∷◌, length, map, drop, suc, Option, Some, None, ℤ, refl, sym, ap, ◌∙◌, subst}
use Rattle.std.specs.Prelude.{◌&&◌, not, int_lt, if◌then◌else◌, is_some, slice_get}
use Rattle.std.specs.Ordering.{int_eq}
use Rattle.std.specs.List.{list_all}
use Rattle.std.specs.Str.{bytes_eq}
use Rattle.std.proofs.lemmas.Bool.{eq-eqb}
use Rattle.std.proofs.lemmas.Slice.Eq.{bytes_eq-Decides}
use Rattle.bg_ast.specs.Values.{KeyType, IntKey, UserKey, Ty, IntTy, BoolTy, UserTy, MapTy, Val, Table, keys_lt, keys_eq, val_eq, default_of, below_first, is_of}
use Rattle.bg_ast.specs.Syntax.{Fun}
use Rattle.bg_ast.specs.Resolved as r
use Rattle.bg_ast.specs.Meaning.{named_of, fun_of, body_of}
use Rattle.bg_sense.specs.Types.{are_of}
use Rattle.bg_sense.specs.Eval.{default_for}
use Rattle.bg_sense.proofs.TypedRuns.{default_typed}
use Rattle.bg_sense.specs.Tables as sense
use Rattle.bg_sense.specs.Tables.{val_lt, vals_lt, is_before, has_body, is_table, is_table_of, are_tables}
use Rattle.bg_sense.proofs.Bools.{both, and_left, and_right}
use Rattle.bg_opened.specs.Programs.{bodiless}
use Rattle.bg_certtext.specs.Views.{PartOf, AtNumber, AtElement, ValueOf, Truth, Number, Element, Default, Slot, GivenOf, EntryOf, FunctionOf}
use Rattle.bg_certtext.specs.Spellable as text
use Rattle.bg_certtext.specs.Spellable.{part_lt, part_eq, index_lt, index_eq, value_lt, value_eq, key_lt, comes_before, comes_behind, is_index, is_name, is_value, is_given, is_entry, is_function}
use Rattle.bg_confirm.specs.Typed.{name_of, part_fits, index_fits, value_fits, values_fit, entry_fits, entries_fit, table_fits, function_fits, first_fits, functions_fit}
use Rattle.bg_confirm.specs.Met.{number_at, val_for, vals_for, entry_of, table_of, blank, first_table, tables_by}

-- ---- values, keys and entries

both_of : (a b : Bool) → (a && b) ≡ true → (a ≡ true) × (b ≡ true)
both_of true true h = (refl, refl)
both_of true false h = absurd (let bad : ⊥ = cc in bad)
both_of false b h = absurd (let bad : ⊥ = cc in bad)

-- the numbers of an index
abbrev numbers : List PartOf → List ℤ
numbers ps = map number_at ps

-- the values are in one order, and the same where theirs are
abbrev Alike : Ty → ValueOf → ValueOf → Type 0
Alike t x y = (value_lt x y ≡ val_lt (val_for t x) (val_for t y)) × (value_eq x y ≡ val_eq (val_for t x) (val_for t y))

eq_truths : (a b : Bool) → value_eq (Truth a) (Truth b) ≡ val_eq (val_for BoolTy (Truth a)) (val_for BoolTy (Truth b))
eq_truths true b = refl
eq_truths false b = refl

one_name : (k : ℕ) (n : List ℕ) → bytes_eq n n ≡ (k == k)
one_name k n = (bytes_eq-Decides n n).1 refl ∙ sym (eq-eqb k k refl)

module _ (types : List r.TypeName) where
  same_names : (its n m : List ℕ) → bytes_eq its n ≡ true → bytes_eq its m ≡ true → n ≡ m
  same_names its n m p q = sym ((bytes_eq-Decides its n).0 p) ∙ (bytes_eq-Decides its m).0 q

  -- ---- indices

  parts_alike : (k : KeyType) (a b : PartOf) → part_fits types k a ≡ true → part_fits types k b ≡ true → (part_lt a b ≡ int_lt (number_at a) (number_at b)) × (part_eq a b ≡ int_eq (number_at a) (number_at b))
  parts_alike IntKey (AtNumber x) (AtNumber y) p q = (refl, refl)
  parts_alike IntKey (AtNumber x) (AtElement m y) p q = absurd (let bad : ⊥ = cc in bad)
  parts_alike IntKey (AtElement n x) b p q = absurd (let bad : ⊥ = cc in bad)
  parts_alike (UserKey k) (AtNumber x) b p q = absurd (let bad : ⊥ = cc in bad)
  parts_alike (UserKey k) (AtElement n x) (AtNumber y) p q = absurd (let bad : ⊥ = cc in bad)
  parts_alike (UserKey k) (AtElement n x) (AtElement m y) p q =
      let same : bytes_eq n m ≡ true = (bytes_eq-Decides n m).1 (same_names (name_of (slice_get types k)) n m p q) in
      (ap (λ (b : Bool). b && int_lt x y) same, ap (λ (b : Bool). b && int_eq x y) same)

  indices_alike : (ks : List KeyType) (a b : List PartOf) → index_fits types ks a ≡ true → index_fits types ks b ≡ true → (index_lt a b ≡ keys_lt (numbers a) (numbers b)) × (index_eq a b ≡ keys_eq (numbers a) (numbers b))
  indices_alike [] [] [] p q = (refl, refl)
  indices_alike [] [] (y ∷ b) p q = absurd (let bad : ⊥ = cc in bad)
  indices_alike [] (x ∷ a) b p q = absurd (let bad : ⊥ = cc in bad)
  indices_alike (k ∷ ks) [] b p q = absurd (let bad : ⊥ = cc in bad)
  indices_alike (k ∷ ks) (x ∷ a) [] p q = absurd (let bad : ⊥ = cc in bad)
  indices_alike (k ∷ ks) (x ∷ a) (y ∷ b) p q =
      let px = both_of (part_fits types k x) (index_fits types ks a) p in
      let qy = both_of (part_fits types k y) (index_fits types ks b) q in
      let first = parts_alike k x y px.0 qy.0 in
      let rest = indices_alike ks a b px.1 qy.1 in
      (rw (first.0, first.1, rest.0) refl, rw (first.1, rest.1) refl)

  -- an index that fits has as many parts
  as_many : (ks : List KeyType) (a : List PartOf) → index_fits types ks a ≡ true → length ks ≡ length (numbers a)
  as_many [] [] h = refl
  as_many [] (x ∷ a) h = absurd (let bad : ⊥ = cc in bad)
  as_many (k ∷ ks) [] h = absurd (let bad : ⊥ = cc in bad)
  as_many (k ∷ ks) (x ∷ a) h = ap suc (as_many ks a (and_right (part_fits types k x) (index_fits types ks a) h))

  -- ---- values

  truths_alike : (x y : ValueOf) → value_fits types BoolTy x ≡ true → value_fits types BoolTy y ≡ true → Alike BoolTy x y
  truths_alike (Truth a) (Truth b) p q = (refl, eq_truths a b)
  truths_alike (Truth a) (Number j) p q = absurd (let bad : ⊥ = cc in bad)
  truths_alike (Truth a) (Element m j) p q = absurd (let bad : ⊥ = cc in bad)
  truths_alike (Truth a) (Default d) p q = absurd (let bad : ⊥ = cc in bad)
  truths_alike (Truth a) (Slot l w n) p q = absurd (let bad : ⊥ = cc in bad)
  truths_alike (Number i) y p q = absurd (let bad : ⊥ = cc in bad)
  truths_alike (Element n i) y p q = absurd (let bad : ⊥ = cc in bad)
  truths_alike (Default d) y p q = absurd (let bad : ⊥ = cc in bad)
  truths_alike (Slot k v m) y p q = absurd (let bad : ⊥ = cc in bad)

  ints_alike : (x y : ValueOf) → value_fits types IntTy x ≡ true → value_fits types IntTy y ≡ true → Alike IntTy x y
  ints_alike (Truth a) y p q = absurd (let bad : ⊥ = cc in bad)
  ints_alike (Number i) (Truth b) p q = absurd (let bad : ⊥ = cc in bad)
  ints_alike (Number i) (Number j) p q = (refl, refl)
  ints_alike (Number i) (Element m j) p q = absurd (let bad : ⊥ = cc in bad)
  ints_alike (Number i) (Default d) p q = absurd (let bad : ⊥ = cc in bad)
  ints_alike (Number i) (Slot l w n) p q = absurd (let bad : ⊥ = cc in bad)
  ints_alike (Element n i) y p q = absurd (let bad : ⊥ = cc in bad)
  ints_alike (Default d) y p q = absurd (let bad : ⊥ = cc in bad)
  ints_alike (Slot k v m) y p q = absurd (let bad : ⊥ = cc in bad)

  elements_alike : (k : ℕ) (x y : ValueOf) → value_fits types (UserTy k) x ≡ true → value_fits types (UserTy k) y ≡ true → Alike (UserTy k) x y
  elements_alike k (Truth a) y p q = absurd (let bad : ⊥ = cc in bad)
  elements_alike k (Number i) y p q = absurd (let bad : ⊥ = cc in bad)
  elements_alike k (Element n i) (Truth b) p q = absurd (let bad : ⊥ = cc in bad)
  elements_alike k (Element n i) (Number j) p q = absurd (let bad : ⊥ = cc in bad)
  elements_alike k (Element n i) (Element m j) p q =
      let same : n ≡ m = same_names (name_of (slice_get types k)) n m p q in
      subst (λ (u : List ℕ). Alike (UserTy k) (Element n i) (Element u j)) same
      (ap (λ (b : Bool). b && int_lt i j) (one_name k n), ap (λ (b : Bool). b && int_eq i j) (one_name k n))
  elements_alike k (Element n i) (Default d) p q = absurd (let bad : ⊥ = cc in bad)
  elements_alike k (Element n i) (Slot l w m) p q = absurd (let bad : ⊥ = cc in bad)
  elements_alike k (Default d) y p q = absurd (let bad : ⊥ = cc in bad)
  elements_alike k (Slot l v m) y p q = absurd (let bad : ⊥ = cc in bad)

  -- what a slot that fits is made of
  slot_parts : (ks : List KeyType) (t : Ty) (k : List PartOf) (v m : ValueOf) → value_fits types (MapTy ks t) (Slot k v m) ≡ true → (index_fits types ks k ≡ true) × ((value_fits types t v ≡ true) × (value_fits types (MapTy ks t) m ≡ true))
  slot_parts ks t k v m h =
      let a = both_of (index_fits types ks k) (value_fits types t v && value_fits types (MapTy ks t) m) h in
      (a.0, both_of (value_fits types t v) (value_fits types (MapTy ks t) m) a.1)

  alike : (t : Ty) (x y : ValueOf) → value_fits types t x ≡ true → value_fits types t y ≡ true → Alike t x y
  alike BoolTy x y p q = truths_alike x y p q
  alike IntTy x y p q = ints_alike x y p q
  alike (UserTy k) x y p q = elements_alike k x y p q
  alike (MapTy ks t) (Truth a) y p q = absurd (let bad : ⊥ = cc in bad)
  alike (MapTy ks t) (Number i) y p q = absurd (let bad : ⊥ = cc in bad)
  alike (MapTy ks t) (Element n i) y p q = absurd (let bad : ⊥ = cc in bad)
  alike (MapTy ks t) (Default c) (Truth b) p q = absurd (let bad : ⊥ = cc in bad)
  alike (MapTy ks t) (Default c) (Number j) p q = absurd (let bad : ⊥ = cc in bad)
  alike (MapTy ks t) (Default c) (Element m j) p q = absurd (let bad : ⊥ = cc in bad)
  alike (MapTy ks t) (Default c) (Default d) p q = alike t c d p q
  alike (MapTy ks t) (Default c) (Slot l w n) p q = (refl, refl)
  alike (MapTy ks t) (Slot k v m) (Truth b) p q = absurd (let bad : ⊥ = cc in bad)
  alike (MapTy ks t) (Slot k v m) (Number j) p q = absurd (let bad : ⊥ = cc in bad)
  alike (MapTy ks t) (Slot k v m) (Element o j) p q = absurd (let bad : ⊥ = cc in bad)
  alike (MapTy ks t) (Slot k v m) (Default d) p q = (refl, refl)
  alike (MapTy ks t) (Slot k v m) (Slot l w n) p q =
      let f = slot_parts ks t k v m p in
      let g = slot_parts ks t l w n q in
      let index = indices_alike ks k l f.0 g.0 in
      let value = alike t v w f.1.0 g.1.0 in
      let rest = alike (MapTy ks t) m n f.1.1 g.1.1 in
      (rw (index.0, index.1, value.0, value.1, rest.0) refl, rw (index.1, value.1, rest.1) refl)

  lt_alike : (t : Ty) (x y : ValueOf) → value_fits types t x ≡ true → value_fits types t y ≡ true → value_lt x y ≡ val_lt (val_for t x) (val_for t y)
  lt_alike t x y p q = (alike t x y p q).0

  eq_alike : (t : Ty) (x y : ValueOf) → value_fits types t x ≡ true → value_fits types t y ≡ true → value_eq x y ≡ val_eq (val_for t x) (val_for t y)
  eq_alike t x y p q = (alike t x y p q).1

  -- the default of a map that fits is of the map's values' type
  default_fits : (ks : List KeyType) (t : Ty) (m : ValueOf) → value_fits types (MapTy ks t) m ≡ true → (value_fits types t (text.default_of m) ≡ true) × (default_of (val_for (MapTy ks t) m) ≡ val_for t (text.default_of m))
  default_fits ks t (Truth a) h = absurd (let bad : ⊥ = cc in bad)
  default_fits ks t (Number i) h = absurd (let bad : ⊥ = cc in bad)
  default_fits ks t (Element n i) h = absurd (let bad : ⊥ = cc in bad)
  default_fits ks t (Default d) h = (h, refl)
  default_fits ks t (Slot k v m) h = default_fits ks t m (slot_parts ks t k v m h).1.1

  -- an index that comes before each slot is below each entry
  below : (ks : List KeyType) (t : Ty) (k : List PartOf) (m : ValueOf) → index_fits types ks k ≡ true → value_fits types (MapTy ks t) m ≡ true → comes_before k m ≡ true → below_first (numbers k) (val_for (MapTy ks t) m) ≡ true
  below ks t k (Truth a) i h b = absurd (let bad : ⊥ = cc in bad)
  below ks t k (Number j) i h b = absurd (let bad : ⊥ = cc in bad)
  below ks t k (Element n j) i h b = absurd (let bad : ⊥ = cc in bad)
  below ks t k (Default d) i h b = refl
  below ks t k (Slot l w n) i h b = sym (indices_alike ks k l i (slot_parts ks t l w n h).0).0 ∙ b

  -- a value that has a text and fits is of the type
  is_its : (t : Ty) (x : ValueOf) → value_fits types t x ≡ true → is_value x ≡ true → is_of t (val_for t x) ≡ true
  is_its IntTy (Truth b) h s = absurd (let bad : ⊥ = cc in bad)
  is_its IntTy (Number z) h s = refl
  is_its IntTy (Element n z) h s = absurd (let bad : ⊥ = cc in bad)
  is_its IntTy (Default d) h s = absurd (let bad : ⊥ = cc in bad)
  is_its IntTy (Slot k v m) h s = absurd (let bad : ⊥ = cc in bad)
  is_its BoolTy (Truth b) h s = refl
  is_its BoolTy (Number z) h s = absurd (let bad : ⊥ = cc in bad)
  is_its BoolTy (Element n z) h s = absurd (let bad : ⊥ = cc in bad)
  is_its BoolTy (Default d) h s = absurd (let bad : ⊥ = cc in bad)
  is_its BoolTy (Slot k v m) h s = absurd (let bad : ⊥ = cc in bad)
  is_its (UserTy k) (Truth b) h s = absurd (let bad : ⊥ = cc in bad)
  is_its (UserTy k) (Number z) h s = absurd (let bad : ⊥ = cc in bad)
  is_its (UserTy k) (Element n z) h s = eq-eqb k k refl
  is_its (UserTy k) (Default d) h s = absurd (let bad : ⊥ = cc in bad)
  is_its (UserTy k) (Slot l v m) h s = absurd (let bad : ⊥ = cc in bad)
  is_its (MapTy ks t) (Truth b) h s = absurd (let bad : ⊥ = cc in bad)
  is_its (MapTy ks t) (Number z) h s = absurd (let bad : ⊥ = cc in bad)
  is_its (MapTy ks t) (Element n z) h s = absurd (let bad : ⊥ = cc in bad)
  is_its (MapTy ks t) (Default d) h s = is_its t d h s
  is_its (MapTy ks t) (Slot k v m) h s =
      let f = slot_parts ks t k v m h in
      let a = and_right (is_index k) _ s in
      let value = and_left (is_value v) _ a in
      let b = and_right (is_value v) _ a in
      let rest = and_left (is_value m) _ b in
      let c = and_right (is_value m) _ b in
      let before = and_left (comes_before k m) _ c in
      let apart = and_right (comes_before k m) (not (value_eq v (text.default_of m))) c in
      let default = default_fits ks t m f.1.1 in
      let differs : not (val_eq (val_for t v) (default_of (val_for (MapTy ks t) m))) ≡ true =
      ap (λ (d : Val). not (val_eq (val_for t v) d)) default.1 ∙ (ap not (sym (eq_alike t v (text.default_of m) f.1.0 default.0)) ∙ apart) in
      both (length ks == length (numbers k)) _ (eq-eqb (length ks) (length (numbers k)) (as_many ks k f.0))
      (both (is_of t (val_for t v)) _ (is_its t v f.1.0 value)
      (both (not (val_eq (val_for t v) (default_of (val_for (MapTy ks t) m)))) _ differs
      (both (below_first (numbers k) (val_for (MapTy ks t) m)) (is_of (MapTy ks t) (val_for (MapTy ks t) m)) (below ks t k m f.0 f.1.1 before)
      (is_its (MapTy ks t) m f.1.1 rest))))

  are_its : (ts : List Ty) (xs : List ValueOf) → values_fit types ts xs ≡ true → list_all is_value xs ≡ true → are_of ts (vals_for ts xs) ≡ true
  are_its [] [] h s = refl
  are_its [] (x ∷ xs) h s = absurd (let bad : ⊥ = cc in bad)
  are_its (t ∷ ts) [] h s = absurd (let bad : ⊥ = cc in bad)
  are_its (t ∷ ts) (x ∷ xs) h s =
      both (is_of t (val_for t x)) (are_of ts (vals_for ts xs))
      (is_its t x (and_left (value_fits types t x) (values_fit types ts xs) h) (and_left (is_value x) (list_all is_value xs) s))
      (are_its ts xs (and_right (value_fits types t x) (values_fit types ts xs) h) (and_right (is_value x) (list_all is_value xs) s))

  -- values that have texts and fit types are of these
  pub are_held : (ts : List Ty) (xs : List ValueOf) → list_all is_value xs ≡ true → values_fit types ts xs ≡ true → are_of ts (vals_for ts xs) ≡ true
  are_held ts xs s h = are_its ts xs h s

  keys_alike : (hs : List Ty) (xs ys : List ValueOf) → values_fit types hs xs ≡ true → values_fit types hs ys ≡ true → key_lt xs ys ≡ vals_lt (vals_for hs xs) (vals_for hs ys)
  keys_alike [] [] [] p q = refl
  keys_alike [] [] (y ∷ ys) p q = refl
  keys_alike [] (x ∷ xs) ys p q = absurd (let bad : ⊥ = cc in bad)
  keys_alike (h ∷ hs) [] ys p q = absurd (let bad : ⊥ = cc in bad)
  keys_alike (h ∷ hs) (x ∷ xs) [] p q = refl
  keys_alike (h ∷ hs) (x ∷ xs) (y ∷ ys) p q =
      let px = and_left (value_fits types h x) (values_fit types hs xs) p in
      let qy = and_left (value_fits types h y) (values_fit types hs ys) q in
      let rest = keys_alike hs xs ys (and_right (value_fits types h x) (values_fit types hs xs) p) (and_right (value_fits types h y) (values_fit types hs ys) q) in
      rw (lt_alike h x y px qy, eq_alike h x y px qy, rest) refl

  module _ (f : Fun) where
    abbrev hs : List Ty
    hs = f.params

    abbrev result : Ty
    result = f.result

    abbrev all_seen : List EntryOf → List (List Val × Val)
    all_seen es = map (entry_of f) es

    key_fits : (e : EntryOf) → entry_fits types f e ≡ true → values_fit types hs e.key ≡ true
    key_fits e h = and_left (values_fit types hs e.key) (value_fits types result e.value) h

    before_seen : (d : ValueOf) (e : EntryOf) (es : List EntryOf) → values_fit types hs e.key ≡ true → entries_fit types f es ≡ true → text.are_entries (Some e.key) d es ≡ true → is_before (vals_for hs e.key) (all_seen es) ≡ true
    before_seen d e [] k j h = refl
    before_seen d e (g ∷ gs) k j h =
        sym (keys_alike hs e.key g.key k (key_fits g (and_left (entry_fits types f g) (entries_fit types f gs) j))) ∙ and_left (key_lt e.key g.key) _ h

    -- entries in order that fit are typed and in order
    entries_typed : (d : ValueOf) (before : Option (List ValueOf)) (es : List EntryOf) → value_fits types result d ≡ true → list_all is_entry es ≡ true → entries_fit types f es ≡ true → text.are_entries before d es ≡ true → sense.are_entries f (val_for result d) (all_seen es) ≡ true
    entries_typed d before [] i s j h = refl
    entries_typed d before (e ∷ es) i s j h =
        let spelt = and_left (is_entry e) (list_all is_entry es) s in
        let k = and_right (comes_behind before e.key) _ h in
        let apart = and_left (not (value_eq e.value d)) _ k in
        let rest = and_right (not (value_eq e.value d)) _ k in
        let here = and_left (entry_fits types f e) (entries_fit types f es) j in
        let others = and_right (entry_fits types f e) (entries_fit types f es) j in
        let value = and_right (values_fit types hs e.key) (value_fits types result e.value) here in
        let differs : not (val_eq (val_for result e.value) (val_for result d)) ≡ true = ap not (sym (eq_alike result e.value d value i)) ∙ apart in
        both (are_of f.params (vals_for hs e.key)) _ (are_its f.params e.key (key_fits e here) (and_left (list_all is_value e.key) (is_value e.value) spelt))
        (both (is_of f.result (val_for result e.value)) _ (is_its f.result e.value value (and_right (list_all is_value e.key) (is_value e.value) spelt))
        (both (not (val_eq (val_for result e.value) (val_for result d))) _ differs
        (both (is_before (vals_for hs e.key) (all_seen es)) (sense.are_entries f (val_for result d) (all_seen es)) (before_seen d e es (key_fits e here) others rest)
        (entries_typed d (Some e.key) es i (and_right (is_entry e) (list_all is_entry es) s) others rest))))

    -- a table that has a text and fits is typed and in normal form
    table_typed : (g : FunctionOf) → is_function g ≡ true → table_fits types f g ≡ true → is_table f (table_of f g) ≡ true
    table_typed g h j =
        let a = and_right (text.is_name g.name) _ h in
        let b = and_right (list_all text.is_entry g.entries) _ a in
        let c = and_right (text.is_value g.default) (text.are_entries None g.default g.entries) b in
        let default = and_left (value_fits types result g.default) (entries_fit types f g.entries) j in
        both (is_of f.result (val_for result g.default)) (sense.are_entries f (val_for result g.default) (all_seen g.entries)) (is_its f.result g.default default (and_left (is_value g.default) (text.are_entries None g.default g.entries) b))
        (entries_typed g.default None g.entries default (and_left (list_all is_entry g.entries) _ a) (and_right (value_fits types result g.default) (entries_fit types f g.entries) j) c)

-- the values that constants with texts are given have texts
pub given_values : (gs : List GivenOf) → list_all is_given gs ≡ true → list_all is_value (map (λ g. g.value) gs) ≡ true
given_values [] h = refl
given_values (g ∷ gs) h =
    both (is_value g.value) (list_all is_value (map (λ g. g.value) gs)) (and_right (is_name g.name) (is_value g.value) (and_left (is_given g) (list_all is_given gs) h))
    (given_values gs (and_right (is_given g) (list_all is_given gs) h))

-- ---- tables

pub body_alike : (o : Option r.Ex) → has_body (body_of o) ≡ is_some o
body_alike None = refl
body_alike (Some e) = refl

-- what has no body has any table that is typed
own : (f : Fun) (t : Table) → is_table f t ≡ true → is_table_of (bodiless f) t ≡ true
own f t h = both (is_table f t) true h refl

blank_typed : (f : Fun) → is_table f (blank f) ≡ true
blank_typed f = both (is_of f.result (default_for f.result)) true (default_typed f.result) refl

module _ (types : List r.TypeName) where
  abbrev one : r.Fun → Fun
  one f = fun_of (named_of types) f

  abbrev funs : List r.Fun → List Fun
  funs fs = map one fs

  -- the tables of a function and of others behind it, where it has a body or not
  abbrev made : r.Fun → List r.Fun → Bool → List FunctionOf → List Table
  made f fs b gs = if b then blank (one f) ∷ tables_by (funs fs) gs else first_table (one f) gs ∷ tables_by (funs fs) (drop 1 gs)

  -- tables that fit are typed and in normal form
  pub fit_typed : (fs : List r.Fun) (gs : List FunctionOf) → list_all is_function gs ≡ true → functions_fit types fs gs ≡ true →
      are_tables (map bodiless (funs fs)) (tables_by (funs fs) gs) ≡ true
  fit_typed [] [] s h = refl
  fit_typed [] (g ∷ gs) s h = absurd (let bad : ⊥ = cc in bad)
  fit_typed (f ∷ fs) gs s h = by (λ hs t k. fit_typed fs hs t k) (is_some f.body) (body_alike f.body) gs s h
    where
      all_of : ((gs : List FunctionOf) → list_all is_function gs ≡ true → functions_fit types fs gs ≡ true → are_tables (map bodiless (funs fs)) (tables_by (funs fs) gs) ≡ true) → (t : Table) (gs : List FunctionOf) → is_table (one f) t ≡ true → list_all is_function gs ≡ true → functions_fit types fs gs ≡ true → are_tables (bodiless (one f) ∷ map bodiless (funs fs)) (t ∷ tables_by (funs fs) gs) ≡ true
      all_of on t gs a s h =
          both (is_table_of (bodiless (one f)) t) (are_tables (map bodiless (funs fs)) (tables_by (funs fs) gs)) (own (one f) t a) (on gs s h)

      by : ((gs : List FunctionOf) → list_all is_function gs ≡ true → functions_fit types fs gs ≡ true → are_tables (map bodiless (funs fs)) (tables_by (funs fs) gs) ≡ true) → (t : Bool) → has_body (one f).body ≡ t → (gs : List FunctionOf) → list_all is_function gs ≡ true → (if t then functions_fit types fs gs else first_fits types f gs && functions_fit types fs (drop 1 gs)) ≡ true →
          are_tables (map bodiless (funs (f ∷ fs))) (tables_by (funs (f ∷ fs)) gs) ≡ true
      by on true e gs s h =
          ap (λ (b : Bool). are_tables (map bodiless (funs (f ∷ fs))) (made f fs b gs)) e ∙ all_of on (blank (one f)) gs (blank_typed (one f)) s h
      by on false e [] s h = absurd (let bad : ⊥ = cc in bad)
      by on false e (g ∷ gs) s h =
          let mine = and_right (bytes_eq f.name.text g.name) _ (and_left (function_fits types f g) (functions_fit types fs gs) h) in
          let here = and_left (is_function g) (list_all is_function gs) s in
          ap (λ (b : Bool). are_tables (map bodiless (funs (f ∷ fs))) (made f fs b (g ∷ gs))) e
          ∙ all_of on (table_of (one f) g) gs (table_typed types (one f) g here mine) (and_right (is_function g) (list_all is_function gs) s) (and_right (function_fits types f g) (functions_fit types fs gs) h)
