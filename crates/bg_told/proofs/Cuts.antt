use Rattle.std.proofs.Common.{◌≡◌, slice_get, ℕ, zero, suc, ◌+◌, ◌/◌, ◌%◌, ◌≤◌, ◌==◌, ◌&&◌, Bool, true, false, List, [], ◌∷◌, ◌++◌, Option, Some, None, if◌then◌else◌, cond, filter, nat_lt, nat_le, codes, flat_map, ℤ, pos, negsuc, arith, refl}
use Rattle.std.proofs.lemmas.Bool.{and_parts, leb-true}
use Rattle.std.specs.Fmt.{decimal, signed_decimal, digits, digits_onto, digit_glyph}
use Rattle.bg_base.specs.declared.exact.Op.{Op}
use Rattle.bg_base.specs.declared.exact.Op.TheVariants.{Plus, Minus, Times, Negate}
use Rattle.bg_base.specs.declared.exact.OutOfRange.{OutOfRange}
use Rattle.bg_base.specs.declared.pos.Pos.{Pos}
use Rattle.bg_ast.specs.Values.{KeyType, IntKey, UserKey, Ty, Val, Num, Truth, Element, Default, Entry, Table, result_of}
use Rattle.bg_ast.specs.Execution.{Spot, AtAssert, AtEntry, AfterTurn, AtCall, AtReturn, Choice, Branch, Chosen}
use Rattle.bg_places.specs.Placed.{Placed}
use Rattle.bg_sound.specs.Told.{Why, Nodes, Rows, Range}
use Rattle.bg_told.specs.Kept.{operator_text, operation_text, why_text, kept_text}
use Rattle.bg_told.specs.Lines.{texts, text_or_none, is_printed}
use Rattle.bg_told.specs.ValueTexts.{index_types, front_text, default_text, element_text, number_text, number_behind, index_text, value_text, inside_text, part_text, key_text, mapping_text, table_text}
use Rattle.bg_lines.specs.Lines.{position_text}
use Rattle.bg_told.specs.Places.{chosen_text}
use Rattle.bg_lines.specs.Places.{kind_text, call_text, place_text}

-- no byte is below a space: none is a newline
pub IsFlat : List ℕ → Type 0
IsFlat [] = Unit {0}
IsFlat (b ∷ bs) = (32 ≤ b) × IsFlat bs

-- what stands behind the first newline
pub cut : (a b x y : List ℕ) → IsFlat a → IsFlat b → a ++ 10 ∷ x ≡ b ++ 10 ∷ y → x ≡ y
unfolding IsFlat
cut [] [] x y ha hb h = cc
cut [] (b ∷ bs) x y ha hb h = let e : 10 ≡ b = cc in absurd (omega (arith, e, hb.0))
cut (a ∷ as') [] x y ha hb h = let e : a ≡ 10 = cc in absurd (omega (arith, e, ha.0))
cut (a ∷ as') (b ∷ bs) x y ha hb h = let e : as' ++ 10 ∷ x ≡ bs ++ 10 ∷ y = cc in cut as' bs x y ha.1 hb.1 e

glyph_is_high : (d : ℕ) → 32 ≤ digit_glyph false d
glyph_is_high d = elim (nat_lt d 10) as (λ b. 32 ≤ (if b then 48 + d else 87 + d)) [ true ↦ omega arith | false ↦ omega arith ]

onto_is_flat : (k n : ℕ) (acc : List ℕ) → IsFlat acc → IsFlat (digits_onto k 10 false n acc)
unfolding IsFlat
onto_is_flat zero n acc h = h
onto_is_flat (suc k) n acc h =
    elim (n / 10 == 0) as (λ b. IsFlat (if b then digit_glyph false (n % 10) ∷ acc else digits_onto k 10 false (n / 10) (digit_glyph false (n % 10) ∷ acc))) [
      | true ↦ (glyph_is_high (n % 10), h)
      | false ↦ onto_is_flat k (n / 10) (digit_glyph false (n % 10) ∷ acc) (glyph_is_high (n % 10), h)
    ]

pub decimal_is_flat : (n : ℕ) → IsFlat (decimal n)
unfolding IsFlat digits
decimal_is_flat n = onto_is_flat 64 n [] tt

pub append_is_flat : (a b : List ℕ) → IsFlat a → IsFlat b → IsFlat (a ++ b)
unfolding IsFlat
append_is_flat [] b ha hb = hb
append_is_flat (x ∷ a) b ha hb = (ha.0, append_is_flat a b ha.1 hb)

-- a byte in front
with_byte : (b : ℕ) (bs : List ℕ) → 32 ≤ b → IsFlat bs → IsFlat (b ∷ bs)
unfolding IsFlat
with_byte b bs h hs = (h, hs)

no_byte : IsFlat []
unfolding IsFlat
no_byte = tt

position_is_flat : (p : Pos) → IsFlat (position_text p)
position_is_flat p =
    append_is_flat (decimal p.line ++ 58 ∷ []) (decimal p.column) (append_is_flat (decimal p.line) (58 ∷ []) (decimal_is_flat p.line) (with_byte 58 [] (omega arith) no_byte)) (decimal_is_flat p.column)

abbrev pub is_flat : List ℕ → Bool
is_flat [] = true
is_flat (b ∷ bs) = nat_le 32 b && is_flat bs

flat_byte : (b : ℕ) (r : Bool) → (nat_le 32 b && r) ≡ true → (32 ≤ b) × (r ≡ true)
flat_byte b r h = let e = and_parts (nat_le 32 b) r h in (leb-true 32 b e.0, e.1)

pub word_is_flat : (w : List ℕ) → is_flat w ≡ true → IsFlat w
word_is_flat [] h = no_byte
word_is_flat (b ∷ bs) h = with_byte b bs (flat_byte b (is_flat bs) h).0 (word_is_flat bs (flat_byte b (is_flat bs) h).1)

-- what is printed of a name, whatever its bytes are
printed_is_flat : (name : List ℕ) → IsFlat (filter is_printed name)
printed_is_flat [] = no_byte
printed_is_flat (b ∷ bs) = by (nat_le 32 b) refl (printed_is_flat bs)
  where
    by : (t : Bool) → nat_le 32 b ≡ t → IsFlat (filter is_printed bs) → IsFlat (cond t (b ∷ filter is_printed bs) (filter is_printed bs))
    by true h rest = with_byte b (filter is_printed bs) (leb-true 32 b h) rest
    by false h rest = rest

kind_is_flat : (s : Spot) → IsFlat (kind_text s)
kind_is_flat (AtAssert k) = word_is_flat (codes "assert ") refl
kind_is_flat (AtEntry k) = word_is_flat (codes "invariant entry ") refl
kind_is_flat (AfterTurn k) = word_is_flat (codes "invariant turn ") refl
kind_is_flat (AtCall s k) = word_is_flat (codes "precondition ") refl
kind_is_flat (AtReturn m k) = word_is_flat (codes "postcondition ") refl

call_is_flat : (c : Option Pos) → IsFlat (call_text c)
call_is_flat None = no_byte
call_is_flat (Some p) = append_is_flat (position_text p) (codes " of ") (position_is_flat p) (word_is_flat (codes " of ") refl)

pub place_is_flat : (a : Placed) → IsFlat (place_text a)
place_is_flat a =
    append_is_flat (kind_text a.place.spot ++ call_text a.call) (position_text a.pos)
    (append_is_flat (kind_text a.place.spot) (call_text a.call) (kind_is_flat a.place.spot) (call_is_flat a.call)) (position_is_flat a.pos)

signed_is_flat : (z : ℤ) → IsFlat (signed_decimal z)
signed_is_flat (pos n) = decimal_is_flat n
signed_is_flat (negsuc n) = with_byte 45 (decimal (suc n)) (omega arith) (decimal_is_flat (suc n))

-- a word behind a text
pub behind_is_flat : (a w : List ℕ) → IsFlat a → is_flat w ≡ true → IsFlat (a ++ w)
behind_is_flat a w h e = append_is_flat a w h (word_is_flat w e)

each_is_flat : {A : Type 0} (f : A → List ℕ) → ((a : A) → IsFlat (f a)) → (xs : List A) → IsFlat (flat_map f xs)
each_is_flat f h [] = no_byte
each_is_flat f h (x ∷ xs) = append_is_flat (f x) (flat_map f xs) (h x) (each_is_flat f h xs)

pairs_are_flat : {A B : Type 0} (f : A → B → List ℕ) → ((a : A) (b : B) → IsFlat (f a b)) → (xs : List A) (ys : List B) → IsFlat (texts f xs ys)
pairs_are_flat f h [] ys = no_byte
pairs_are_flat f h (x ∷ xs) [] = no_byte
pairs_are_flat f h (x ∷ xs) (y ∷ ys) =
    append_is_flat (f x y) (texts f xs ys) (h x y) (pairs_are_flat f h xs ys)

-- ---- values, and tables, where types have these names

front_is_flat : (key value : List ℕ) → IsFlat key → IsFlat value → IsFlat (front_text key value)
front_is_flat key value k v =
    append_is_flat key (codes " := " ++ (value ++ codes ", ")) k
    (append_is_flat (codes " := ") (value ++ codes ", ") (word_is_flat (codes " := ") refl) (behind_is_flat value (codes ", ") v refl))

default_is_flat : (value : List ℕ) → IsFlat value → IsFlat (default_text value)
default_is_flat value v =
    append_is_flat (codes "else ") (value ++ codes "]") (word_is_flat (codes "else ") refl) (behind_is_flat value (codes "]") v refl)

-- behind the bracket that opens a map or a table
opened_is_flat : (w : List ℕ) → IsFlat w → IsFlat (codes "[" ++ w)
opened_is_flat w h = append_is_flat (codes "[") w (word_is_flat (codes "[") refl) h

module _ (types : List (List ℕ)) where
  element_is_flat : (t : ℕ) (z : ℤ) → IsFlat (element_text types t z)
  element_is_flat t z =
      let name = text_or_none (slice_get types t) in
      append_is_flat (filter is_printed name ++ codes "!") (signed_decimal z)
      (behind_is_flat (filter is_printed name) (codes "!") (printed_is_flat name) refl) (signed_is_flat z)

  number_is_flat : (k : KeyType) (z : ℤ) → IsFlat (number_text types k z)
  number_is_flat IntKey z = signed_is_flat z
  number_is_flat (UserKey t) z = element_is_flat t z

  other_is_flat : (k : KeyType) (z : ℤ) → IsFlat (number_behind types k z)
  other_is_flat k z = append_is_flat (codes ",") (number_text types k z) (word_is_flat (codes ",") refl) (number_is_flat k z)

  index_is_flat : (ks : List KeyType) (zs : List ℤ) → IsFlat (index_text types ks zs)
  index_is_flat [] zs = no_byte
  index_is_flat (k ∷ ks) [] = no_byte
  index_is_flat (k ∷ ks) (z ∷ zs) =
      append_is_flat (number_text types k z) (texts (number_behind types) ks zs) (number_is_flat k z) (pairs_are_flat (number_behind types) other_is_flat ks zs)

  mutual
    pub value_is_flat : (t : Ty) (v : Val) → IsFlat (value_text types t v)
    value_is_flat t (Truth true) = word_is_flat (codes "true") refl
    value_is_flat t (Truth false) = word_is_flat (codes "false") refl
    value_is_flat t (Num z) = signed_is_flat z
    value_is_flat t (Element u z) = element_is_flat u z
    value_is_flat t (Default d) =
        opened_is_flat (default_text (value_text types (result_of t) d)) (default_is_flat (value_text types (result_of t) d) (value_is_flat (result_of t) d))
    value_is_flat t (Entry k v m) =
        let key = index_text types (index_types t) k in
        let value = value_text types (result_of t) v in
        opened_is_flat (front_text key value ++ inside_text types t m)
        (append_is_flat (front_text key value) (inside_text types t m) (front_is_flat key value (index_is_flat (index_types t) k) (value_is_flat (result_of t) v)) (inside_is_flat t m))

    inside_is_flat : (t : Ty) (v : Val) → IsFlat (inside_text types t v)
    inside_is_flat t (Truth b) = no_byte
    inside_is_flat t (Num z) = no_byte
    inside_is_flat t (Element u z) = no_byte
    inside_is_flat t (Default d) = default_is_flat (value_text types (result_of t) d) (value_is_flat (result_of t) d)
    inside_is_flat t (Entry k v m) =
        let key = index_text types (index_types t) k in
        let value = value_text types (result_of t) v in
        append_is_flat (front_text key value) (inside_text types t m) (front_is_flat key value (index_is_flat (index_types t) k) (value_is_flat (result_of t) v)) (inside_is_flat t m)

  pub chosen_is_flat : (t : Ty) (c : Choice) → IsFlat (chosen_text types t c)
  chosen_is_flat t (Branch k) = append_is_flat (codes "branch ") (decimal k) (word_is_flat (codes "branch ") refl) (decimal_is_flat k)
  chosen_is_flat t (Chosen v) = value_is_flat t v

  part_is_flat : (t : Ty) (v : Val) → IsFlat (part_text types t v)
  part_is_flat t v = append_is_flat (codes ",") (value_text types t v) (word_is_flat (codes ",") refl) (value_is_flat t v)

  key_is_flat : (ts : List Ty) (vs : List Val) → IsFlat (key_text types ts vs)
  key_is_flat [] vs = no_byte
  key_is_flat (t ∷ ts) [] = no_byte
  key_is_flat (t ∷ ts) (v ∷ vs) =
      append_is_flat (value_text types t v) (texts (part_text types) ts vs) (value_is_flat t v) (pairs_are_flat (part_text types) part_is_flat ts vs)

  mapping_is_flat : (ts : List Ty) (t : Ty) (e : List Val × Val) → IsFlat (mapping_text types ts t e)
  mapping_is_flat ts t e =
      front_is_flat (key_text types ts e.0) (value_text types t e.1) (key_is_flat ts e.0) (value_is_flat t e.1)

  pub table_is_flat : (ts : List Ty) (t : Ty) (u : Table) → IsFlat (table_text types ts t u)
  table_is_flat ts t u =
      let entries = flat_map (mapping_text types ts t) u.entries in
      let default = default_text (value_text types t u.default) in
      opened_is_flat (entries ++ default)
      (append_is_flat entries default (each_is_flat (mapping_text types ts t) (mapping_is_flat ts t) u.entries) (default_is_flat (value_text types t u.default) (value_is_flat t u.default)))

-- ---- causes, and what is kept

operator_is_flat : (o : Op) → IsFlat (operator_text o)
operator_is_flat Plus = word_is_flat (codes "+") refl
operator_is_flat Minus = word_is_flat (codes "-") refl
operator_is_flat Times = word_is_flat (codes "*") refl
operator_is_flat Negate = word_is_flat (codes "neg") refl

operation_is_flat : (o : OutOfRange) → IsFlat (operation_text o)
operation_is_flat o =
    append_is_flat (((operator_text o.op ++ codes " ") ++ signed_decimal o.a) ++ codes " ") (signed_decimal o.b)
    (behind_is_flat ((operator_text o.op ++ codes " ") ++ signed_decimal o.a) (codes " ")
    (append_is_flat (operator_text o.op ++ codes " ") (signed_decimal o.a) (behind_is_flat (operator_text o.op) (codes " ") (operator_is_flat o.op) refl) (signed_is_flat o.a)) refl)
    (signed_is_flat o.b)

pub why_is_flat : (why : Why) → IsFlat (why_text why)
why_is_flat (Nodes n) = word_is_flat (codes "nodes") refl
why_is_flat (Rows n) = word_is_flat (codes "rows") refl
why_is_flat (Range o) = word_is_flat (codes "range") refl

pub kept_is_flat : (why : Why) → IsFlat (kept_text why)
kept_is_flat (Nodes n) = decimal_is_flat n
kept_is_flat (Rows n) = decimal_is_flat n
kept_is_flat (Range o) = operation_is_flat o
