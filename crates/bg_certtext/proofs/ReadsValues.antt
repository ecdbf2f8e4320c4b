-- The text of a value, and of a function's table, is read as that value and table.
use Rattle.std.proofs.Common.{◌≡◌, ℕ, suc, ◌==◌, Bool, true, false, not, if◌then◌else◌, List, [], ◌∷◌, ◌++◌, length, map, flat_map, take, drop, Option, Some, None, codes, refl, ap, sym, ◌∙◌}
use Rattle.std.specs.List.{list_all}
use Rattle.bg_base.specs.Exact.{fits}
use Rattle.bg_text.specs.Pieces.{is_digit}
use Rattle.bg_certtext.specs.Views.{PartOf, AtNumber, AtElement, ValueOf, Truth, Number, Element, Default, Slot, with_slots}
use Rattle.bg_certtext.specs.Spellable.{is_empty, is_type, is_part, is_index, is_value, default_of, comes_before}
use Rattle.bg_certtext.specs.Lines.{behind_comma}
use Rattle.bg_certtext.specs.Texts.{part_word, index_word, row_text, default_text, value_text, inside_text}
use Rattle.bg_certtext.specs.Words.{is_in_word, is_in_part, is_in_type, is_in_value, parts_of}
use Rattle.bg_certtext.specs.Machine.{then_, when, value_in, index_in, behind, Got, either, index_from, plain_from, RowsOf, default_from, row_from, map_of, value_from, value_at}
use Rattle.bg_certtext.specs.Got.{slots_at}
use Rattle.bg_certtext.proofs.ReadsOptions.{both, all_of}
use Rattle.bg_certtext.proofs.ReadsBytes.{Stops, front_length, take_front, drop_front, all_append, all_weaker}
use Rattle.bg_certtext.proofs.ReadsRows.{behind_back, Cuts, row_joined, default_joined}
use Rattle.bg_certtext.proofs.ReadsPlain.{part_read, plain_read}
use Rattle.bg_certtext.proofs.ReadsFuel.{index_cuts, value_step, table_rows, rows_step}
use Rattle.bg_certtext.proofs.Late.{is_spelt, truths_spelt, number_spelt, element_spelt, spelt_value, spelt_word, spelt_part}
use Rattle.bg_certtext.proofs.Apart.{parts_of_commas}
use Rattle.bg_certtext.proofs.Orders.{IsPlain}
use Rattle.bg_certtext.proofs.Items.{IsMap, behind_map, slots_of, slots_whole, parts_of_map}

-- ---- values that are no maps

pub plain_spelt : (v : ValueOf) → IsPlain v → is_value v ≡ true → list_all is_spelt (value_text v) ≡ true
plain_spelt (Truth true) i h = truths_spelt.0
plain_spelt (Truth false) i h = truths_spelt.1
plain_spelt (Number k) i h = number_spelt k h
plain_spelt (Element t k) i h = let p = both (is_type t) (fits k) h in element_spelt t k p.0 p.1
plain_spelt (Default d) i h = absurd i
plain_spelt (Slot k v m) i h = absurd i

abbrev cut_plain : List ℕ → ℕ → Got ValueOf
cut_plain bs n = then_ (value_in (take n bs)) (λ v. Some (v, drop n bs))

plain_from_read : (v : ValueOf) (rest : List ℕ) → IsPlain v → is_value v ≡ true → Stops is_in_value rest → plain_from (value_text v ++ rest) ≡ Some (v, rest)
plain_from_read v rest i h k =
    let w = value_text v in
    let got : List ℕ → Option ValueOf → Got ValueOf = λ r o. then_ o (λ v. Some (v, r)) in
    ap (cut_plain (w ++ rest)) (front_length is_in_value w rest (all_weaker is_spelt is_in_value spelt_value w (plain_spelt v i h)) k)
    ∙ (ap (λ (u : List ℕ). got (drop (length w) (w ++ rest)) (value_in u)) (take_front w rest)
    ∙ (ap (got (drop (length w) (w ++ rest))) (plain_read v i h)
    ∙ ap (λ (r : List ℕ). let made : ValueOf × List ℕ = (v, r) in Some made) (drop_front w rest)))

unlike : (t : Bool) (o : Option (List ℕ)) → not t ≡ true → (if t then o else None) ≡ None
unlike true o h = absurd (let bad : ⊥ = cc in bad)
unlike false o h = refl

-- a word that isn't empty and has no bracket begins no map
no_bracket : (w rest : List ℕ) → list_all is_spelt w ≡ true → is_empty w ≡ false → behind (codes "[") (w ++ rest) ≡ None
no_bracket [] rest h e = absurd (let bad : ⊥ = cc in bad)
no_bracket (b ∷ bs) rest h e =
    let p = both (is_spelt b) (list_all is_spelt bs) h in
    unlike (b == 91) (Some (bs ++ rest)) (both (is_in_value b) (not (b == 91)) p.0).1

filled_by : (w : List ℕ) (v : ValueOf) → value_in w ≡ Some v → is_empty w ≡ false
filled_by [] v h = absurd (cc)
filled_by (b ∷ bs) v h = refl

pub filled_plain : (v : ValueOf) → IsPlain v → is_value v ≡ true → is_empty (value_text v) ≡ false
filled_plain v i h = filled_by (value_text v) v (plain_read v i h)

plain_value : (v : ValueOf) (rest : List ℕ) → IsPlain v → is_value v ≡ true → Stops is_in_value rest → value_at (value_text v ++ rest) ≡ Some (v, rest)
plain_value v rest i h k =
    let bs = value_text v ++ rest in
    value_step bs
    ∙ (ap (λ (o : Option (List ℕ)). either o (λ r. then_ (slots_at r) map_of) (plain_from bs)) (no_bracket (value_text v) rest (plain_spelt v i h) (filled_plain v i h))
    ∙ plain_from_read v rest i h k)

-- ---- indices

part_spelt : (p : PartOf) → is_part p ≡ true → list_all is_spelt (part_word p) ≡ true
part_spelt (AtNumber k) h = number_spelt k h
part_spelt (AtElement t k) h = let p = both (is_type t) (fits k) h in element_spelt t k p.0 p.1

parts_inside : (ps : List PartOf) → list_all is_part ps ≡ true → list_all (list_all is_in_part) (map part_word ps) ≡ true
parts_inside [] h = refl
parts_inside (p ∷ ps) h =
    let q = both (is_part p) (list_all is_part ps) h in
    all_of (list_all is_in_part (part_word p)) (list_all (list_all is_in_part) (map part_word ps)) (all_weaker is_spelt is_in_part spelt_part (part_word p) (part_spelt p q.0)) (parts_inside ps q.1)

comma_inside : is_in_word 44 ≡ true
unfolding is_in_word
comma_inside = refl

others_inside : (ps : List PartOf) → list_all is_part ps ≡ true → list_all is_in_word (flat_map behind_comma (map part_word ps)) ≡ true
others_inside [] h = refl
others_inside (p ∷ ps) h =
    let q = both (is_part p) (list_all is_part ps) h in
    let rest = flat_map behind_comma (map part_word ps) in
    all_of (is_in_word 44) (list_all is_in_word (part_word p ++ rest)) comma_inside (all_append is_in_word (part_word p) rest (all_weaker is_spelt is_in_word spelt_word (part_word p) (part_spelt p q.0)) (others_inside ps q.1))

index_inside : (ps : List PartOf) → list_all is_part ps ≡ true → list_all is_in_word (index_word ps) ≡ true
index_inside [] h = refl
index_inside (p ∷ ps) h =
    let q = both (is_part p) (list_all is_part ps) h in
    all_append is_in_word (part_word p) (flat_map behind_comma (map part_word ps)) (all_weaker is_spelt is_in_word spelt_word (part_word p) (part_spelt p q.0)) (others_inside ps q.1)

parts_read : (ps : List PartOf) → list_all is_part ps ≡ true → index_in (map part_word ps) ≡ Some ps
parts_read [] h = refl
parts_read (p ∷ ps) h = let q = both (is_part p) (list_all is_part ps) h in rw (part_read p q.0, parts_read ps q.1) refl

index_parts : (ps : List PartOf) → is_index ps ≡ true → index_in (parts_of (index_word ps)) ≡ Some ps
index_parts [] h = absurd (let bad : ⊥ = cc in bad)
index_parts (p ∷ ps) h =
    let q = both (is_part p) (list_all is_part ps) h in
    ap index_in (parts_of_commas (part_word p) (map part_word ps) (all_weaker is_spelt is_in_part spelt_part (part_word p) (part_spelt p q.0)) (parts_inside ps q.1)) ∙ parts_read (p ∷ ps) h

abbrev cut_index : List ℕ → ℕ → Got (List PartOf)
cut_index bs n = then_ (index_in (parts_of (take n bs))) (λ k. Some (k, drop n bs))

space_stops : (rest : List ℕ) → Stops is_in_word (32 ∷ rest)
unfolding is_in_word
space_stops rest = refl

index_read : (k : List PartOf) (rest : List ℕ) → is_index k ≡ true → index_from (index_word k ++ 32 ∷ rest) ≡ Some (k, 32 ∷ rest)
index_read k rest h =
    let w = index_word k in
    let got : List ℕ → Option (List PartOf) → Got (List PartOf) = λ r o. then_ o (λ k. Some (k, r)) in
    ap (cut_index (w ++ 32 ∷ rest)) (front_length is_in_word w (32 ∷ rest) (index_inside k (both (not (is_empty k)) (list_all is_part k) h).1) (space_stops rest))
    ∙ (ap (λ (u : List ℕ). got (drop (length w) (w ++ 32 ∷ rest)) (index_in (parts_of u))) (take_front w (32 ∷ rest))
    ∙ (ap (got (drop (length w) (w ++ 32 ∷ rest))) (index_parts k h)
    ∙ ap (λ (r : List ℕ). let made : List PartOf × List ℕ = (k, r) in Some made) (drop_front w (32 ∷ rest))))

-- ---- rows

else_is_no_index : (r : List ℕ) → index_from (codes "else " ++ r) ≡ None
unfolding is_in_word is_in_type is_digit
else_is_no_index r = refl

pub else_is_no_value : (n : ℕ) (r : List ℕ) → value_from (suc n) (codes "else " ++ r) ≡ None
unfolding is_in_value is_in_type is_digit
else_is_no_value n r = refl

-- what a key is read from doesn't begin with the word in front of a default
apart_by : {K : Type 0} (key : List ℕ → Got K) (bs : List ℕ) (p : K × List ℕ) (o : Option (List ℕ)) → ((r : List ℕ) → key (codes "else " ++ r) ≡ None) → key bs ≡ Some p → behind (codes "else ") bs ≡ o → o ≡ None
apart_by key bs p None f h e = refl
apart_by key bs p (Some r) f h e =
    let clash : None ≡ Some p = sym (f r) ∙ (ap key (sym (behind_back (codes "else ") bs r e)) ∙ h) in
    absurd (let bad : ⊥ = cc in bad)

module _ {K : Type 0} (key : List ℕ → Got K) (kt : K → List ℕ) (kg : K → Bool) (cut_key : Cuts key kt kg) (no_else : (r : List ℕ) → key (codes "else " ++ r) ≡ None) where
  row_read : (k : K) (v : ValueOf) (x : List ℕ) → key (row_text (kt k) (value_text v) x) ≡ Some (k, codes " := " ++ (value_text v ++ (codes ", " ++ x))) → value_at (value_text v ++ (codes ", " ++ x)) ≡ Some (v, codes ", " ++ x) → row_from key value_at (row_text (kt k) (value_text v) x) ≡ Some ((k, v), x)
  row_read k v x h g = rw (h, g) refl

  pub rows_more : (k : K) (v : ValueOf) (x : List ℕ) (t : RowsOf K) → key (row_text (kt k) (value_text v) x) ≡ Some (k, codes " := " ++ (value_text v ++ (codes ", " ++ x))) → value_at (value_text v ++ (codes ", " ++ x)) ≡ Some (v, codes ", " ++ x) → table_rows key kt kg cut_key x ≡ Some t →
      table_rows key kt kg cut_key (row_text (kt k) (value_text v) x) ≡ Some (record t { entries = (k, v) ∷ t.entries })
  rows_more k v x t h g e =
      let bs = row_text (kt k) (value_text v) x in
      let with_row : K × ValueOf → Option (RowsOf K) → Option (RowsOf K) = λ r o. then_ o (λ t. let more : RowsOf K = record t { entries = r ∷ t.entries } in Some more) in
      let others : Option (RowsOf K) = then_ (row_from key value_at bs) (λ r. with_row r.0 (table_rows key kt kg cut_key r.1)) in
      rows_step key kt kg cut_key bs
      ∙ (ap (λ (o : Option (List ℕ)). either o (default_from key value_at) others) (apart_by key bs (k, codes " := " ++ (value_text v ++ (codes ", " ++ x))) (behind (codes "else ") bs) no_else h refl)
      ∙ (ap (λ (o : Got (K × ValueOf)). then_ o (λ r. with_row r.0 (table_rows key kt kg cut_key r.1))) (row_read k v x h g)
      ∙ ap (with_row (k, v)) e))

  pub rows_last : (d : ValueOf) (rest : List ℕ) → value_at (value_text d ++ (codes "]" ++ rest)) ≡ Some (d, codes "]" ++ rest) → table_rows key kt kg cut_key (default_text (value_text d) ++ rest) ≡ Some (record { entries = []; default = d; rest = rest })
  rows_last d rest h =
      ap (table_rows key kt kg cut_key) (sym (default_joined (value_text d) rest))
      ∙ (rows_step key kt kg cut_key (codes "else " ++ (value_text d ++ (codes "]" ++ rest)))
      ∙ ap (λ (o : Got ValueOf). then_ o (λ d. then_ (behind (codes "]") d.1) (λ q. let made : RowsOf K = record { entries = []; default = d.0; rest = q } in Some made))) h)

-- ---- maps

pub comma_stops : (rest : List ℕ) → Stops is_in_value (codes ", " ++ rest)
unfolding is_in_value
comma_stops rest = refl

pub bracket_stops : (rest : List ℕ) → Stops is_in_value (codes "]" ++ rest)
unfolding is_in_value
bracket_stops rest = refl

abbrev rows_of : ValueOf → List ℕ → RowsOf (List PartOf)
rows_of m rest = record { entries = slots_of m; default = default_of m; rest = rest }

abbrev ReadsValue : ValueOf → Type 0
ReadsValue v = (rest : List ℕ) → Stops is_in_value rest → value_at (value_text v ++ rest) ≡ Some (v, rest)

abbrev ReadsInside : ValueOf → Type 0
ReadsInside m = (rest : List ℕ) → slots_at (inside_text m ++ rest) ≡ Some (rows_of m rest)

slot_inside : (k : List PartOf) (v m : ValueOf) → is_index k ≡ true → ReadsValue v → ReadsInside m → (rest : List ℕ) → slots_at (row_text (index_word k) (value_text v) (inside_text m) ++ rest) ≡ Some (rows_of (Slot k v m) rest)
slot_inside k v m i on more rest =
    let x = inside_text m ++ rest in
    ap slots_at (sym (row_joined (index_word k) (value_text v) (inside_text m) rest))
    ∙ rows_more index_from index_word is_index index_cuts else_is_no_index k v x (rows_of m rest) (index_read k (codes ":= " ++ (value_text v ++ (codes ", " ++ x))) i) (on (codes ", " ++ x) (comma_stops x)) (more rest)

last_inside : (d : ValueOf) → ReadsValue d → (rest : List ℕ) → slots_at (default_text (value_text d) ++ rest) ≡ Some (rows_of (Default d) rest)
last_inside d on rest = rows_last index_from index_word is_index index_cuts else_is_no_index d rest (on (codes "]" ++ rest) (bracket_stops rest))

-- a map whose slots and default are read is read
map_read : (v : ValueOf) (rest : List ℕ) → IsMap v → is_value v ≡ true → map_of (rows_of v rest) ≡ Some (v, rest)
map_read v rest i h =
    let whole = slots_whole v i h in
    let p = parts_of_map (slots_of v) (default_of v) (ap is_value whole ∙ h) in
    ap (λ (b : Bool). let made : ValueOf × List ℕ = (with_slots (slots_of v) (Default (default_of v)), rest) in when b made) p.slots
    ∙ ap (λ (m : ValueOf). let made : ValueOf × List ℕ = (m, rest) in Some made) whole

mutual
  pub value_read : (v : ValueOf) → is_value v ≡ true → ReadsValue v
  value_read (Truth b) h rest k = plain_value (Truth b) rest tt h k
  value_read (Number z) h rest k = plain_value (Number z) rest tt h k
  value_read (Element t z) h rest k = plain_value (Element t z) rest tt h k
  value_read (Default d) h rest k =
      value_step (value_text (Default d) ++ rest)
      ∙ (ap (λ (o : Option (RowsOf (List PartOf))). then_ o map_of) (last_inside d (value_read d h) rest) ∙ map_read (Default d) rest tt h)
  value_read (Slot k v m) h rest s =
      let h1 = both (is_index k) _ h in
      let h2 = both (is_value v) _ h1.1 in
      let h3 = both (is_value m) _ h2.1 in
      let h4 = both (comes_before k m) _ h3.1 in
      value_step (value_text (Slot k v m) ++ rest)
      ∙ (ap (λ (o : Option (RowsOf (List PartOf))). then_ o map_of) (slot_inside k v m h1.0 (value_read v h2.0) (inside_read m (behind_map k m h4.0) h3.0) rest) ∙ map_read (Slot k v m) rest tt h)

  inside_read : (m : ValueOf) → IsMap m → is_value m ≡ true → ReadsInside m
  inside_read (Truth b) i h rest = absurd i
  inside_read (Number z) i h rest = absurd i
  inside_read (Element t z) i h rest = absurd i
  inside_read (Default d) i h rest = last_inside d (value_read d h) rest
  inside_read (Slot k v m) i h rest =
      let h1 = both (is_index k) _ h in
      let h2 = both (is_value v) _ h1.1 in
      let h3 = both (is_value m) _ h2.1 in
      let h4 = both (comes_before k m) _ h3.1 in
      slot_inside k v m h1.0 (value_read v h2.0) (inside_read m (behind_map k m h4.0) h3.0) rest
