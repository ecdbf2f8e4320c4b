-- Values are read back from bytes: what is read is the text of a value that has one, and as many brackets as bytes are enough.
use Rattle.std.proofs.Common.{◌≡◌, ⊎_elim, ℕ, zero, suc, ◌+◌, ◌<◌, Bool, true, not, List, [], ◌∷◌, ◌++◌, length, map, take, drop, Option, Some, None, codes, refl, ap, sym, subst, ◌∙◌, arith}
use Rattle.std.proofs.lemmas.List.{take-append-drop}
use Rattle.std.specs.List.{list_all}
use Rattle.bg_certtext.specs.Views.{PartOf, ValueOf, Default, with_slots}
use Rattle.bg_certtext.specs.Spellable.{is_empty, is_part, is_index, is_value, are_slots}
use Rattle.bg_certtext.specs.Lines.{commas}
use Rattle.bg_certtext.specs.Texts.{part_word, index_word, value_text}
use Rattle.bg_certtext.specs.Words.{parts_of, word_in, value_end}
use Rattle.bg_certtext.specs.Machine.{then_, part_in, value_in, index_in, behind, Got, either, index_from, plain_from, RowsOf, default_from, row_from, rows_from, map_of, value_from, value_at}
use Rattle.bg_certtext.specs.Got.{slots_at}
use Rattle.bg_certtext.proofs.ReadsOptions.{then_made, when_made, same_some, all_of}
use Rattle.bg_certtext.proofs.ReadsRows.{behind_back, behind_length, either_made, either_alike, then_alike, Cuts, AreRows, rows_back, rows_alike, row_short}
use Rattle.bg_certtext.proofs.ReadsPlain.{part_back, plain_back}
use Rattle.bg_certtext.proofs.Commas.{commas_parts, Filled, filled}
use Rattle.bg_certtext.proofs.Items.{map_good, map_text}

-- ---- indices

abbrev AreParts : List (List ℕ) → List PartOf → Type 0
AreParts ws ps = (ws ≡ map part_word ps) × (list_all is_part ps ≡ true)

index_in_back : (ws : List (List ℕ)) (ps : List PartOf) → index_in ws ≡ Some ps → AreParts ws ps
index_in_back [] ps h = subst (AreParts []) (same_some [] ps h) (refl, refl)
index_in_back (w ∷ ws) ps h =
    let (p, e, k) = then_made (part_in w) (λ (p : PartOf). then_ (index_in ws) (λ ps. Some (p ∷ ps))) ps h in
    let (more, f, g) = then_made (index_in ws) (λ (ps : List PartOf). Some (p ∷ ps)) ps k in
    let a = part_back w p e in
    let b = index_in_back ws more f in
    subst (AreParts (w ∷ ws)) (same_some (p ∷ more) ps g) (let spelt : w ∷ ws ≡ part_word p ∷ map part_word more = cc (a.0, b.0) in spelt, all_of (is_part p) (list_all is_part more) a.1 b.1)

some_part : (ws : List (List ℕ)) (ps : List PartOf) → Filled ws → ws ≡ map part_word ps → not (is_empty ps) ≡ true
some_part ws [] f h = absurd (let bad : f.first ∷ f.others ≡ [] = sym f.is ∙ h in let no : ⊥ = cc in no)
some_part ws (p ∷ ps) f h = refl

pub index_cuts : Cuts index_from index_word is_index
index_cuts bs p h =
    let n = word_in bs in
    let w = take n bs in
    let (k, e, g) = then_made (index_in (parts_of w)) (λ (k : List PartOf). let made : List PartOf × List ℕ = (k, drop n bs) in Some made) p h in
    let made : List PartOf × List ℕ = (k, drop n bs) in
    let a = index_in_back (parts_of w) k e in
    let spelt : w ≡ index_word k = sym (commas_parts w) ∙ ap commas a.0 in
    let P : List PartOf × List ℕ → Type 0 = λ p. (bs ≡ index_word p.0 ++ p.1) × (is_index p.0 ≡ true) in
    subst P (same_some made p g) (sym (take-append-drop n bs) ∙ ap (λ (x : List ℕ). x ++ drop n bs) spelt, all_of (not (is_empty k)) (list_all is_part k) (some_part (parts_of w) k (filled w) a.0) a.1)

pub plain_cuts : Cuts plain_from value_text is_value
plain_cuts bs p h =
    let n = value_end bs in
    let w = take n bs in
    let (v, e, g) = then_made (value_in w) (λ (v : ValueOf). let made : ValueOf × List ℕ = (v, drop n bs) in Some made) p h in
    let made : ValueOf × List ℕ = (v, drop n bs) in
    let a = plain_back w v e in
    let P : ValueOf × List ℕ → Type 0 = λ p. (bs ≡ value_text p.0 ++ p.1) × (is_value p.0 ≡ true) in
    subst P (same_some made p g) (sym (take-append-drop n bs) ∙ ap (λ (x : List ℕ). x ++ drop n bs) a.0, a.1)

-- ---- values

abbrev IsRead : List ℕ → ValueOf × List ℕ → Type 0
IsRead bs p = (bs ≡ value_text p.0 ++ p.1) × (is_value p.0 ≡ true)

map_cuts : (bs r : List ℕ) (s : RowsOf (List PartOf)) (p : ValueOf × List ℕ) → behind (codes "[") bs ≡ Some r → AreRows index_from index_word is_index index_cuts r s → map_of s ≡ Some p → IsRead bs p
map_cuts bs r s p hr rows h =
    let made : ValueOf × List ℕ = (with_slots s.entries (Default s.default), s.rest) in
    let w = when_made (are_slots None s.default s.entries) made p h in
    subst (IsRead bs) w.1
    (behind_back (codes "[") bs r hr ∙ ap (λ (x : List ℕ). codes "[" ++ x) rows.0 ∙ ap (λ (x : List ℕ). x ++ s.rest) (sym (map_text s.entries s.default)), map_good None s.entries s.default rows.1 rows.2 w.0)

pub value_cuts : (n : ℕ) → Cuts (value_from n) value_text is_value
value_cuts zero bs p h = absurd (cc)
value_cuts (suc n) bs p h =
    ⊎_elim
    (λ q.
    let (s, hs, h1) = then_made (rows_from index_from (value_from n) n q.0) map_of p q.2 in
    map_cuts bs q.0 s p q.1 (rows_back index_from index_word is_index index_cuts (value_from n) (value_cuts n) n q.0 s hs) h1)
    (λ q. plain_cuts bs p q.1)
    (either_made (behind (codes "[") bs) _ (plain_from bs) p h)

pub value_at_cuts : Cuts value_at value_text is_value
value_at_cuts bs p h = value_cuts (suc (length bs)) bs p h

-- ---- as many brackets as bytes are enough

pub value_alike : (n m : ℕ) (bs : List ℕ) → length bs < n → length bs < m → value_from n bs ≡ value_from m bs
value_alike zero m bs a b = absurd (omega (arith, a))
value_alike (suc n) zero bs a b = absurd (omega (arith, b))
value_alike (suc n) (suc m) bs a b =
    either_alike (behind (codes "[") bs) _ _ (plain_from bs) (plain_from bs)
    (λ r hr.
    let less : length bs ≡ 1 + length r = behind_length (codes "[") bs r hr in
    ap (λ (o : Option (RowsOf (List PartOf))). then_ o map_of)
    (rows_alike index_from index_word is_index index_cuts (value_from n) (value_cuts n) (value_from m) (suc (length r)) (λ cs l. value_alike n m cs (omega (arith, a, less, l)) (omega (arith, b, less, l))) n m r (omega arith) (omega (arith, a, less)) (omega (arith, b, less))))
    refl

-- what a value is read by, bracket by bracket
pub value_step : (bs : List ℕ) → value_at bs ≡ either (behind (codes "[") bs) (λ r. then_ (slots_at r) map_of) (plain_from bs)
value_step bs =
    let n = length bs in
    either_alike (behind (codes "[") bs) _ _ (plain_from bs) (plain_from bs)
    (λ r hr.
    let less : length bs ≡ 1 + length r = behind_length (codes "[") bs r hr in
    ap (λ (o : Option (RowsOf (List PartOf))). then_ o map_of)
    (rows_alike index_from index_word is_index index_cuts (value_from n) (value_cuts n) value_at (suc (length r)) (λ cs l. value_alike n (suc (length cs)) cs (omega (arith, less, l)) (omega arith)) n (suc (length r)) r (omega arith) (omega (arith, less)) (omega arith)))
    refl

-- and a table row by row
module _ {K : Type 0} (key : List ℕ → Got K) (kt : K → List ℕ) (kg : K → Bool) (cut_key : Cuts key kt kg) where
  abbrev pub table_rows : List ℕ → Option (RowsOf K)
  table_rows bs = rows_from key value_at (suc (length bs)) bs

  pub rows_step : (bs : List ℕ) → table_rows bs ≡ either (behind (codes "else ") bs) (default_from key value_at) (then_ (row_from key value_at bs) (λ e. then_ (table_rows e.1) (λ (t : RowsOf K). Some (record t { entries = e.0 ∷ t.entries }))))
  rows_step bs =
      either_alike (behind (codes "else ") bs) (default_from key value_at) (default_from key value_at) _ _ (λ r hr. refl)
      (then_alike (row_from key value_at bs) _ _
      (λ e he.
      let less : length e.1 < length bs = row_short key kt kg cut_key value_at value_at_cuts bs e he in
      ap (λ (o : Option (RowsOf K)). then_ o (λ t. let more : RowsOf K = record t { entries = e.0 ∷ t.entries } in Some more))
      (rows_alike key kt kg cut_key value_at value_at_cuts value_at (suc (length e.1)) (λ cs l. refl) (length bs) (suc (length e.1)) e.1 (omega arith) less (omega arith))))
