-- The rows of a section's table.
use Rattle.std.proofs.Common.{◌≡◌, ℕ, zero, suc, ◌+◌, ◌<◌, ◌≤◌, Bool, true, false, not, ◌&&◌, List, [], ◌∷◌, ◌++◌, length, drop, map, get_or, ℤ, pos, negsuc, Ok, Err, refl, sym, ap, ◌∙◌, arith}
use Rattle.std.specs.Prelude.{Result, nat_lt, nat_le, Option, Some, None, Vec}
use Rattle.std.specs.declared.alloc.Global.{Global}
use Rattle.std.specs.List.{list_all}
use Rattle.std.proofs.lemmas.Bool.Decides.{nat_tests}
use Rattle.bg_base.specs.declared.exact.OutOfRange.{OutOfRange}
use Rattle.bg_rows.specs.declared.entry.Entry.{Entry}
use Rattle.bg_rows.specs.Entries.{is_zero, rising}
use Rattle.bg_rows.specs.Rows as rows
use Rattle.bg_formula.specs.declared.atom.Linear.{Linear}
use Rattle.bg_formula.specs.Atoms.{AtomOf, IsRow, row_and_denial}
use Rattle.bg_formula.specs.Formulas.{entries_below, atom_below, rows_below}
use Rattle.bg_formula.specs.Meaning.{AtomsAgree}
use Rattle.bg_sense.proofs.Bools.{and_left, and_right}
use Rattle.bg_certtext.specs.declared.text.Term.{Term}
use Rattle.bg_certtext.specs.declared.text.TextRow.{TextRow}
use Rattle.bg_certtext.specs.Views.{RowOf, row_of}
use Rattle.bg_certtext.specs.Spellable as s
use Rattle.bg_accept.specs.Sections.{row_in, table_in}
use Rattle.bg_accept.specs.Made.{entry_of, AreEntries, IsAtom}

-- ---- entries

pub past_there : (n : ℕ) (ts : List Term) (i : ℕ) (d : Term) → i < length ts → n ≤ (get_or ts i d).term → entries_below n (map entry_of ts) ≡ false
past_there n [] i d h g = absurd (omega arith)
past_there n (t ∷ ts) zero d h g = let e : nat_lt t.term n ≡ false = grind (arith, nat_tests) in ap (λ b. b && entries_below n (map entry_of ts)) e
past_there n (t ∷ ts) (suc i) d h g = by (nat_lt t.term n) (past_there n ts i d (omega arith) g)
  where
    by : (b : Bool) → entries_below n (map entry_of ts) ≡ false → (b && entries_below n (map entry_of ts)) ≡ false
    by true e = e
    by false e = refl

same_zero : (k : ℤ) → s.is_zero k ≡ is_zero k
same_zero (pos n) = refl
same_zero (negsuc n) = refl

pub rises : (low : ℕ) (ts : List Term) → s.are_terms low ts ≡ true → rising low (map entry_of ts) ≡ true
rises low [] h = refl
rises low (t ∷ ts) h =
    let a = and_left (nat_le low t.term) _ h in
    let b = and_right (s.is_number t.term) _ (and_right (nat_le low t.term) _ h) in
    let c = and_left (s.is_factor t.by) _ b in
    let d = and_left (not (s.is_zero t.by)) _ c in
    let e : not (is_zero t.by) ≡ true = ap not (sym (same_zero t.by)) ∙ d in
    let next : t.term + 1 ≡ suc t.term = omega arith in
    let f : rising (suc t.term) (map entry_of ts) ≡ true = rises (suc t.term) ts (ap (λ k. s.are_terms k ts) (sym next) ∙ and_right (s.is_factor t.by) _ b) in
    rw (a, e, f) refl

-- ---- tables

-- atoms in front of those of an answer
abbrev pub front : List AtomOf → Result (List AtomOf) OutOfRange → Result (List AtomOf) OutOfRange
front made r = rows.and_then r (λ t. Ok (made ++ t))

below_behind : (n : ℕ) (made bs : List AtomOf) (a : AtomOf) → atom_below n a ≡ false → rows_below n (made ++ (a ∷ bs)) ≡ false
below_behind n [] bs a h = ap (λ b. b && rows_below n bs) h
below_behind n (x ∷ made) bs a h = by (atom_below n x) (below_behind n made bs a h)
  where
    by : (b : Bool) → rows_below n (made ++ (a ∷ bs)) ≡ false → (b && rows_below n (made ++ (a ∷ bs))) ≡ false
    by true e = e
    by false e = refl

never : (n : ℕ) (made : List AtomOf) (r : RowOf) (rs : List RowOf) (t : List AtomOf) → ((a : AtomOf) → row_and_denial (row_in r) ≡ Ok a → atom_below n a ≡ false) → front made (table_in (r ∷ rs)) ≡ Ok t → rows_below n t ≡ false
never n made r rs t f h = by (row_and_denial (row_in r)) f h
  where
    rest : (a : AtomOf) (y : Result (List AtomOf) OutOfRange) → atom_below n a ≡ false → front made (rows.and_then y (λ bs. Ok (a ∷ bs))) ≡ Ok t → rows_below n t ≡ false
    rest a (Ok bs) g e = let is : made ++ (a ∷ bs) ≡ t = cc in ap (rows_below n) (sym is) ∙ below_behind n made bs a g
    rest a (Err o) g e = absurd (let bad : ⊥ = cc in bad)

    by : (x : Result AtomOf OutOfRange) → ((a : AtomOf) → x ≡ Ok a → atom_below n a ≡ false) → front made (rows.and_then x (λ a. rows.and_then (table_in rs) (λ bs. Ok (a ∷ bs)))) ≡ Ok t → rows_below n t ≡ false
    by (Ok a) g e = rest a (table_in rs) (g a refl) e
    by (Err o) g e = absurd (let bad : ⊥ = cc in bad)

rows_here : (ts : List TextRow) (i : ℕ) (d : TextRow) → i < length ts → map row_of (drop i ts) ≡ row_of (get_or ts i d) ∷ map row_of (drop (i + 1) ts)
rows_here [] i d h = absurd (omega arith)
rows_here (t ∷ ts) zero d h = refl
rows_here (t ∷ ts) (suc i) d h =
    let e : suc i + 1 ≡ suc (i + 1) = omega arith in
    rows_here ts i d (omega arith) ∙ ap (λ k. row_of (get_or ts i d) ∷ map row_of (drop k (t ∷ ts))) (sym e)

pub table_never : (n : ℕ) (made : List AtomOf) (ts : List TextRow) (i : ℕ) (d : TextRow) (t : List AtomOf) → i < length ts → ((a : AtomOf) → row_and_denial (row_in (row_of (get_or ts i d))) ≡ Ok a → atom_below n a ≡ false) → front made (table_in (map row_of (drop i ts))) ≡ Ok t → rows_below n t ≡ false
table_never n made ts i d t h f e =
    never n made (row_of (get_or ts i d)) (map row_of (drop (i + 1) ts)) t f (sym (ap (λ rs. front made (table_in rs)) (rows_here ts i d h)) ∙ e)

pub row_there : (ts : List TextRow) (i : ℕ) (d : TextRow) → list_all s.is_row (map row_of ts) ≡ true → i < length ts → s.is_row (row_of (get_or ts i d)) ≡ true
row_there [] i d a h = absurd (omega arith)
row_there (t ∷ ts) zero d a h = and_left (s.is_row (row_of t)) _ a
row_there (t ∷ ts) (suc i) d a h = row_there ts i d (and_right (s.is_row (row_of t)) _ a) (omega arith)

-- ---- each row of a table stands there with its denial

pub table_agrees : (rs : List RowOf) (t : List AtomOf) → table_in rs ≡ Ok t → AtomsAgree t
table_agrees [] t h = let is : [] ≡ t = cc in rw (← is) tt
table_agrees (r ∷ rs) t h = by (rows.denied (row_in r)) refl (λ bs k. table_agrees rs bs k) h
  where
    rest : (d : rows.RowOf) → rows.denied (row_in r) ≡ Ok d → (y : Result (List AtomOf) OutOfRange) → ((bs : List AtomOf) → y ≡ Ok bs → AtomsAgree bs) → rows.and_then y (λ bs. Ok (IsRow (row_in r) d ∷ bs)) ≡ Ok t → AtomsAgree t
    rest d e (Ok bs) k g = let is : IsRow (row_in r) d ∷ bs ≡ t = cc in rw (← is) (e, k bs refl)
    rest d e (Err o) k g = absurd (let bad : ⊥ = cc in bad)

    by : (x : Result rows.RowOf OutOfRange) → rows.denied (row_in r) ≡ x → ((bs : List AtomOf) → table_in rs ≡ Ok bs → AtomsAgree bs) → rows.and_then (rows.and_then x (λ d. Ok (IsRow (row_in r) d))) (λ a. rows.and_then (table_in rs) (λ bs. Ok (a ∷ bs))) ≡ Ok t → AtomsAgree t
    by (Ok d) e k g = rest d e (table_in rs) k g
    by (Err o) e k g = absurd (let bad : ⊥ = cc in bad)

-- ---- what was made

pub made_items : (n : ℕ) (ts : List Term) (x : Option (Vec Entry Global)) (v : Vec Entry Global) → AreEntries n ts x → x ≡ Some v → v.items ≡ map entry_of ts
made_items n ts (Some w) v h e = let is : w ≡ v = cc in ap (λ y. y.items) (sym is) ∙ h
made_items n ts None v h e = absurd (let bad : ⊥ = cc in bad)

pub no_atom_made : (n : ℕ) (r : RowOf) (x : Option Linear) → IsAtom n r x → x ≡ None → (a : AtomOf) → row_and_denial (row_in r) ≡ Ok a → atom_below n a ≡ false
no_atom_made n r (Some w) h e = absurd (let bad : ⊥ = cc in bad)
no_atom_made n r None h e = h
