-- Rows that are equal.
use Rattle.std.proofs.Common.{◌≡◌, ℕ, true, List, [], ◌∷◌, ℤ, refl, arith}
use Rattle.std.specs.Prelude.{◌&&◌, ◌==◌}
use Rattle.std.specs.Ordering.{int_eq}
use Rattle.std.proofs.lemmas.Int.{ints}
use Rattle.std.proofs.lemmas.Bool.Decides.{nat_tests}
use Rattle.bg_rows.specs.declared.entry.Entry.{Entry}
use Rattle.bg_rows.specs.Rows.{RowOf}
use Rattle.bg_formula.specs.Atoms.{entries_eq, row_eq}
use Rattle.bg_formed.proofs.Below.{and_left, and_right}

same_number : (x y : ℕ) → (x == y) ≡ true → x ≡ y
same_number x y h = grind (arith, nat_tests)

same_whole : (x y : ℤ) → int_eq x y ≡ true → x ≡ y
same_whole x y h = grind (arith, ints)

same_entry : (t u : Entry) → t.variable ≡ u.variable → t.by ≡ u.by → t ≡ u
same_entry t u h k = λ i. record { variable = h i; by = k i }

pub same_entries : (ts us : List Entry) → entries_eq ts us ≡ true → ts ≡ us
same_entries [] [] h = refl
same_entries [] (u ∷ us) h = absurd (let bad : ⊥ = cc in bad)
same_entries (t ∷ ts) [] h = absurd (let bad : ⊥ = cc in bad)
same_entries (t ∷ ts) (u ∷ us) h =
    let more = and_right (t.variable == u.variable) (int_eq t.by u.by && entries_eq ts us) h in
    let first = same_entry t u (same_number t.variable u.variable (and_left (t.variable == u.variable) (int_eq t.by u.by && entries_eq ts us) h)) (same_whole t.by u.by (and_left (int_eq t.by u.by) (entries_eq ts us) more)) in
    let rest = same_entries ts us (and_right (int_eq t.by u.by) (entries_eq ts us) more) in
    λ i. first i ∷ rest i

pub same_rows : (r s : RowOf) → row_eq r s ≡ true → r ≡ s
same_rows r s h =
    let e = same_entries r.entries s.entries (and_left (entries_eq r.entries s.entries) (int_eq r.bound s.bound) h) in
    let b = same_whole r.bound s.bound (and_right (entries_eq r.entries s.entries) (int_eq r.bound s.bound) h) in
    λ i. record { entries = e i; bound = b i }
