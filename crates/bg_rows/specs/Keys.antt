-- Rows as keys of an ordered map.
use Rattle.std.specs.Prelude.{ℕ, ℤ, List, map}
use Rattle.std.specs.declared.cmp.Ordering.{Ordering}
use Rattle.std.specs.Ordering.{nat_cmp, int_cmp, ordering_then}
use Rattle.std.specs.Cmp.Lexicographic.{slice_cmp}
use Rattle.bg_rows.specs.declared.entry.Entry.{Entry}
use Rattle.bg_rows.specs.Rows.{RowOf}

-- variables with their coefficients, and a bound
abbrev pub KeyOf : Type 0
KeyOf = List (ℕ × ℤ) × ℤ

abbrev pub pair_cmp : ℕ × ℤ → ℕ × ℤ → Ordering
pair_cmp p q = ordering_then (nat_cmp p.0 q.0) (int_cmp p.1 q.1)

-- by the entries, then by the bound
abbrev pub key_cmp : KeyOf → KeyOf → Ordering
key_cmp x y = ordering_then (slice_cmp pair_cmp x.0 y.0) (int_cmp x.1 y.1)

abbrev pub pairs_of : List Entry → List (ℕ × ℤ)
pairs_of ts = map (λ t. (t.variable, t.by)) ts

-- the key of a row
abbrev pub key_of : RowOf → KeyOf
key_of r = (pairs_of r.entries, r.bound)
