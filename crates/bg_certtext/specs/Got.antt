-- How what is read from bytes is seen.
use Rattle.std.specs.Prelude.{ℕ, suc, List, [], ◌++◌, length, map, Option, Some, Vec}
use Rattle.std.specs.declared.alloc.Global.{Global}
use denote.Bor.{Bor}
use Rattle.bg_certtext.specs.declared.text.Part.{Part}
use Rattle.bg_certtext.specs.declared.text.Value.{Value}
use Rattle.bg_certtext.specs.declared.text.Slot as kept
use Rattle.bg_certtext.specs.declared.text.Entry.{Entry}
use Rattle.bg_certtext.specs.Views.{PartOf, part_of, ValueOf, value_of, Item, slot_of, EntryOf, entry_of}
use Rattle.bg_certtext.specs.Machine.{then_, RowsOf, index_from, value_at, rows_from, key_at}

abbrev pub value_got : Value × Bor (List ℕ) → ValueOf × List ℕ
value_got p = (value_of p.0, p.1.now)

abbrev pub index_got : Vec Part Global × Bor (List ℕ) → List PartOf × List ℕ
index_got p = (map part_of p.0.items, p.1.now)

abbrev pub key_got : Vec Value Global × Bor (List ℕ) → List ValueOf × List ℕ
key_got p = (map value_of p.0.items, p.1.now)

abbrev pub slot_got : kept.Slot × Bor (List ℕ) → Item × List ℕ
slot_got p = (slot_of p.0, p.1.now)

-- a table's entry as its key and value
abbrev pub pair_of : EntryOf → List ValueOf × ValueOf
pair_of e = (e.key, e.value)

abbrev pub entry_got : Entry × Bor (List ℕ) → (List ValueOf × ValueOf) × List ℕ
entry_got p = (pair_of (entry_of p.0), p.1.now)

-- a default alone
abbrev pub default_got : {K : Type 0} → Value × Bor (List ℕ) → RowsOf K
default_got p = record { entries = []; default = value_of p.0; rest = p.1.now }

-- rows behind those that are read already
abbrev pub prefix : {K : Type 0} → List (K × ValueOf) → Option (RowsOf K) → Option (RowsOf K)
prefix {K = K} es o = then_ o (λ (s : RowsOf K). Some (record s { entries = es ++ s.entries }))

-- the rows of a map behind its bracket, and of a function's table
abbrev pub slots_at : List ℕ → Option (RowsOf (List PartOf))
slots_at bs = rows_from index_from value_at (suc (length bs)) bs

abbrev pub entries_at : List ℕ → Option (RowsOf (List ValueOf))
entries_at bs = rows_from key_at value_at (suc (length bs)) bs

abbrev pub pairs_of : List Entry → List (List ValueOf × ValueOf)
pairs_of es = map (λ e. pair_of (entry_of e)) es

abbrev pub table_got : Vec Entry Global × Value × Bor (List ℕ) → RowsOf (List ValueOf)
table_got t = record { entries = pairs_of t.0.items; default = value_of t.1; rest = t.2.now }
