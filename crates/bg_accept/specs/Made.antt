-- What is made of a section's table for clauses over so many terms; nothing where no certificate with it is accepted.
use Rattle.std.specs.Prelude.{◌≡◌, ℕ, false, List, map, Option, Some, None, Ok, Vec}
use Rattle.std.specs.declared.alloc.Global.{Global}
use Rattle.bg_rows.specs.declared.entry.Entry.{Entry}
use Rattle.bg_rows.specs.declared.row.Row.{Row}
use Rattle.bg_rows.specs.Rows as rows
use Rattle.bg_formula.specs.declared.atom.Linear.{Linear}
use Rattle.bg_formula.specs.Atoms.{AtomOf, view_linear, row_and_denial}
use Rattle.bg_formula.specs.Formulas.{entries_below, atom_below, rows_below}
use Rattle.bg_certtext.specs.declared.text.Term.{Term}
use Rattle.bg_certtext.specs.Views.{RowOf}
use Rattle.bg_accept.specs.Sections.{row_in, table_in}

abbrev pub entry_of : Term → Entry
entry_of t = rows.entry t.term t.by

abbrev pub AreEntries : ℕ → List Term → Option (Vec Entry Global) → Type 0
AreEntries terms ts (Some v) = v.items ≡ map entry_of ts
AreEntries terms ts None = entries_below terms (map entry_of ts) ≡ false

abbrev pub IsRowMade : ℕ → RowOf → Option Row → Type 0
IsRowMade terms r (Some made) = rows.row_of made ≡ row_in r
IsRowMade terms r None = entries_below terms (row_in r).entries ≡ false

abbrev pub IsAtom : ℕ → RowOf → Option Linear → Type 0
IsAtom terms r (Some made) = row_and_denial (row_in r) ≡ Ok (view_linear made)
IsAtom terms r None = (a : AtomOf) → row_and_denial (row_in r) ≡ Ok a → atom_below terms a ≡ false

abbrev pub IsTable : ℕ → List RowOf → Option (Vec Linear Global) → Type 0
IsTable terms rs (Some made) = table_in rs ≡ Ok (map view_linear made.items)
IsTable terms rs None = (t : List AtomOf) → table_in rs ≡ Ok t → rows_below terms t ≡ false
