-- How a table of rows goes on.
use Rattle.std.specs.Prelude.{◌≡◌, ℕ, List}
use Rattle.bg_formula.specs.Atoms.{AtomOf}
use Rattle.bg_atoms.specs.declared.table.Table.{Table}
use Rattle.bg_atoms.specs.Made.{rows_in}
use Rattle.bg_atoms.specs.Tables.{IsTable}

-- a table whose rows are what this makes of those of another one
pub record Grows (base : ℕ) (more : List AtomOf → List AtomOf) (old new : Table) : Type 0 where
  pub table : IsTable base new
  pub rows : rows_in new.rows ≡ more (rows_in old.rows)
