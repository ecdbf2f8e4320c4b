-- The rows of passive blocks, in their order: they come as the expressions of the commands have them.
use Rattle.std.specs.Prelude.{Bool, false, ◌||◌, if◌then◌else◌, List, [], ◌∷◌, ◌++◌, Result, Ok, Err}
use Rattle.bg_base.specs.declared.exact.OutOfRange.{OutOfRange}
use Rattle.bg_ast.specs.Syntax.{Ex, Not, Negative, Binary}
use Rattle.bg_passive.specs.Passive.{PassiveCmd, Edge, PassiveBlock}
use Rattle.bg_rows.specs.Rows.{RowOf, is_empty}
use Rattle.bg_formula.specs.Atoms.{AtomOf, IsTruth, IsRow, row_eq}
use Rattle.bg_linear.specs.declared.scalar.Sort.{Sort}
use Rattle.bg_linear.specs.Relations.{relation}
use Rattle.bg_atoms.specs.Over.{relates_numbers}
use Rattle.bg_atoms.specs.Sources.{expression_of}

-- the row is among these, or is the denial of one
abbrev pub is_there : RowOf → List AtomOf → Bool
is_there r [] = false
is_there r (IsTruth x ∷ rs) = is_there r rs
is_there r (IsRow a d ∷ rs) = row_eq a r || (row_eq d r || is_there r rs)

-- the row behind the others, unless it is there already
abbrev pub add_row : AtomOf → List AtomOf → List AtomOf
add_row (IsTruth x) rows = rows
add_row (IsRow r d) rows = if is_there r rows then rows else rows ++ IsRow r d ∷ []

-- the same of a row that has entries; one without them needs no atom
abbrev pub with_row : AtomOf → List AtomOf → List AtomOf
with_row (IsTruth x) rows = rows
with_row (IsRow r d) rows = if is_empty r.entries then rows else add_row (IsRow r d) rows

-- more rows, the last one first
abbrev pub with_rows : List AtomOf → List AtomOf → List AtomOf
with_rows [] rows = rows
with_rows (a ∷ more) rows = with_row a (with_rows more rows)

-- the rows of a relation; one that is refused has none
abbrev pub with_relation : Result (List AtomOf) OutOfRange → List AtomOf → List AtomOf
with_relation (Ok more) rows = with_rows more rows
with_relation (Err o) rows = rows

-- the rows of an expression's relations of numbers, from left to right
abbrev pub with_ex : List Sort → Ex → List AtomOf → List AtomOf
with_ex sorts (Not e) rows = with_ex sorts e rows
with_ex sorts (Negative e) rows = with_ex sorts e rows
with_ex sorts (Binary op a b) rows =
    if relates_numbers sorts op a b then with_relation (relation op a b) rows
    else with_ex sorts b (with_ex sorts a rows)
with_ex sorts _ rows = rows

abbrev pub with_cmds : List Sort → List PassiveCmd → List AtomOf → List AtomOf
with_cmds sorts [] rows = rows
with_cmds sorts (k ∷ ks) rows = with_cmds sorts ks (with_ex sorts (expression_of k) rows)

abbrev pub with_edges : List Sort → List Edge → List AtomOf → List AtomOf
with_edges sorts [] rows = rows
with_edges sorts (e ∷ es) rows = with_edges sorts es (with_cmds sorts e.cmds rows)

-- the rows of the block's commands, then those of its edges
abbrev pub with_block : List Sort → PassiveBlock → List AtomOf → List AtomOf
with_block sorts b rows = with_edges sorts b.next (with_cmds sorts b.cmds rows)

abbrev pub with_blocks : List Sort → List PassiveBlock → List AtomOf → List AtomOf
with_blocks sorts [] rows = rows
with_blocks sorts (b ∷ bs) rows = with_blocks sorts bs (with_block sorts b rows)

-- the rows of blocks over incarnations of these sorts
abbrev pub rows_of : List Sort → List PassiveBlock → List AtomOf
rows_of sorts bs = with_blocks sorts bs []
