-- Which incarnation or term is read.
use Rattle.std.specs.Prelude.{ℕ, Option, Some, None}
use Rattle.bg_ast.specs.Syntax.{Ex}
use Rattle.bg_term_table.specs.declared.leaf.Leaf.{Leaf}
use Rattle.bg_term_table.specs.declared.leaf.Leaf.TheVariants as leaf
use Rattle.bg_term_table.specs.Keys.{leaf_in}

abbrev pub number_in : Option Leaf → Option ℕ
number_in (Some (leaf.Read j)) = Some j
number_in (Some (leaf.Number z)) = None
number_in (Some (leaf.Truth b)) = None
number_in None = None

-- the number of the incarnation or the term that an expression reads
abbrev pub local_in : Ex → Option ℕ
local_in e = number_in (leaf_in e)
