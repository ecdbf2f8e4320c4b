use Rattle.std.proofs.Common.{◌≡◌, ◌++◌, map, drop}
use Rattle.bg_ast.specs.Meaning.{variable_of}
use Rattle.bg_ast.specs.Views.{var_of, placed_of}
use Rattle.bg_blocks.proofs.simple.variables.Given as goal

abbrev pub invariant-loop-x : goal.invariant-loop-x
invariant-loop-x l = map var_of l.made.items ++ map variable_of (map placed_of (drop l.x-index l.xs)) ≡ map variable_of (map placed_of l.xs)
