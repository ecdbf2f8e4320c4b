use Rattle.std.proofs.Common.{◌≡◌, ◌++◌, map, drop}
use Rattle.bg_ast.specs.Views.{program_of, proc_of, impl_of}
use Rattle.bg_places.specs.Placed.{placed, placed_from}
use Rattle.bg_places.specs.Views.{placed_in}
use Rattle.bg_places.proofs.program.places.Given as goal

abbrev pub invariant-loop-number : goal.invariant-loop-number
invariant-loop-number l = placed_in l.made.items ++ placed_from (map proc_of l.program.procedures.items) l.number (map impl_of (drop l.number l.program.implementations.items)) ≡ placed (program_of l.program)
