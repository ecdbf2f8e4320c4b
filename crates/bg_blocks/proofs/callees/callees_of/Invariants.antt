use Rattle.std.proofs.Common.{◌≡◌, ◌++◌, map, drop}
use Rattle.bg_ast.specs.Views.{program_of, proc_of}
use Rattle.bg_blocks.specs.Callees.{list_of, modified_in}
use Rattle.bg_blocks.proofs.callees.callees_of.Given as goal

abbrev pub invariant-loop-q : goal.invariant-loop-q
invariant-loop-q l =
    map list_of l.made.items ++ map (modified_in (program_of l.program)) (map proc_of (drop l.q-index l.q-items)) ≡ map (modified_in (program_of l.program)) (map proc_of l.q-items)
