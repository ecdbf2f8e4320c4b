use Rattle.std.proofs.Common.{◌≡◌, ◌++◌, drop, map}
use Rattle.bg_ast.specs.Views.{program_of}
use Rattle.bg_blocks.specs.Views.{cmd_of}
use Rattle.bg_kinds.specs.Views.{ref_in}
use Rattle.bg_passive.specs.Arrivals.{cmds_types}
use Rattle.bg_sorts.specs.Views.{types_in}
use Rattle.bg_sorts.proofs.commands.push_commands.Given as goal

abbrev pub invariant-loop-k : goal.invariant-loop-k
invariant-loop-k l =
    map ref_in l.made.items ++ cmds_types (types_in l.known) (map (cmd_of (program_of l.known.program.now)) (drop l.k-index l.ks)) ≡ map ref_in l.fn.made.items ++ cmds_types (types_in l.known) (map (cmd_of (program_of l.known.program.now)) l.ks)
