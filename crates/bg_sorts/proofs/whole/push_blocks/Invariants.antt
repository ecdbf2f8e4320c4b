use Rattle.std.proofs.Common.{◌≡◌, map, drop}
use Rattle.bg_ast.specs.Views.{program_of}
use Rattle.bg_kinds.specs.Views.{ref_in}
use Rattle.bg_blocks.specs.Views.{block_of}
use Rattle.bg_incarnate.specs.Views.{incarnations_of}
use Rattle.bg_sorts.specs.Arrivals.{after_blocks}
use Rattle.bg_sorts.proofs.whole.push_blocks.Given as goal

abbrev pub invariant-loop-i : goal.invariant-loop-i
invariant-loop-i l =
    after_blocks (map ref_in l.known.globals.now) (map ref_in l.known.frame.now) (map incarnations_of (drop l.i l.arrivals)) (map (block_of (program_of l.known.program.now)) (drop l.i l.blocks)) (map ref_in l.made.items)
    ≡ after_blocks (map ref_in l.known.globals.now) (map ref_in l.known.frame.now) (map incarnations_of l.arrivals) (map (block_of (program_of l.known.program.now)) l.blocks) (map ref_in l.fn.made.items)
