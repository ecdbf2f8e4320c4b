use Rattle.std.proofs.Common.{◌≡◌, [], ◌++◌, map, drop}
use Rattle.bg_ast.specs.Resolved.{Program}
use Rattle.bg_blocks.specs.Views.{block_of}
use Rattle.bg_incarnate.specs.Views.{held_env}
use Rattle.bg_incarnate.specs.Walked.{walked_of, open_of, walk, walk_after, first_in}
use Rattle.bg_incarnate.proofs.walk.walk.Given as goal

abbrev pub invariant-loop-b : goal.invariant-loop-b
invariant-loop-b l =
    ((p : Program) → map walked_of l.made.items ++ walk (held_env l.entry) (map (block_of p) (drop l.b-index l.blocks)) (open_of l.ways.items) l.next ≡ walk (held_env l.entry) (map (block_of p) l.blocks) [] l.fn.next)
    × ((p : Program) → l.firsts.items ++ map first_in (walk (held_env l.entry) (map (block_of p) (drop l.b-index l.blocks)) (open_of l.ways.items) l.next) ≡ l.fn.firsts.items ++ map first_in (walk (held_env l.entry) (map (block_of p) l.blocks) [] l.fn.next))
    × ((p : Program) → walk_after (held_env l.entry) (map (block_of p) (drop l.b-index l.blocks)) (open_of l.ways.items) l.next ≡ walk_after (held_env l.entry) (map (block_of p) l.blocks) [] l.fn.next)
