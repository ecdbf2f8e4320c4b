use Rattle.std.proofs.Common.{◌++◌, List}
use Rattle.bg_houdini.specs.Pieces.{Joins}
use Rattle.bg_houdini.proofs.chunks.joined.Given as goal

abbrev pub invariant-loop-piece : goal.invariant-loop-piece
invariant-loop-piece g l = (zs : List _) → Joins l.piece-iterator.rest.items zs → Joins l.fn.pieces.items (l.made.items ++ zs)
