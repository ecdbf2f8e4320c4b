use Rattle.std.proofs.Common.{◌≡◌, map, drop}
use Rattle.bg_typing.specs.Sides.{are_typed}
use Rattle.bg_typing.specs.SideViews.{side_of}
use Rattle.bg_typing.proofs.nodes.are_typed.Given as goal

abbrev pub invariant-loop-a : goal.invariant-loop-a
invariant-loop-a l = are_typed (map side_of (drop l.a-index l.parts)) ≡ are_typed (map side_of l.parts)
