use Rattle.std.proofs.Common.{◌*◌, min}
use Rattle.bg_houdini.specs.Begun.{IsBegun}
use Rattle.bg_houdini.proofs.sets.set_of.Given as goal

abbrev pub invariant-loop-i : goal.invariant-loop-i
invariant-loop-i l = IsBegun l.candidates (min (l.i * 64) l.candidates) l.truths l.made
