use Rattle.std.proofs.Common.{length}
use Rattle.bg_houdini.specs.Begun.{IsBegun}
use Rattle.bg_houdini.proofs.sets.keep_word.Given as goal

abbrev pub invariant-loop-c : goal.invariant-loop-c
invariant-loop-c l = IsBegun (length l.initial.set) l.c l.truths l.set
