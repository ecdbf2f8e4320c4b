use Rattle.std.proofs.Common.{◌≡◌, ◌++◌, drop}
use Rattle.bg_scalar.specs.Views.{vals_in}
use Rattle.bg_replay.proofs.values.append.Given as goal

abbrev pub invariant-loop-x : goal.invariant-loop-x
invariant-loop-x l =
    vals_in l.values.items ++ vals_in (drop l.x-index l.more) ≡ vals_in l.fn.values.items ++ vals_in l.more
