use Rattle.std.proofs.Common.{◌≡◌, drop, map}
use Rattle.bg_ast.specs.Views.{var_of}
use Rattle.bg_replay.specs.Acts.{forgotten}
use Rattle.bg_replay.specs.Views.{moment_of, around_of}
use Rattle.bg_replay.proofs.moment.forget.Given as goal

abbrev pub invariant-loop-x : goal.invariant-loop-x
invariant-loop-x l =
    forgotten (around_of l.around) (map var_of (drop l.x-index l.xs)) (moment_of l.moment) ≡ forgotten (around_of l.around) (map var_of l.xs) (moment_of l.fn.moment)
