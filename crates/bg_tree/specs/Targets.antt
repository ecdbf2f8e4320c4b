-- The targets of a problem's terms.
use Rattle.std.specs.Prelude.{ℕ, ℤ}
use Rattle.bg_point.specs.Points.{target_of}
use Rattle.bg_pick.specs.declared.problem.Problem.{Problem}

abbrev pub targets_in : Problem → ℕ → ℤ
targets_in p = target_of p.targets.now
