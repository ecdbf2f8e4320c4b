use Rattle.bg_tree.proofs.Idle.{wide_range, long_rows}
use Rattle.bg_tree.proofs.laws.idle_bounds_are_no_cause.Goals as goal

pub returns-clause-range : goal.returns-clause-range
returns-clause-range c = wide_range

pub returns-clause-rows : goal.returns-clause-rows
returns-clause-rows c = long_rows
