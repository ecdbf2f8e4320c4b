use Rattle.std.proofs.Common.{◌≡◌, drop, map, [], false}
use Rattle.bg_rows.specs.Rows.{row_of}
use Rattle.bg_rows.specs.Steps.{derives}
use Rattle.bg_rows.proofs.derive.derives.Given as goal

abbrev pub invariant-loop-step : goal.invariant-loop-step
invariant-loop-step l = derives (map row_of l.path) (map row_of l.made.items) l.last (drop l.step-index l.steps) ≡ derives (map row_of l.path) [] false l.steps
