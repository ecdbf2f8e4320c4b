use Rattle.std.proofs.Common.{◌≡◌, ◌≤◌, ◌-◌, length}
use Rattle.bg_kinds.specs.Views.{base_of}
use Rattle.bg_sense.specs.Eval.{default_for}
use Rattle.bg_scalar.specs.Values.{value_of}
use Rattle.bg_confirm.proofs.Defaults.{wrapped}
use Rattle.bg_confirm.proofs.tables.default_value.Given as goal

abbrev pub invariant-loop-k : goal.invariant-loop-k
invariant-loop-k l =
    (l.k ≤ length l.t.maps.now) × (value_of l.made ≡ wrapped l.k (default_for (base_of l.t.base)))

abbrev pub decreases-loop-k : goal.decreases-loop-k
decreases-loop-k l = length l.t.maps.now - l.k
