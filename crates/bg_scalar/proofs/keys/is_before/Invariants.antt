use Rattle.std.proofs.Common.{◌≡◌, ◌-◌, length, drop}
use Rattle.bg_ast.specs.Values.{keys_lt}
use Rattle.bg_scalar.proofs.keys.is_before.Given as goal

abbrev pub invariant-loop-i : goal.invariant-loop-i
invariant-loop-i l = keys_lt (drop l.i l.a) (drop l.i l.b) ≡ keys_lt l.a l.b

abbrev pub decreases-loop-i : goal.decreases-loop-i
decreases-loop-i l = length l.a - l.i
