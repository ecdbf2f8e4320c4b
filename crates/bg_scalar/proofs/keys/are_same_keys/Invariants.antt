use Rattle.std.proofs.Common.{◌≡◌, drop}
use Rattle.bg_ast.specs.Values.{keys_eq}
use Rattle.bg_scalar.proofs.keys.are_same_keys.Given as goal

abbrev pub invariant-loop-i : goal.invariant-loop-i
invariant-loop-i l = keys_eq (drop l.i l.a) (drop l.i l.b) ≡ keys_eq l.a l.b
