use Rattle.std.proofs.Common.{◌≡◌, drop}
use Rattle.bg_sense.specs.Types.{ty_eq}
use Rattle.bg_kinds.specs.Views.{base_of, tower}
use Rattle.bg_kinds.proofs.kinds.is_same_type.Given as goal

abbrev pub invariant-loop-i : goal.invariant-loop-i
invariant-loop-i l = ty_eq (tower (drop l.i l.a.maps.now) (base_of l.a.base)) (tower (drop l.i l.b.maps.now) (base_of l.b.base)) ≡ ty_eq (tower l.a.maps.now (base_of l.a.base)) (tower l.b.maps.now (base_of l.b.base))
