use Rattle.std.proofs.Common.{◌≡◌, map, drop}
use Rattle.bg_sense.specs.Types.{key_types_eq}
use Rattle.bg_kinds.specs.Views.{key_of}
use Rattle.bg_term_table.proofs.heads.are_same_keys.Given as goal

abbrev pub invariant-loop-i : goal.invariant-loop-i
invariant-loop-i l = key_types_eq (map key_of (drop l.i l.a)) (map key_of (drop l.i l.b)) ≡ key_types_eq (map key_of l.a) (map key_of l.b)
