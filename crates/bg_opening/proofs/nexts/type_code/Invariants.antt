use Rattle.std.proofs.Common.{◌≡◌, drop}
use Rattle.bg_kinds.specs.Views.{base_of, ref_of, tower}
use Rattle.bg_opening.specs.Nexts.{type_code}
use Rattle.bg_opening.proofs.nexts.type_code.Given as goal

abbrev pub invariant-loop-row : goal.invariant-loop-row
invariant-loop-row l = type_code l.made (tower (drop l.row-index l.t.maps.now) (base_of l.t.base)) ≡ type_code 0 (ref_of l.t)
