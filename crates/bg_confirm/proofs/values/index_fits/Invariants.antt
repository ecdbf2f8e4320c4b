use Rattle.std.proofs.Common.{◌≡◌, drop, map}
use Rattle.bg_ast.specs.Views.{type_name_of}
use Rattle.bg_kinds.specs.Views.{key_of}
use Rattle.bg_certtext.specs.Views.{part_of}
use Rattle.bg_confirm.specs.Typed.{index_fits}
use Rattle.bg_confirm.proofs.values.index_fits.Given as goal

abbrev pub invariant-loop-i : goal.invariant-loop-i
invariant-loop-i l =
    index_fits (map type_name_of l.types) (map key_of (drop l.i l.keys)) (map part_of (drop l.i l.index))
    ≡ index_fits (map type_name_of l.types) (map key_of l.keys) (map part_of l.index)
