use Rattle.std.proofs.Common.{◌≡◌, ◌++◌, map, drop}
use Rattle.bg_kinds.specs.Views.{ref_in}
use Rattle.bg_certtext.specs.Views.{value_of}
use Rattle.bg_scalar.specs.Views.{vals_in}
use Rattle.bg_confirm.specs.Met.{vals_for}
use Rattle.bg_confirm.proofs.tables.key_of.Given as goal

abbrev pub invariant-loop-k : goal.invariant-loop-k
invariant-loop-k l =
    vals_in l.made.items ++ vals_for (drop l.k (map ref_in l.kinds)) (map value_of (drop l.k l.key))
    ≡ vals_for (map ref_in l.kinds) (map value_of l.key)
