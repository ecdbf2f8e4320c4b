use Rattle.std.proofs.Common.{◌≡◌, ◌++◌, drop, map}
use Rattle.bg_kinds.specs.Views.{ref_in}
use Rattle.bg_certtext.specs.Views.{given_of}
use Rattle.bg_scalar.specs.Views.{vals_in}
use Rattle.bg_confirm.specs.Met.{vals_for}
use Rattle.bg_confirm.proofs.values.values_in.Given as goal

abbrev pub invariant-loop-k : goal.invariant-loop-k
invariant-loop-k l =
    vals_in l.made.items ++ vals_for (drop l.k (map ref_in l.kinds)) (map (λ g. g.value) (map given_of (drop l.k l.given)))
    ≡ vals_for (map ref_in l.kinds) (map (λ g. g.value) (map given_of l.given))
