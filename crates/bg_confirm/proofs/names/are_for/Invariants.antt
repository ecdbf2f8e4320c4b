use Rattle.std.proofs.Common.{◌≡◌, drop}
use Rattle.bg_confirm.specs.Pairs.{each_fits}
use Rattle.bg_confirm.specs.Named.{same_name}
use Rattle.bg_confirm.proofs.names.are_for.Given as goal

abbrev pub invariant-loop-k : goal.invariant-loop-k
invariant-loop-k l = each_fits same_name (drop l.k l.constants) (drop l.k l.given) ≡ each_fits same_name l.constants l.given
