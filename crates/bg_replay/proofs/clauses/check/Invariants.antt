use Rattle.std.proofs.Common.{◌≡◌, drop}
use Rattle.bg_places.specs.Views.{spot_in}
use Rattle.bg_flow.specs.Core.{demands}
use Rattle.bg_blocks.specs.Views.{clauses_in}
use Rattle.bg_replay.specs.Said.{checks}
use Rattle.bg_scalar.specs.Views.{seen_of}
use Rattle.bg_replay.specs.Views.{around_of}
use Rattle.bg_replay.proofs.clauses.check.Given as goal

abbrev pub invariant-loop-k : goal.invariant-loop-k
invariant-loop-k l =
    checks (around_of l.around).set (seen_of l.sight) (demands (spot_in l.group) (clauses_in (drop l.k-index l.clauses))) ≡ checks (around_of l.around).set (seen_of l.sight) (demands (spot_in l.group) (clauses_in l.clauses))
