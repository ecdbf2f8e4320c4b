use Rattle.std.proofs.Common.{◌≡◌, drop}
use Rattle.bg_flow.specs.Core.{sayings}
use Rattle.bg_blocks.specs.Views.{clauses_in}
use Rattle.bg_replay.specs.Said.{supposes}
use Rattle.bg_replay.specs.Kept.{which_of}
use Rattle.bg_scalar.specs.Views.{seen_of}
use Rattle.bg_replay.specs.Views.{around_of}
use Rattle.bg_replay.proofs.clauses.suppose.Given as goal

abbrev pub invariant-loop-k : goal.invariant-loop-k
invariant-loop-k l =
    supposes (around_of l.around).set (seen_of l.sight) (sayings (which_of l.which) (clauses_in (drop l.k-index l.clauses))) ≡ supposes (around_of l.around).set (seen_of l.sight) (sayings (which_of l.which) (clauses_in l.clauses))
