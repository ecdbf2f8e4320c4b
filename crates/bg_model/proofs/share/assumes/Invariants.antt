use Rattle.std.proofs.Common.{◌≡◌, ◌+◌, length, ◌≤◌, drop}
use Rattle.bg_flow.specs.Core.{sayings}
use Rattle.bg_blocks.specs.Views.{clauses_in}
use Rattle.bg_incarnate.specs.Views.{is_kept_by}
use Rattle.bg_model.proofs.share.assumes.Given as goal

abbrev pub invariant-loop-k : goal.invariant-loop-k
invariant-loop-k l =
    l.n ≤ l.k-index
    × (l.n + length (sayings (is_kept_by l.which) (clauses_in (drop l.k-index l.clauses))) ≡ length (sayings (is_kept_by l.which) (clauses_in l.clauses)))
