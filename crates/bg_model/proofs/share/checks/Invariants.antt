use Rattle.std.proofs.Common.{◌≡◌, ◌+◌, ℕ, length, ◌≤◌, drop}
use Rattle.bg_ast.specs.Execution.{Spot}
use Rattle.bg_flow.specs.Core.{demands}
use Rattle.bg_blocks.specs.Views.{clauses_in}
use Rattle.bg_model.proofs.share.checks.Given as goal

abbrev pub invariant-loop-k : goal.invariant-loop-k
invariant-loop-k l =
    l.n ≤ l.k-index
    × ((spot : ℕ → Spot) → l.n + length (demands spot (clauses_in (drop l.k-index l.clauses))) ≡ length (demands spot (clauses_in l.clauses)))
