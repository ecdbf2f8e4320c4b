use Rattle.std.proofs.Common.{◌≡◌}
use Rattle.bg_ast.specs.Resolved.{Program}
use Rattle.bg_blocks.specs.Emitted.{marked_each}
use Rattle.bg_blocks.specs.EmittedViews.{state_of}
use Rattle.bg_blocks.proofs.stmts.mark_arms.Given as goal

abbrev pub invariant-loop-i : goal.invariant-loop-i
invariant-loop-i l =
    (p : Program) → state_of p l.state ≡ marked_each l.number l.i (state_of p l.fn.state)
