use Rattle.std.proofs.Common.{ℕ, slice_index, arith, subst, sym}
use mathlib.Core.Logic.{dite}
use native.Mathlib.Decide.{ℕ_discrete}
use Rattle.bg_graph.specs.Marks.{IsDone}
use Rattle.bg_graph.proofs.marks.next_undone.Goals as goal

pub loop-k-preserved : goal.loop-k-preserved
loop-k-preserved c j from below = dite (ℕ_discrete j c.loop-k.k)
    (λ here. let P : ℕ → Type 0 = λ n. IsDone c.args.marks.now (slice_index c.args.row.now n) in subst P (sym here) (c.is_done.ensures.0 c.if-not-is_done.false))
    (λ n. c.loop-k.invariant j from (omega arith))
