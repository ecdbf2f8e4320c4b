use Rattle.std.proofs.Common.{◌≡◌, ℕ, get_or, pos, below_more, arith}
use Rattle.std.specs.Prelude.{Ok}
use Rattle.bg_base.specs.Exact.{product_of}
use Rattle.bg_rows.proofs.Steps.{nothing}
use Rattle.bg_rows.proofs.Once.{entries_are}
use Rattle.bg_rows.proofs.sums.entries_once.Goals as goal

pub loop-t-preserved : goal.loop-t-preserved
loop-t-preserved c =
    below_more (λ (n : ℕ). product_of (pos 1) (get_or c.args.entries.now n nothing).by ≡ Ok (get_or c.args.entries.now n nothing).by) c.loop-t.t-index c.loop-t.invariant c.entry_once.ensures

pub returns : goal.returns
returns c = entries_are 0 c.args.entries.now c.requires (λ n lt. c.loop-t.invariant n (omega arith))
