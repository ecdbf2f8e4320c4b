use Rattle.std.proofs.Common.{◌≡◌, ℕ, ◌<◌, get_or, pos}
use Rattle.std.specs.Prelude.{Ok}
use Rattle.bg_base.specs.Exact.{product_of}
use Rattle.bg_rows.proofs.Steps.{nothing}
use Rattle.bg_rows.proofs.sums.entries_once.Given as goal

abbrev pub invariant-loop-t : goal.invariant-loop-t
invariant-loop-t l = (n : ℕ) → n < l.t-index → product_of (pos 1) (get_or l.entries n nothing).by ≡ Ok (get_or l.entries n nothing).by
