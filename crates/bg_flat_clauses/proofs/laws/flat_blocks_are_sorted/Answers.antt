use Rattle.bg_flat_clauses.proofs.Blocks.{all_sorted}
use Rattle.bg_flat_clauses.proofs.laws.flat_blocks_are_sorted.Goals as goal

pub returns : goal.returns
returns c = λ tys n ts m front blocks flat. all_sorted c.flat_expressions_are_over_scalars.ensures.linear tys n ts m front blocks flat
