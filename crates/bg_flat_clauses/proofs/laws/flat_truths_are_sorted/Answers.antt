use Rattle.bg_flat_clauses.proofs.Sorted.{truth_sorted}
use Rattle.bg_flat_clauses.proofs.laws.flat_truths_are_sorted.Goals as goal

pub returns : goal.returns
returns c = truth_sorted
