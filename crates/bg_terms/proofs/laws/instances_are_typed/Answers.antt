use Rattle.bg_terms.proofs.Truths.{instance_truth}
use Rattle.bg_terms.proofs.laws.instances_are_typed.Goals as goal

pub returns : goal.returns
returns c functions incs ts e terms = instance_truth functions incs ts terms e
