use Rattle.bg_incarnate.proofs.Sizes.{incarnations_counted}
use Rattle.bg_incarnate.proofs.laws.incarnations_are_counted.Goals as goal

pub returns : goal.returns
returns c = incarnations_counted
