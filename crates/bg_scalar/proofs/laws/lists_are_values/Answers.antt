use Rattle.bg_scalar.proofs.Listing.{worths_are}
use Rattle.bg_scalar.proofs.laws.lists_are_values.Goals as goal

pub returns : goal.returns
returns c = worths_are
