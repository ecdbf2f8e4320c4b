use Rattle.bg_named.proofs.SpacesNumbers.{has_numbers}
use Rattle.bg_named.proofs.laws.numbers_stand_for_names.Goals as goal

pub returns : goal.returns
returns c = has_numbers
