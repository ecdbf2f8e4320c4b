use Rattle.bg_sense.proofs.Modified.{as_listed}
use Rattle.bg_sense.proofs.resolved.what_is_modified_is_as_listed.Goals as goal

pub returns : goal.returns
returns c = as_listed
