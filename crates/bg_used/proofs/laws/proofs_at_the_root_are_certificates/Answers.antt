use Rattle.bg_used.proofs.Used.{at_root}
use Rattle.bg_used.proofs.laws.proofs_at_the_root_are_certificates.Goals as goal

pub returns : goal.returns
returns c = at_root
