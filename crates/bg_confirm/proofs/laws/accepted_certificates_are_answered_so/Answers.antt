use Rattle.bg_confirm.proofs.Answering.{answered_so}
use Rattle.bg_confirm.proofs.laws.accepted_certificates_are_answered_so.Goals as goal

pub returns : goal.returns
returns c = answered_so c.accepted_certificates_are_answered_so.ensures
