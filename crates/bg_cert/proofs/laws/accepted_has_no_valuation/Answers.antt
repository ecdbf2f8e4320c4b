use Rattle.bg_cert.proofs.Sound.{accepted_has_no_valuation as law, accepted_code_has_no_valuation}
use Rattle.bg_cert.proofs.laws.accepted_has_no_valuation.Goals as goal

pub returns : goal.returns
returns c = record { code = accepted_code_has_no_valuation; any = law }
