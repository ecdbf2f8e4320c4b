use Rattle.bg_cert.proofs.Uses.{certificate_lies_in, certificate_is_there, certificate_above}
use Rattle.bg_cert.proofs.laws.accepted_where_used.Goals as goal

pub returns : goal.returns
returns c = record { inside = certificate_lies_in; there = certificate_is_there; above = certificate_above }
