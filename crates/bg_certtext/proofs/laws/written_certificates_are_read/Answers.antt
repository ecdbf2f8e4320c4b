use Rattle.bg_certtext.proofs.ReadsLaws.{written_is_read}
use Rattle.bg_certtext.proofs.laws.written_certificates_are_read.Goals as goal

pub returns : goal.returns
returns c = written_is_read
