use Rattle.bg_print.proofs.Reading.{printed_reads}
use Rattle.bg_print.proofs.laws.printed_is_read.Goals as goal

pub returns : goal.returns
returns c = printed_reads
