use Rattle.bg_certtext.proofs.ReadsAnswers.{answers_are_readings}
use Rattle.bg_certtext.proofs.reader.read.Goals as goal

pub returns : goal.returns
returns c = answers_are_readings c.args.bytes.now c.read_lines.result c.read_lines.ensures
