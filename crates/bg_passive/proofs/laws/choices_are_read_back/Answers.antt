use Rattle.bg_passive.proofs.PassiveRuns.{read_back}
use Rattle.bg_passive.proofs.laws.choices_are_read_back.Goals as goal

pub returns : goal.returns
returns c = read_back
