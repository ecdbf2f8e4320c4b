use Rattle.bg_passive.proofs.PassiveRuns.{passive_same}
use Rattle.bg_passive.proofs.laws.passive_blocks_fail_alike.Goals as goal

pub returns : goal.returns
returns c = passive_same
