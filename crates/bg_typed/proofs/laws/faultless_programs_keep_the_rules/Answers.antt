use Rattle.bg_typed.proofs.ForwardRules.{well_kept}
use Rattle.bg_typed.proofs.laws.faultless_programs_keep_the_rules.Goals as goal

pub returns : goal.returns
returns c = well_kept
