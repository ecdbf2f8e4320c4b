use Rattle.bg_typed.proofs.ExactPrograms.{kept_well}
use Rattle.bg_typed.proofs.laws.programs_that_keep_the_rules_have_no_fault.Goals as goal

pub returns : goal.returns
returns c = kept_well
