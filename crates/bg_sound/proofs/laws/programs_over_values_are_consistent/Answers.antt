use Rattle.bg_sound.proofs.Plain.{consistent}
use Rattle.bg_sound.proofs.laws.programs_over_values_are_consistent.Goals as goal

pub returns : goal.returns
returns c = consistent
