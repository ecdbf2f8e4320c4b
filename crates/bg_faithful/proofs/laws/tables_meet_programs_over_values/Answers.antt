use Rattle.bg_faithful.proofs.Meets.{met}
use Rattle.bg_faithful.proofs.laws.tables_meet_programs_over_values.Goals as goal

pub returns : goal.returns
returns c = met
