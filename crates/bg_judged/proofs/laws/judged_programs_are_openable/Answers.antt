use Rattle.bg_judged.proofs.Judging.{program_opens}
use Rattle.bg_judged.proofs.laws.judged_programs_are_openable.Goals as goal

pub returns : goal.returns
returns c =
    program_opens c.programs_are_typed.ensures c.programs_are_resolved.ensures c.programs_of_short_chains_are_openable.ensures
