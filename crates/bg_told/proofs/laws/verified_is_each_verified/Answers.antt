use Rattle.bg_told.proofs.Verified.{program_exactly}
use Rattle.bg_told.proofs.laws.verified_is_each_verified.Goals as goal

pub returns : goal.returns
returns c = program_exactly
