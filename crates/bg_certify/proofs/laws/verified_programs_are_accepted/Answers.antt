use Rattle.bg_certify.proofs.Verified.{accepted}
use Rattle.bg_certify.proofs.laws.verified_programs_are_accepted.Goals as goal

pub returns : goal.returns
returns c = λ keeps budget p o words cert is_true is_zero is_written. accepted keeps budget p o words is_true is_zero cert is_written
