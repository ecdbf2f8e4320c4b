use Rattle.bg_core.proofs.Tabled.{first_is_zero}
use Rattle.bg_core.proofs.law.the_first_seat_is_worker_zero.Goals as goal

pub returns : goal.returns
returns c = first_is_zero
