use Rattle.bg_rows.proofs.Sound.{refutes as law}
use Rattle.bg_rows.proofs.laws.a_derivation_refutes.Goals as goal

pub returns : goal.returns
returns c = law
