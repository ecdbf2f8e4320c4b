use Rattle.bg_elim.proofs.Follows.{suffices as law}
use Rattle.bg_elim.proofs.laws.kept_rows_suffice.Goals as goal

pub returns : goal.returns
returns c = law
