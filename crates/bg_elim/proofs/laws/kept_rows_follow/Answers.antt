use Rattle.bg_elim.proofs.Follows.{follows as law}
use Rattle.bg_elim.proofs.laws.kept_rows_follow.Goals as goal

pub returns : goal.returns
returns c = law
