use Rattle.bg_keep.proofs.Gone.{no_candidate}
use Rattle.bg_keep.proofs.laws.no_candidate_is_kept.Goals as goal

pub returns : goal.returns
returns c = no_candidate
