use Rattle.bg_passive.proofs.DeniedWalks.{denied_where_walked}
use Rattle.bg_passive.proofs.equations.equations_deny_failing_walks.Goals as goal

pub returns : goal.returns
returns c = denied_where_walked
