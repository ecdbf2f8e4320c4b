use Rattle.bg_passive.proofs.Capped.{capped}
use Rattle.bg_passive.proofs.equations.what_no_equations_deny_is_safe.Goals as goal

pub returns : goal.returns
returns c = capped
