use Rattle.bg_used.proofs.Used.{closed_where_used}
use Rattle.bg_used.proofs.laws.proofs_close_where_used.Goals as goal

pub returns : goal.returns
returns c = closed_where_used
