use Rattle.bg_task.proofs.Determined.{clauses_are_one, clauses_or_none}
use Rattle.bg_task.proofs.laws.a_place_has_one_list_of_clauses.Goals as goal

pub returns : goal.returns
returns c = record { one = clauses_are_one; none = clauses_or_none c.slices_use_alike.ensures }
