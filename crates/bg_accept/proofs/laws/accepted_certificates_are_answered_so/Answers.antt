use Rattle.bg_accept.proofs.Apart.{answered_so}
use Rattle.bg_accept.proofs.laws.accepted_certificates_are_answered_so.Goals as goal

pub returns : goal.returns
returns c = answered_so c.a_place_has_one_list_of_clauses.ensures.one c.a_place_has_one_list_of_clauses.ensures.none
