use Rattle.bg_ast.specs.Meaning.{meaning_of}
use Rattle.bg_cert.specs.Walks.{no_instance}
use Rattle.bg_check.proofs.Sounds.{true_from}
use Rattle.bg_check.proofs.laws.right_verdicts_are_true.Goals as goal

pub returns : goal.returns
returns c = λ p set budget outcome words typed over inductive right.
    true_from p set budget words (λ t es cert h i s cs f. c.proved_places_do_not_fail.ensures (meaning_of p) set set t es cert typed over h (λ b u. c.accepted_where_used.ensures.inside h.formula set no_instance cert h.accepted b u) i s cs f) 0 p.implementations outcome right (c.proved_under_a_set_is_safe.ensures p set budget outcome typed over inductive right)
