use Rattle.std.proofs.lemmas.Result.{IfOk-weaker}
use Rattle.bg_wanted.proofs.updates.ask_at.Goals as goal

pub returns-then-eq-clause-told : goal.returns-then-eq-clause-told
returns-then-eq-clause-told c = IfOk-weaker c.at_update.result _ _ (λ x h. λ incs ts up map lt la told. h incs ts map lt la told) c.at_update.ensures.told

pub returns-then-eq-2-clause-told : goal.returns-then-eq-2-clause-told
returns-then-eq-2-clause-told c = IfOk-weaker c.at_map.result _ _ (λ x h. λ incs ts up map lt la told. h incs ts up lt la told) c.at_map.ensures.told

pub returns-clause-told : goal.returns-clause-told
returns-clause-told c = IfOk-weaker c.at_both.result _ _ (λ x h. λ incs ts up map lt la told. h incs ts up map lt told) c.at_both.ensures.told
