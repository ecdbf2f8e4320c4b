use Rattle.std.proofs.Common.{inl, inr, ⊎_elim}
use Rattle.bg_sense.proofs.MapLaws.{val_same}
use Rattle.bg_sense.proofs.Order.{val_compared, val_lt_self, val_trans, vals_compared, vals_lt_self, vals_trans, vals_same}
use Rattle.bg_sense.proofs.values.values_of_one_type_are_ordered.Goals as goal

pub returns-clause-values : goal.returns-clause-values
returns-clause-values c t v w h g =
    ⊎_elim (λ e. inl e) (λ o. ⊎_elim (λ e. inr (inl (val_same v w e))) (λ e. inr (inr e)) o) (val_compared t v w h g)

pub returns-clause-strict : goal.returns-clause-strict
returns-clause-strict c = val_lt_self

pub returns-clause-transitive : goal.returns-clause-transitive
returns-clause-transitive c = val_trans

pub returns-clause-keys : goal.returns-clause-keys
returns-clause-keys c ts vs ws h g =
    ⊎_elim (λ e. inl e) (λ o. ⊎_elim (λ e. inr (inl (vals_same vs ws e))) (λ e. inr (inr e)) o) (vals_compared ts vs ws h g)

pub returns-clause-strict_keys : goal.returns-clause-strict_keys
returns-clause-strict_keys c = vals_lt_self

pub returns-clause-transitive_keys : goal.returns-clause-transitive_keys
returns-clause-transitive_keys c = vals_trans
