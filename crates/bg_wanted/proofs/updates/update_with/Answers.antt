use Rattle.std.proofs.Common.{◌≡◌, false, sym, subst}
use Rattle.std.specs.Prelude.{MatchOption}
use Rattle.bg_wanted.specs.Asked.{has_two, IsUpdateWith}
use Rattle.bg_wanted.proofs.Asking.{none_with}
use Rattle.bg_wanted.proofs.updates.update_with.Goals as goal

pub returns-in-None : goal.returns-in-None
returns-in-None c = none_with c.args.args.now c.in-None.ensures.cases

pub returns-in-Some : goal.returns-in-Some
returns-in-Some c =
    subst (λ l. MatchOption c.update_from.result (has_two l ≡ false) (λ u. IsUpdateWith c.args.number c.args.maps c.args.value l u)) (sym c.in-Some.ensures.cases.0) c.update_from.ensures
