use Rattle.std.proofs.Common.{◌∷◌, refl, ap}
use Rattle.bg_wanted.proofs.Asking.{none_from}
use Rattle.bg_wanted.proofs.updates.update_from.Goals as goal

pub returns-in-None : goal.returns-in-None
returns-in-None c = none_from c.args.before c.args.behind.now c.in-None.ensures.cases

pub returns-in-Some : goal.returns-in-Some
returns-in-Some c =
    record { its_number = refl; its_maps = refl; its_value = refl; its_args = ap (λ l. c.args.before ∷ l) c.in-Some.ensures.cases.0 }
