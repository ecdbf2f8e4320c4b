use Rattle.std.proofs.Common.{[], ◌∷◌, inr}
use Rattle.bg_wanted.proofs.Tells.{told_loose, below_next}
use Rattle.bg_wanted.proofs.updates.at_update.Goals as goal

pub returns-clause-told : goal.returns-clause-told
returns-clause-told c =
    λ incs ts fits lt la told.
    let r = c.in_ok-r.ensures.told incs ts (c.args.a ∷ []) fits (told_loose incs ts c.args.wants.now [] c.args.a told) in
    c.in_ok-tell_elsewhere.ensures.told incs ts lt (below_next incs ts _ _ c.args.a r.0 la) r.1.1 (inr r.1.0) r.0
