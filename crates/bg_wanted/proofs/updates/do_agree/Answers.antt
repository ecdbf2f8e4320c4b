use Rattle.std.proofs.Common.{ap, ◌∙◌}
use Rattle.bg_wanted.specs.Asked.{looked_rows, are_alike}
use Rattle.bg_wanted.proofs.updates.do_agree.Goals as goal

pub returns : goal.returns
returns c =
    let rs = looked_rows c.args.looked in
    λ has.
    c.are_alike.ensures
    ∙ (ap (λ o. are_alike o c.in_ok-old.old) (c.in_ok-new.ensures rs has) ∙ ap (are_alike _) (c.in_ok-old.ensures rs has))
