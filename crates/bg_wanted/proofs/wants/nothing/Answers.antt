use Rattle.std.proofs.Common.{◌∙◌}
use Rattle.bg_wanted.specs.declared.wants.Wants.{Wants}
use Rattle.bg_wanted.proofs.Tells.{told_nothing, no_picks}
use Rattle.bg_wanted.proofs.wants.nothing.Goals as goal

pub returns-clause-told : goal.returns-clause-told
returns-clause-told c =
    let w : Wants = record { made = c.new.result; picked = c.new-2.result; next = c.in_ok-next.next } in
    λ incs ts size. told_nothing incs ts w c.new.ensures.items (c.in_ok-next.ensures ∙ size) (no_picks ts w c.new-2.ensures.empty)
