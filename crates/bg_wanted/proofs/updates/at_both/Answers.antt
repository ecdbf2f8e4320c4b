use Rattle.std.proofs.Common.{[], ◌∷◌, ◌<◌, arith, inl}
use Rattle.bg_wanted.proofs.updates.at_both.Goals as goal

pub returns-clause-told : goal.returns-clause-told
returns-clause-told c =
    λ incs ts fits also lt told.
    let s = c.in_ok-s.ensures.told incs ts [] fits told in
    let r = c.in_ok-r.ensures.told incs ts (c.in_ok-s.s ∷ []) also s.0 in
    let low = s.1.1 in
    let more = c.in_ok-r.ensures.more in
    let below : c.in_ok-s.s < c.select-2.new.wants.next = omega (arith, low, more) in
    c.in_ok-tell_elsewhere.ensures.told incs ts lt below r.1.1 (inl s.1.0) r.0
