use Rattle.std.proofs.Common.{[], inl}
use Rattle.bg_wanted.proofs.Tells.{told_loose, below_next}
use Rattle.bg_wanted.proofs.updates.at_map.Goals as goal

pub returns-clause-told : goal.returns-clause-told
returns-clause-told c =
    λ incs ts fits lt la told.
    let s = c.in_ok-s.ensures.told incs ts [] fits told in
    c.in_ok-tell_elsewhere.ensures.told incs ts lt s.1.1 (below_next incs ts _ _ c.args.a s.0 la) (inl s.1.0) (told_loose incs ts _ _ c.args.a s.0)
