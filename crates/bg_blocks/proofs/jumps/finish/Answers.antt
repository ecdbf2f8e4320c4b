use Rattle.std.proofs.Common.{[], ◌∷◌, ap, ◌∙◌}
use Rattle.bg_sense.specs.Flow.{ToEnd}
use Rattle.std.proofs.lemmas.Result.{on_ok_weaker}
use Rattle.bg_blocks.proofs.jumps.finish.Goals as goal

pub returns : goal.returns
returns c = on_ok_weaker c.leap.result (λ h p frame rs n. h p (ToEnd ∷ []) (c.in_ok-to.ensures ∙ ap (λ n. n ∷ []) c.end_ahead.ensures)) c.leap.ensures
