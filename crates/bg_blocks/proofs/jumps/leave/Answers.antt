use Rattle.std.proofs.Common.{[], ◌∷◌, ap, ◌∙◌}
use Rattle.bg_sense.specs.Flow.{Behind}
use Rattle.std.proofs.lemmas.Result.{on_ok_weaker}
use Rattle.bg_blocks.proofs.jumps.leave.Goals as goal

pub returns : goal.returns
returns c = on_ok_weaker c.leap.result (λ h p frame rs n. h p (Behind c.args.number ∷ []) (c.in_ok-to.ensures ∙ ap (λ n. n ∷ []) c.behind_ahead.ensures)) c.leap.ensures
