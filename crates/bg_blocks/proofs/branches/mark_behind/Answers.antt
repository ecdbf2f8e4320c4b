use Rattle.std.proofs.lemmas.Result.{on_ok_weaker}
use Rattle.bg_sense.specs.Flow.{Behind}
use Rattle.bg_blocks.proofs.branches.mark_behind.Goals as goal

pub returns : goal.returns
returns c = on_ok_weaker c.mark.result (λ h p. h p (Behind c.args.number) c.behind_key.ensures) c.mark.ensures
