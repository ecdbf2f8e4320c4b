use Rattle.bg_flow.specs.Core.{to_each}
use Rattle.std.proofs.lemmas.Result.{on_ok_weaker}
use Rattle.bg_blocks.proofs.jumps.jump.Goals as goal

pub returns : goal.returns
returns c = on_ok_weaker c.leap.result (λ h p frame rs n. h p (to_each c.args.labels.now) c.in_ok-to.ensures) c.leap.ensures
