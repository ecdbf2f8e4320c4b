use Rattle.bg_check.proofs.Replaying.{told}
use Rattle.bg_check.proofs.laws.replays_over_values_tell.Goals as goal

pub returns : goal.returns
returns c p set k m q bs ts gs fs cs ending typed o im pr made tables state replay =
    told p k m q im pr c.blocks_are_typed.ensures typed o set bs ts gs fs cs ending made tables state replay
