use Rattle.bg_sense.specs.Flow.{Failed}
use Rattle.bg_replay.specs.Said.{Stops}
use Rattle.bg_check.proofs.Replaying.{says_again}
use Rattle.bg_check.proofs.laws.refuted_places_replay.Goals as goal

pub returns : goal.returns
returns c p set budget t cex m q bs ending im pr made right replay =
    says_again p t.implementation m q im pr set t.spot t.candidate bs cex ending (Stops (Failed t.spot)) made replay right.1.0
