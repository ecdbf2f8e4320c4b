use Rattle.bg_faithful.proofs.Starts.{starts}
use Rattle.bg_faithful.proofs.laws.typed_values_begin_with_a_state.Goals as goal

pub returns : goal.returns
returns c p k m q t o im pr values h = starts p k m q im pr values h
