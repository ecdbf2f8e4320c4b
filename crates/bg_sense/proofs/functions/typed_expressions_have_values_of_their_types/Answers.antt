use Rattle.bg_sense.proofs.TypedRuns.{value_has_type}
use Rattle.bg_sense.proofs.functions.typed_expressions_have_values_of_their_types.Goals as goal

pub returns : goal.returns
returns c = value_has_type
