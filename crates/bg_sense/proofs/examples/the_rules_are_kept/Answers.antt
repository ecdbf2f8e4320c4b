use Rattle.std.proofs.Common.{refl}
use Rattle.bg_sense.specs.Examples.{count, forgetful}
use Rattle.bg_sense.proofs.Worked.{count_typed, count_resolved, forgetful_typed, forgetful_resolved, no_functions}
use Rattle.bg_sense.proofs.examples.the_rules_are_kept.Goals as goal

pub returns-clause-counting : goal.returns-clause-counting
returns-clause-counting c = (count_typed, count_resolved, no_functions count refl)

pub returns-clause-calling : goal.returns-clause-calling
returns-clause-calling c = (forgetful_typed, forgetful_resolved, no_functions forgetful refl)
