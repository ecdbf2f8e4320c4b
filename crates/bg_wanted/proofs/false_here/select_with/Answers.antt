use Rattle.std.proofs.Common.{refl}
use Rattle.bg_wanted.proofs.false_here.select_with.Goals as goal

pub returns-in-Some : goal.returns-in-Some
returns-in-Some c = record { its_number = refl; its_class = refl; its_args = c.in-Some.ensures.cases.0; its_value = refl }
