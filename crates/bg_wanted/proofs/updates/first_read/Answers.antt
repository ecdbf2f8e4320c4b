use Rattle.std.proofs.Common.{sym, ap, ◌∙◌}
use Rattle.bg_term_table.specs.Views.{meanings, listed}
use Rattle.bg_wanted.specs.Asked.{first_local}
use Rattle.bg_wanted.proofs.Fitting.{none_read}
use Rattle.bg_wanted.proofs.updates.first_read.Goals as goal

pub returns-in-None : goal.returns-in-None
returns-in-None c = none_read c.args.args.now c.in-None.ensures.cases

pub returns-in-Some : goal.returns-in-Some
returns-in-Some c = c.local.ensures ∙ sym (ap (λ l. first_local (listed (meanings l))) c.in-Some.ensures.cases.0)
