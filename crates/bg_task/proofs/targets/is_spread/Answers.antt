use Rattle.std.proofs.Common.{sym, ap, ◌∙◌}
use Rattle.bg_task.specs.Targets.{is_spread}
use Rattle.bg_task.proofs.targets.is_spread.Goals as goal

pub returns-in-None : goal.returns-in-None
returns-in-None c = ap is_spread (sym c.in-None.ensures.is.1.1)

pub returns-in-Some : goal.returns-in-Some
returns-in-Some c = c.is_spread_base.ensures ∙ ap is_spread (sym c.in-Some.ensures.is)
