use Rattle.std.proofs.Common.{sym, ◌∙◌}
use Rattle.bg_task.proofs.Sliced.{none_there}
use Rattle.bg_task.proofs.prepared.kept.Goals as goal

pub returns-then-are_mapless : goal.returns-then-are_mapless
returns-then-are_mapless c some =
    absurd (some (none_there c.args.terms.now _ c.is_empty.ensures c.if-is_empty.true, sym c.are_mapless.ensures ∙ c.if-are_mapless.true))
