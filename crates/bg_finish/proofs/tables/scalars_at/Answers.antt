use Rattle.std.proofs.Common.{ap, ◌∙◌}
use Rattle.bg_wanted.specs.Scalars.{scalars_in}
use Rattle.bg_finish.proofs.Held.{row_missing, row_there}
use Rattle.bg_finish.proofs.tables.scalars_at.Goals as goal

pub returns-in-None : goal.returns-in-None
returns-in-None c = row_missing c.args.rows.now c.args.i c.in-None.ensures.lookup.3

pub returns-in-Some : goal.returns-in-Some
returns-in-Some c =
    ap scalars_in c.deref.ensures.value
    ∙ row_there c.args.rows.now c.args.i c.in-Some.r.now c.in-Some.ensures.lookup.3.0 (c.in-Some.ensures.lookup.3.1 c.in-Some.r.now)
