use Rattle.bg_spaces.proofs.Joins.{groups-ids}
use Rattle.bg_spaces.proofs.entries.push_ids.Goals as goal

pub returns-clause-ok : goal.returns-clause-ok
returns-clause-ok c = rw (groups-ids c.args.gs.now) c.push_groups.ensures.ok
