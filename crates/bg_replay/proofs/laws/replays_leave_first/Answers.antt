use Rattle.std.proofs.Common.{map, sym, ◌∙◌}
use Rattle.bg_blocks.specs.Views.{block_of}
use Rattle.bg_replay.specs.Endings.{around_in, moment_in}
use Rattle.bg_replay.proofs.First.{leaves_first, stops_within}
use Rattle.bg_replay.proofs.laws.replays_leave_first.Goals as goal

pub returns-clause-first : goal.returns-clause-first
returns-clause-first c functions constants p bs set number m q ts gs fs cs ending o mean replay e =
    leaves_first functions constants (around_in p m q set ts gs) mean 0 (map (block_of p) bs) (moment_in gs fs cs) o (sym replay.ran ∙ e)

pub returns-clause-none : goal.returns-clause-none
returns-clause-none c functions constants p bs set number m q ts gs fs cs ending x mean replay e =
    stops_within functions constants (around_in p m q set ts gs) mean 0 (map (block_of p) bs) (moment_in gs fs cs) x (sym replay.ran ∙ e)

pub returns-clause-same : goal.returns-clause-same
returns-clause-same c p bs set number other m q ts gs fs cs a b h k = h.ran ∙ sym k.ran
