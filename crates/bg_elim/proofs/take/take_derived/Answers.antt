use Rattle.bg_rows.specs.Rows.{row_of}
use Rattle.bg_elim.specs.Work.{work_of}
use Rattle.bg_elim.proofs.Rounds.{implied_taken}
use Rattle.bg_elim.proofs.take.take_derived.Goals as goal

pub returns-in-Implied-clause-taken : goal.returns-in-Implied-clause-taken
returns-in-Implied-clause-taken c =
    implied_taken (work_of c.args.work.now) (row_of c.args.row) (row_of c.in_ok-tight.tight.row) _ _ c.in_ok-tight.ensures.tight c.in_ok-tight.tight.row.normal c.in_ok-tight.ensures.stand c.in-Implied.is
