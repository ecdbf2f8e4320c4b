use Rattle.bg_slice.proofs.Left.{rows_left, agree_left, below_left, count_left}
use Rattle.bg_slice.proofs.laws.slices_have_rows.Goals as goal

pub returns-clause-are_rows : goal.returns-clause-are_rows
returns-clause-are_rows c n bs rows h = rows_left bs n rows h

pub returns-clause-agree : goal.returns-clause-agree
returns-clause-agree c n bs rows h = agree_left bs n rows h

pub returns-clause-below : goal.returns-clause-below
returns-clause-below c n k bs rows h = below_left bs n k rows h

pub returns-clause-count : goal.returns-clause-count
returns-clause-count c n bs rows = count_left bs n rows
