use Rattle.std.proofs.Common.{rules}
use Rattle.bg_slice.proofs.Marking.{one_under, one_over}
use Rattle.bg_slice.proofs.marks.mark.Goals as goal

pub returns-then-atom-base : goal.returns-then-atom-base
returns-then-atom-base c = one_under c.args.atom c.args.base c.args.marks.now (search rules)

pub returns-else-i-marks : goal.returns-else-i-marks
returns-else-i-marks c =
    one_over c.args.atom c.args.base c.args.marks.now (search rules) (search rules)
