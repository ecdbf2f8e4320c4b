use Rattle.std.proofs.Common.{rules}
use Rattle.bg_task.proofs.Marked.{first_at, first_over}
use Rattle.bg_task.proofs.targets.mark_one.Goals as goal

pub returns-then-i-marks : goal.returns-then-i-marks
returns-then-i-marks c = first_at c.args.j c.args.marks.now (search rules)

pub returns-else-i-marks : goal.returns-else-i-marks
returns-else-i-marks c = first_over c.args.j c.args.marks.now (search rules)
