use Rattle.std.proofs.Common.{sym, ap, ◌∙◌}
use Rattle.bg_formed.specs.Formed.{said}
use Rattle.bg_formed.specs.Views.{says_of}
use Rattle.bg_slice.specs.Slices.{names_form}
use Rattle.bg_slice.specs.Marks.{marked}
use Rattle.bg_slice.proofs.Marking.{marked_none}
use Rattle.bg_slice.proofs.marks.mark_says.Goals as goal

pub returns-in-Outside : goal.returns-in-Outside
returns-in-Outside c =
    sym (marked_none c.args.base c.args.marks.now)
    ∙ ap (λ r. marked (λ n. names_form n (said (says_of r))) c.args.base c.args.marks.now) (sym c.in-Outside.is)
