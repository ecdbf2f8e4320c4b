use Rattle.std.proofs.Common.{sym, ap, ◌∙◌}
use Rattle.bg_ast.specs.Syntax.{Read}
use Rattle.bg_ast.specs.Views.{var_of}
use Rattle.bg_slice.specs.Marks.{marked}
use Rattle.bg_task.specs.Targets.{reads}
use Rattle.bg_task.proofs.Marked.{marked_none}
use Rattle.bg_task.proofs.targets.mark_read.Goals as goal

pub returns-in-Global : goal.returns-in-Global
returns-in-Global c =
    marked_none 0 c.args.marks.now ∙ ap (λ y. marked (λ k. reads k (Read (var_of y))) 0 c.args.marks.now) (sym c.in-Global.is)
