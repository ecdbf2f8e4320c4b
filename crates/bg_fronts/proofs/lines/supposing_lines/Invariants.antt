use Rattle.std.proofs.Common.{◌≡◌, List, take}
use Rattle.bg_ast.specs.Syntax.{Fun}
use Rattle.bg_incarnate.specs.Views.{cmds_of}
use Rattle.bg_flat.specs.Blocks.{supposed}
use Rattle.bg_flat.specs.Fronts.{stated}
use Rattle.bg_numbered.specs.Lines.{instances_in}
use Rattle.bg_term_table.specs.Lines.{lines_of}
use Rattle.bg_term_table.specs.Views.{terms_in}
use Rattle.bg_fronts.proofs.lines.supposing_lines.Given as goal

abbrev pub invariant-loop-line : goal.invariant-loop-line
invariant-loop-line l =
    (fs : List Fun) → cmds_of l.made.items ≡ supposed (stated l.count (terms_in fs l.terms) (instances_in (lines_of (take l.line-index l.lines))))
