use Rattle.std.proofs.Common.{◌≡◌, List, drop}
use Rattle.bg_ast.specs.Syntax.{Fun}
use Rattle.bg_numbered.specs.Lines.{after_lines}
use Rattle.bg_term_table.specs.Views.{terms_in, incs_of, GiveThese}
use Rattle.bg_term_table.specs.Lines.{lines_of}
use Rattle.bg_term_table.proofs.behind_lines.terms_behind.Given as goal

abbrev pub invariant-loop-i : goal.invariant-loop-i
invariant-loop-i l =
    (fs : List Fun) → GiveThese fs l.around → after_lines (incs_of l.around) (terms_in fs l.made.items) (lines_of (drop l.i l.lines)) ≡ after_lines (incs_of l.around) (terms_in fs l.terms) (lines_of l.lines)
