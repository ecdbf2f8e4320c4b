use Rattle.std.proofs.Common.{◌≡◌, List, take}
use Rattle.bg_ast.specs.Syntax.{Fun}
use Rattle.bg_term_table.specs.Views.{terms_in}
use Rattle.bg_term_table.proofs.behind_lines.terms_copied.Given as goal

abbrev pub invariant-loop-t : goal.invariant-loop-t
invariant-loop-t l = (fs : List Fun) → terms_in fs l.made.items ≡ terms_in fs (take l.t-index l.terms)
