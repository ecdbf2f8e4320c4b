use Rattle.std.proofs.Common.{List, ◌-◌, length, take, map}
use Rattle.bg_ast.specs.Syntax.{Fun}
use Rattle.bg_term_table.specs.Views.{term_of, terms_in}
use Rattle.bg_wanted.specs.Classes.{AreMet}
use Rattle.bg_wanted.specs.Rows.{rows_of, AreRows}
use Rattle.bg_wanted.proofs.rows.leaf_rows.Given as goal

abbrev pub invariant-loop-i : goal.invariant-loop-i
invariant-loop-i l =
    ((fs : List Fun) → AreMet (terms_in fs l.terms) l.i l.met.items)
    × ((fs : List Fun) → AreRows l.values l.count (terms_in fs l.terms) 0 (map (term_of fs) (take l.i l.terms)) (rows_of l.made.items))

abbrev pub decreases-loop-i : goal.decreases-loop-i
decreases-loop-i l = length l.terms - l.i
