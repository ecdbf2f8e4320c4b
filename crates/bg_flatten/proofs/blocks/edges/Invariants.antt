use Rattle.std.proofs.Common.{List, take, map}
use Rattle.bg_ast.specs.Syntax.{Fun}
use Rattle.bg_term_table.specs.Views.{terms_in, incs_of, GiveThese}
use Rattle.bg_incarnate.specs.Views.{edge_of}
use Rattle.bg_flatten.specs.Numbered.{edge_behind, edge_numbered}
use Rattle.bg_flatten.specs.Made.{AreMade}
use Rattle.bg_flatten.proofs.blocks.edges.Given as goal

abbrev pub invariant-loop-e : goal.invariant-loop-e
invariant-loop-e l =
    (fs : List Fun) → GiveThese fs l.around → AreMade (edge_behind fs (incs_of l.around)) (edge_numbered fs (incs_of l.around)) (map edge_of (take l.e-index l.es)) (terms_in fs l.fn.terms.terms.items) (map edge_of l.made.items) (terms_in fs l.terms.terms.items)
