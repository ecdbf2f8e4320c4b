use Rattle.std.proofs.Common.{List, take, map}
use Rattle.bg_ast.specs.Syntax.{Fun}
use Rattle.bg_term_table.specs.Views.{terms_in, incs_of, GiveThese}
use Rattle.bg_incarnate.specs.Views.{passive_cmd_of}
use Rattle.bg_flatten.specs.Numbered.{cmd_behind, cmd_numbered}
use Rattle.bg_flatten.specs.Made.{AreMade}
use Rattle.bg_flatten.proofs.blocks.cmds.Given as goal

abbrev pub invariant-loop-k : goal.invariant-loop-k
invariant-loop-k l =
    (fs : List Fun) → GiveThese fs l.around → AreMade (cmd_behind fs (incs_of l.around)) (cmd_numbered fs (incs_of l.around)) (map passive_cmd_of (take l.k-index l.ks)) (terms_in fs l.fn.terms.terms.items) (map passive_cmd_of l.made.items) (terms_in fs l.terms.terms.items)
