use Rattle.std.proofs.Common.{List, take, map}
use Rattle.bg_ast.specs.Syntax.{Fun}
use Rattle.bg_term_table.specs.Views.{terms_in, incs_of, GiveThese}
use Rattle.bg_incarnate.specs.Views.{passive_block_of}
use Rattle.bg_flatten.specs.Numbered.{block_behind, block_numbered}
use Rattle.bg_flatten.specs.Made.{AreMade}
use Rattle.bg_flatten.proofs.blocks.blocks_flat.Given as goal

abbrev pub invariant-loop-b : goal.invariant-loop-b
invariant-loop-b l =
    (fs : List Fun) → GiveThese fs l.around → AreMade (block_behind fs (incs_of l.around)) (block_numbered fs (incs_of l.around)) (map passive_block_of (take l.b-index l.blocks)) (terms_in fs l.fn.terms.terms.items) (map passive_block_of l.made.items) (terms_in fs l.terms.terms.items)
