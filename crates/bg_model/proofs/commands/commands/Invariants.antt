use Rattle.std.proofs.Common.{◌≡◌, List, map, drop}
use Rattle.bg_ast.specs.Values.{Val}
use Rattle.bg_ast.specs.Execution as e
use Rattle.bg_ast.specs.Resolved.{Program}
use Rattle.bg_blocks.specs.Views.{cmd_of}
use Rattle.bg_model.specs.Views.{made_by, next_by}
use Rattle.bg_model.proofs.commands.commands.Given as goal

abbrev pub invariant-loop-k : goal.invariant-loop-k
invariant-loop-k l =
    (vs : List Val) (p : Program) (rest : List e.Choice) → made_by vs l.front (next_by vs l.trial (map (cmd_of p) (drop l.k-index l.ks)) l.front rest) ≡ made_by vs l.fn.front (next_by vs l.trial (map (cmd_of p) l.ks) l.fn.front rest)
