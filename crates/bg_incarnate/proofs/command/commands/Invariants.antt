use Rattle.std.proofs.Common.{◌≡◌, map, drop}
use Rattle.bg_ast.specs.Resolved.{Program}
use Rattle.bg_blocks.specs.Views.{cmd_of}
use Rattle.bg_passive.specs.Incarnations.{pass_all}
use Rattle.bg_incarnate.specs.Views.{passed_of, onto}
use Rattle.bg_incarnate.proofs.command.commands.Given as goal

abbrev pub invariant-loop-k : goal.invariant-loop-k
invariant-loop-k l =
    (p : Program) → onto (pass_all (map (cmd_of p) (drop l.k-index l.ks))) (passed_of l.out.items l.held l.next) ≡ onto (pass_all (map (cmd_of p) l.ks)) (passed_of l.fn.out.items l.fn.held l.fn.next)
