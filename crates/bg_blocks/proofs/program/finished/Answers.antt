use Rattle.std.proofs.Common.{map, ap, ◌∙◌}
use Rattle.bg_blocks.specs.Views.{cmd_of, exit_of}
use Rattle.bg_blocks.proofs.Reading.{map_reverse}
use Rattle.bg_blocks.proofs.program.finished.Goals as goal

pub returns : goal.returns
returns c = λ p.
    ap (λ ks. record { cmds = ks; exit = exit_of c.args.block.exit }) (ap (map (cmd_of p)) c.reverse.ensures.items ∙ map_reverse (cmd_of p) c.args.block.cmds.items)
