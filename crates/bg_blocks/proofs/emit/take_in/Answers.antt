use Rattle.std.proofs.Common.{ap}
use Rattle.bg_blocks.specs.Views.{cmd_of, exit_of}
use Rattle.bg_blocks.proofs.Reading.{in_front_of}
use Rattle.bg_blocks.proofs.emit.take_in.Goals as goal

pub returns : goal.returns
returns c = λ p.
    ap (λ l. record { cmds = l; exit = exit_of c.args.block.exit })
    (in_front_of (cmd_of p) c.append.new.self.items c.reverse.new.self.items c.args.block.cmds.items c.args.cmds.items c.reverse.ensures.items c.in_ok-append.ensures.items)
