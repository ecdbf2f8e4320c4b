use Rattle.std.proofs.Common.{ap, ◌∙◌}
use Rattle.std.proofs.lemmas.List.{map-append}
use Rattle.bg_incarnate.specs.Views.{passive_cmd_of, cmds_of, passive_block_of}
use Rattle.bg_fronts.proofs.blocks.with_front.Goals as goal

pub returns : goal.returns
returns c =
    ap (λ ks. record { cmds = ks; next = (passive_block_of c.args.block).next }) (ap cmds_of c.in_ok-append.ensures.items ∙ map-append passive_cmd_of c.args.front.items c.args.block.cmds.items)
