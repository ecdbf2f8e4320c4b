use Rattle.std.proofs.Common.{true, ◌∷◌, map, ap, ◌∙◌}
use Rattle.std.specs.Prelude.{reverse}
use Rattle.bg_blocks.specs.declared.block.Block.{Block}
use Rattle.bg_blocks.specs.MarkViews.{marked}
use Rattle.bg_blocks.specs.Views.{cmd_of, exit_of}
use Rattle.bg_blocks.specs.EmittedViews.{made_of}
use Rattle.bg_blocks.proofs.Reading.{last_first, turned_back}
use Rattle.bg_blocks.proofs.emit.push.Goals as goal

pub returns : goal.returns
returns c = λ p.
    let e = c.args.state.now in
    let b : Block = record { cmds = c.reverse.new.self; exit = c.args.exit } in
    ap (λ l. record { blocks = l; takes_in = true; marks = marked e.marks; undo = e.marks.undo.items })
    (last_first (made_of p) c.push.new.self.items e.blocks.items b c.in_ok-push.ensures.items
    ∙ ap (λ ks. record { cmds = ks; exit = exit_of c.args.exit } ∷ reverse (map (made_of p) e.blocks.items)) (turned_back (cmd_of p) c.reverse.new.self.items c.args.cmds.items c.reverse.ensures.items))
