use Rattle.std.proofs.Common.{◌∙◌, arith}
use Rattle.std.proofs.lemmas.Result.{on_ok_weaker}
use Rattle.bg_blocks.proofs.TakenBack.{skipped}
use Rattle.bg_blocks.proofs.sides.skip_side.Goals as goal

pub returns : goal.returns
returns c =
    let back = c.in_ok-go_back.ensures in
    on_ok_weaker c.skip_branch.result
    (λ h p b before l n x. h p ∙ skipped p b before c.args.state.now c.go_back.new.state c.args.start c.args.first c.saturating_sub-made.result l n x back.marks back.undo back.blocks back.takes_in (omega (arith, c.len.ensures, c.saturating_sub-made.ensures)))
    c.skip_branch.ensures
