use Rattle.std.proofs.Common.{◌∙◌, arith}
use Rattle.std.proofs.lemmas.Result.{on_ok_weaker}
use Rattle.bg_ast.specs.Meaning as m
use Rattle.bg_ast.specs.Views.{guard_of}
use Rattle.bg_blocks.proofs.TakenBack.{decided}
use Rattle.bg_blocks.proofs.sides.decide.Goals as goal

pub returns : goal.returns
returns c =
    let back = c.in_ok-go_back.ensures in
    on_ok_weaker c.take_branch.result
    (λ h p a off before l n x. h p
    ∙ decided p a (m.guard_of (guard_of c.args.guard.now)) off before c.args.state.now c.go_back.new.state c.args.start c.args.first c.saturating_sub-made.result l n x back.marks back.undo back.blocks back.takes_in (omega (arith, c.len.ensures, c.saturating_sub-made.ensures)))
    c.take_branch.ensures
