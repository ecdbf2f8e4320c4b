use Rattle.std.proofs.Common.{map, ◌∙◌, arith}
use Rattle.std.proofs.lemmas.Result.{on_ok_weaker}
use Rattle.bg_ast.specs.Meaning as m
use Rattle.bg_ast.specs.Views.{guard_of, var_of}
use Rattle.bg_flow.specs.Core.{head_of}
use Rattle.bg_blocks.specs.Views.{clauses_in}
use Rattle.bg_blocks.proofs.TakenBack.{closed}
use Rattle.bg_blocks.proofs.sides.close_loop.Goals as goal

pub returns : goal.returns
returns c =
    let back = c.in_ok-go_back.ensures in
    on_ok_weaker c.head_of_loop.result
    (λ h p a before l n x. h p
    ∙ closed p a (m.guard_of (guard_of c.args.head.guard.now)) (head_of (clauses_in c.args.head.invariants.now) (map var_of c.args.forgotten.items)) before c.args.state.now c.go_back.new.state c.args.start c.args.first c.saturating_sub-made.result l n x back.marks back.undo back.blocks back.takes_in (omega (arith, c.len.ensures, c.saturating_sub-made.ensures)))
    c.head_of_loop.ensures
