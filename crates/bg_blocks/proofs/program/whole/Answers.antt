use Rattle.std.proofs.Common.{sym, ◌∙◌}
use Rattle.std.proofs.lemmas.Result.{IfOk-weaker}
use Rattle.bg_ast.specs.Views.{program_of}
use Rattle.bg_blocks.proofs.Wholes.{frame_in, frame_length, whole_in_order}
use Rattle.bg_blocks.proofs.program.whole.Goals as goal

pub returns : goal.returns
returns c =
    let p = program_of c.args.around.program.now in
    let m = c.args.m.now in
    let q = c.args.q.now in
    IfOk-weaker c.in_order.result _ _
    (λ made h. whole_in_order p c.args.number m q c.in_ok-state.state made.items c.deref.result.now (h p) c.deref.ensures.value (c.in_ok-state.ensures (frame_in m q) (frame_length m q ∙ sym c.requires.frame)))
    c.in_order.ensures
