use Rattle.std.proofs.Common.{take, sym, ap, ◌∙◌}
use Rattle.bg_ast.specs.Meaning as m
use Rattle.bg_ast.specs.Syntax.{More, Read, Local}
use Rattle.bg_term_table.specs.Views.{meaning, meanings, listed}
use Rattle.bg_term_table.proofs.Loops.{read_more, read_last}
use Rattle.bg_term_table.proofs.Bringing.{with_last, listed_last}
use Rattle.bg_term_table.proofs.bring.arguments.Goals as goal

pub loop-x-preserved : goal.loop-x-preserved
loop-x-preserved c =
    let index = c.args.index.now in
    let i = c.loop-x.x-index in
    let x = c.x-item.result in
    let y = c.in_ok-x.x in
    let made = c.loop-x.made.items in
    let front = More (Read (Local c.args.m)) in
    ap listed (read_last meaning c.push-in-loop-x.new.self.items made y c.in_ok-push-2.ensures.items)
    ∙ listed_last (meanings made) (meaning y)
    ∙ ap (λ l. with_last l (meaning y)) c.loop-x.invariant
    ∙ ap (λ e. front (with_last (listed (meanings (take i index))) (m.ex_of e))) c.in_ok-x.ensures
    ∙ ap front (sym (ap listed (read_more meaning index i x c.loop-x-test.true c.x-item.is) ∙ listed_last (meanings (take i index)) (meaning x)))
