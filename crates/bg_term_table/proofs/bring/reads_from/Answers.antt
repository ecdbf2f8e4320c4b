use Rattle.std.proofs.Common.{◌≡◌, ◌+◌, suc, ap, ◌∙◌, arith}
use Rattle.bg_ast.specs.Syntax.{Read, Local}
use Rattle.bg_term_table.specs.Views.{meaning, meanings, listed}
use Rattle.bg_term_table.specs.Brought.{read_list}
use Rattle.bg_term_table.proofs.Loops as loops
use Rattle.bg_term_table.proofs.Bringing.{with_last, listed_last, read_last}
use Rattle.bg_term_table.proofs.bring.reads_from.Goals as goal

pub loop-j-preserved : goal.loop-j-preserved
loop-j-preserved c =
    let from = c.args.from in
    let j = c.loop-j.j in
    let x = c.reads.result in
    let made = c.loop-j.made.items in
    let last : suc j ≡ j + 1 = omega arith in
    ap listed (loops.read_last meaning c.push.new.self.items made x c.in_ok-push.ensures.items)
    ∙ listed_last (meanings made) (meaning x)
    ∙ ap (λ l. with_last l (meaning x)) c.loop-j.invariant
    ∙ ap (with_last (read_list from j)) (c.reads.ensures ∙ ap (λ n. Read (Local n)) c.in_ok-number.ensures)
    ∙ read_last from j
    ∙ ap (read_list from) last
