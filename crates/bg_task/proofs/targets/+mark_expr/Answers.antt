use Rattle.std.proofs.Common.{◌≡◌, ◌<◌, length, sym, ap, ◌∙◌, arith}
use Rattle.std.proofs.lemmas.Bool.Decides.{nat_tests}
use Rattle.std.specs.List.{list_any}
use Rattle.bg_slice.specs.Marks.{marked}
use Rattle.bg_term_table.specs.Views.{meaning}
use Rattle.bg_task.specs.Targets.{reads}
use Rattle.bg_task.proofs.Marked.{marked_none, marked_next, marked_last, marks_prefix, marks_bare, marks_brackets, marks_chain}
use Rattle.bg_task.proofs.targets.+mark_expr.Goals as goal

pub mark-returns-in-Number : goal.mark-returns-in-Number
mark-returns-in-Number t c =
    marked_none 0 c.args.marks.now ∙ ap (λ x. marked (λ k. reads k (meaning x)) 0 c.args.marks.now) (sym c.in-Number.is)

pub mark-returns-in-Truth : goal.mark-returns-in-Truth
mark-returns-in-Truth t c =
    marked_none 0 c.args.marks.now ∙ ap (λ x. marked (λ k. reads k (meaning x)) 0 c.args.marks.now) (sym c.in-Truth.is)

pub mark-returns-in-Constant : goal.mark-returns-in-Constant
mark-returns-in-Constant t c =
    marked_none 0 c.args.marks.now ∙ ap (λ x. marked (λ k. reads k (meaning x)) 0 c.args.marks.now) (sym c.in-Constant.is)

pub mark-returns-in-Apply : goal.mark-returns-in-Apply
mark-returns-in-Apply t c =
    marked_none 0 c.args.marks.now ∙ ap (λ x. marked (λ k. reads k (meaning x)) 0 c.args.marks.now) (sym c.in-Apply.is)

pub mark-returns-in-Old : goal.mark-returns-in-Old
mark-returns-in-Old t c =
    marked_none 0 c.args.marks.now ∙ ap (λ x. marked (λ k. reads k (meaning x)) 0 c.args.marks.now) (sym c.in-Old.is)

pub mark-returns-then-is_empty : goal.mark-returns-then-is_empty
mark-returns-then-is_empty t c =
    let d = c.in-Postfix in
    let n : length d.brackets.items ≡ 0 = let h = c.is_empty.ensures in let k = c.if-is_empty.true in grind (arith, nat_tests, h, k) in
    marks_bare d.e d.brackets c.args.marks.now c.mark-then-is_empty.new.marks n (c.mark-then-is_empty.ensures ∙ ap (λ x. marked (λ k. reads k (meaning x)) 0 c.args.marks.now) c.deref-then-is_empty.ensures)
    ∙ ap (λ x. marked (λ k. reads k (meaning x)) 0 c.args.marks.now) (sym d.is)

pub mark-returns-else-is_empty : goal.mark-returns-else-is_empty
mark-returns-else-is_empty t c =
    let d = c.in-Postfix in
    let n : 0 < length d.brackets.items = let h = c.is_empty.ensures in let k = c.if-is_empty.false in grind (arith, nat_tests, h, k) in
    marks_brackets d.e d.brackets c.args.marks.now n
    ∙ ap (λ x. marked (λ k. reads k (meaning x)) 0 c.args.marks.now) (sym d.is)

pub mark-returns-in-Prefix : goal.mark-returns-in-Prefix
mark-returns-in-Prefix t c =
    let d = c.in-Prefix in
    marks_prefix d.field-0 d.e c.args.marks.now c.mark-in-Prefix.new.marks (c.mark-in-Prefix.ensures ∙ ap (λ x. marked (λ k. reads k (meaning x)) 0 c.args.marks.now) c.deref-in-Prefix.ensures)
    ∙ ap (λ x. marked (λ k. reads k (meaning x)) 0 c.args.marks.now) (sym d.is)

pub mark-returns-in-Chain : goal.mark-returns-in-Chain
mark-returns-in-Chain t c =
    let d = c.in-Chain in
    marks_chain d.e d.links c.args.marks.now c.mark-in-Chain.new.marks c.mark_links.new.marks (c.mark-in-Chain.ensures ∙ ap (λ x. marked (λ k. reads k (meaning x)) 0 c.args.marks.now) c.deref-in-Chain.ensures) (c.mark_links.ensures ∙ ap (λ l. marked (λ k. list_any (λ x. reads k (meaning x.operand)) l) 0 c.mark-in-Chain.new.marks) c.deref-in-Chain-2.ensures.value)
    ∙ ap (λ x. marked (λ k. reads k (meaning x)) 0 c.args.marks.now) (sym d.is)

pub mark_links-loop-l-preserved : goal.mark_links-loop-l-preserved
mark_links-loop-l-preserved t c =
    marked_next (λ k x. reads k (meaning x.operand)) c.args.links.now c.loop-l.l-index c.l-item.result c.loop-l.marks c.mark.new.marks _ c.loop-l-test.true c.l-item.is c.mark.ensures c.loop-l.invariant

pub mark_links-returns : goal.mark_links-returns
mark_links-returns t c =
    marked_last (λ k x. reads k (meaning x.operand)) c.args.links.now c.loop-l.l-index c.loop-l.marks _ c.loop-l-test.false c.loop-l.invariant
