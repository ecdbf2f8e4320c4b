use Rattle.std.proofs.Common.{ap, ◌∙◌, refl, sym, true, append_assoc}
use Rattle.bg_print.specs.Docs.{text, each, gap, commas_from, ◌⨾◌}
use Rattle.bg_print.specs.Rows.{expr_doc, tree_bracket_doc, link_doc}
use Rattle.bg_print.proofs.Rows.{expr_doc-Apply, expr_doc-Postfix, expr_doc-Chain, bracket_doc-Select, bracket_doc-Update}
use Rattle.bg_print.proofs.Steps.{by_form, both, five}
use Rattle.bg_print.proofs.Loops.{one_more, none_left}
use Rattle.bg_print.proofs.exprs.+print_expr.Goals as goal

pub put_expr-returns-in_ok-put_apply-in-Apply : goal.put_expr-returns-in_ok-put_apply-in-Apply
put_expr-returns-in_ok-put_apply-in-Apply t c =
    by_form _ _ _ _ (ap expr_doc c.in-Apply.is ∙ expr_doc-Apply c.in-Apply.name c.in-Apply.args _ c.deref-in-Apply.ensures.value) c.in_ok-put_apply-in-Apply.ensures

pub put_expr-returns-in_ok-put_brackets-in-Postfix : goal.put_expr-returns-in_ok-put_brackets-in-Postfix
put_expr-returns-in_ok-put_brackets-in-Postfix t c =
    by_form _ _ _ _ (ap expr_doc c.in-Postfix.is ∙ expr_doc-Postfix c.in-Postfix.e c.in-Postfix.brackets _ _ c.deref-in-Postfix.ensures c.deref-in-Postfix-2.ensures.value) (both c.args.out.now.items _ _ (expr_doc c.deref-in-Postfix.result.now) (each tree_bracket_doc c.deref-in-Postfix-2.result.now) c.in_ok-put_expr-in-Postfix.ensures c.in_ok-put_brackets-in-Postfix.ensures)

pub put_expr-returns-in_ok-put_links-in-Chain : goal.put_expr-returns-in_ok-put_links-in-Chain
put_expr-returns-in_ok-put_links-in-Chain t c =
    by_form _ _ _ _ (ap expr_doc c.in-Chain.is ∙ expr_doc-Chain c.in-Chain.e c.in-Chain.links _ _ c.deref-in-Chain.ensures c.deref-in-Chain-2.ensures.value) (both c.args.out.now.items _ _ (expr_doc c.deref-in-Chain.result.now) (each link_doc c.deref-in-Chain-2.result.now) c.in_ok-put_expr-in-Chain.ensures c.in_ok-put_links-in-Chain.ensures)

pub put_bracket-returns-in_ok-put_select-in-Select : goal.put_bracket-returns-in_ok-put_select-in-Select
put_bracket-returns-in_ok-put_select-in-Select t c =
    by_form _ _ _ _ (ap tree_bracket_doc c.in-Select.is ∙ bracket_doc-Select c.in-Select.field-0 c.in-Select.indices _ c.deref.ensures.value) c.in_ok-put_select-in-Select.ensures

pub put_bracket-returns-in_ok-extend_from_slice-in-Update-3 : goal.put_bracket-returns-in_ok-extend_from_slice-in-Update-3
put_bracket-returns-in_ok-extend_from_slice-in-Update-3 t c =
    by_form _ _ _ _ (ap tree_bracket_doc c.in-Update.is ∙ bracket_doc-Update c.in-Update.field-0 c.in-Update.indices c.in-Update.value _ c.deref-in-Update.ensures.value)
    (five _ _ _ _ _ _ _ _ _ _ _ c.in_ok-extend_from_slice-in-Update.ensures.items c.in_ok-put_list-in-Update.ensures c.in_ok-extend_from_slice-in-Update-2.ensures.items c.in_ok-put_expr-in-Update.ensures c.in_ok-extend_from_slice-in-Update-3.ensures.items)

pub put_list-loop-e-preserved : goal.put_list-loop-e-preserved
put_list-loop-e-preserved t c = one_more (λ l. text (commas_from c.loop-e.behind expr_doc l)) (λ l. text (commas_from true expr_doc l)) c.args.es.now c.loop-e.e-index c.e-item.result (text (gap c.loop-e.behind ⨾ expr_doc c.e-item.result)) _ _ _ (λ ys. sym (append_assoc (text (gap c.loop-e.behind)) (text (expr_doc c.e-item.result)) (text (commas_from true expr_doc ys)))) c.loop-e-test.true c.e-item.is c.in_ok-put_next.ensures c.loop-e.invariant

pub put_list-returns : goal.put_list-returns
put_list-returns t c = none_left (λ l. text (commas_from c.loop-e.behind expr_doc l)) c.args.es.now c.loop-e.e-index _ _ refl c.loop-e-test.false c.loop-e.invariant

pub put_brackets-loop-bracket-preserved : goal.put_brackets-loop-bracket-preserved
put_brackets-loop-bracket-preserved t c = one_more (λ l. text (each tree_bracket_doc l)) (λ l. text (each tree_bracket_doc l)) c.args.brackets.now c.loop-bracket.bracket-index c.bracket-item.result (text (tree_bracket_doc c.bracket-item.result)) _ _ _ (λ ys. refl) c.loop-bracket-test.true c.bracket-item.is c.in_ok-put_bracket.ensures c.loop-bracket.invariant

pub put_brackets-returns : goal.put_brackets-returns
put_brackets-returns t c = none_left (λ l. text (each tree_bracket_doc l)) c.args.brackets.now c.loop-bracket.bracket-index _ _ refl c.loop-bracket-test.false c.loop-bracket.invariant

pub put_links-loop-link-preserved : goal.put_links-loop-link-preserved
put_links-loop-link-preserved t c = one_more (λ l. text (each link_doc l)) (λ l. text (each link_doc l)) c.args.links.now c.loop-link.link-index c.link-item.result (text (link_doc c.link-item.result)) _ _ _ (λ ys. refl) c.loop-link-test.true c.link-item.is c.in_ok-put_link.ensures c.loop-link.invariant

pub put_links-returns : goal.put_links-returns
put_links-returns t c = none_left (λ l. text (each link_doc l)) c.args.links.now c.loop-link.link-index _ _ refl c.loop-link-test.false c.loop-link.invariant
