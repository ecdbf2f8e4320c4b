use Rattle.std.proofs.Common.{map, sym, ap, ◌∙◌}
use Rattle.bg_ast.specs.Resolved as r
use Rattle.bg_ast.specs.Views.{ex_of, exs_of, link_view, bracket_view}
use Rattle.bg_ast.proofs.Lists.{ex_of-Apply}
use Rattle.bg_term_table.proofs.Copied.{expr-Chain, expr-Postfix, bracket-Select, bracket-Update}
use Rattle.bg_term_table.proofs.copies.+copy_expr.Goals as goal

pub copy_bracket-returns-in_ok-indices-in-Select : goal.copy_bracket-returns-in_ok-indices-in-Select
copy_bracket-returns-in_ok-indices-in-Select t c =
    bracket-Select c.in-Select.pos c.in-Select.indices c.in_ok-indices-in-Select.indices (c.in_ok-indices-in-Select.ensures ∙ ap (map ex_of) c.deref.ensures.value)
    ∙ ap bracket_view (sym c.in-Select.is)

pub copy_bracket-returns-in_ok-value-in-Update : goal.copy_bracket-returns-in_ok-value-in-Update
copy_bracket-returns-in_ok-value-in-Update t c =
    bracket-Update c.in-Update.pos c.in-Update.indices c.in-Update.value c.in_ok-indices-in-Update.indices c.in_ok-value-in-Update.value (c.in_ok-indices-in-Update.ensures ∙ ap (map ex_of) c.deref-in-Update.ensures.value) c.in_ok-value-in-Update.ensures
    ∙ ap bracket_view (sym c.in-Update.is)

pub copy-returns-in_ok-made-in-Apply : goal.copy-returns-in_ok-made-in-Apply
copy-returns-in_ok-made-in-Apply t c =
    c.apply_node.ensures
    ∙ ap (λ l. r.Apply c.in-Apply.pos c.in-Apply.function (exs_of l)) (c.in_ok-made-in-Apply.ensures ∙ ap (map ex_of) c.deref.ensures.value)
    ∙ sym (ex_of-Apply c.in-Apply.pos c.in-Apply.function c.in-Apply.args)
    ∙ ap ex_of (sym c.in-Apply.is)

pub copy-returns-in_ok-new-in-Postfix : goal.copy-returns-in_ok-new-in-Postfix
copy-returns-in_ok-new-in-Postfix t c =
    expr-Postfix c.in-Postfix.e c.in-Postfix.brackets c.in_ok-new-in-Postfix.field-0 c.in_ok-behind-in-Postfix.behind (ap ex_of c.in_ok-new-in-Postfix.ensures.ok ∙ c.in_ok-made-in-Postfix.ensures ∙ ap ex_of c.deref-in-Postfix.ensures) (c.in_ok-behind-in-Postfix.ensures ∙ ap (map bracket_view) c.deref-in-Postfix-2.ensures.value)
    ∙ ap ex_of (sym c.in-Postfix.is)

pub copy-returns-in_ok-new-in-Chain : goal.copy-returns-in_ok-new-in-Chain
copy-returns-in_ok-new-in-Chain t c =
    expr-Chain c.in-Chain.e c.in-Chain.links c.in_ok-new-in-Chain.field-0 c.in_ok-behind-in-Chain.behind (ap ex_of c.in_ok-new-in-Chain.ensures.ok ∙ c.in_ok-made-in-Chain.ensures ∙ ap ex_of c.deref-in-Chain.ensures) (c.in_ok-behind-in-Chain.ensures ∙ ap (map link_view) c.deref-in-Chain-2.ensures.value)
    ∙ ap ex_of (sym c.in-Chain.is)
