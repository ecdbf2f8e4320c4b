use Rattle.std.proofs.Common.{map, sym, ap, ◌∙◌}
use Rattle.bg_ast.specs.Resolved as r
use Rattle.bg_ast.specs.Views.{ex_of, exs_of}
use Rattle.bg_ast.specs.Views.{exs_in}
use Rattle.bg_opened.specs.Changed.{putting}
use Rattle.bg_opening.specs.Views.{changed_expr, changed_link, changed_bracket}
use Rattle.bg_opening.proofs.Forms.{expr-Apply, expr-Chain, expr-Postfix, bracket-Select, bracket-Update}
use Rattle.bg_opening.proofs.puts.+put_expr.Goals as goal

pub put_bracket-returns-in_ok-indices-in-Select : goal.put_bracket-returns-in_ok-indices-in-Select
put_bracket-returns-in_ok-indices-in-Select t c =
    let h = putting (exs_in c.args.xs.now) in
    bracket-Select h c.in-Select.pos c.in-Select.indices c.in_ok-indices-in-Select.indices (c.in_ok-indices-in-Select.ensures ∙ ap (map (changed_expr h)) c.deref.ensures.value)
    ∙ ap (changed_bracket h) (sym c.in-Select.is)

pub put_bracket-returns-in_ok-value-in-Update : goal.put_bracket-returns-in_ok-value-in-Update
put_bracket-returns-in_ok-value-in-Update t c =
    let h = putting (exs_in c.args.xs.now) in
    bracket-Update h c.in-Update.pos c.in-Update.indices c.in-Update.value c.in_ok-indices-in-Update.indices c.in_ok-value-in-Update.value (c.in_ok-indices-in-Update.ensures ∙ ap (map (changed_expr h)) c.deref-in-Update.ensures.value) c.in_ok-value-in-Update.ensures
    ∙ ap (changed_bracket h) (sym c.in-Update.is)

pub put-returns-in_ok-made-in-Apply : goal.put-returns-in_ok-made-in-Apply
put-returns-in_ok-made-in-Apply t c =
    let h = putting (exs_in c.args.xs.now) in
    c.apply_node.ensures
    ∙ ap (λ l. r.Apply c.in-Apply.pos c.in-Apply.function (exs_of l)) (c.in_ok-made-in-Apply.ensures ∙ ap (map (changed_expr h)) c.deref.ensures.value)
    ∙ sym (expr-Apply h c.in-Apply.pos c.in-Apply.function c.in-Apply.args)
    ∙ ap (changed_expr h) (sym c.in-Apply.is)

pub put-returns-in_ok-new-in-Postfix : goal.put-returns-in_ok-new-in-Postfix
put-returns-in_ok-new-in-Postfix t c =
    let h = putting (exs_in c.args.xs.now) in
    expr-Postfix h c.in-Postfix.e c.in-Postfix.brackets c.in_ok-new-in-Postfix.field-0 c.in_ok-behind-in-Postfix.behind (ap ex_of c.in_ok-new-in-Postfix.ensures.ok ∙ c.in_ok-made-in-Postfix.ensures ∙ ap (changed_expr h) c.deref-in-Postfix.ensures) (c.in_ok-behind-in-Postfix.ensures ∙ ap (map (changed_bracket h)) c.deref-in-Postfix-2.ensures.value)
    ∙ ap (changed_expr h) (sym c.in-Postfix.is)

pub put-returns-in_ok-new-in-Chain : goal.put-returns-in_ok-new-in-Chain
put-returns-in_ok-new-in-Chain t c =
    let h = putting (exs_in c.args.xs.now) in
    expr-Chain h c.in-Chain.e c.in-Chain.links c.in_ok-new-in-Chain.field-0 c.in_ok-behind-in-Chain.behind (ap ex_of c.in_ok-new-in-Chain.ensures.ok ∙ c.in_ok-made-in-Chain.ensures ∙ ap (changed_expr h) c.deref-in-Chain.ensures) (c.in_ok-behind-in-Chain.ensures ∙ ap (map (changed_link h)) c.deref-in-Chain-2.ensures.value)
    ∙ ap (changed_expr h) (sym c.in-Chain.is)
