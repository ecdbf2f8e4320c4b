use Rattle.std.proofs.Common.{map, sym, ap, ◌∙◌}
use Rattle.bg_ast.specs.Resolved as r
use Rattle.bg_ast.specs.Views.{ex_of, exs_of}
use Rattle.bg_renamed.specs.Views.{env_of, renamed_expr, renamed_link, renamed_bracket}
use Rattle.bg_renamed.proofs.Forms.{expr-Apply, expr-Chain, expr-Postfix, bracket-Select, bracket-Update}
use Rattle.bg_renamed.proofs.exprs.+rename_expr.Goals as goal

pub bracket-returns-in_ok-indices-in-Select : goal.bracket-returns-in_ok-indices-in-Select
bracket-returns-in_ok-indices-in-Select t c =
    let v = env_of c.args.env.now in
    bracket-Select v c.in-Select.pos c.in-Select.indices c.in_ok-indices-in-Select.indices (c.in_ok-indices-in-Select.ensures ∙ ap (map (renamed_expr v)) c.deref.ensures.value)
    ∙ ap (renamed_bracket v) (sym c.in-Select.is)

pub bracket-returns-in_ok-value-in-Update : goal.bracket-returns-in_ok-value-in-Update
bracket-returns-in_ok-value-in-Update t c =
    let v = env_of c.args.env.now in
    bracket-Update v c.in-Update.pos c.in-Update.indices c.in-Update.value c.in_ok-indices-in-Update.indices c.in_ok-value-in-Update.value (c.in_ok-indices-in-Update.ensures ∙ ap (map (renamed_expr v)) c.deref-in-Update.ensures.value) c.in_ok-value-in-Update.ensures
    ∙ ap (renamed_bracket v) (sym c.in-Update.is)

pub expr-returns-in_ok-args-in-Apply : goal.expr-returns-in_ok-args-in-Apply
expr-returns-in_ok-args-in-Apply t c =
    let v = env_of c.args.env.now in
    c.apply_node.ensures
    ∙ ap (λ l. r.Apply c.in-Apply.pos c.in-Apply.function (exs_of l)) (c.in_ok-args-in-Apply.ensures ∙ ap (map (renamed_expr v)) c.deref.ensures.value)
    ∙ sym (expr-Apply v c.in-Apply.pos c.in-Apply.function c.in-Apply.args)
    ∙ ap (renamed_expr v) (sym c.in-Apply.is)

pub expr-returns-in_ok-new-in-Postfix : goal.expr-returns-in_ok-new-in-Postfix
expr-returns-in_ok-new-in-Postfix t c =
    let v = env_of c.args.env.now in
    expr-Postfix v c.in-Postfix.e c.in-Postfix.brackets c.in_ok-new-in-Postfix.field-0 c.in_ok-behind-in-Postfix.behind (ap ex_of c.in_ok-new-in-Postfix.ensures.ok ∙ c.in_ok-made-in-Postfix.ensures ∙ ap (renamed_expr v) c.deref-in-Postfix.ensures) (c.in_ok-behind-in-Postfix.ensures ∙ ap (map (renamed_bracket v)) c.deref-in-Postfix-2.ensures.value)
    ∙ ap (renamed_expr v) (sym c.in-Postfix.is)

pub expr-returns-in_ok-new-in-Chain : goal.expr-returns-in_ok-new-in-Chain
expr-returns-in_ok-new-in-Chain t c =
    let v = env_of c.args.env.now in
    expr-Chain v c.in-Chain.e c.in-Chain.links c.in_ok-new-in-Chain.field-0 c.in_ok-behind-in-Chain.behind (ap ex_of c.in_ok-new-in-Chain.ensures.ok ∙ c.in_ok-made-in-Chain.ensures ∙ ap (renamed_expr v) c.deref-in-Chain.ensures) (c.in_ok-behind-in-Chain.ensures ∙ ap (map (renamed_link v)) c.deref-in-Chain-2.ensures.value)
    ∙ ap (renamed_expr v) (sym c.in-Chain.is)
