use Rattle.std.proofs.Common.{map, sym, ap, ◌∙◌}
use Rattle.std.proofs.lemmas.Result.{IfOk-weaker}
use Rattle.bg_ast.specs.Views.{ex_of}
use Rattle.bg_ast.specs.Views.{fun_of}
use Rattle.bg_opened.specs.Changed.{opening}
use Rattle.bg_opening.specs.Views.{changed_expr, changed_link, changed_bracket}
use Rattle.bg_opening.proofs.Forms.{passed-Apply, expr-Chain, expr-Postfix, bracket-Select, bracket-Update}
use Rattle.bg_opening.proofs.passes.+open_expr.Goals as goal

pub pass_bracket-returns-in_ok-indices-in-Select : goal.pass_bracket-returns-in_ok-indices-in-Select
pass_bracket-returns-in_ok-indices-in-Select t c =
    let h = opening c.args.known.globals (map fun_of c.args.known.functions.now) in
    bracket-Select h c.in-Select.pos c.in-Select.indices c.in_ok-indices-in-Select.indices (c.in_ok-indices-in-Select.ensures ∙ ap (map (changed_expr h)) c.deref.ensures.value)
    ∙ ap (changed_bracket h) (sym c.in-Select.is)

pub pass_bracket-returns-in_ok-value-in-Update : goal.pass_bracket-returns-in_ok-value-in-Update
pass_bracket-returns-in_ok-value-in-Update t c =
    let h = opening c.args.known.globals (map fun_of c.args.known.functions.now) in
    bracket-Update h c.in-Update.pos c.in-Update.indices c.in-Update.value c.in_ok-indices-in-Update.indices c.in_ok-value-in-Update.value (c.in_ok-indices-in-Update.ensures ∙ ap (map (changed_expr h)) c.deref-in-Update.ensures.value) c.in_ok-value-in-Update.ensures
    ∙ ap (changed_bracket h) (sym c.in-Update.is)

pub pass-returns-in_ok-made-in-Apply : goal.pass-returns-in_ok-made-in-Apply
pass-returns-in_ok-made-in-Apply t c =
    let fs = map fun_of c.args.known.functions.now in
    IfOk-weaker c.apply.result _ _ (λ x e. passed-Apply c.args.known.globals fs c.args.e.now c.in-Apply.pos c.in-Apply.function c.in-Apply.args c.deref.result.now _ (ex_of x) c.in-Apply.is c.deref.ensures.value c.in_ok-made-in-Apply.ensures e) c.apply.ensures

pub pass-returns-in_ok-new-in-Postfix : goal.pass-returns-in_ok-new-in-Postfix
pass-returns-in_ok-new-in-Postfix t c =
    let h = opening c.args.known.globals (map fun_of c.args.known.functions.now) in
    expr-Postfix h c.in-Postfix.e c.in-Postfix.brackets c.in_ok-new-in-Postfix.field-0 c.in_ok-behind-in-Postfix.behind (ap ex_of c.in_ok-new-in-Postfix.ensures.ok ∙ c.in_ok-made-in-Postfix.ensures ∙ ap (changed_expr h) c.deref-in-Postfix.ensures) (c.in_ok-behind-in-Postfix.ensures ∙ ap (map (changed_bracket h)) c.deref-in-Postfix-2.ensures.value)
    ∙ ap (changed_expr h) (sym c.in-Postfix.is)

pub pass-returns-in_ok-new-in-Chain : goal.pass-returns-in_ok-new-in-Chain
pass-returns-in_ok-new-in-Chain t c =
    let h = opening c.args.known.globals (map fun_of c.args.known.functions.now) in
    expr-Chain h c.in-Chain.e c.in-Chain.links c.in_ok-new-in-Chain.field-0 c.in_ok-behind-in-Chain.behind (ap ex_of c.in_ok-new-in-Chain.ensures.ok ∙ c.in_ok-made-in-Chain.ensures ∙ ap (changed_expr h) c.deref-in-Chain.ensures) (c.in_ok-behind-in-Chain.ensures ∙ ap (map (changed_link h)) c.deref-in-Chain-2.ensures.value)
    ∙ ap (changed_expr h) (sym c.in-Chain.is)
