use Rattle.std.proofs.Common.{◌≡◌, ◌<◌, length, sym, ap, ◌∙◌, arith}
use Rattle.std.proofs.lemmas.Bool.Decides.{nat_tests}
use Rattle.std.proofs.lemmas.Result.{IfOk-weaker}
use Rattle.bg_ast.specs.Meaning as m
use Rattle.bg_ast.specs.Views.{ex_of}
use Rattle.bg_forms.specs.Forms.{form_of}
use Rattle.bg_forms.specs.Views.{form_in}
use Rattle.bg_forms.proofs.ChainForms.{form_chain, form_none, form_bare, chain_at, chain_step}
use Rattle.bg_forms.proofs.formed.+forming.Goals as goal

pub chain-loop-l-preserved : goal.chain-loop-l-preserved
chain-loop-l-preserved t c =
    chain_step c.args.links.now c.loop-l.l-index c.l-item.result c.loop-l.waiting.items c.one_more.new.waiting.items (form_in c.loop-l.made) (form_in c.in_ok-made.made) _ (form_in c.in_ok-g.g) c.loop-l-test.true c.l-item.is c.in_ok-g.ensures c.in_ok-made.ensures c.loop-l.invariant

pub form_ex-returns-then-is_empty : goal.form_ex-returns-then-is_empty
form_ex-returns-then-is_empty t c =
    let empty : length c.in-Postfix.brackets.items ≡ 0 = let h = c.is_empty.ensures in let k = c.if-is_empty.true in grind (arith, nat_tests, h, k) in
    IfOk-weaker c.form_ex-then-is_empty.result _ _ (λ x is. is ∙ ap (λ y. form_of (m.ex_of (ex_of y))) c.deref-then-is_empty.ensures ∙ sym (form_bare c.in-Postfix.e c.in-Postfix.brackets empty) ∙ ap (λ y. form_of (m.ex_of (ex_of y))) (sym c.in-Postfix.is)) c.form_ex-then-is_empty.ensures

pub form_ex-returns-else-is_empty : goal.form_ex-returns-else-is_empty
form_ex-returns-else-is_empty t c =
    let some : 0 < length c.in-Postfix.brackets.items = let h = c.is_empty.ensures in let k = c.if-is_empty.false in grind (arith, nat_tests, h, k) in
    sym (form_none c.in-Postfix.e c.in-Postfix.brackets some)
    ∙ ap (λ y. form_of (m.ex_of (ex_of y))) (sym c.in-Postfix.is)

pub form_ex-returns-in_ok-f-in-Chain : goal.form_ex-returns-in_ok-f-in-Chain
form_ex-returns-in_ok-f-in-Chain t c =
    let first = c.in_ok-f-in-Chain.ensures ∙ ap (λ y. form_of (m.ex_of (ex_of y))) c.deref-in-Chain.ensures in
    IfOk-weaker c.chain.result _ _ (λ x is. is ∙ chain_at _ _ _ _ first c.deref-in-Chain-2.ensures.value ∙ sym (form_chain c.in-Chain.e c.in-Chain.links) ∙ ap (λ y. form_of (m.ex_of (ex_of y))) (sym c.in-Chain.is)) c.chain.ensures
