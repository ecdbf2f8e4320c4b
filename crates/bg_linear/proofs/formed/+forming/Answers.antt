use Rattle.std.proofs.Common.{◌≡◌, ◌<◌, length, sym, ap, ◌∙◌, arith}
use Rattle.std.proofs.lemmas.Bool.Decides.{nat_tests}
use Rattle.std.proofs.lemmas.Result.{IfOk-weaker}
use Rattle.std.specs.Prelude.{Ok}
use Rattle.bg_ast.specs.Meaning as m
use Rattle.bg_ast.specs.Views.{ex_of}
use Rattle.bg_linear.specs.Forms.{linear}
use Rattle.bg_linear.proofs.Chained.{linear_chain, linear_none, linear_bare, chain_at}
use Rattle.bg_linear.proofs.formed.+forming.Goals as goal

pub form-returns-then-is_empty : goal.form-returns-then-is_empty
form-returns-then-is_empty t c =
    let empty : length c.in-Postfix.brackets.items ≡ 0 = let h = c.is_empty.ensures in let k = c.if-is_empty.true in grind (arith, nat_tests, h, k) in
    IfOk-weaker c.form-then-is_empty.result _ _ (λ x is. is ∙ ap (λ y. linear (m.ex_of (ex_of y))) c.deref-then-is_empty.ensures ∙ sym (linear_bare c.in-Postfix.e c.in-Postfix.brackets empty) ∙ ap (λ y. linear (m.ex_of (ex_of y))) (sym c.in-Postfix.is)) c.form-then-is_empty.ensures

pub form-returns-else-is_empty : goal.form-returns-else-is_empty
form-returns-else-is_empty t c =
    let some : 0 < length c.in-Postfix.brackets.items = let h = c.is_empty.ensures in let k = c.if-is_empty.false in grind (arith, nat_tests, h, k) in
    ap Ok c.number-else-is_empty.ensures
    ∙ sym (linear_none c.in-Postfix.e c.in-Postfix.brackets some)
    ∙ ap (λ y. linear (m.ex_of (ex_of y))) (sym c.in-Postfix.is)

pub form-returns-in_ok-f-in-Chain : goal.form-returns-in_ok-f-in-Chain
form-returns-in_ok-f-in-Chain t c =
    let first = c.in_ok-f-in-Chain.ensures ∙ ap (λ y. linear (m.ex_of (ex_of y))) c.deref-in-Chain.ensures in
    IfOk-weaker c.chain.result _ _ (λ x is. is ∙ chain_at _ _ _ _ first c.deref-in-Chain-2.ensures.value ∙ sym (linear_chain c.in-Chain.e c.in-Chain.links) ∙ ap (λ y. linear (m.ex_of (ex_of y))) (sym c.in-Chain.is)) c.chain.ensures
