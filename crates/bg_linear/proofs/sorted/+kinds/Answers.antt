use Rattle.std.proofs.Common.{◌≡◌, ◌<◌, length, sym, ap, ◌∙◌, arith}
use Rattle.std.proofs.lemmas.Bool.Decides.{nat_tests}
use Rattle.bg_ast.specs.Meaning as m
use Rattle.bg_ast.specs.Views.{ex_of}
use Rattle.bg_linear.specs.Sorts.{kind_ex}
use Rattle.bg_linear.proofs.Kinded.{kind_chain, kind_none, kind_bare, chain_at}
use Rattle.bg_linear.proofs.sorted.+kinds.Goals as goal

pub kind-returns-then-is_empty : goal.kind-returns-then-is_empty
kind-returns-then-is_empty t c =
    let sorts = c.args.sorts.now in
    let empty : length c.in-Postfix.brackets.items ≡ 0 = let h = c.is_empty.ensures in let k = c.if-is_empty.true in grind (arith, nat_tests, h, k) in
    c.kind-then-is_empty.ensures
    ∙ ap (λ y. kind_ex sorts (m.ex_of (ex_of y))) c.deref-then-is_empty.ensures
    ∙ sym (kind_bare sorts c.in-Postfix.e c.in-Postfix.brackets empty)
    ∙ ap (λ y. kind_ex sorts (m.ex_of (ex_of y))) (sym c.in-Postfix.is)

pub kind-returns-else-is_empty : goal.kind-returns-else-is_empty
kind-returns-else-is_empty t c =
    let sorts = c.args.sorts.now in
    let some : 0 < length c.in-Postfix.brackets.items = let h = c.is_empty.ensures in let k = c.if-is_empty.false in grind (arith, nat_tests, h, k) in
    sym (kind_none sorts c.in-Postfix.e c.in-Postfix.brackets some)
    ∙ ap (λ y. kind_ex sorts (m.ex_of (ex_of y))) (sym c.in-Postfix.is)

pub kind-returns-in-Chain : goal.kind-returns-in-Chain
kind-returns-in-Chain t c =
    let sorts = c.args.sorts.now in
    let first = c.kind-first.ensures ∙ ap (λ y. kind_ex sorts (m.ex_of (ex_of y))) c.deref-in-Chain.ensures in
    c.chain_kind.ensures
    ∙ chain_at sorts _ _ _ _ first c.deref-in-Chain-2.ensures.value
    ∙ sym (kind_chain sorts c.in-Chain.e c.in-Chain.links)
    ∙ ap (λ y. kind_ex sorts (m.ex_of (ex_of y))) (sym c.in-Chain.is)
