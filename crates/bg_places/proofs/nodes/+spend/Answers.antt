use Rattle.std.proofs.Common.{◌≡◌, ◌+◌, ◌-◌, ◌∙◌, ap, sym, arith}
use Rattle.bg_ast.specs.Views.{ex_of, exs_in, bracket_view}
use Rattle.bg_places.specs.Counts.{nodes, nodes_of, bracket_nodes}
use Rattle.bg_places.proofs.SizedForms.{nodes-Apply, nodes-Chain, nodes-Postfix, nodes-Select, nodes-Update}
use Rattle.bg_places.proofs.nodes.+spend.Goals as goal

pub spend-returns-in-Apply : goal.spend-returns-in-Apply
spend-returns-in-Apply t c =
    let h = rw (c.deref.ensures.value) at c.spend_all.ensures in
    rw (c.in-Apply.is, nodes-Apply c.in-Apply.field-0 c.in-Apply.field-1 c.in-Apply.es) (omega (arith, h, c.saturating_sub-in-Apply.ensures))

pub spend-returns-in-Postfix : goal.spend-returns-in-Postfix
spend-returns-in-Postfix t c =
    let h = rw (c.deref-in-Postfix-2.ensures.value) at c.spend_behind.ensures in
    let k = rw (c.deref-in-Postfix.ensures) at c.spend-in-Postfix.ensures in
    rw (c.in-Postfix.is, nodes-Postfix c.in-Postfix.e c.in-Postfix.brackets) (omega (arith, h, k, c.saturating_sub-in-Postfix.ensures))

pub spend-returns-in-Chain : goal.spend-returns-in-Chain
spend-returns-in-Chain t c =
    let h = rw (c.deref-in-Chain-2.ensures.value) at c.spend_linked.ensures in
    let k = rw (c.deref-in-Chain.ensures) at c.spend-in-Chain.ensures in
    rw (c.in-Chain.is, nodes-Chain c.in-Chain.e c.in-Chain.links) (omega (arith, h, k, c.saturating_sub-in-Chain.ensures))

pub spend_bracket-returns-in-Select : goal.spend_bracket-returns-in-Select
spend_bracket-returns-in-Select t c =
    let h = rw (c.deref.ensures.value) at c.spend_all.ensures in
    let form = ap (λ b. bracket_nodes (bracket_view b)) c.in-Select.is ∙ nodes-Select c.in-Select.field-0 c.in-Select.es in
    h ∙ ap (λ n. c.args.left - n) (sym form)

pub spend_bracket-returns-in-Update : goal.spend_bracket-returns-in-Update
spend_bracket-returns-in-Update t c =
    let h = rw (c.deref-in-Update.ensures.value) at c.spend_all-in-Update.ensures in
    let form = ap (λ b. bracket_nodes (bracket_view b)) c.in-Update.is ∙ nodes-Update c.in-Update.field-0 c.in-Update.es c.in-Update.e in
    let spent : c.spend.result ≡ c.args.left - (nodes_of (exs_in c.in-Update.es.items) + nodes (ex_of c.in-Update.e)) = omega (arith, h, c.spend.ensures) in
    spent ∙ ap (λ n. c.args.left - n) (sym form)
