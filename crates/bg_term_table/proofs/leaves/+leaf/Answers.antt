use Rattle.std.proofs.Common.{sym, ap, ◌∙◌}
use Rattle.bg_term_table.specs.Views.{meaning}
use Rattle.bg_term_table.specs.Keys.{leaf_in, bare}
use Rattle.bg_term_table.proofs.Bare.{prefix_leaf, postfix_leaf, chain_leaf}
use Rattle.bg_term_table.proofs.leaves.+leaf.Goals as goal

pub returns-in-Prefix : goal.returns-in-Prefix
returns-in-Prefix t c =
    let d = c.in-Prefix in
    c.bare.ensures
    ∙ ap (λ l. bare l c.leaf-in-Prefix.result) c.deref-in-Prefix.ensures.value
    ∙ ap (bare d.signs.items) (c.leaf-in-Prefix.ensures ∙ ap (λ x. leaf_in (meaning x)) c.deref-in-Prefix-2.ensures)
    ∙ sym (prefix_leaf d.signs d.e)
    ∙ ap (λ x. leaf_in (meaning x)) (sym d.is)

pub returns-in-Postfix : goal.returns-in-Postfix
returns-in-Postfix t c =
    let d = c.in-Postfix in
    c.bare-in-Postfix.ensures
    ∙ ap (λ l. bare l c.leaf-in-Postfix.result) c.deref-in-Postfix.ensures.value
    ∙ ap (bare d.brackets.items) (c.leaf-in-Postfix.ensures ∙ ap (λ x. leaf_in (meaning x)) c.deref-in-Postfix-2.ensures)
    ∙ sym (postfix_leaf d.e d.brackets)
    ∙ ap (λ x. leaf_in (meaning x)) (sym d.is)

pub returns-in-Chain : goal.returns-in-Chain
returns-in-Chain t c =
    let d = c.in-Chain in
    c.bare-in-Chain.ensures
    ∙ ap (λ l. bare l c.leaf-in-Chain.result) c.deref-in-Chain.ensures.value
    ∙ ap (bare d.links.items) (c.leaf-in-Chain.ensures ∙ ap (λ x. leaf_in (meaning x)) c.deref-in-Chain-2.ensures)
    ∙ sym (chain_leaf d.e d.links)
    ∙ ap (λ x. leaf_in (meaning x)) (sym d.is)
