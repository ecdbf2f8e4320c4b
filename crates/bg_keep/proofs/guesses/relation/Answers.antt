use Rattle.std.proofs.Common.{map, ap, ◌∙◌}
use Rattle.bg_ast.specs.Views.{ex_of, link_view, links_of}
use Rattle.bg_keep.specs.Guesses.{names_of, atom, behind}
use Rattle.bg_keep.proofs.Written.{relation_is}
use Rattle.bg_keep.proofs.guesses.relation.Goals as goal

pub returns-in_ok-new-in-Chain : goal.returns-in_ok-new-in-Chain
returns-in_ok-new-in-Chain c =
    let f = names_of c.args.f.now in
    relation_is
    f
    c.args.e.now
    c.in-Chain.first
    c.in-Chain.links
    c.in_ok-new-in-Chain.field-0
    c.in_ok-links-in-Chain.links
    c.in_ok-first-in-Chain.first
    c.in-Chain.is
    (c.in_ok-first-in-Chain.ensures ∙ ap (λ x. atom f (ex_of x)) c.deref.ensures)
    c.in_ok-new-in-Chain.ensures.ok
    (c.in_ok-links-in-Chain.ensures ∙ ap (λ l. behind f (links_of (map link_view l))) c.deref-in-Chain.ensures.value)
