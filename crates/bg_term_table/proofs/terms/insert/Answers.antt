use Rattle.std.proofs.Common.{rules, ◌≡◌, ◌++◌, ◌∷◌, [], Some, cond, length, ap, ◌∙◌}
use Rattle.std.specs.Ordering.{is_eq}
use Rattle.bg_term_table.specs.Keys.{key_cmp}
use Rattle.bg_term_table.proofs.Found.{found_new}
use Rattle.bg_term_table.proofs.terms.insert.Goals as goal

pub returns-clause-known : goal.returns-clause-known
returns-clause-known c =
    let key = c.args.key in
    let ts = c.args.terms.now.items in
    let us = c.push.new.self.items in
    let pushed : us ≡ ts ++ c.args.term ∷ [] = c.in_ok-push.ensures.items ∙ ap (λ l. l ++ c.args.term ∷ []) c.in_ok-reserve.ensures.items in
    let at : c.in_ok-place.place ≡ length ts = search rules in
    λ k.
    c.in_ok-insert.ensures.updates.0 k
    ∙ ap (cond (is_eq (key_cmp (key.0, key.1.items) (k.0, k.1.items))) (Some c.in_ok-place.place)) (c.requires.known k)
    ∙ found_new (k.0, k.1.items) (key.0, key.1.items) c.in_ok-place.place ts us c.args.term pushed c.requires.key at c.requires.new
