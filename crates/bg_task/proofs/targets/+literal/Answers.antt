use Rattle.std.proofs.Common.{◌≡◌, ◌<◌, length, sym, ap, ◌∙◌, arith, rules}
use Rattle.std.proofs.lemmas.Int.{to_z-of_z}
use mir.Syntax.{w128}
use mir.Val.{SFits}
use Rattle.std.proofs.lemmas.Bool.Decides.{nat_tests}
use Rattle.bg_term_table.specs.Views.{meaning}
use Rattle.bg_task.specs.Targets.{literal}
use Rattle.bg_task.proofs.Largest.{bare_prefix, prefix_is_none, bare_postfix, postfix_is_none, bare_links, links_are_none}
use Rattle.bg_task.proofs.targets.+literal.Goals as goal

pub returns-then-is_empty : goal.returns-then-is_empty
returns-then-is_empty t c =
    let d = c.in-Prefix in
    let n : length d.signs.items ≡ 0 = let h = c.is_empty.ensures in let k = c.if-is_empty.true in grind (arith, nat_tests, h, k) in
    let f : SFits w128 c.literal-then-is_empty.result = search rules in
    simp (to_z-of_z, f) (bare_prefix d.signs d.e _ n (c.literal-then-is_empty.ensures ∙ ap (λ x. literal (meaning x)) c.deref-then-is_empty.ensures) ∙ ap (λ x. literal (meaning x)) (sym d.is))

pub returns-else-is_empty : goal.returns-else-is_empty
returns-else-is_empty t c =
    let d = c.in-Prefix in
    let n : 0 < length d.signs.items = let h = c.is_empty.ensures in let k = c.if-is_empty.false in grind (arith, nat_tests, h, k) in
    prefix_is_none d.signs d.e n ∙ ap (λ x. literal (meaning x)) (sym d.is)

pub returns-then-is_empty-2 : goal.returns-then-is_empty-2
returns-then-is_empty-2 t c =
    let d = c.in-Postfix in
    let n : length d.brackets.items ≡ 0 = let h = c.is_empty-in-Postfix.ensures in let k = c.if-is_empty-2.true in grind (arith, nat_tests, h, k) in
    let f : SFits w128 c.literal-then-is_empty-2.result = search rules in
    simp (to_z-of_z, f) (bare_postfix d.e d.brackets _ n (c.literal-then-is_empty-2.ensures ∙ ap (λ x. literal (meaning x)) c.deref-then-is_empty-2.ensures) ∙ ap (λ x. literal (meaning x)) (sym d.is))

pub returns-else-is_empty-2 : goal.returns-else-is_empty-2
returns-else-is_empty-2 t c =
    let d = c.in-Postfix in
    let n : 0 < length d.brackets.items = let h = c.is_empty-in-Postfix.ensures in let k = c.if-is_empty-2.false in grind (arith, nat_tests, h, k) in
    postfix_is_none d.e d.brackets n ∙ ap (λ x. literal (meaning x)) (sym d.is)

pub returns-then-is_empty-3 : goal.returns-then-is_empty-3
returns-then-is_empty-3 t c =
    let d = c.in-Chain in
    let n : length d.links.items ≡ 0 = let h = c.is_empty-in-Chain.ensures in let k = c.if-is_empty-3.true in grind (arith, nat_tests, h, k) in
    let f : SFits w128 c.literal-then-is_empty-3.result = search rules in
    simp (to_z-of_z, f) (bare_links d.e d.links _ n (c.literal-then-is_empty-3.ensures ∙ ap (λ x. literal (meaning x)) c.deref-then-is_empty-3.ensures) ∙ ap (λ x. literal (meaning x)) (sym d.is))

pub returns-else-is_empty-3 : goal.returns-else-is_empty-3
returns-else-is_empty-3 t c =
    let d = c.in-Chain in
    let n : 0 < length d.links.items = let h = c.is_empty-in-Chain.ensures in let k = c.if-is_empty-3.false in grind (arith, nat_tests, h, k) in
    links_are_none d.e d.links n ∙ ap (λ x. literal (meaning x)) (sym d.is)
