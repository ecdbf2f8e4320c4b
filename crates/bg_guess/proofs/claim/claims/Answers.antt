use Rattle.std.proofs.Common.{sym, ap, ◌∙◌, append-nil, map, drop, ◌++◌, ◌+◌, [], append_assoc}
use Rattle.std.proofs.lemmas.List.{at_drop_all, at_drop_more}
use Rattle.bg_guess.specs.declared.claim.Claim.TheVariants.{NotNegative, Unchanged}
use Rattle.bg_guess.specs.Claims.{pairs}
use Rattle.bg_guess.proofs.claim.claims.Goals as goal

pub loop-v-preserved : goal.loop-v-preserved
loop-v-preserved c =
    let old = c.loop-v.made.items in
    let rest = map NotNegative (drop (c.loop-v.v-index + 1) c.args.s.now.numbers.items) in
    let here = rw c.deref-v-items.ensures.value at c.loop-v-test.true in
    ap (λ l. l ++ rest) (rw c.deref-v-items.ensures.value at c.in_ok-push.ensures.items)
    ∙ append_assoc old _ rest
    ∙ sym (at_drop_more (λ l. old ++ map NotNegative l) c.args.s.now.numbers.items c.loop-v.v-index _ here)
    ∙ c.loop-v.invariant

pub loop-g-init : goal.loop-g-init
loop-g-init c =
    let made = c.loop-v.made.items in
    let end = rw c.deref-v-items.ensures.value at c.loop-v-test.false in
    let first = sym (append-nil made) ∙ sym (at_drop_all (λ l. made ++ map NotNegative l) c.args.s.now.numbers.items c.loop-v.v-index end) ∙ c.loop-v.invariant in
    let both = c.in_ok-push_pairs.ensures ∙ ap (λ l. made ++ pairs [] l) c.deref.ensures.value ∙ ap (λ l. l ++ pairs [] c.args.s.now.numbers.items) first in
    ap (λ l. l ++ map Unchanged c.args.s.now.kept.items) both ∙ append_assoc (map NotNegative c.args.s.now.numbers.items) (pairs [] c.args.s.now.numbers.items) (map Unchanged c.args.s.now.kept.items)

pub loop-g-preserved : goal.loop-g-preserved
loop-g-preserved c =
    let old = c.loop-g.made.items in
    let rest = map Unchanged (drop (c.loop-g.g-index + 1) c.args.s.now.kept.items) in
    let here = rw c.deref-g-items.ensures.value at c.loop-g-test.true in
    ap (λ l. l ++ rest) (rw c.deref-g-items.ensures.value at c.in_ok-push-2.ensures.items)
    ∙ append_assoc old _ rest
    ∙ sym (at_drop_more (λ l. old ++ map Unchanged l) c.args.s.now.kept.items c.loop-g.g-index _ here)
    ∙ c.loop-g.invariant

pub returns : goal.returns
returns c =
    let made = c.loop-g.made.items in
    let end = rw c.deref-g-items.ensures.value at c.loop-g-test.false in
    sym (append-nil made) ∙ sym (at_drop_all (λ l. made ++ map Unchanged l) c.args.s.now.kept.items c.loop-g.g-index end) ∙ c.loop-g.invariant
