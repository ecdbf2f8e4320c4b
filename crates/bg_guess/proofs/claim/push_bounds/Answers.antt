use Rattle.std.proofs.Common.{sym, ap, ◌∙◌, append-nil, drop, ◌++◌, ◌+◌, append_assoc}
use Rattle.std.proofs.lemmas.List.{at_drop_all, at_drop_more}
use Rattle.bg_guess.specs.Claims.{bounds}
use Rattle.bg_guess.proofs.claim.push_bounds.Goals as goal

pub loop-w-preserved : goal.loop-w-preserved
loop-w-preserved c =
    let old = c.loop-w.out.items in
    let rest = drop (c.loop-w.w-index + 1) c.args.ws.now in
    ap (λ l. l ++ bounds c.args.v rest) c.in_ok-push.ensures.items
    ∙ append_assoc old _ (bounds c.args.v rest)
    ∙ sym (at_drop_more (λ l. old ++ bounds c.args.v l) c.args.ws.now c.loop-w.w-index _ c.loop-w-test.true)
    ∙ c.loop-w.invariant

pub returns : goal.returns
returns c =
    let old = c.loop-w.out.items in
    sym (append-nil old) ∙ sym (at_drop_all (λ l. old ++ bounds c.args.v l) c.args.ws.now c.loop-w.w-index c.loop-w-test.false) ∙ c.loop-w.invariant
