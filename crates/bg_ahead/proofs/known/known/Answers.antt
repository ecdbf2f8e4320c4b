use Rattle.std.proofs.Common.{◌≡◌, ◌+◌, ◌∙◌, ap, arith}
use Rattle.bg_ahead.proofs.Knowing.{known_more}
use Rattle.bg_ahead.proofs.known.known.Goals as goal

pub loop-a-preserved : goal.loop-a-preserved
loop-a-preserved c =
    let i = c.loop-a.a-index in
    let on : (c.args.first + i) + 1 ≡ c.args.first + (i + 1) = omega arith in (
      λ k. known_more (k.0.items, k.1) c.args.first c.loop-a.atom i c.args.rows.now c.a-item.result _ _ _ _ _ c.loop-a-test.true c.a-item.is c.loop-a.invariant.1 c.in_ok-key.ensures c.in_ok-key-2.ensures (c.loop-a.invariant.0 k) (c.in_ok-put.ensures k) (c.in_ok-put-2.ensures k),
      c.in_ok-atom.ensures ∙ ap (λ x. x + 1) c.loop-a.invariant.1 ∙ on,
    )
