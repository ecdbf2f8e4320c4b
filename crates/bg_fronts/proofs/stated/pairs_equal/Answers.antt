use Rattle.std.proofs.Common.{◌≡◌, ◌≤◌, ◌-◌, ◌+◌, ◌<◌, suc, length, get_or, refl, ap, ◌∙◌, subst, arith}
use Rattle.bg_terms.specs.Instances.{equal, all_equal}
use Rattle.bg_term_table.specs.Views.{meaning, meanings, listed}
use Rattle.bg_fronts.proofs.Pairs.{from, pairs_start, pairs_more}
use Rattle.bg_fronts.proofs.stated.pairs_equal.Goals as goal

pub loop-k-init : goal.loop-k-init
loop-k-init c =
    let xs = c.args.xs.now in
    let ys = c.args.ys.now in
    let k = c.lesser-k.result in
    let l : k ≤ length xs = c.lesser-k.ensures.first in
    let m : k ≤ length ys = c.lesser-k.ensures.second in
    (l, (m, pairs_start xs ys k _ l m c.lesser-k.ensures.one refl))

pub loop-k-preserved : goal.loop-k-preserved
loop-k-preserved c =
    let xs = c.args.xs.now in
    let ys = c.args.ys.now in
    let k = c.loop-k.k in
    let some : 0 < k = c.loop-k-test.true in
    let at : k ≡ suc (k - 1) = omega (arith, some) in
    let first : k - 1 < length xs = omega (arith, some, c.loop-k.invariant.0) in
    let second : k - 1 < length ys = omega (arith, some, c.loop-k.invariant.1.0) in (
      omega (arith, first),
      (omega (arith, second), pairs_more xs ys (k - 1) k c.index-xs-k.result c.index-ys-k.result _ _ _ at first second c.loop-k.invariant.1.1 (c.in_ok-one.ensures ∙ ap (λ x. equal (meaning x) (meaning c.index-ys-k.result)) c.index-xs-k.is ∙ ap (λ y. equal (meaning (get_or xs (k - 1) c.index-xs-k.result)) (meaning y)) c.index-ys-k.is) c.in_ok-made.ensures),
    )

pub returns : goal.returns
returns c =
    let zero : c.loop-k.k ≡ 0 = omega (arith, c.loop-k-test.false) in
    subst (λ k. meaning c.loop-k.made ≡ all_equal (from k c.args.xs.now) (from k c.args.ys.now)) zero c.loop-k.invariant.1.1
