use Rattle.std.proofs.Common.{◌+◌, get_or}
use Rattle.bg_wanted.specs.Asked.{AreAgreed}
use Rattle.bg_wanted.proofs.Going.{goes_same, goes_then, goes_on, none_so_far, one_further, so_all, at_item, select_there, olds_agreed, EachSoFar, OldAt}
use Rattle.bg_wanted.proofs.updates.at_all_old.Goals as goal

pub loop-a-init : goal.loop-a-init
loop-a-init c =
    let l = c.args.looked in
    let u = c.args.update in
    λ is has.
    goes_same l c.args.wants.now (EachSoFar c.places-all.result.now 0 (OldAt l u)) (λ fs incs values looked. none_so_far c.places-all.result.now (OldAt l u))

pub loop-a-preserved : goal.loop-a-preserved
loop-a-preserved c =
    let l = c.args.looked in
    let u = c.args.update in
    let ps = c.places-all.result.now in
    let i = c.loop-a.a-index in
    λ is has.
    goes_then l c.args.wants.now c.loop-a.wants c.at_old.new.wants (EachSoFar ps i (OldAt l u)) (OldAt l u (get_or ps i 0)) (EachSoFar ps (i + 1) (OldAt l u)) (λ so at. one_further ps i (OldAt l u) c.loop-a-test.true so at) (c.loop-a.invariant is has)
    (c.in_ok-at_old.ensures is (select_there l u u.before ps has c.places-all.ensures i (get_or ps i 0) (at_item ps i c.loop-a-test.true)))

pub returns : goal.returns
returns c =
    let l = c.args.looked in
    let u = c.args.update in
    let ps = c.places-all.result.now in
    λ is has.
    goes_on l c.args.wants.now c.loop-a.wants (EachSoFar ps c.loop-a.a-index (OldAt l u)) (AreAgreed l u u.value → AreAgreed l u u.before) (λ so. olds_agreed l u ps has c.places-all.ensures (so_all ps c.loop-a.a-index (OldAt l u) c.loop-a-test.false so)) (c.loop-a.invariant is has)
