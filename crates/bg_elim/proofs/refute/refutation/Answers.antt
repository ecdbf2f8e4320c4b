use Rattle.std.proofs.Common.{◌<◌, ◌≤◌, length, take, arith, ◌∙◌, subst}
use Rattle.std.proofs.lemmas.List.{take_more, take_all}
use Rattle.bg_elim.specs.declared.order.Reason.TheVariants.{Given}
use Rattle.bg_elim.specs.Work.{work_of, StepsFor}
use Rattle.bg_elim.proofs.Derive.{steps_last, refutes}
use Rattle.bg_elim.proofs.refute.refutation.Goals as goal

pub loop-r-preserved : goal.loop-r-preserved
loop-r-preserved c =
    let w = work_of c.args.work.now in
    let items = c.deref-r-items.result.now in
    let lt : c.loop-r.r-index < length items = omega arith in
    let s = steps_last w (take c.loop-r.r-index items) c.loop-r.steps.items _ c.in_ok-step_of.field-0 c.loop-r.invariant c.in_ok-step_of.ensures in
    rw (take_more items c.loop-r.r-index (Given 0) lt, c.in_ok-push.ensures.items) s

pub returns : goal.returns
returns c = λ given h f.
    let w = work_of c.args.work.now in
    let items = c.deref-r-items.result.now in
    let le : length items ≤ c.loop-r.r-index = omega arith in
    let e = take_all c.loop-r.r-index items le ∙ c.deref-r-items.ensures.value in
    let s = subst (λ rs. StepsFor w rs c.loop-r.steps.items) e c.loop-r.invariant in
    rw c.in_ok-push-2.ensures.items (refutes w given c.loop-r.steps.items c.args.reason c.in_ok-step_of-2.field-0 s c.in_ok-step_of-2.ensures h f)
