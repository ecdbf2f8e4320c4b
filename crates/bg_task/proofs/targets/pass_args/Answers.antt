use Rattle.std.proofs.Common.{ap, ◌∙◌, rules}
use Rattle.std.proofs.lemmas.Int.{to_z-of_z}
use mir.Syntax.{w128}
use mir.Val.{SFits}
use Rattle.bg_task.specs.Targets.{passed}
use Rattle.bg_task.proofs.Largest.{past_next, past_last}
use Rattle.bg_task.proofs.targets.pass_args.Goals as goal

pub loop-e-preserved : goal.loop-e-preserved
loop-e-preserved c =
    let f : SFits w128 c.literal-n.result = search rules in
    let h = simp (to_z-of_z, f) at c.pass.ensures.next in
    record {
      made = c.pass.ensures.made ∙ c.loop-e.invariant.made;
      next = past_next c.args.es.now c.loop-e.e-index c.e-item.result c.loop-e.s.next c.pass.new.s.next _ c.loop-e-test.true c.e-item.is (h ∙ ap (λ z. passed c.loop-e.s.next z) c.literal-n.ensures) c.loop-e.invariant.next;
    }

pub returns-clause-next : goal.returns-clause-next
returns-clause-next c =
    past_last c.args.es.now c.loop-e.e-index c.loop-e.s.next _ c.loop-e-test.false c.loop-e.invariant.next
