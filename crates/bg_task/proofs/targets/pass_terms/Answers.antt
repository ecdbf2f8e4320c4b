use Rattle.std.proofs.Common.{ap, ◌∙◌}
use Rattle.bg_term_table.specs.Views.{meanings, listed}
use Rattle.bg_task.specs.Targets.{past}
use Rattle.bg_task.proofs.Largest.{terms_next, terms_last}
use Rattle.bg_task.proofs.targets.pass_terms.Goals as goal

pub loop-t-preserved : goal.loop-t-preserved
loop-t-preserved c = record {
  made = c.pass_args.ensures.made ∙ c.loop-t.invariant.made;
  next = λ fs. terms_next fs c.args.terms.now c.loop-t.t-index c.t-item.result c.loop-t.s.next c.pass_args.new.s.next _ c.loop-t-test.true c.t-item.is (c.pass_args.ensures.next ∙ ap (λ l. past c.loop-t.s.next (listed (meanings l))) c.deref.ensures.value) (c.loop-t.invariant.next fs);
}

pub returns-clause-next : goal.returns-clause-next
returns-clause-next c =
    λ fs. terms_last fs c.args.terms.now c.loop-t.t-index c.loop-t.s.next _ c.loop-t-test.false (c.loop-t.invariant.next fs)
