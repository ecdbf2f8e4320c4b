use Rattle.std.proofs.Common.{◌∙◌}
use Rattle.bg_turns.specs.Turns.{AreOf}
use Rattle.bg_turns.proofs.Rows.{all_behind}
use Rattle.bg_turns.proofs.gather.placed.Goals as goal

pub loop-part-preserved : goal.loop-part-preserved
loop-part-preserved g c = (
  c.put_all.ensures.long ∙ c.loop-part.invariant.0,
  (
    all_behind (AreOf g.F.Fn c.args.f.now c.args.n) c.loop-part.part-iterator.rest.items _ c.next.new.self.rest.items c.in-Some.ensures.steps.0 c.loop-part.invariant.1.0,
    c.put_all.ensures.slots,
  ),
)
