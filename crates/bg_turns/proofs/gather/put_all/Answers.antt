use Rattle.std.proofs.Common.{◌∙◌, length}
use Rattle.bg_turns.specs.Turns.{IsOf}
use Rattle.bg_turns.proofs.Rows.{all_behind}
use Rattle.bg_turns.proofs.gather.put_all.Goals as goal

pub loop-k-preserved : goal.loop-k-preserved
loop-k-preserved g c = (
  c.put.ensures.long ∙ c.loop-k.invariant.0,
  (
    all_behind (IsOf g.F.Fn c.args.f.now (length c.args.slots.now.items)) c.loop-k.k-iterator.rest.items _ c.next.new.self.rest.items c.in-Some.ensures.steps.0 c.loop-k.invariant.1.0,
    c.put.ensures.slots,
  ),
)
