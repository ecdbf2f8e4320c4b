use Rattle.std.proofs.Common.{refl}
use Rattle.bg_model.specs.declared.pick.Pick.TheVariants as pick
use Rattle.bg_model.proofs.Steps.{chosen_more}
use Rattle.bg_model.proofs.choose.choose.Goals as goal

pub loop-left-preserved : goal.loop-left-preserved
loop-left-preserved c =
    λ vs. chosen_more vs c.loop-left.made.items c.push.new.self.items (pick.Incarnation c.loop-left.j) c.loop-left.j c.in_ok-j.j c.loop-left.left _ c.in_ok-push.ensures.items refl c.in_ok-j.ensures c.loop-left-test.true (c.loop-left.invariant vs)
