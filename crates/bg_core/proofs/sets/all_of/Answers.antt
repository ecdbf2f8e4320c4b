use Rattle.std.proofs.Common.{true, refl}
use Rattle.bg_core.proofs.Tabulates.{grows}
use Rattle.bg_core.proofs.sets.all_of.Goals as goal

pub loop-c-preserved : goal.loop-c-preserved
loop-c-preserved c = let ok = c.in_ok-push.ensures in
    record { made = grows c.loop-c._c (λ k. true) c.loop-c.made c.push.new.self true ok.ok c.loop-c.invariant.made refl }
