use Rattle.bg_elim.proofs.Rounds.{unequal}
use Rattle.bg_elim.proofs.stand.are_equal.Goals as goal

pub returns-then-a-b : goal.returns-then-a-b
returns-then-a-b c = unequal c.args.a.now c.args.b.now c.if-a-b.true
