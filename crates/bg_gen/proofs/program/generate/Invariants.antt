use Rattle.std.proofs.Common.{◌≡◌, ◌<◌, ◌≤◌, ◌*◌}
use Rattle.bg_gen.specs.Generated.{state_after, before, generated}
use Rattle.bg_gen.proofs.program.generate.Given as goal

abbrev pub invariant-loop-k : goal.invariant-loop-k
invariant-loop-k l = (l.out.items ≡ generated l.seed l.k) × ((l.state ≡ state_after l.seed (2 * l.k)) × ((l.before ≡ before l.seed l.k) × ((l.k ≤ l.size) × (l.state < 2147483648))))
