use Rattle.std.proofs.Common.{◌≡◌, ◌++◌, drop, map, []}
use Rattle.bg_guess.specs.Claims.{pairs}
use Rattle.bg_guess.specs.declared.claim.Claim.TheVariants.{NotNegative, Unchanged}
use Rattle.bg_guess.proofs.claim.claims.Given as goal

abbrev pub invariant-loop-v : goal.invariant-loop-v
invariant-loop-v l = l.made.items ++ map NotNegative (drop l.v-index l.s.numbers.items) ≡ map NotNegative l.s.numbers.items

abbrev pub invariant-loop-g : goal.invariant-loop-g
invariant-loop-g l =
    l.made.items ++ map Unchanged (drop l.g-index l.s.kept.items)
    ≡ map NotNegative l.s.numbers.items ++ (pairs [] l.s.numbers.items ++ map Unchanged l.s.kept.items)
