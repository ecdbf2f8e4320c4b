use Rattle.std.proofs.Common.{◌≡◌, length, map}
use Rattle.bg_certtext.specs.Machine.{terms_in}
use Rattle.bg_certtext.proofs.Lists.{front}
use Rattle.bg_certtext.proofs.parts.terms_in.Given as goal

abbrev pub invariant-loop-rest : goal.invariant-loop-rest
invariant-loop-rest l = front l.made.items (terms_in l.low (map (λ w. w.now) l.rest)) ≡ terms_in 0 (map (λ w. w.now) l.words)

abbrev pub decreases-loop-rest : goal.decreases-loop-rest
decreases-loop-rest l = length l.rest
