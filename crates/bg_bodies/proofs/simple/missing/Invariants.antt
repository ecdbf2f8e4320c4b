use Rattle.std.proofs.Common.{◌≡◌, drop}
use Rattle.std.specs.Prelude.{find, not}
use Rattle.bg_names.specs.Inside.{has_number}
use Rattle.bg_bodies.proofs.simple.missing.Given as goal

abbrev pub invariant-loop-k : goal.invariant-loop-k
invariant-loop-k l = find (λ k. not (has_number l.modifies k)) (drop l.k-index l.changes) ≡ find (λ k. not (has_number l.modifies k)) l.changes
