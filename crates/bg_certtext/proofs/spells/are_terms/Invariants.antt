use Rattle.std.proofs.Common.{◌≡◌, drop}
use Rattle.bg_certtext.specs.Spellable.{are_terms}
use Rattle.bg_certtext.proofs.spells.are_terms.Given as goal

abbrev pub invariant-loop-t : goal.invariant-loop-t
invariant-loop-t l = are_terms l.low (drop l.t-index l.terms) ≡ are_terms 0 l.terms
