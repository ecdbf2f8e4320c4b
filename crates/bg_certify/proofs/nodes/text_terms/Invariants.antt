use Rattle.std.proofs.Common.{◌≡◌, map, take}
use Rattle.bg_certify.specs.Spelled.{spelled_term}
use Rattle.bg_certify.proofs.nodes.text_terms.Given as goal

abbrev pub invariant-loop-entry : goal.invariant-loop-entry
invariant-loop-entry l = l.made.items ≡ map spelled_term (take l.entry-index l.entries)
