use Rattle.std.proofs.Common.{◌≡◌, drop}
use Rattle.bg_grammar.specs.Sets.{is_in}
use Rattle.bg_grammar.proofs.kinds.is_in.Given as goal

abbrev pub invariant-loop-k : goal.invariant-loop-k
invariant-loop-k l = is_in l.kinds l.kind ≡ is_in (drop l.k-index l.kinds) l.kind
