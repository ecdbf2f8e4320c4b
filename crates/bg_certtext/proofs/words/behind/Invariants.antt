use Rattle.std.proofs.Common.{◌≡◌, drop}
use Rattle.bg_certtext.specs.Machine.{behind}
use Rattle.bg_certtext.proofs.words.behind.Given as goal

abbrev pub invariant-loop-k : goal.invariant-loop-k
invariant-loop-k l = behind (drop l.k-index l.key) l.rest ≡ behind l.key l.bytes
