use Rattle.std.proofs.Common.{◌≡◌, drop}
use Rattle.bg_cert.specs.Causes.{is_among}
use Rattle.bg_pick.proofs.look.is_among.Given as goal

abbrev pub invariant-loop-l : goal.invariant-loop-l
invariant-loop-l l = is_among l.a (drop l.l-index l.clause) ≡ is_among l.a l.clause
