use Rattle.std.proofs.Common.{◌≡◌}
use Rattle.std.specs.Prelude.{drop}
use Rattle.bg_clause.specs.Signs.{sign_among}
use Rattle.bg_clause.proofs.few.sign_among.Given as goal

abbrev pub invariant-loop-l : goal.invariant-loop-l
invariant-loop-l l = sign_among (drop l.l-index l.ls) l.atom ≡ sign_among l.ls l.atom
