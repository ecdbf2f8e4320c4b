use Rattle.std.proofs.Common.{◌≡◌, drop, false}
use Rattle.bg_lex.specs.Ends.{quote_end}
use Rattle.bg_lex.proofs.quote.quote_end.Given as goal

abbrev pub invariant-loop-i : goal.invariant-loop-i
invariant-loop-i l = quote_end l.i l.escaped (drop l.i l.bytes) ≡ quote_end 0 false l.bytes
