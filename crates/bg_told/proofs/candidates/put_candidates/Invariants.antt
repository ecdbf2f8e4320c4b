use Rattle.std.proofs.Common.{◌≡◌, ◌++◌, map, drop}
use Rattle.bg_text.specs.Views.{id_of}
use Rattle.bg_told.specs.Lines.{texts}
use Rattle.bg_told.specs.Fates.{told_fate}
use Rattle.bg_told.specs.Report.{candidate_text}
use Rattle.bg_told.proofs.candidates.put_candidates.Given as goal

abbrev pub invariant-loop-i : goal.invariant-loop-i
invariant-loop-i l = l.out.items ++ texts candidate_text (map id_of (drop l.i l.names)) (map told_fate (drop l.i l.fates)) ≡ l.fn.out.items ++ texts candidate_text (map id_of l.names) (map told_fate l.fates)
