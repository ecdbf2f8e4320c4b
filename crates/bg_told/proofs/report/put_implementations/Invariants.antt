use Rattle.std.proofs.Common.{◌≡◌, ◌++◌, map, drop, length}
use Rattle.bg_ast.specs.Views.{impl_of}
use Rattle.bg_check.specs.Verdicts.{judged}
use Rattle.bg_told.specs.Lines.{texts}
use Rattle.bg_told.specs.Report.{implementation_text}
use Rattle.bg_told.specs.Sheets.{head_of}
use Rattle.bg_told.specs.Entries.{outer_in, split_all}
use Rattle.bg_told.proofs.report.put_implementations.Given as goal

abbrev pub invariant-loop-i : goal.invariant-loop-i
invariant-loop-i l = l.out.items ++ texts (implementation_text (outer_in l.declared)) (map head_of (map impl_of (drop l.i l.implementations))) (map (split_all (length l.declared.globals.now)) (judged (drop l.i l.outcome))) ≡ l.fn.out.items ++ texts (implementation_text (outer_in l.declared)) (map head_of (map impl_of l.implementations)) (map (split_all (length l.declared.globals.now)) (judged l.outcome))
