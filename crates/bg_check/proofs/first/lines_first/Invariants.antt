use Rattle.bg_ast.specs.Views.{program_of}
use Rattle.bg_term_table.specs.Lines.{lines_of}
use Rattle.bg_task.specs.Lines.{AreThere}
use Rattle.bg_check.proofs.first.lines_first.Given as goal

abbrev pub invariant-loop : goal.invariant-loop
invariant-loop l = AreThere (program_of l.question.program.now) l.question.place.now.implementation l.question.prepared.now (lines_of l.looked.lines.items)
