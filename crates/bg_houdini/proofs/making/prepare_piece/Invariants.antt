use Rattle.bg_ast.specs.Views.{program_of}
use Rattle.bg_houdini.specs.Checkers.{IsPortion}
use Rattle.bg_houdini.proofs.making.prepare_piece.Given as goal

abbrev pub invariant-loop-k : goal.invariant-loop-k
invariant-loop-k l = IsPortion (program_of l.program) l.first l.k l.made.items
