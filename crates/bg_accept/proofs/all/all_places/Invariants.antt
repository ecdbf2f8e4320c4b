use Rattle.bg_ast.specs.Views.{program_of}
use Rattle.bg_accept.specs.Places.{ArePlacesOf}
use Rattle.bg_accept.proofs.all.all_places.Given as goal

abbrev pub invariant-loop-number : goal.invariant-loop-number
invariant-loop-number l = ArePlacesOf (program_of l.program) l.number l.made.items
