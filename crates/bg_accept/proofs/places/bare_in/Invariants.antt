use Rattle.std.proofs.Common.{map}
use Rattle.bg_ast.specs.Views.{program_of}
use Rattle.bg_cert.specs.Walks.{has}
use Rattle.bg_certtext.specs.Views.{section_of}
use Rattle.bg_accept.specs.Reading.{AreShownTo}
use Rattle.bg_accept.proofs.places.bare_in.Given as goal

abbrev pub invariant-loop-number : goal.invariant-loop-number
invariant-loop-number l = AreShownTo (program_of l.reading.program.now) (has l.reading.set.now) (map section_of l.reading.sections.now) l.implementation l.number
