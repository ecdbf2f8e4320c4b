use Rattle.std.proofs.Common.{ℕ, ◌<◌, map}
use Rattle.bg_ast.specs.Views.{program_of}
use Rattle.bg_cert.specs.Walks.{has}
use Rattle.bg_certtext.specs.Views.{section_of}
use Rattle.bg_accept.specs.Reading.{AreShownOf}
use Rattle.bg_accept.proofs.implementation.first_bare.Given as goal

abbrev pub invariant-loop-implementation : goal.invariant-loop-implementation
invariant-loop-implementation l = (k : ℕ) → k < l.implementation → AreShownOf (program_of l.reading.program.now) (has l.reading.set.now) (map section_of l.reading.sections.now) k
