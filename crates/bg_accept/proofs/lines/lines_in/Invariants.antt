use Rattle.std.proofs.Common.{ℕ}
use Rattle.bg_ast.specs.Meaning.{meaning_of}
use Rattle.bg_ast.specs.Views.{program_of}
use Rattle.bg_block_types.specs.Typed.{incarnations_in}
use Rattle.bg_termed.specs.Termed.{terms_in}
use Rattle.bg_task.specs.Prepared.{IsPrepared}
use Rattle.bg_task.proofs.Prepares.{impl, proc}
use Rattle.bg_accept.proofs.Stating.{Reached}
use Rattle.bg_accept.proofs.lines.lines_in.Given as goal

abbrev pub invariant-loop-s : goal.invariant-loop-s
invariant-loop-s l =
    (n : ℕ) (h : IsPrepared (program_of l.program) n l.prepared) →
    Reached (meaning_of (program_of l.program)).functions (incarnations_in (meaning_of (program_of l.program)) n (impl (program_of l.program) n l.prepared h) (proc (program_of l.program) n l.prepared h)) (terms_in (meaning_of (program_of l.program)) n (impl (program_of l.program) n l.prepared h) (proc (program_of l.program) n l.prepared h)) l.stated l.grown l.made.items l.s-index
