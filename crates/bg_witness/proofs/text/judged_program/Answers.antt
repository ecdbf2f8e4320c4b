use Rattle.bg_ast.specs.Views.{program_of}
use Rattle.bg_witness.proofs.text.judged_program.Goals as goal

pub opened-requires : goal.opened-requires
opened-requires c =
    c.judged_programs_are_openable.ensures _ _ (program_of c.in-Ok.typed.program) c.in-Ok.ensures.program
