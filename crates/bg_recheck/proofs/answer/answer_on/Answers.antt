use Rattle.std.proofs.Common.{false}
use Rattle.bg_ast.specs.Views.{program_of}
use Rattle.bg_front.specs.Programs.{IsProgramOf}
use Rattle.bg_recheck.proofs.Checked.{checked}
use Rattle.bg_recheck.proofs.answer.answer_on.Goals as goal

pub returns-in-Ok-told-clause-answer : goal.returns-in-Ok-told-clause-answer
returns-in-Ok-told-clause-answer c =
    let p = program_of c.in-Ok.typed.program in
    let spelled : IsProgramOf false c.args.bytes.now p = c.in-Ok.ensures.program in
    let openable = c.judged_programs_are_openable.ensures false c.args.bytes.now p spelled in
    checked c.args.bytes.now c.args.certificate.now p c.in-Ok-told.ends c.in-Ok-told.text.items spelled
    (λ cert ok.
    let safe = c.accepted_programs_are_safe.ensures p cert openable ok in
    record { interp = safe.0.0; meets = safe.0.1; candidates = assumption safe; inductive = assumption safe; safe = assumption safe })
    c.in-Ok-told.ensures.told

pub told-requires : goal.told-requires
told-requires c = record {
  openable = c.judged_programs_are_openable.ensures false c.args.bytes.now (program_of c.in-Ok.typed.program) c.in-Ok.ensures.program;
}
