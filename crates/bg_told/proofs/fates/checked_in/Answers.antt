use Rattle.std.proofs.Common.{ap, ◌∙◌}
use Rattle.std.proofs.lemmas.Result.{IfOk-weaker}
use Rattle.bg_ast.specs.Views.{program_of}
use Rattle.bg_told.specs.Fates.{has_place}
use Rattle.bg_told.proofs.Marks.{checked_is}
use Rattle.bg_told.proofs.fates.checked_in.Goals as goal

pub returns-clause-each : goal.returns-clause-each
returns-clause-each c =
    let p = program_of c.args.program.now in
    IfOk-weaker c.marks_of.result _ _
    (λ made h b l. h b l ∙ (ap (has_place b) c.deref.ensures.value ∙ checked_is p b c.in_ok-all.all.items c.in_ok-all.ensures (c.placed_are_places.ensures p)))
    c.marks_of.ensures.each
