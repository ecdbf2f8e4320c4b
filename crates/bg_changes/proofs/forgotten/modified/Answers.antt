use Rattle.std.proofs.Common.{◌∙◌, ap, map}
use Rattle.std.proofs.lemmas.Result.{IfOk-weaker}
use Rattle.bg_ast.specs.Syntax.{Global}
use Rattle.bg_changes.specs.Marks.{marks_of, with_marks}
use Rattle.bg_changes.proofs.Whole.{listed_globals}
use Rattle.bg_changes.proofs.forgotten.modified.Goals as goal

pub returns : goal.returns
returns c =
    IfOk-weaker c.listed.result _ _
    (λ made is p named many. is ∙ listed_globals p c.args.globals (marks_of c.in_ok-marks.marks) (marks_of c.mark_globals.new.marks) c.args.procedure.now.modifies.items many c.in_ok-marks.ensures.0 c.in_ok-marks.ensures.1 (c.mark_globals.ensures ∙ ap (λ l. with_marks (map Global l) (marks_of c.in_ok-marks.marks)) c.deref.ensures.value))
    c.listed.ensures
