use Rattle.std.proofs.Common.{◌∙◌, ap, map, sym, arith}
use Rattle.std.proofs.lemmas.List.{length-map}
use Rattle.std.proofs.lemmas.Result.{IfOk-weaker}
use Rattle.bg_ast.specs.Views.{program_of, declared_of, proc_of, sts_in}
use Rattle.bg_changes.specs.Marks.{marks_of, mark_sts}
use Rattle.bg_changes.proofs.Whole.{listed_targets}
use Rattle.bg_changes.proofs.forgotten.targets.Goals as goal

pub returns : goal.returns
returns c =
    IfOk-weaker c.listed.result _ _
    (λ made is ds long. is ∙ listed_targets (program_of c.args.program.now) c.len.result c.args.frame ds (marks_of c.in_ok-marks.marks) (marks_of c.mark_stmts.new.marks) (sts_in c.args.body.now) (c.len.ensures ∙ (omega (arith, c.args.program.now.globals.ok.0) ∙ sym (length-map c.args.program.now.globals.items declared_of))) long c.in_ok-marks.ensures.0 c.in_ok-marks.ensures.1 (c.mark_stmts.ensures ∙ ap (λ l. mark_sts (map proc_of l) (sts_in c.args.body.now) (marks_of c.in_ok-marks.marks)) c.deref.ensures.value))
    c.listed.ensures
