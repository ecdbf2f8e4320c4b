use Rattle.std.proofs.Common.{◌∙◌, ap}
use Rattle.std.proofs.lemmas.Result.{IfOk-weaker}
use Rattle.bg_text.specs.Views.{decls_of}
use Rattle.bg_ast.specs.Views.{program_of}
use Rattle.bg_print.specs.Printed.{printed}
use Rattle.bg_tool.proofs.Annotated.{annotated_is}
use Rattle.bg_tool.proofs.reports.annotated.Goals as goal

pub returns : goal.returns
returns c =
    let p = program_of c.args.written.typed.program in
    let ds = decls_of c.args.written.tree.decls.items in
    let kept = c.in_ok-kept.ensures in
    IfOk-weaker c.print.result _ _
    (λ text is. λ guess bytes spelled.
    is
    ∙ (ap (λ l. printed (decls_of l)) c.deref.ensures.value
    ∙ ap printed (annotated_is guess p ds c.args.retained.now (decls_of c.in_ok-kept.kept.items) (c.programs_are_named.ensures guess bytes ds p spelled) kept.kept kept.guesses)))
    c.print.ensures
