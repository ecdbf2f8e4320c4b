use Rattle.std.proofs.Common.{map, ap, ◌∙◌}
use Rattle.std.proofs.lemmas.Result.{IfOk-weaker}
use Rattle.bg_text.specs.Views.{decl_of, decls_of}
use Rattle.bg_ast.specs.Resolved as r
use Rattle.bg_ast.specs.Views.{declared_of, proc_of, impl_of, program_of}
use Rattle.bg_keep.specs.Told.{told, told_decls}
use Rattle.bg_keep.proofs.Agree.{told_is}
use Rattle.bg_keep.proofs.program.keep.Goals as goal

pub returns-clause-kept : goal.returns-clause-kept
returns-clause-kept c =
    let set = c.args.set.now in
    let gs = map declared_of c.args.program.now.globals.items in
    let qs = map proc_of c.args.program.now.procedures.items in
    let ms = map impl_of c.args.program.now.implementations.items in
    IfOk-weaker
    c.kept_decls.result
    _
    _
    (λ x h is. h ∙ ap (λ l. told_decls set gs qs ms (map decl_of l)) c.deref_mut.ensures.value ∙ told_is set (decls_of c.args.decls.items) (program_of c.args.program.now) is)
    c.kept_decls.ensures

pub returns-clause-guesses : goal.returns-clause-guesses
returns-clause-guesses c =
    let set = c.args.set.now in
    let gs = map declared_of c.args.program.now.globals.items in
    let qs = map proc_of c.args.program.now.procedures.items in
    let ms = map impl_of c.args.program.now.implementations.items in
    IfOk-weaker
    c.kept_decls.result
    _
    _
    (λ x h is. h ∙ ap (λ l. told_decls set gs qs ms (map decl_of l)) c.deref_mut.ensures.value ∙ ap (λ (p : r.Program). told set p (decls_of c.args.decls.items)) is)
    c.kept_decls.ensures
