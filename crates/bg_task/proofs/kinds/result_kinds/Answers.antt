use Rattle.std.proofs.Common.{◌≡◌, ◌<◌, ◌++◌, List, length, map, get_or, ap, sym, ◌∙◌, subst, append-nil}
use Rattle.std.proofs.lemmas.List.{at_drop_all}
use Rattle.bg_ast.specs.Meaning.{named_of, type_in, fun_of}
use Rattle.bg_ast.specs.Views as view
use Rattle.bg_ast.specs.declared.resolved.Function.{Function}
use Rattle.bg_ast.specs.declared.resolved.TypeName.{TypeName}
use Rattle.bg_kinds.specs.Views.{ref_in}
use Rattle.bg_term_table.specs.Views.{result_ty}
use Rattle.bg_task.proofs.Sorting.{next_result}
use Rattle.bg_task.proofs.kinds.result_kinds.Goals as goal

pub loop-f-preserved : goal.loop-f-preserved
loop-f-preserved c =
    let q = c.args.program.now in
    let fs = q.functions.items in
    let i = c.loop-f.f-index in
    let f = c.f-item.result in
    let inside : i < length fs = subst (λ (l : List Function). i < length l) c.deref-f-items.ensures.value c.loop-f-test.true in
    let at : f ≡ get_or fs i f = c.f-item.is ∙ ap (λ (l : List Function). get_or l i f) c.deref-f-items.ensures.value in
    next_result (named_of (map view.type_name_of q.types.items)) fs i f c.loop-f.made.items _ _ _ inside at
    (c.in_ok-written_kind.ensures ∙ ap (λ (ts : List TypeName). type_in (named_of (map view.type_name_of ts)) (view.type_of f.result)) c.deref.ensures.value)
    c.in_ok-push.ensures.items c.loop-f.invariant
