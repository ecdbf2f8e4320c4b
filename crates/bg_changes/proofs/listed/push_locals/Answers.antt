use Rattle.std.proofs.Common.{◌∙◌, ◌<◌, [], ◌∷◌, ◌++◌, map, ap, length, arith}
use Rattle.std.proofs.lemmas.List.{map-append}
use Rattle.bg_ast.specs.Syntax.{Local}
use Rattle.bg_ast.specs.Views.{var_of}
use Rattle.bg_changes.specs.Marks.{marks_of, has_mark}
use Rattle.bg_changes.proofs.OneMore.{one_taken, one_left, read_mark}
use Rattle.bg_changes.proofs.listed.push_locals.Goals as goal
use Rattle.bg_changes.proofs.listed.push_locals.Goals.{then-index+in_ok-number+in_ok-push, else-index}

pub loop-k-preserved : goal.loop-k-preserved
loop-k-preserved c =
    let bs = c.args.marks.now.frame.items in
    let f = has_mark (marks_of c.args.marks.now) in
    let out = map var_of c.loop-k.out.items in
    let new = map var_of c.if-index.out.items in
    let inside : c.loop-k.k < length bs = omega (arith, c.loop-k-test.true, c.len-k-end.ensures) in
    elim c.if-index.branch [
      | then-index+in_ok-number+in_ok-push w ↦
          one_taken f Local out new _ c.loop-k.k (length bs) inside (read_mark bs c.loop-k.k c.index.result.now _ inside c.index.ensures w.if-index.true)
          (ap (λ v. map var_of v.items) w.out-is ∙ (ap (map var_of) w.in_ok-push.ensures.items ∙ (map-append var_of c.loop-k.out.items _ ∙ ap (λ n. out ++ Local n ∷ []) w.in_ok-number.ensures)))
          c.loop-k.invariant
      | else-index w ↦
          one_left f Local out new _ c.loop-k.k (length bs) inside (read_mark bs c.loop-k.k c.index.result.now _ inside c.index.ensures w.if-index.false) (ap (λ v. map var_of v.items) w.out-is) c.loop-k.invariant
    ]
