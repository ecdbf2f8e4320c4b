use Rattle.std.proofs.Common.{◌≡◌, ◌+◌, ◌<◌, ◌++◌, ℕ, List, length, map, drop, get_or, ap, ◌∙◌, subst, arith}
use Rattle.bg_ast.specs.Meaning as m
use Rattle.bg_ast.specs.Meaning.{named_of}
use Rattle.bg_ast.specs.Views.{fun_of, type_name_of}
use Rattle.bg_ast.specs.declared.resolved.Function.{Function}
use Rattle.bg_ast.specs.declared.resolved.TypeName.{TypeName}
use Rattle.bg_scalar.specs.Views.{tables_in}
use Rattle.bg_certtext.specs.declared.text.Function as text
use Rattle.bg_certtext.specs.Views.{function_of}
use Rattle.bg_confirm.specs.Met.{blank, table_of}
use Rattle.bg_confirm.proofs.Tabling.{one, made_from, bodied_so, bodiless_so, spelt_at, bodied, unmatched, matched}
use Rattle.bg_confirm.proofs.tables.tables_by.Goals as goal
use Rattle.bg_confirm.proofs.tables.tables_by.Goals.{then-is_none+then-next-given+in_ok-table_of+in_ok-push, else-is_none+in_ok-blank+in_ok-push-2, else-is_none-via-then-is_none+else-next-given, else-is_none-via-else-is_none}

pub table_of-requires : goal.table_of-requires
table_of-requires c =
    record { spelled = spelt_at c.args.given.now c.loop-f.next c.index-given-next.result c.if-next-given.true c.index-given-next.is c.requires.spelled }

pub loop-f-preserved : goal.loop-f-preserved
loop-f-preserved c =
    let p = c.args.program.now in
    let types = map type_name_of p.types.items in
    let fs = p.functions.items in
    let gs = c.args.given.now in
    let i = c.loop-f.f-index in
    let n = c.loop-f.next in
    let f = c.f-item.result in
    let old = c.loop-f.made.items in
    let inside : i < length fs = subst (λ (l : List Function). i < length l) c.deref-f-items.ensures.value c.loop-f-test.true in
    let at : f ≡ get_or fs i f = c.f-item.is ∙ ap (λ (l : List Function). get_or l i f) c.deref-f-items.ensures.value in
    elim c.if-is_none.branch [
      | then-is_none+then-next-given+in_ok-table_of+in_ok-push w ↦
          ap (λ (k : ℕ). tables_in c.if-is_none.made.items ++ made_from types (drop (i + 1) fs) (drop k gs)) w.next-is
          ∙ matched types fs i f gs n w.index-given-next.result old c.if-is_none.made.items w.in_ok-table_of.field-0 _ inside at (bodiless_so _ _ c.is_none.ensures w.if-is_none.true) w.if-next-given.true
          (ap (λ v. v.items) w.made-is ∙ w.in_ok-push.ensures.items) (w.in_ok-table_of.ensures ∙ (ap (λ (l : List TypeName). table_of (m.fun_of (named_of (map type_name_of l)) (fun_of f)) (function_of w.index-given-next.result)) w.deref.ensures.value ∙ ap (λ (g : text.Function). table_of (one types f) (function_of g)) w.index-given-next.is)) c.loop-f.invariant
      | else-is_none+in_ok-blank+in_ok-push-2 w ↦
          let made = ap (λ v. v.items) w.made-is ∙ w.in_ok-push-2.ensures.items in
          let is = w.in_ok-blank.ensures ∙ ap (λ (l : List TypeName). blank (m.fun_of (named_of (map type_name_of l)) (fun_of f))) w.deref-else-is_none.ensures.value in
          ap (λ (k : ℕ). tables_in c.if-is_none.made.items ++ made_from types (drop (i + 1) fs) (drop k gs)) w.next-is
          ∙ elim w.else-is_none.branch [
            | else-is_none-via-then-is_none+else-next-given v ↦ unmatched types fs i f gs n old c.if-is_none.made.items w.in_ok-blank.field-0 _ inside at (bodiless_so _ _ c.is_none.ensures v.if-is_none.true) (omega (arith, v.if-next-given.false)) made is c.loop-f.invariant
            | else-is_none-via-else-is_none v ↦ bodied types fs i f (drop n gs) old c.if-is_none.made.items w.in_ok-blank.field-0 _ inside at (bodied_so _ _ c.is_none.ensures v.if-is_none.false) made is c.loop-f.invariant
          ]
    ]
