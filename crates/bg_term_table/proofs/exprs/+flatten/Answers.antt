use mir.Syntax.{w128}
use Rattle.std.proofs.Common.{rules, SFits, to_z, of_z, to_z-of_z, ◌≡◌, ◌+◌, ◌-◌, ◌<◌, ◌≤◌, [], ◌∷◌, ◌++◌, length, take, drop, refl, sym, ap, ◌∙◌, subst, arith}
use Rattle.std.specs.Prelude.{reverse}
use Rattle.std.proofs.lemmas.List.{take_all, take_rest, drop_all}
use Rattle.std.proofs.lemmas.Result.{IfOk-weaker}
use Rattle.bg_base.proofs.Takes.{take_more}
use Rattle.bg_ast.specs.Syntax.{Number, Read, Local, More}
use Rattle.bg_ast.specs.declared.resolved.Expr.TheVariants as expr
use Rattle.bg_terms.specs.Terms.{Applies}
use Rattle.bg_numbered.specs.Put.{place_term, with_term, select_head, update_head, map_ty, place_select, with_select, place_update, with_update}
use Rattle.bg_term_table.specs.Views.{meaning, meanings, operand_meaning, operands, sign_in, signs, listed, head_of, terms_in, incs_of}
use Rattle.bg_term_table.specs.Brackets.{bracketed, all_bracketed}
use Rattle.bg_term_table.specs.Chains.{is_implies}
use Rattle.bg_term_table.specs.Until.{until_implies}
use Rattle.bg_term_table.specs.Made.{IsMade, AreMade, AreTurned, AreLinked}
use Rattle.bg_term_table.proofs.Means.{meaning-Apply}
use Rattle.bg_term_table.proofs.Loops.{item, read_more, read_last}
use Rattle.bg_term_table.proofs.Until.{turned_end, until_behind, turned_at}
use Rattle.bg_term_table.proofs.Steps.{turned_none, turned_one, turn_none, turn_one, last_first, begun_none, begun_anew, at_turned, at_other, linking_start, linking_step, linking_end}
use Rattle.bg_term_table.proofs.Forms.{meaning-Postfix, bracketed_last, bracketed-Select, bracketed-Update, prefix_made, chain_made, each_more, apply_made, select_made, update_made}
use Rattle.bg_term_table.proofs.exprs.+flatten.Goals as goal

pub turn-returns-then-not-is_explies : goal.turn-returns-then-not-is_explies
turn-returns-then-not-is_explies t c =
    λ fs g.
    turn_none fs (incs_of c.args.around) c.args.l.now (reverse (meanings c.args.made.now.items)) (terms_in fs c.args.terms.now.terms.items) (sym c.is_explies.ensures ∙ c.if-not-is_explies.true)

pub turn-returns : goal.turn-returns
turn-returns t c =
    λ fs g.
    turn_one fs (incs_of c.args.around) c.args.l.now (reverse (meanings c.args.made.now.items)) (reverse (meanings c.push.new.self.items)) (terms_in fs c.args.terms.now.terms.items) (terms_in fs c.expr.new.terms.terms.items) (meaning c.in_ok-x.x) (sym c.is_explies.ensures ∙ c.if-not-is_explies.false) (c.in_ok-x.ensures fs g) (last_first c.args.made.now.items c.push.new.self.items c.in_ok-x.x c.in_ok-push.ensures.items)

pub turned-loop-i-init : goal.turned-loop-i-init
turned-loop-i-init t c =
    let links = c.args.links.now in
    let from = c.args.from in
    let u = c.until_implies.result in
    let part = take_rest links from in
    let last : u ≡ until_implies (drop from links) = c.until_implies.ensures.until ∙ ap until_implies part in (
      omega arith,
      omega (arith, last),
      let h = until_behind links from c.requires in omega (arith, h, last),
      λ fs g. turned_none fs (incs_of c.args.around) (drop (from + u) links) (terms_in fs c.args.terms.now.terms.items) (terms_in fs c.args.terms.now.terms.items) (reverse (meanings c.new-made.result.items)) (turned_end links (take (length links - from) (drop from links)) from u part c.until_implies.ensures.until) (ap (λ l. reverse (meanings l)) c.new-made.ensures.items) refl,
    )

pub turned-loop-i-preserved : goal.turned-loop-i-preserved
turned-loop-i-preserved t c =
    let links = c.args.links.now in
    let from = c.args.from in
    let i = c.loop-i.i in
    let l = c.index-links-i.result in
    let more : from < i = c.loop-i-test.true in
    let at : i - 1 + 1 ≡ i = omega (arith, more) in
    let le : from ≤ i - 1 = omega (arith, more) in (
      le,
      omega (arith, c.loop-i.invariant.1),
      omega (arith, c.loop-i.invariant.2),
      λ fs g. turned_one fs (incs_of c.args.around) l (drop (i - 1) links) (drop i links) (terms_in fs c.args.terms.now.terms.items) (terms_in fs c.loop-i.terms.terms.items) (terms_in fs c.turn.new.terms.terms.items) (reverse (meanings c.loop-i.made.items)) (reverse (meanings c.turn.new.made.items)) (turned_at links from (i - 1) i l c.requires at le c.loop-i.invariant.1 c.index-links-i.is) (c.loop-i.invariant.3 fs g) (c.in_ok-turn.ensures fs g),
    )

pub turned-returns : goal.turned-returns
turned-returns t c =
    let end : c.loop-i.i ≡ c.args.from = omega (arith, c.loop-i.invariant.0) in
    λ fs g.
    subst (λ j. AreTurned fs (incs_of c.args.around) (drop j c.args.links.now) (terms_in fs c.args.terms.now.terms.items) (reverse (meanings c.loop-i.made.items)) (terms_in fs c.loop-i.terms.terms.items)) end (c.loop-i.invariant.3 fs g)

pub begin-returns-then-not-is_implies : goal.begin-returns-then-not-is_implies
begin-returns-then-not-is_implies t c =
    λ fs g.
    begun_none fs (incs_of c.args.around) c.args.i c.args.links.now c.index-links-i.result c.requires c.index-links-i.is (reverse (meanings c.args.made.now.items)) (terms_in fs c.args.terms.now.terms.items) (ap (λ y. is_implies y.sign) c.index-links-i.is ∙ sym c.is_implies.ensures ∙ c.if-not-is_implies.true)

pub begin-returns : goal.begin-returns
begin-returns t c =
    λ fs g.
    begun_anew fs (incs_of c.args.around) c.args.i c.args.links.now c.index-links-i.result c.requires c.index-links-i.is (reverse (meanings c.args.made.now.items)) (terms_in fs c.args.terms.now.terms.items) _ (terms_in fs c.turned.new.terms.terms.items) (ap (λ y. is_implies y.sign) c.index-links-i.is ∙ sym c.is_implies.ensures ∙ c.if-not-is_implies.false) (c.in_ok-made.ensures fs g)

pub operand-returns-then-is_explies : goal.operand-returns-then-is_explies
operand-returns-then-is_explies t c =
    λ fs g.
    at_turned fs (incs_of c.args.around) c.args.links.now c.args.i c.index-links-i.result c.requires c.index-links-i.is (reverse (meanings c.args.made.now.items)) (terms_in fs c.args.terms.now.terms.items) (meaning c.last.result) (reverse (meanings c.last.new.made.items)) (sym c.is_explies.ensures ∙ c.if-is_explies.true) c.last.ensures.first c.last.ensures.others

pub operand-returns : goal.operand-returns
operand-returns t c =
    IfOk-weaker c.expr.result _ _
    (λ x m. λ fs g.
    at_other fs (incs_of c.args.around) c.args.links.now c.args.i c.index-links-i.result c.requires c.index-links-i.is (reverse (meanings c.args.made.now.items)) (terms_in fs c.args.terms.now.terms.items) (terms_in fs c.begin.new.terms.terms.items) (terms_in fs c.expr.new.terms.terms.items) (meaning x) (reverse (meanings c.begin.new.made.items)) (sym c.is_explies.ensures ∙ c.if-is_explies.false) (c.in_ok-begin.ensures fs g) (m fs g))
    c.expr.ensures

pub links_behind-loop-i-init : goal.links_behind-loop-i-init
links_behind-loop-i-init t c = (
  λ fs g. linking_start fs (incs_of c.args.around) c.args.links.now (reverse (meanings c.args.before.items)) (terms_in fs c.args.terms.now.terms.items) (operands c.new-made.result.items) (ap operands c.new-made.ensures.items),
  ap signs c.new-made.ensures.items,
)

pub links_behind-loop-i-preserved : goal.links_behind-loop-i-preserved
links_behind-loop-i-preserved t c =
    let links = c.args.links.now in
    let i = c.loop-i.i in
    let l = c.index-links-i.result in
    let x = c.in_ok-operand.operand in (
      λ fs g.
          linking_step fs (incs_of c.args.around) links (drop i links) (drop (i + 1) links) (reverse (meanings c.args.before.items)) (terms_in fs c.args.terms.now.terms.items) (operands c.loop-i.made.items) (operands c.push.new.self.items) (reverse (meanings c.loop-i.before.items)) (reverse (meanings c.operand.new.made.items)) (terms_in fs c.loop-i.terms.terms.items) (terms_in fs c.operand.new.terms.terms.items) (meaning x) (read_last operand_meaning c.push.new.self.items c.loop-i.made.items (record { pos = l.pos; sign = l.sign; operand = x }) c.in_ok-push.ensures.items) (c.loop-i.invariant.0 fs g) (c.in_ok-operand.ensures fs g),
      read_last sign_in c.push.new.self.items c.loop-i.made.items (record { pos = l.pos; sign = l.sign; operand = x }) c.in_ok-push.ensures.items
          ∙ ap (λ gs. gs ++ l.sign ∷ []) c.loop-i.invariant.1
          ∙ sym (read_more sign_in links i l c.loop-i-test.true c.index-links-i.is),
    )

pub links_behind-returns-clause-operands : goal.links_behind-returns-clause-operands
links_behind-returns-clause-operands t c =
    let links = c.args.links.now in
    λ fs g.
    linking_end fs (incs_of c.args.around) links (drop c.loop-i.i links) (reverse (meanings c.args.before.items)) (terms_in fs c.args.terms.now.terms.items) (operands c.loop-i.made.items) (reverse (meanings c.loop-i.before.items)) (terms_in fs c.loop-i.terms.terms.items) (drop_all c.loop-i.i links c.loop-i-test.false) (c.loop-i.invariant.0 fs g)

pub links_behind-returns-clause-signs : goal.links_behind-returns-clause-signs
links_behind-returns-clause-signs t c = c.loop-i.invariant.1 ∙ ap signs (take_all c.loop-i.i c.args.links.now c.loop-i-test.false)

pub expr-returns-in-Constant : goal.expr-returns-in-Constant
expr-returns-in-Constant t c =
    λ fs g.
    let old = terms_in fs c.args.terms.now.terms.items in
    let d = c.in-Constant in
    subst (λ e. IsMade fs (incs_of c.args.around) (meaning e) old (meaning (expr.Constant d.pos d.k)) old) (sym d.is) (refl, refl)

pub expr-returns-in-Number : goal.expr-returns-in-Number
expr-returns-in-Number t c =
    λ fs g.
    let old = terms_in fs c.args.terms.now.terms.items in
    let d = c.in-Number in
    let fits : SFits w128 d.n = search rules in
    subst (λ e. IsMade fs (incs_of c.args.around) (meaning e) old (Number (to_z w128 (of_z w128 d.n))) old) (sym d.is) (ap Number (to_z-of_z fits), refl)

pub expr-returns-in-Truth : goal.expr-returns-in-Truth
expr-returns-in-Truth t c =
    λ fs g.
    let old = terms_in fs c.args.terms.now.terms.items in
    let d = c.in-Truth in
    subst (λ e. IsMade fs (incs_of c.args.around) (meaning e) old (meaning (expr.Truth d.pos d.b)) old) (sym d.is) (refl, refl)

pub expr-returns-in-Read : goal.expr-returns-in-Read
expr-returns-in-Read t c =
    λ fs g.
    let old = terms_in fs c.args.terms.now.terms.items in
    let d = c.in-Read in
    subst (λ e. IsMade fs (incs_of c.args.around) (meaning e) old (meaning (expr.Read d.pos d.x)) old) (sym d.is) (refl, refl)

pub expr-returns-in_ok-j-in-Apply : goal.expr-returns-in_ok-j-in-Apply
expr-returns-in_ok-j-in-Apply t c =
    let d = c.in-Apply in
    let j = c.in_ok-j-in-Apply.j in
    let xs = meanings c.in_ok-args-in-Apply.args.items in
    λ fs g.
    let n = incs_of c.args.around in
    let old = terms_in fs c.args.terms.now.terms.items in
    let mid = terms_in fs c.exprs.new.terms.terms.items in
    let new = terms_in fs c.put.new.self.terms.items in
    let all = subst (λ l. AreMade fs n (meanings l) old xs mid) c.deref.ensures.value (c.in_ok-args-in-Apply.ensures fs g) in
    let at = c.in_ok-j-in-Apply.ensures.number fs ∙ ap (λ m. m + place_term (Applies d.function) (listed xs) mid) c.in_ok-count-in-Apply.ensures in
    subst (λ e. IsMade fs n (meaning e) old (Read (Local j)) new) (sym d.is) (subst (λ e. IsMade fs n e old (Read (Local j)) new) (sym (meaning-Apply d.pos d.function d.args)) (apply_made fs n old mid new d.function j (meanings d.args.items) xs all at (c.in_ok-j-in-Apply.ensures.table fs)))

pub expr-returns-in-Old : goal.expr-returns-in-Old
expr-returns-in-Old t c =
    IfOk-weaker c.expr.result _ _
    (λ x m. λ fs g.
    let n = incs_of c.args.around in
    let old = terms_in fs c.args.terms.now.terms.items in
    let new = terms_in fs c.expr.new.terms.terms.items in
    let inner = subst (λ e. IsMade fs n (meaning e) old (meaning x) new) c.deref-in-Old.ensures (m fs g) in
    subst (λ e. IsMade fs n (meaning e) old (meaning x) new) (sym c.in-Old.is) inner)
    c.expr.ensures

pub expr-returns-in-Parens : goal.expr-returns-in-Parens
expr-returns-in-Parens t c =
    IfOk-weaker c.expr-in-Parens.result _ _
    (λ x m. λ fs g.
    let n = incs_of c.args.around in
    let old = terms_in fs c.args.terms.now.terms.items in
    let new = terms_in fs c.expr-in-Parens.new.terms.terms.items in
    let inner = subst (λ e. IsMade fs n (meaning e) old (meaning x) new) c.deref-in-Parens.ensures (m fs g) in
    subst (λ e. IsMade fs n (meaning e) old (meaning x) new) (sym c.in-Parens.is) inner)
    c.expr-in-Parens.ensures

pub expr-returns-in_ok-new-in-Prefix : goal.expr-returns-in_ok-new-in-Prefix
expr-returns-in_ok-new-in-Prefix t c =
    let d = c.in-Prefix in
    λ fs g.
    let n = incs_of c.args.around in
    let old = terms_in fs c.args.terms.now.terms.items in
    let new = terms_in fs c.expr-in-Prefix.new.terms.terms.items in
    let box = c.in_ok-new-in-Prefix.field-0 in
    let inner = subst (λ e. IsMade fs n (meaning e) old (meaning c.in_ok-made-in-Prefix.made) new) c.deref-in-Prefix-2.ensures (c.in_ok-made-in-Prefix.ensures fs g) in
    let boxed = subst (λ x. IsMade fs n (meaning d.e.value) old (meaning x) new) (sym c.in_ok-new-in-Prefix.ensures.ok) inner in
    subst (λ e. IsMade fs n (meaning e) old (meaning (expr.Prefix c.in_ok-signs-in-Prefix.signs box)) new) (sym d.is) (prefix_made fs n old new d.signs d.e c.in_ok-signs-in-Prefix.signs box (c.in_ok-signs-in-Prefix.ensures ∙ c.deref-in-Prefix.ensures.value) boxed)

pub expr-returns-in_ok-first-in-Postfix : goal.expr-returns-in_ok-first-in-Postfix
expr-returns-in_ok-first-in-Postfix t c =
    let d = c.in-Postfix in
    IfOk-weaker c.brackets.result _ _
    (λ y m. λ fs g.
    let n = incs_of c.args.around in
    let old = terms_in fs c.args.terms.now.terms.items in
    let new = terms_in fs c.brackets.new.terms.terms.items in
    let mid = terms_in fs c.expr-in-Postfix.new.terms.terms.items in
    let inner = subst (λ e. IsMade fs n (meaning e) old (meaning c.in_ok-first-in-Postfix.first) mid) c.deref-in-Postfix.ensures (c.in_ok-first-in-Postfix.ensures fs g) in
    let behind = subst (λ l. IsMade fs n (all_bracketed (meaning d.inner.value) l) old (meaning y) new) c.deref-in-Postfix-2.ensures.value (m fs g (meaning d.inner.value) old inner) in
    subst (λ e. IsMade fs n (meaning e) old (meaning y) new) (sym d.is) (subst (λ e. IsMade fs n e old (meaning y) new) (sym (meaning-Postfix d.inner d.behind)) behind))
    c.brackets.ensures

pub bracket-returns-in_ok-j-in-Select : goal.bracket-returns-in_ok-j-in-Select
bracket-returns-in_ok-j-in-Select t c =
    let d = c.in-Select in
    let j = c.in_ok-j-in-Select.j in
    let x = meaning c.args.x in
    let xs = meanings c.in_ok-indices-in-Select.indices.items in
    let h = head_of c.in_ok-head-in-Select.head in
    let args = listed (meanings c.in_ok-args-in-Select.args.items) in
    λ fs g e before w.
    let n = incs_of c.args.around in
    let old = terms_in fs c.args.terms.now.terms.items in
    let two = terms_in fs c.exprs.new.terms.terms.items in
    let new = terms_in fs c.put.new.self.terms.items in
    let all = subst (λ l. AreMade fs n (meanings l) old xs two) c.deref.ensures.value (c.in_ok-indices-in-Select.ensures fs g) in
    let same : h ≡ select_head (map_ty n x two) = c.in_ok-head-in-Select.ensures fs g ∙ ap (λ l. select_head (map_ty n x (terms_in fs l))) c.deref-in-Select.ensures.value in
    let row : args ≡ More x (listed xs) = c.in_ok-args-in-Select.ensures in
    let place : j ≡ length n + place_select n x (listed xs) two = c.in_ok-j-in-Select.ensures.number fs ∙ ap (λ m. m + place_term h args two) c.in_ok-count.ensures ∙ ap (λ q. length n + place_term q args two) same ∙ ap (λ l. length n + place_term (select_head (map_ty n x two)) l two) row in
    let put : new ≡ with_select fs n x (listed xs) two = c.in_ok-j-in-Select.ensures.table fs ∙ ap (λ q. with_term fs q args two) same ∙ ap (λ l. with_term fs (select_head (map_ty n x two)) l two) row in
    subst (λ b. IsMade fs n (bracketed e b) before (Read (Local j)) new) (sym d.is) (subst (λ q. IsMade fs n q before (Read (Local j)) new) (sym (bracketed-Select d.pos d.indices e)) (select_made fs n before old two new j e x (meanings d.indices.items) xs w all place put))

pub bracket-returns-in_ok-j-in-Update : goal.bracket-returns-in_ok-j-in-Update
bracket-returns-in_ok-j-in-Update t c =
    let d = c.in-Update in
    let j = c.in_ok-j-in-Update.j in
    let x = meaning c.args.x in
    let y = meaning c.in_ok-value-in-Update.value in
    let xs = meanings c.in_ok-indices-in-Update.indices.items in
    let h = head_of c.in_ok-head-in-Update.head in
    let args = listed (meanings c.in_ok-args-in-Update.args.items) in
    λ fs g e before w.
    let n = incs_of c.args.around in
    let old = terms_in fs c.args.terms.now.terms.items in
    let two = terms_in fs c.exprs-in-Update.new.terms.terms.items in
    let three = terms_in fs c.expr.new.terms.terms.items in
    let new = terms_in fs c.put-in-Update.new.self.terms.items in
    let all = subst (λ l. AreMade fs n (meanings l) old xs two) c.deref-in-Update.ensures.value (c.in_ok-indices-in-Update.ensures fs g) in
    let value = c.in_ok-value-in-Update.ensures fs g in
    let same : h ≡ update_head (map_ty n x three) = c.in_ok-head-in-Update.ensures fs g ∙ ap (λ l. update_head (map_ty n x (terms_in fs l))) c.deref-in-Update-2.ensures.value in
    let row : args ≡ More x (More y (listed xs)) = c.in_ok-args-in-Update.ensures ∙ ap (More x) c.in_ok-behind-in-Update.ensures in
    let place : j ≡ length n + place_update n x y (listed xs) three = c.in_ok-j-in-Update.ensures.number fs ∙ ap (λ m. m + place_term h args three) c.in_ok-count.ensures ∙ ap (λ q. length n + place_term q args three) same ∙ ap (λ l. length n + place_term (update_head (map_ty n x three)) l three) row in
    let put : new ≡ with_update fs n x y (listed xs) three = c.in_ok-j-in-Update.ensures.table fs ∙ ap (λ q. with_term fs q args three) same ∙ ap (λ l. with_term fs (update_head (map_ty n x three)) l three) row in
    subst (λ b. IsMade fs n (bracketed e b) before (Read (Local j)) new) (sym d.is) (subst (λ q. IsMade fs n q before (Read (Local j)) new) (sym (bracketed-Update d.pos d.indices d.value e)) (update_made fs n before old two three new j e x (meaning d.value) y (meanings d.indices.items) xs w all value place put))

pub brackets-loop-b-preserved : goal.brackets-loop-b-preserved
brackets-loop-b-preserved t c =
    let bs = c.args.bs.now in
    let i = c.loop-b.b-index in
    let b = c.b-item.result in
    λ fs g e before w.
    let n = incs_of c.args.around in
    let new = terms_in fs c.bracket.new.terms.terms.items in
    let at : all_bracketed e (take (i + 1) bs) ≡ bracketed (all_bracketed e (take i bs)) b = ap (all_bracketed e) (take_more bs i b (item bs i b c.loop-b-test.true c.b-item.is)) ∙ bracketed_last (take i bs) b e in
    subst (λ q. IsMade fs n q before (meaning c.in_ok-made.made) new) (sym at) (c.in_ok-made.ensures fs g (all_bracketed e (take i bs)) before (c.loop-b.invariant fs g e before w))

pub brackets-returns : goal.brackets-returns
brackets-returns t c =
    λ fs g e before w.
    subst (λ l. IsMade fs (incs_of c.args.around) (all_bracketed e l) before (meaning c.loop-b.made) (terms_in fs c.loop-b.terms.terms.items)) (take_all c.loop-b.b-index c.args.bs.now c.loop-b-test.false) (c.loop-b.invariant fs g e before w)

pub expr-returns-in_ok-new-in-Chain : goal.expr-returns-in_ok-new-in-Chain
expr-returns-in_ok-new-in-Chain t c =
    let d = c.in-Chain in
    λ fs g.
    let n = incs_of c.args.around in
    let old = terms_in fs c.args.terms.now.terms.items in
    let one = terms_in fs c.turned.new.terms.terms.items in
    let two = terms_in fs c.expr-in-Chain.new.terms.terms.items in
    let new = terms_in fs c.links_behind.new.terms.terms.items in
    let box = c.in_ok-new-in-Chain.field-0 in
    let before = reverse (meanings c.in_ok-before-in-Chain.before.items) in
    let made = c.in_ok-behind-in-Chain.behind in
    let all = subst (λ l. AreTurned fs n l old before one) c.deref-in-Chain.ensures.value (c.in_ok-before-in-Chain.ensures fs g) in
    let inner = subst (λ e. IsMade fs n (meaning e) one (meaning c.in_ok-made-in-Chain.made) two) c.deref-in-Chain-2.ensures (c.in_ok-made-in-Chain.ensures fs g) in
    let boxed = subst (λ x. IsMade fs n (meaning d.e.value) one (meaning x) two) (sym c.in_ok-new-in-Chain.ensures.ok) inner in
    let links = subst (λ l. AreLinked fs n l before two (operands made.items) new) c.deref-in-Chain-3.ensures.value (c.in_ok-behind-in-Chain.ensures.operands fs g) in
    subst (λ e. IsMade fs n (meaning e) old (meaning (expr.Chain box made)) new) (sym d.is)
    (chain_made fs n old one two new before d.e d.links box made all boxed links (c.in_ok-behind-in-Chain.ensures.signs ∙ ap signs c.deref-in-Chain-3.ensures.value))

pub exprs-loop-e-preserved : goal.exprs-loop-e-preserved
exprs-loop-e-preserved t c =
    let es = c.args.es.now in
    let i = c.loop-e.e-index in
    let e = c.e-item.result in
    λ fs g.
    each_more fs (incs_of c.args.around) (terms_in fs c.args.terms.now.terms.items) (terms_in fs c.loop-e.terms.terms.items) (terms_in fs c.expr.new.terms.terms.items) (meanings (take i es)) (meanings (take (i + 1) es)) (meanings c.loop-e.made.items) (meanings c.push.new.self.items) (meaning e) (meaning c.in_ok-e.e) (read_more meaning es i e c.loop-e-test.true c.e-item.is) (read_last meaning c.push.new.self.items c.loop-e.made.items c.in_ok-e.e c.in_ok-push.ensures.items) (c.loop-e.invariant fs g) (c.in_ok-e.ensures fs g)

pub exprs-returns : goal.exprs-returns
exprs-returns t c =
    λ fs g.
    subst (λ l. AreMade fs (incs_of c.args.around) (meanings l) (terms_in fs c.args.terms.now.terms.items) (meanings c.loop-e.made.items) (terms_in fs c.loop-e.terms.terms.items)) (take_all c.loop-e.e-index c.args.es.now c.loop-e-test.false) (c.loop-e.invariant fs g)
