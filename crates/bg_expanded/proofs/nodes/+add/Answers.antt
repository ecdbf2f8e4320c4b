use Rattle.std.proofs.Common.{◌≡◌, ℕ, suc, ◌+◌, ◌*◌, ◌^◌, ◌-◌, min, List, map, option_map, Option, None, slice_get, length, drop, get_or, sym, ap, ◌∙◌, arith, Bor, mul-zero}
use Rattle.std.proofs.lemmas.Result.{on_ok_weaker}
use Rattle.std.proofs.lemmas.List.{drop_all}
use Rattle.bg_ast.specs.declared.resolved.Expr.{Expr}
use Rattle.bg_ast.specs.declared.resolved.Link.{Link}
use Rattle.bg_ast.specs.declared.resolved.Bracket.{Bracket}
use Rattle.bg_ast.specs.Views.{ex_of, exs_in, link_view, links_of, bracket_view, brackets_of}
use Rattle.bg_expanded.specs.declared.count.Count.{Count}
use Rattle.bg_expanded.specs.Weights.{total, weight, weights, weight_behind, weight_linked, weight_of_bracket}
use Rattle.bg_expanded.specs.Bodies.{IsAlike, paired, worth, worth_of, weigher, known_in}
use Rattle.bg_expanded.proofs.Alike.{added_more, added_two, added_suc, added_three, added_body, as_form, alike_often, alike_saturated, times_alike}
use Rattle.bg_expanded.proofs.Products.{product_parts, paired_here, paired_none}
use Rattle.bg_expanded.proofs.WeightForms.{weight-Apply, weight-Chain, weight-Postfix, weight-Select, weight-Update, weight-bracket, weights_long}
use Rattle.bg_expanded.proofs.Within.{drop_here}
use Rattle.bg_expanded.proofs.nodes.+add.Goals as goal

pub add-returns-in-Apply : goal.add-returns-in-Apply
add-returns-in-Apply t c =
    let app = weigher c.args.table.now in
    on_ok_weaker c.add_apply.result (λ h ws.
    let form = ap (λ (es : List Expr). app c.in-Apply.f (weights app ws (exs_in es))) c.deref.ensures.value ∙ (sym (weight-Apply app ws c.in-Apply.field-0 c.in-Apply.f c.in-Apply.es) ∙ ap (λ (e : Expr). weight app ws (ex_of e)) (sym c.in-Apply.is)) in
    as_form c.args.times _ _ (worth c.args.count.now ws) (worth c.add_apply.new.count ws) (h ws) form) c.add_apply.ensures

pub add-returns-in-Old : goal.add-returns-in-Old
add-returns-in-Old t c =
    let app = weigher c.args.table.now in
    on_ok_weaker c.add-in-Old.result (λ h ws.
    let d = ap (λ (e : Expr). weight app ws (ex_of e)) c.deref-in-Old.ensures in
    let form = ap (λ (e : Expr). weight app ws (ex_of e)) (sym c.in-Old.is) in
    let added = added_suc c.args.times (weight app ws (ex_of c.deref-in-Old.result.now)) (worth c.args.count.now ws) (worth c.add_own.new.count ws) (worth c.add-in-Old.new.count ws) (c.add_own.ensures ws) (h ws) in
    as_form c.args.times (suc (weight app ws (ex_of c.deref-in-Old.result.now))) (weight app ws (ex_of c.args.e.now)) (worth c.args.count.now ws) (worth c.add-in-Old.new.count ws) added (ap suc d ∙ form)) c.add-in-Old.ensures

pub add-returns-in-Prefix : goal.add-returns-in-Prefix
add-returns-in-Prefix t c =
    let app = weigher c.args.table.now in
    on_ok_weaker c.add-in-Prefix.result (λ h ws.
    let d = ap (λ (e : Expr). weight app ws (ex_of e)) c.deref-in-Prefix.ensures in
    let form = ap (λ (e : Expr). weight app ws (ex_of e)) (sym c.in-Prefix.is) in
    let added = added_suc c.args.times (weight app ws (ex_of c.deref-in-Prefix.result.now)) (worth c.args.count.now ws) (worth c.add_own-in-Prefix.new.count ws) (worth c.add-in-Prefix.new.count ws) (c.add_own-in-Prefix.ensures ws) (h ws) in
    as_form c.args.times (suc (weight app ws (ex_of c.deref-in-Prefix.result.now))) (weight app ws (ex_of c.args.e.now)) (worth c.args.count.now ws) (worth c.add-in-Prefix.new.count ws) added (ap suc d ∙ form)) c.add-in-Prefix.ensures

pub add-returns-in_ok-add-in-Postfix : goal.add-returns-in_ok-add-in-Postfix
add-returns-in_ok-add-in-Postfix t c =
    let app = weigher c.args.table.now in
    on_ok_weaker c.add_behind.result (λ h ws.
    let a = weight app ws (ex_of c.deref-in-Postfix.result.now) in
    let b = weight_behind app ws (brackets_of (map bracket_view c.deref-in-Postfix-2.result.now)) in
    let d = ap (λ (e : Expr). suc (weight app ws (ex_of e) + b)) c.deref-in-Postfix.ensures in
    let f = ap (λ (bs : List Bracket). suc (weight app ws (ex_of c.in-Postfix.e.value) + weight_behind app ws (brackets_of (map bracket_view bs)))) c.deref-in-Postfix-2.ensures.value in
    let form = sym (weight-Postfix app ws c.in-Postfix.e c.in-Postfix.brackets) ∙ ap (λ (e : Expr). weight app ws (ex_of e)) (sym c.in-Postfix.is) in
    let added = added_three c.args.times a b (worth c.args.count.now ws) (worth c.add_own-in-Postfix.new.count ws) (worth c.add-in-Postfix.new.count ws) (worth c.add_behind.new.count ws) (c.add_own-in-Postfix.ensures ws) (c.in_ok-add-in-Postfix.ensures ws) (h ws) in
    as_form c.args.times (suc (a + b)) (weight app ws (ex_of c.args.e.now)) (worth c.args.count.now ws) (worth c.add_behind.new.count ws) added (d ∙ (f ∙ form))) c.add_behind.ensures

pub add-returns-in_ok-add-in-Chain : goal.add-returns-in_ok-add-in-Chain
add-returns-in_ok-add-in-Chain t c =
    let app = weigher c.args.table.now in
    on_ok_weaker c.add_linked.result (λ h ws.
    let a = weight app ws (ex_of c.deref-in-Chain.result.now) in
    let b = weight_linked app ws (links_of (map link_view c.deref-in-Chain-2.result.now)) in
    let d = ap (λ (e : Expr). suc (weight app ws (ex_of e) + b)) c.deref-in-Chain.ensures in
    let f = ap (λ (ls : List Link). suc (weight app ws (ex_of c.in-Chain.e.value) + weight_linked app ws (links_of (map link_view ls)))) c.deref-in-Chain-2.ensures.value in
    let form = sym (weight-Chain app ws c.in-Chain.e c.in-Chain.links) ∙ ap (λ (e : Expr). weight app ws (ex_of e)) (sym c.in-Chain.is) in
    let added = added_three c.args.times a b (worth c.args.count.now ws) (worth c.add_own-in-Chain.new.count ws) (worth c.add-in-Chain.new.count ws) (worth c.add_linked.new.count ws) (c.add_own-in-Chain.ensures ws) (c.in_ok-add-in-Chain.ensures ws) (h ws) in
    as_form c.args.times (suc (a + b)) (weight app ws (ex_of c.args.e.now)) (worth c.args.count.now ws) (worth c.add_linked.new.count ws) added (d ∙ (f ∙ form))) c.add_linked.ensures

pub add_all-loop-e-preserved : goal.add_all-loop-e-preserved
add_all-loop-e-preserved t c ws =
    let app = weigher c.args.table.now in
    let es = c.args.es.now in
    let i = c.loop-e.e-index in
    let F : List Expr → ℕ = λ l. total (weights app ws (exs_in l)) in
    added_more c.args.times (weight app ws (ex_of c.e-item.result)) (F (drop (i + 1) es)) (F (drop i es)) (worth c.loop-e.count ws) (worth c.add.new.count ws) _ (ap F (drop_here es i c.e-item.result c.loop-e-test.true c.e-item.is)) (c.loop-e.invariant ws) (c.in_ok-add.ensures ws)

pub add_apply-returns-in-None : goal.add_apply-returns-in-None
add_apply-returns-in-None t c =
    let app = weigher c.args.table.now in
    let none : None ≡ known_in (slice_get c.args.table.now c.args.f) = sym (ap (option_map (λ (b : Bor Count). b.now)) c.in-None.is) ∙ c.known.ensures in
    on_ok_weaker c.add_all.result (λ h ws.
    let vs = weights app ws (exs_in c.args.es.now) in
    let added = added_suc c.args.times (total vs) (worth c.args.count.now ws) (worth c.add_own.new.count ws) (worth c.add_all.new.count ws) (c.add_own.ensures ws) (h ws) in
    as_form c.args.times (suc (total vs)) (app c.args.f vs) (worth c.args.count.now ws) (worth c.add_all.new.count ws) added (ap (λ (o : Option Count). worth_of o vs) none)) c.add_all.ensures

pub add_args-loop-place-preserved : goal.add_args-loop-place-preserved
add_args-loop-place-preserved t c = record {
  within = omega (arith, c.loop-place-test.true);
  is = λ ws.
      let app = weigher c.args.table.now in
      let es = c.args.es.now in
      let reads = c.args.reads.now in
      let times = c.args.times in
      let i = c.loop-place.place in
      let r = get_or reads i 0 in
      let w = weight app ws (ex_of c.index-es-place.result) in
      let F : List Expr → ℕ = λ l. paired (drop i reads) (weights app ws (exs_in l)) in
      let rest = weights app ws (exs_in (drop (i + 1) es)) in
      let here : F (drop i es) ≡ r * w + paired (drop (i + 1) reads) rest = ap F (drop_here es i c.index-es-place.result c.loop-place-test.true c.index-es-place.is) ∙ paired_here reads i w rest in
      let often : c.saturating_mul-often.result ≡ min (times * r) (2 ^ 64 - 1) = c.saturating_mul-often.ensures ∙ ap (λ (n : ℕ). min (times * n) (2 ^ 64 - 1)) c.read_at.ensures in
      let same = ap (λ (n : ℕ). n * w) often in
      let alike : IsAlike (c.saturating_mul-often.result * w) (times * (r * w)) = ap (min 1000001) same ∙ alike_often times r w in
      let added = c.in_ok-add.ensures ws in
      let one : IsAlike (worth c.add.new.count ws) (worth c.loop-place.count ws + times * (r * w)) = omega (arith, added, alike) in
      added_more times (r * w) (paired (drop (i + 1) reads) rest) (F (drop i es)) (worth c.loop-place.count ws) (worth c.add.new.count ws) _ here (c.loop-place.invariant.is ws) one;
}

pub add_args-returns : goal.add_args-returns
add_args-returns t c ws =
    let app = weigher c.args.table.now in
    let es = c.args.es.now in
    let i = c.loop-place.place in
    let none : paired (drop i c.args.reads.now) (weights app ws (exs_in (drop i es))) ≡ 0 =
    ap (λ (l : List Expr). paired (drop i c.args.reads.now) (weights app ws (exs_in l))) (drop_all i es (omega (arith, c.loop-place-test.false))) ∙ paired_none (drop i c.args.reads.now) in
    let zero = ap (λ (n : ℕ). c.args.times * n) none ∙ mul-zero c.args.times in
    omega (arith, c.loop-place.invariant.is ws)

pub add_behind-loop-bracket-preserved : goal.add_behind-loop-bracket-preserved
add_behind-loop-bracket-preserved t c ws =
    let app = weigher c.args.table.now in
    let bs = c.args.brackets.now in
    let i = c.loop-bracket.bracket-index in
    let b = bracket_view c.bracket-item.result in
    let F : List Bracket → ℕ = λ l. weight_behind app ws (brackets_of (map bracket_view l)) in
    let rest = brackets_of (map bracket_view (drop (i + 1) bs)) in
    added_more c.args.times (weight_of_bracket app ws b) (weight_behind app ws rest) (F (drop i bs)) (worth c.loop-bracket.count ws) (worth c.add_bracket.new.count ws) _ (ap F (drop_here bs i c.bracket-item.result c.loop-bracket-test.true c.bracket-item.is) ∙ weight-bracket app ws b rest) (c.loop-bracket.invariant ws) (c.in_ok-add_bracket.ensures ws)

pub add_body-returns : goal.add_body-returns
add_body-returns t c =
    let app = weigher c.args.table.now in
    let body = c.args.body.now in
    let times = c.args.times in
    let reads = body.reads.items in
    let es = c.args.es.now in
    on_ok_weaker c.add_args.result (λ h ws.
    let vs = weights app ws (exs_in es) in
    let long = weights_long app ws es in
    let rest = total (drop (length es) reads) in
    let read : IsAlike c.rest_of.result rest = c.rest_of.ensures ∙ ap (λ (l : List ℕ). min 1000001 (total (drop (length es) l))) c.deref.ensures.value in
    let n : IsAlike c.saturating_mul.result (times * body.own) = ap (min 1000001) c.saturating_mul.ensures ∙ alike_saturated (times * body.own) in
    let m : IsAlike c.saturating_mul-2.result (times * rest) = ap (min 1000001) c.saturating_mul-2.ensures ∙ times_alike times c.rest_of.result rest read in
    let args : IsAlike (worth c.add_args.new.count ws) (worth c.add_own-2.new.count ws + times * paired reads vs) = h ws ∙ ap (λ (l : List ℕ). min 1000001 (worth c.add_own-2.new.count ws + times * paired l vs)) c.deref-2.ensures.value in
    let added = added_body times body.own rest (paired reads vs) (worth c.args.count.now ws) (worth c.add_own.new.count ws) (worth c.add_own-2.new.count ws) (worth c.add_args.new.count ws) c.saturating_mul.result c.saturating_mul-2.result n m (c.add_own.ensures ws) (c.add_own-2.ensures ws) args in
    let parts : body.own + (rest + paired reads vs) ≡ worth body vs = ap (λ (k : ℕ). body.own + (total (drop k reads) + paired reads vs)) (sym long) ∙ ap (λ (k : ℕ). body.own + k) (sym (product_parts reads vs)) in
    as_form times (body.own + (rest + paired reads vs)) (worth body vs) (worth c.args.count.now ws) (worth c.add_args.new.count ws) added parts) c.add_args.ensures

pub add_bracket-returns-in-Select : goal.add_bracket-returns-in-Select
add_bracket-returns-in-Select t c =
    let app = weigher c.args.table.now in
    on_ok_weaker c.add_all.result (λ h ws.
    let form = ap (λ (es : List Expr). total (weights app ws (exs_in es))) c.deref.ensures.value ∙ (sym (weight-Select app ws c.in-Select.field-0 c.in-Select.es) ∙ ap (λ (b : Bracket). weight_of_bracket app ws (bracket_view b)) (sym c.in-Select.is)) in
    as_form c.args.times _ _ (worth c.args.count.now ws) (worth c.add_all.new.count ws) (h ws) form) c.add_all.ensures

pub add_bracket-returns-in_ok-add_all-in-Update : goal.add_bracket-returns-in_ok-add_all-in-Update
add_bracket-returns-in_ok-add_all-in-Update t c =
    let app = weigher c.args.table.now in
    on_ok_weaker c.add.result (λ h ws.
    let a = total (weights app ws (exs_in c.deref-in-Update.result.now)) in
    let b = weight app ws (ex_of c.in-Update.e) in
    let added = added_two c.args.times a b (worth c.args.count.now ws) (worth c.add_all-in-Update.new.count ws) (worth c.add.new.count ws) (c.in_ok-add_all-in-Update.ensures ws) (h ws) in
    let d = ap (λ (es : List Expr). total (weights app ws (exs_in es)) + b) c.deref-in-Update.ensures.value in
    let form = sym (weight-Update app ws c.in-Update.field-0 c.in-Update.es c.in-Update.e) ∙ ap (λ (b : Bracket). weight_of_bracket app ws (bracket_view b)) (sym c.in-Update.is) in
    as_form c.args.times (a + b) (weight_of_bracket app ws (bracket_view c.args.bracket.now)) (worth c.args.count.now ws) (worth c.add.new.count ws) added (d ∙ form)) c.add.ensures

pub add_linked-loop-link-preserved : goal.add_linked-loop-link-preserved
add_linked-loop-link-preserved t c ws =
    let app = weigher c.args.table.now in
    let ls = c.args.links.now in
    let i = c.loop-link.link-index in
    let l = c.link-item.result in
    let F : List Link → ℕ = λ ls. weight_linked app ws (links_of (map link_view ls)) in
    let rest = links_of (map link_view (drop (i + 1) ls)) in
    added_more c.args.times (weight app ws (ex_of l.operand)) (weight_linked app ws rest) (F (drop i ls)) (worth c.loop-link.count ws) (worth c.add.new.count ws) _ (ap F (drop_here ls i l c.loop-link-test.true c.link-item.is)) (c.loop-link.invariant ws) (c.in_ok-add.ensures ws)
