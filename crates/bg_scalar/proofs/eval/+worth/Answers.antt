use Rattle.std.proofs.Common.{◌≡◌, map, None, sym, ◌∙◌}
use Rattle.std.proofs.lemmas.Result.{IfOk-weaker}
use Rattle.bg_ast.specs.Views.{link_view, bracket_view}
use Rattle.bg_scalar.specs.Worths.{selected, updated}
use Rattle.bg_scalar.specs.Lists.{listed}
use Rattle.bg_scalar.specs.Along.{along, bracketed, behind}
use Rattle.bg_scalar.specs.Views.{seen_of, worth_in}
use Rattle.bg_scalar.proofs.Chains.{worth_of, apply_expr, chain_expr, prefix_expr, postfix_expr, link_step, link_end, bracket_step, bracket_end, select_bracket, update_bracket}
use Rattle.bg_scalar.proofs.Listing.{list_step}
use Rattle.bg_scalar.proofs.eval.+worth.Goals as goal

pub worth-returns-in_ok-value-in-Prefix : goal.worth-returns-in_ok-value-in-Prefix
worth-returns-in_ok-value-in-Prefix t c =
    rw (c.signed.ensures, c.deref-in-Prefix-2.ensures.value, c.in_ok-value-in-Prefix.ensures, c.deref-in-Prefix.ensures, c.in-Prefix.is) (sym (prefix_expr c.in-Prefix.signs c.in-Prefix.e (seen_of c.args.sight)))

pub worth-returns-in_ok-value-in-Postfix : goal.worth-returns-in_ok-value-in-Postfix
worth-returns-in_ok-value-in-Postfix t c =
    let s = seen_of c.args.sight in
    let is : behind (worth_in c.in_ok-value-in-Postfix.value) (map bracket_view c.deref-in-Postfix-2.result.now) s ≡ worth_of c.args.e.now s =
    rw (c.deref-in-Postfix-2.ensures.value, c.in_ok-value-in-Postfix.ensures, c.deref-in-Postfix.ensures, c.in-Postfix.is) (sym (postfix_expr c.in-Postfix.e c.in-Postfix.brackets s)) in
    IfOk-weaker c.behind.result _ _ (λ x h. h ∙ is) c.behind.ensures

pub worth-returns-in_ok-first-in-Chain : goal.worth-returns-in_ok-first-in-Chain
worth-returns-in_ok-first-in-Chain t c =
    let s = seen_of c.args.sight in
    let is : along None (worth_in c.in_ok-first-in-Chain.first) (map link_view c.deref-in-Chain-2.result.now) s ≡ worth_of c.args.e.now s =
    rw (c.deref-in-Chain-2.ensures.value, c.in_ok-first-in-Chain.ensures, c.deref-in-Chain.ensures, c.in-Chain.is) (sym (chain_expr c.in-Chain.first c.in-Chain.links s)) in
    IfOk-weaker c.chain.result _ _ (λ x h. h ∙ is) c.chain.ensures

pub worth-returns-in_ok-values-in-Apply : goal.worth-returns-in_ok-values-in-Apply
worth-returns-in_ok-values-in-Apply t c =
    rw (c.applied.ensures, c.in_ok-values-in-Apply.ensures, c.deref-in-Apply.ensures.value, c.in-Apply.is) (sym (apply_expr c.in-Apply.field-0 c.in-Apply.f c.in-Apply.args (seen_of c.args.sight)))

pub worths-loop-e-preserved : goal.worths-loop-e-preserved
worths-loop-e-preserved t c =
    list_step c.args.es.now c.loop-e.e-index c.e-item.result (seen_of c.args.sight) c.loop-e.made.items c.push.new.self.items c.in-Is.x c.in_ok-owned-in-Is.field-0 c.in_ok-value.value _ c.loop-e-test.true c.e-item.is c.in_ok-value.ensures c.in-Is.is c.in_ok-owned-in-Is.ensures c.in_ok-push-in-Is.ensures.items c.loop-e.invariant

pub chain-loop-link-preserved : goal.chain-loop-link-preserved
chain-loop-link-preserved t c =
    link_step c.args.links.now c.loop-link.link-index c.link-item.result (seen_of c.args.sight) _ _ _ _ _ _ c.loop-link-test.true c.link-item.is c.in_ok-next.ensures c.with_link-held.ensures.premise c.with_link-held.ensures.operand c.loop-link.invariant

pub chain-returns : goal.chain-returns
chain-returns t c =
    c.under.ensures ∙ link_end c.args.links.now c.loop-link.link-index (seen_of c.args.sight) _ _ _ c.loop-link-test.false c.loop-link.invariant

pub behind-loop-b-preserved : goal.behind-loop-b-preserved
behind-loop-b-preserved t c =
    bracket_step c.args.brackets.now c.loop-b.b-index c.b-item.result (seen_of c.args.sight) _ _ _ c.loop-b-test.true c.b-item.is c.in_ok-value.ensures c.loop-b.invariant

pub behind-returns : goal.behind-returns
behind-returns t c =
    bracket_end c.args.brackets.now c.loop-b.b-index (seen_of c.args.sight) _ _ c.loop-b-test.false c.loop-b.invariant

pub bracketed-returns-in_ok-index-in-Select : goal.bracketed-returns-in_ok-index-in-Select
bracketed-returns-in_ok-index-in-Select t c =
    let is : selected (worth_in c.args.value) (listed c.in_ok-index-in-Select.index) ≡ (let v = bracket_view c.args.bracket.now in bracketed (worth_in c.args.value) v.1 v.2 (seen_of c.args.sight)) =
    rw (c.in_ok-index-in-Select.ensures, c.deref.ensures.value, c.in-Select.is) (sym (select_bracket c.in-Select.field-0 c.in-Select.es (worth_in c.args.value) (seen_of c.args.sight))) in
    IfOk-weaker c.selected.result _ _ (λ x h. h ∙ is) c.selected.ensures

pub bracketed-returns-in_ok-new-in-Update : goal.bracketed-returns-in_ok-new-in-Update
bracketed-returns-in_ok-new-in-Update t c =
    let is : updated (worth_in c.args.value) (listed c.in_ok-index-in-Update.index) (worth_in c.in_ok-new-in-Update.new) ≡ (let v = bracket_view c.args.bracket.now in bracketed (worth_in c.args.value) v.1 v.2 (seen_of c.args.sight)) =
    rw (c.in_ok-index-in-Update.ensures, c.deref-in-Update.ensures.value, c.in_ok-new-in-Update.ensures, c.in-Update.is) (sym (update_bracket c.in-Update.field-0 c.in-Update.es c.in-Update.e (worth_in c.args.value) (seen_of c.args.sight))) in
    IfOk-weaker c.updated.result _ _ (λ x h. h ∙ is) c.updated.ensures
