use Rattle.std.proofs.Common.{◌≡◌, ℕ, List, ◌++◌, flat_map, sym, ap, ◌∙◌, append_assoc, append-nil, refl}
use Rattle.std.proofs.lemmas.List.{at_drop_all}
use Rattle.std.proofs.lemmas.Result.{on_ok_weaker}
use Rattle.bg_names.specs.Spaces.{place}
use Rattle.bg_resolve.specs.Calls.{called, tree_calls, link_calls, bracket_calls}
use Rattle.bg_names.specs.Views.{listed}
use Rattle.bg_resolve.proofs.CallForms.{calls-Apply, calls-Chain, calls-Postfix, calls-Select, calls-Update, calls_step}
use Rattle.bg_resolve.proofs.calls.+push_calls.Goals as goal

-- two lists are added, one behind the other
two : (old mid new a a' b b' : List ℕ) → a ≡ a' → b ≡ b' → mid ≡ old ++ a → new ≡ mid ++ b → new ≡ old ++ (a' ++ b')
two old mid new a a' b b' ha hb h k = k ∙ ap (λ l. l ++ b) h ∙ rw (ha, hb) (append_assoc old a' b')

pub of_bracket-returns-in-Select-clause-ok : goal.of_bracket-returns-in-Select-clause-ok
of_bracket-returns-in-Select-clause-ok t c =
    let fs = listed c.args.functions.now in
    let old = c.args.out.now.items in
    on_ok_weaker c.of_exprs.result (λ e. e ∙ ap (λ l. old ++ l) (ap (flat_map (tree_calls fs)) c.deref.ensures.value ∙ sym (calls-Select fs c.in-Select.field-0 c.in-Select.es) ∙ ap (bracket_calls fs) (sym c.in-Select.is))) c.of_exprs.ensures.ok

pub of_bracket-returns-in_ok-of_exprs-in-Update-clause-ok : goal.of_bracket-returns-in_ok-of_exprs-in-Update-clause-ok
of_bracket-returns-in_ok-of_exprs-in-Update-clause-ok t c =
    let fs = listed c.args.functions.now in
    let old = c.args.out.now.items in
    on_ok_weaker c.push_calls.result (λ e. two old _ _ _ (flat_map (tree_calls fs) c.in-Update.es.items) _ (tree_calls fs c.in-Update.e) (ap (flat_map (tree_calls fs)) c.deref-in-Update.ensures.value) refl c.in_ok-of_exprs-in-Update.ensures.ok e ∙ ap (λ l. old ++ l) (sym (calls-Update fs c.in-Update.field-0 c.in-Update.es c.in-Update.e) ∙ ap (bracket_calls fs) (sym c.in-Update.is))) c.push_calls.ensures.ok

pub push_calls-returns-in_ok-push_called-in-Apply-clause-ok : goal.push_calls-returns-in_ok-push_called-in-Apply-clause-ok
push_calls-returns-in_ok-push_called-in-Apply-clause-ok t c =
    let fs = listed c.args.functions.now in
    let old = c.args.out.now.items in
    on_ok_weaker c.of_exprs.result (λ e. two old _ _ _ (called (place fs c.in-Apply.name.text.items)) _ (flat_map (tree_calls fs) c.in-Apply.args.items) refl (ap (flat_map (tree_calls fs)) c.deref.ensures.value) c.in_ok-push_called-in-Apply.ensures.ok e ∙ ap (λ l. old ++ l) (sym (calls-Apply fs c.in-Apply.name c.in-Apply.args) ∙ ap (tree_calls fs) (sym c.in-Apply.is))) c.of_exprs.ensures.ok

pub push_calls-returns-in_ok-push_calls-in-Postfix-clause-ok : goal.push_calls-returns-in_ok-push_calls-in-Postfix-clause-ok
push_calls-returns-in_ok-push_calls-in-Postfix-clause-ok t c =
    let fs = listed c.args.functions.now in
    let old = c.args.out.now.items in
    on_ok_weaker c.of_brackets.result (λ e. two old _ _ _ (tree_calls fs c.in-Postfix.e.value) _ (flat_map (bracket_calls fs) c.in-Postfix.bs.items) (ap (tree_calls fs) c.deref-in-Postfix.ensures) (ap (flat_map (bracket_calls fs)) c.deref-in-Postfix-2.ensures.value) c.in_ok-push_calls-in-Postfix.ensures.ok e ∙ ap (λ l. old ++ l) (sym (calls-Postfix fs c.in-Postfix.e c.in-Postfix.bs) ∙ ap (tree_calls fs) (sym c.in-Postfix.is))) c.of_brackets.ensures.ok

pub push_calls-returns-in_ok-push_calls-in-Chain-clause-ok : goal.push_calls-returns-in_ok-push_calls-in-Chain-clause-ok
push_calls-returns-in_ok-push_calls-in-Chain-clause-ok t c =
    let fs = listed c.args.functions.now in
    let old = c.args.out.now.items in
    on_ok_weaker c.of_links.result (λ e. two old _ _ _ (tree_calls fs c.in-Chain.e.value) _ (flat_map (link_calls fs) c.in-Chain.ls.items) (ap (tree_calls fs) c.deref-in-Chain.ensures) (ap (flat_map (link_calls fs)) c.deref-in-Chain-2.ensures.value) c.in_ok-push_calls-in-Chain.ensures.ok e ∙ ap (λ l. old ++ l) (sym (calls-Chain fs c.in-Chain.e c.in-Chain.ls) ∙ ap (tree_calls fs) (sym c.in-Chain.is))) c.of_links.ensures.ok

pub of_exprs-loop-e-preserved : goal.of_exprs-loop-e-preserved
of_exprs-loop-e-preserved t c =
    calls_step (tree_calls (listed c.args.functions.now)) c.loop-e.out.items _ c.args.es.now c.loop-e.e-index c.e-item.result _ c.loop-e-test.true c.e-item.is c.loop-e.invariant c.in_ok-push_calls.ensures.ok

pub of_brackets-loop-b-preserved : goal.of_brackets-loop-b-preserved
of_brackets-loop-b-preserved t c =
    calls_step (bracket_calls (listed c.args.functions.now)) c.loop-b.out.items _ c.args.bs.now c.loop-b.b-index c.b-item.result _ c.loop-b-test.true c.b-item.is c.loop-b.invariant c.in_ok-of_bracket.ensures.ok

pub of_links-loop-l-preserved : goal.of_links-loop-l-preserved
of_links-loop-l-preserved t c =
    calls_step (link_calls (listed c.args.functions.now)) c.loop-l.out.items _ c.args.ls.now c.loop-l.l-index c.l-item.result _ c.loop-l-test.true c.l-item.is c.loop-l.invariant c.in_ok-push_calls.ensures.ok

pub of_exprs-returns-clause-ok : goal.of_exprs-returns-clause-ok
of_exprs-returns-clause-ok t c =
    let old = c.loop-e.out.items in
    sym (append-nil old) ∙ sym (at_drop_all (λ l. old ++ flat_map (tree_calls (listed c.args.functions.now)) l) c.args.es.now c.loop-e.e-index c.loop-e-test.false) ∙ c.loop-e.invariant

pub of_brackets-returns-clause-ok : goal.of_brackets-returns-clause-ok
of_brackets-returns-clause-ok t c =
    let old = c.loop-b.out.items in
    sym (append-nil old) ∙ sym (at_drop_all (λ l. old ++ flat_map (bracket_calls (listed c.args.functions.now)) l) c.args.bs.now c.loop-b.b-index c.loop-b-test.false) ∙ c.loop-b.invariant

pub of_links-returns-clause-ok : goal.of_links-returns-clause-ok
of_links-returns-clause-ok t c =
    let old = c.loop-l.out.items in
    sym (append-nil old) ∙ sym (at_drop_all (λ l. old ++ flat_map (link_calls (listed c.args.functions.now)) l) c.args.ls.now c.loop-l.l-index c.loop-l-test.false) ∙ c.loop-l.invariant
