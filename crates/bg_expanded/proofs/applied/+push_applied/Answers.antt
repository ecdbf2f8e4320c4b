use Rattle.std.proofs.Common.{◌≡◌, ℕ, List, ◌++◌, map, sym, ap, ◌∙◌, append_assoc}
use Rattle.std.proofs.lemmas.Result.{on_ok_weaker}
use Rattle.bg_ast.specs.Views.{ex_of, exs_in, link_view, links_of, bracket_view, brackets_of}
use Rattle.bg_expanded.specs.Applied.{if_below, applied_in, applied_in_all, applied_behind, applied_linked, applied_in_bracket}
use Rattle.bg_expanded.proofs.AppliedForms.{applied-Apply, applied-Chain, applied-Postfix, applied-Select, applied-Update}
use Rattle.bg_expanded.proofs.applied.+push_applied.Goals as goal

-- two lists are added, one behind the other
two : (old mid new a b : List ℕ) → mid ≡ old ++ a → new ≡ mid ++ b → new ≡ old ++ (a ++ b)
two old mid new a b h k = k ∙ ap (λ l. l ++ b) h ∙ append_assoc old a b

pub push_applied-returns-in_ok-push_function-in-Apply : goal.push_applied-returns-in_ok-push_function-in-Apply
push_applied-returns-in_ok-push_function-in-Apply t c =
    let n = c.args.functions in
    let old = c.args.out.now.items in
    on_ok_weaker c.push_all.result (λ e. two old _ _ (if_below n c.in-Apply.f) _ c.in_ok-push_function-in-Apply.ensures e ∙ ap (λ l. old ++ l) (ap (λ es. if_below n c.in-Apply.f ++ applied_in_all n (exs_in es)) c.deref.ensures.value ∙ sym (applied-Apply n c.in-Apply.field-0 c.in-Apply.f c.in-Apply.es) ∙ ap (λ e. applied_in n (ex_of e)) (sym c.in-Apply.is))) c.push_all.ensures

pub push_applied-returns-in_ok-push_applied-in-Postfix : goal.push_applied-returns-in_ok-push_applied-in-Postfix
push_applied-returns-in_ok-push_applied-in-Postfix t c =
    let n = c.args.functions in
    let old = c.args.out.now.items in
    let first = c.in_ok-push_applied-in-Postfix.ensures ∙ ap (λ e. old ++ applied_in n (ex_of e)) c.deref-in-Postfix.ensures in
    on_ok_weaker c.push_behind.result (λ e. two old _ _ (applied_in n (ex_of c.in-Postfix.e.value)) _ first e ∙ ap (λ l. old ++ l) (ap (λ bs. applied_in n (ex_of c.in-Postfix.e.value) ++ applied_behind n (brackets_of (map bracket_view bs))) c.deref-in-Postfix-2.ensures.value ∙ sym (applied-Postfix n c.in-Postfix.e c.in-Postfix.brackets) ∙ ap (λ e. applied_in n (ex_of e)) (sym c.in-Postfix.is))) c.push_behind.ensures

pub push_applied-returns-in_ok-push_applied-in-Chain : goal.push_applied-returns-in_ok-push_applied-in-Chain
push_applied-returns-in_ok-push_applied-in-Chain t c =
    let n = c.args.functions in
    let old = c.args.out.now.items in
    let first = c.in_ok-push_applied-in-Chain.ensures ∙ ap (λ e. old ++ applied_in n (ex_of e)) c.deref-in-Chain.ensures in
    on_ok_weaker c.push_linked.result (λ e. two old _ _ (applied_in n (ex_of c.in-Chain.e.value)) _ first e ∙ ap (λ l. old ++ l) (ap (λ ls. applied_in n (ex_of c.in-Chain.e.value) ++ applied_linked n (links_of (map link_view ls))) c.deref-in-Chain-2.ensures.value ∙ sym (applied-Chain n c.in-Chain.e c.in-Chain.links) ∙ ap (λ e. applied_in n (ex_of e)) (sym c.in-Chain.is))) c.push_linked.ensures

pub push_bracket-returns-in-Select : goal.push_bracket-returns-in-Select
push_bracket-returns-in-Select t c =
    let n = c.args.functions in
    let old = c.args.out.now.items in
    on_ok_weaker c.push_all.result (λ e. e ∙ ap (λ l. old ++ l) (ap (λ es. applied_in_all n (exs_in es)) c.deref.ensures.value ∙ sym (applied-Select n c.in-Select.field-0 c.in-Select.es) ∙ ap (λ b. applied_in_bracket n (bracket_view b)) (sym c.in-Select.is))) c.push_all.ensures

pub push_bracket-returns-in_ok-push_all-in-Update : goal.push_bracket-returns-in_ok-push_all-in-Update
push_bracket-returns-in_ok-push_all-in-Update t c =
    let n = c.args.functions in
    let old = c.args.out.now.items in
    let first = c.in_ok-push_all-in-Update.ensures ∙ ap (λ es. old ++ applied_in_all n (exs_in es)) c.deref-in-Update.ensures.value in
    on_ok_weaker c.push_applied.result (λ e. two old _ _ (applied_in_all n (exs_in c.in-Update.es.items)) _ first e ∙ ap (λ l. old ++ l) (sym (applied-Update n c.in-Update.field-0 c.in-Update.es c.in-Update.e) ∙ ap (λ b. applied_in_bracket n (bracket_view b)) (sym c.in-Update.is))) c.push_applied.ensures
