use Rattle.std.proofs.Common.{sym, ap, ◌∙◌}
use Rattle.std.proofs.lemmas.Result.{IfOk-weaker}
use Rattle.bg_ast.specs.Syntax.{Binary, Implies, Equal, Read, Local}
use Rattle.bg_terms.specs.Instances.{all_equal, term}
use Rattle.bg_term_table.specs.Views.{meaning, meanings, listed}
use Rattle.bg_fronts.proofs.Heads.{says_nothing, says_equal}
use Rattle.bg_fronts.proofs.stated.congruence.Goals as goal

pub returns-then-not-is_one_head : goal.returns-then-not-is_one_head
returns-then-not-is_one_head c =
    λ fs.
    says_nothing fs c.args.count c.args.a c.args.b c.args.s.now c.args.t.now (sym c.is_one_head.ensures ∙ c.if-not-is_one_head.true)

pub returns : goal.returns
returns c =
    let es = c.args.s.now.args.items in
    let ds = c.args.t.now.args.items in
    IfOk-weaker c.implied.result _ _
    (λ z h. λ fs.
    h
    ∙ ap (λ p. Binary Implies p (meaning c.in_ok-conclusion.conclusion)) (c.in_ok-premise.ensures ∙ ap (λ l. all_equal (listed (meanings l)) (listed (meanings c.deref-2.result.now))) c.deref.ensures.value ∙ ap (λ l. all_equal (listed (meanings es)) (listed (meanings l))) c.deref-2.ensures.value)
    ∙ ap (Binary Implies (all_equal (listed (meanings es)) (listed (meanings ds)))) (c.in_ok-conclusion.ensures ∙ ap (λ x. Binary Equal x (meaning c.reads-right.result)) (c.reads-left.ensures ∙ ap (λ k. Read (Local k)) c.in_ok-i.ensures) ∙ ap (Binary Equal (term c.args.count c.args.a)) (c.reads-right.ensures ∙ ap (λ k. Read (Local k)) c.in_ok-j.ensures))
    ∙ says_equal fs c.args.count c.args.a c.args.b c.args.s.now c.args.t.now (sym c.is_one_head.ensures ∙ c.if-not-is_one_head.false))
    c.implied.ensures
