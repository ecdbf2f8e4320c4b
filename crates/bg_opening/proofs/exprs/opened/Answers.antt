use Rattle.std.proofs.Common.{◌≡◌, ◌-◌, zero, [], map, sym, ap, ◌∙◌, arith}
use Rattle.std.proofs.lemmas.Result.{IfOk-weaker}
use Rattle.bg_ast.specs.Views.{ex_of, fun_of}
use Rattle.bg_opened.specs.Changed.{changed, opening, opened_within}
use Rattle.bg_opening.specs.Desks.{opened_at}
use Rattle.bg_opening.proofs.Turns.{next_pass, last_pass}
use Rattle.bg_opening.proofs.Unapplied.{only_pass}
use Rattle.bg_opening.proofs.exprs.opened.Goals as goal
use Rattle.bg_opening.proofs.exprs.opened.Goals.{then-desk-eq0-via-then-desk-eq0, then-desk-eq0-via-else-desk-eq0+then-not-applies}

pub loop-preserved : goal.loop-preserved
loop-preserved c =
    let d = c.args.desk in
    next_pass d.depth c.loop.counter d.globals (map fun_of d.functions.now) (ex_of c.loop.left) (ex_of c.in_ok-left-2.left) _ c.loop-test.true c.in_ok-left-2.ensures c.loop.invariant

pub returns-then-desk-eq0 : goal.returns-then-desk-eq0
returns-then-desk-eq0 c =
    let d = c.args.desk in
    let e = ex_of c.args.e.now in
    let fs = map fun_of d.functions.now in
    let last : opened_at d e ≡ changed (opening d.globals []) e = elim c.then-desk-eq0.branch [
      | then-desk-eq0-via-then-desk-eq0 w ↦ (let none : d.depth ≡ zero = omega (arith, w.if-desk-eq0.true) in ap (λ k. opened_within k d.globals fs e) none)
      | then-desk-eq0-via-else-desk-eq0+then-not-applies w ↦ only_pass d.depth d.globals fs e (sym w.applies.ensures ∙ w.if-not-applies.true)
    ] in
    IfOk-weaker c.pass.result _ _ (λ x is. is ∙ sym last) c.pass.ensures

pub returns-then-not-applies-2 : goal.returns-then-not-applies-2
returns-then-not-applies-2 c =
    let d = c.args.desk in
    let left = ex_of c.loop.left in
    let last = only_pass (d.depth - c.loop.counter) d.globals (map fun_of d.functions.now) left (sym c.applies-in-loop.ensures ∙ c.if-not-applies-2.true) in
    IfOk-weaker c.pass-then-not-applies-2.result _ _ (λ x is. is ∙ (sym last ∙ c.loop.invariant)) c.pass-then-not-applies-2.ensures

pub returns : goal.returns
returns c =
    let d = c.args.desk in
    IfOk-weaker c.pass-3.result _ _ (λ x is. last_pass d.depth c.loop.counter d.globals (map fun_of d.functions.now) (ex_of c.loop.left) (ex_of x) _ c.loop-test.false is c.loop.invariant) c.pass-3.ensures
