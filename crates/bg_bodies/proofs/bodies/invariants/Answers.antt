use Rattle.std.proofs.Common.{◌++◌, map, flat_map, length, sym, ap, ◌∙◌, append-nil, arith}
use Rattle.bg_text.specs.Views as v
use Rattle.bg_ast.specs.Views.{clause_of}
use Rattle.bg_names.specs.Faults.{better}
use Rattle.bg_names.specs.Clauses.{clause_faults, named_clauses}
use Rattle.bg_names.specs.Views.{inside_of, first_of}
use Rattle.bg_names.proofs.Firsts.{better_step}
use Rattle.bg_bodies.proofs.StForms.{clauses_step, count_step, drop_end}
use Rattle.bg_bodies.proofs.bodies.invariants.Goals as goal

pub loop-k-preserved : goal.loop-k-preserved
loop-k-preserved c =
    let s = (inside_of c.args.inside.now).scope in
    let ks = c.args.ks.now in
    let i = c.loop-k.k-index in
    let k = c.k-item.result in
    (clauses_step s _ _ ks i k c.in_ok-x.x _ _ _ c.loop-k-test.true c.k-item.is c.loop-k.invariant.0 c.in_ok-x.ensures.made c.in_ok-push.ensures.items c.in_ok-x.ensures.next, better_step (λ k. clause_faults s (v.clause_of k)) _ _ ks i k _ c.loop-k-test.true c.k-item.is c.loop-k.invariant.1 c.in_ok-x.ensures.first, count_step ks i k _ _ _ c.loop-k-test.true c.k-item.is c.loop-k.invariant.2 c.in_ok-x.ensures.next, c.in_ok-x.ensures.ahead ∙ c.loop-k.invariant.3, c.in_ok-x.ensures.blocks ∙ c.loop-k.invariant.4)

pub returns-clause-made : goal.returns-clause-made
returns-clause-made c =
    let s = (inside_of c.args.inside.now).scope in
    let made = map clause_of c.loop-k.made.items in
    sym (append-nil made)
    ∙ ap (λ l. made ++ named_clauses s c.loop-k.walk.next (map v.clause_of l)) (sym (drop_end c.args.ks.now c.loop-k.k-index (omega (arith, c.loop-k-test.false))))
    ∙ c.loop-k.invariant.0

pub returns-clause-first : goal.returns-clause-first
returns-clause-first c =
    let s = (inside_of c.args.inside.now).scope in
    ap (λ l. better (first_of c.loop-k.walk.notes) (flat_map (λ k. clause_faults s (v.clause_of k)) l)) (sym (drop_end c.args.ks.now c.loop-k.k-index (omega (arith, c.loop-k-test.false))))
    ∙ c.loop-k.invariant.1

pub returns-clause-next : goal.returns-clause-next
returns-clause-next c =
    let none = ap length (drop_end c.args.ks.now c.loop-k.k-index (omega (arith, c.loop-k-test.false))) in
    omega (arith, none, c.loop-k.invariant.2)
