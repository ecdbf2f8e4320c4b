use Rattle.std.proofs.Common.{length, arith, sym, ◌∙◌}
use Rattle.std.proofs.lemmas.Bool.{eqb-true}
use Rattle.bg_wanted.proofs.Same.{other_length, same_end, differs_here, goes_on}
use Rattle.bg_wanted.proofs.updates.are_same.Goals as goal

pub returns-then-not-are_as_many : goal.returns-then-not-are_as_many
returns-then-not-are_as_many c =
    sym (other_length c.args.xs.now c.args.ys.now (sym c.are_as_many.ensures ∙ c.if-not-are_as_many.true))

pub bounds-ys-i : goal.bounds-ys-i
bounds-ys-i c =
    let e = eqb-true (length c.args.xs.now) (length c.args.ys.now) (sym c.are_as_many.ensures ∙ c.if-not-are_as_many.false) in
    let lt = c.loop-i-test.true in
    omega (arith, e, lt)

pub returns-then-not-is_same : goal.returns-then-not-is_same
returns-then-not-is_same c =
    let e = eqb-true (length c.args.xs.now) (length c.args.ys.now) (sym c.are_as_many.ensures ∙ c.if-not-are_as_many.false) in
    let lt = c.loop-i-test.true in
    differs_here c.args.xs.now c.args.ys.now c.loop-i.i _ _ lt (omega (arith, e, lt)) (sym c.is_same.ensures ∙ c.if-not-is_same.true) c.loop-i.invariant

pub loop-i-preserved : goal.loop-i-preserved
loop-i-preserved c =
    let e = eqb-true (length c.args.xs.now) (length c.args.ys.now) (sym c.are_as_many.ensures ∙ c.if-not-are_as_many.false) in
    let lt = c.loop-i-test.true in
    goes_on c.args.xs.now c.args.ys.now c.loop-i.i _ _ lt (omega (arith, e, lt)) (sym c.is_same.ensures ∙ c.if-not-is_same.false) c.loop-i.invariant

pub returns : goal.returns
returns c =
    sym (same_end c.args.xs.now c.args.ys.now c.loop-i.i c.loop-i-test.false (eqb-true (length c.args.xs.now) (length c.args.ys.now) (sym c.are_as_many.ensures ∙ c.if-not-are_as_many.false))) ∙ c.loop-i.invariant
