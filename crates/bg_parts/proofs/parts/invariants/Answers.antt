use Rattle.std.proofs.Common.{◌≡◌, ◌+◌, ◌-◌, suc, sym, arith}
use Rattle.std.proofs.lemmas.List.{map-append}
use Rattle.std.proofs.lemmas.Result.{err_from_is_err_and}
use Rattle.bg_grammar.proofs.Loops.{rows_end, rows_step, rows_refused}
use Rattle.bg_parts.proofs.parts.invariants.Goals as goal

pub returns-in_default : goal.returns-in_default
returns-in_default c = rows_end _ _ _ _ _ (c.args.limit - c.loop.counter) c.loop.invariant (sym c.in_default.ensures)

pub returns-in_err-next : goal.returns-in_err-next
returns-in_err-next c =
    let p = err_from_is_err_and c.from_residual.result c.from_residual.ensures.1 in
    let m : c.args.limit - c.loop.counter ≡ suc (c.args.limit - (c.loop.counter + 1)) = omega arith in
    rw (p.1, p.2) (rows_refused _ _ _ _ _ _ _ _ _ _ m c.loop.invariant (sym c.in-Some.ensures) c.in_err-next.ensures)

pub loop-preserved : goal.loop-preserved
loop-preserved c =
    let m : c.args.limit - c.loop.counter ≡ suc (c.args.limit - (c.loop.counter + 1)) = omega arith in
    rw (c.in_ok-push.ensures.items, map-append) (rows_step _ _ _ _ _ _ _ _ _ _ m c.loop.invariant (sym c.in-Some.ensures) c.in_ok-next.ensures)
