use Rattle.std.proofs.Common.{◌≡◌, ◌+◌, ◌-◌, suc, sym, arith}
use Rattle.std.proofs.lemmas.List.{map-append}
use Rattle.std.proofs.lemmas.Result.{err_from_is_err_and}
use Rattle.bg_grammar.proofs.Loops.{rows_end, rows_step, rows_refused, comma_step, comma_refused}
use Rattle.bg_parts.proofs.TypeRules.{type_turn}
use Rattle.bg_parts.proofs.types.+types.Goals as goal

pub indices-returns-in_default : goal.indices-returns-in_default
indices-returns-in_default t c = rows_end _ _ _ _ _ (c.args.limit - c.loop.counter) c.loop.invariant (sym c.in_default.ensures)

pub indices-returns-in_err-next : goal.indices-returns-in_err-next
indices-returns-in_err-next t c =
    let p = err_from_is_err_and c.from_residual.result c.from_residual.ensures.1 in
    let m : c.args.limit - c.loop.counter ≡ suc (c.args.limit - (c.loop.counter + 1)) = omega arith in
    rw (p.1, p.2) (rows_refused _ _ _ _ _ _ _ _ _ _ m c.loop.invariant (sym c.in-Some.ensures) c.in_err-next.ensures)

pub indices-loop-preserved : goal.indices-loop-preserved
indices-loop-preserved t c =
    let m : c.args.limit - c.loop.counter ≡ suc (c.args.limit - (c.loop.counter + 1)) = omega arith in
    rw (c.in_ok-push.ensures.items, map-append) (rows_step _ _ _ _ _ _ _ _ _ _ m c.loop.invariant (sym c.in-Some.ensures) c.in_ok-next.ensures)

pub types-returns-in_default : goal.types-returns-in_default
types-returns-in_default t c = rows_end _ _ _ _ _ (c.args.limit - c.loop.counter) c.loop.invariant (sym c.in_default.ensures)

pub types-returns-in_err-next : goal.types-returns-in_err-next
types-returns-in_err-next t c =
    let p = err_from_is_err_and c.from_residual-in_err-next.result c.from_residual-in_err-next.ensures.1 in
    let m : c.args.limit - c.loop.counter ≡ suc (c.args.limit - (c.loop.counter + 1)) = omega arith in
    rw (p.1, p.2) (comma_refused _ _ _ _ _ _ _ _ _ _ m c.loop.invariant (sym c.in-Some.ensures) c.in_err-next.ensures)

pub types-loop-preserved : goal.types-loop-preserved
types-loop-preserved t c =
    let m : c.args.limit - c.loop.counter ≡ suc (c.args.limit - (c.loop.counter + 1)) = omega arith in
    rw (c.in_ok-push-2.ensures.items, map-append) (comma_step _ _ _ _ _ _ _ _ _ _ m c.loop.invariant (sym c.in-Some.ensures) c.in_ok-next.ensures)

pub ty-returns : goal.ty-returns
ty-returns t c = rw (type_turn c.args.limit c.args.depth) c.whole.ensures
