use Rattle.std.proofs.Common.{◌≡◌, ◌+◌, ◌-◌, suc, sym, arith, drop, map}
use Rattle.std.proofs.lemmas.List.{map-append}
use Rattle.std.proofs.lemmas.Result.{err_from_is_err_and}
use Rattle.bg_text.specs.Tokens.{views}
use Rattle.bg_text.specs.declared.token.Kind.TheVariants as kinds
use Rattle.bg_text.specs.Views.{arm_view}
use Rattle.bg_grammar.specs.Rules.{below, room}
use Rattle.bg_stmts.specs.Statements.{arm_at, block_at, stmts_in}
use Rattle.bg_grammar.proofs.Loops.{rows_end, rows_step, rows_refused, chain_end, chain_last, chain_last_refused, chain_step, chain_refused}
use Rattle.bg_stmts.proofs.StatementRules.{stmts_turn}
use Rattle.bg_stmts.proofs.blocks.+stmts.Goals as goal

pub statements-returns-in_default : goal.statements-returns-in_default
statements-returns-in_default t c = rows_end _ _ _ _ _ (c.args.limit - c.loop.counter) c.loop.invariant (sym c.in_default.ensures)

pub statements-returns-in_err-next : goal.statements-returns-in_err-next
statements-returns-in_err-next t c =
    let p = err_from_is_err_and c.from_residual.result c.from_residual.ensures.1 in
    let m : c.args.limit - c.loop.counter ≡ suc (c.args.limit - (c.loop.counter + 1)) = omega arith in
    rw (p.1, p.2) (rows_refused _ _ _ _ _ _ _ _ _ _ m c.loop.invariant (sym c.in-Some.ensures) c.in_err-next.ensures)

pub statements-loop-preserved : goal.statements-loop-preserved
statements-loop-preserved t c =
    let m : c.args.limit - c.loop.counter ≡ suc (c.args.limit - (c.loop.counter + 1)) = omega arith in
    rw (c.in_ok-push.ensures.items, map-append) (rows_step _ _ _ _ _ _ _ _ _ _ m c.loop.invariant (sym c.in-Some.ensures) c.in_ok-next.ensures)

pub elses-returns-in_default : goal.elses-returns-in_default
elses-returns-in_default t c = chain_end kinds.Else kinds.If (arm_at c.args.limit c.args.depth (room (stmts_in c.args.limit) (below c.args.depth))) (block_at (room (stmts_in c.args.limit) (below c.args.depth))) (map arm_view c.loop.made.items) (views (drop c.loop.rest c.args.tokens.now)) _ (c.args.limit - c.loop.counter) c.loop.invariant (sym c.in_default.ensures)

pub elses-returns-in_err-last : goal.elses-returns-in_err-last
elses-returns-in_err-last t c =
    let p = err_from_is_err_and c.from_residual.result c.from_residual.ensures.1 in
    let m : c.args.limit - c.loop.counter ≡ suc (c.args.limit - (c.loop.counter + 1)) = omega arith in
    rw (p.1, p.2) (chain_last_refused kinds.Else kinds.If (arm_at c.args.limit c.args.depth (room (stmts_in c.args.limit) (below c.args.depth))) (block_at (room (stmts_in c.args.limit) (below c.args.depth))) (map arm_view c.loop.made.items) (views (drop c.loop.rest c.args.tokens.now)) _ _ _ _ _ m c.loop.invariant (sym c.in-Some.ensures) _ _ (sym c.in_default-after_kind.ensures) c.in_err-last.ensures)

pub elses-returns-in_default-after_kind : goal.elses-returns-in_default-after_kind
elses-returns-in_default-after_kind t c =
    let m : c.args.limit - c.loop.counter ≡ suc (c.args.limit - (c.loop.counter + 1)) = omega arith in
    chain_last kinds.Else kinds.If (arm_at c.args.limit c.args.depth (room (stmts_in c.args.limit) (below c.args.depth))) (block_at (room (stmts_in c.args.limit) (below c.args.depth))) (map arm_view c.loop.made.items) (views (drop c.loop.rest c.args.tokens.now)) _ _ _ _ _ m c.loop.invariant (sym c.in-Some.ensures) _ _ (sym c.in_default-after_kind.ensures) c.in_ok-last.ensures

pub elses-returns-in_err-next : goal.elses-returns-in_err-next
elses-returns-in_err-next t c =
    let p = err_from_is_err_and c.from_residual-in_err-next.result c.from_residual-in_err-next.ensures.1 in
    let m : c.args.limit - c.loop.counter ≡ suc (c.args.limit - (c.loop.counter + 1)) = omega arith in
    rw (p.1, p.2) (chain_refused kinds.Else kinds.If (arm_at c.args.limit c.args.depth (room (stmts_in c.args.limit) (below c.args.depth))) (block_at (room (stmts_in c.args.limit) (below c.args.depth))) (map arm_view c.loop.made.items) (views (drop c.loop.rest c.args.tokens.now)) _ _ _ _ _ m c.loop.invariant (sym c.in-Some.ensures) _ _ _ _ (sym c.in-Some-after_kind.ensures) c.in_err-next.ensures)

pub elses-loop-preserved : goal.elses-loop-preserved
elses-loop-preserved t c =
    let m : c.args.limit - c.loop.counter ≡ suc (c.args.limit - (c.loop.counter + 1)) = omega arith in
    rw (c.in_ok-push.ensures.items, map-append) (chain_step kinds.Else kinds.If (arm_at c.args.limit c.args.depth (room (stmts_in c.args.limit) (below c.args.depth))) (block_at (room (stmts_in c.args.limit) (below c.args.depth))) (map arm_view c.loop.made.items) (views (drop c.loop.rest c.args.tokens.now)) _ _ _ _ _ m c.loop.invariant (sym c.in-Some.ensures) _ _ _ _ (sym c.in-Some-after_kind.ensures) c.in_ok-next.ensures)

pub stmts-returns : goal.stmts-returns
stmts-returns t c = rw (stmts_turn c.args.limit c.args.depth) c.stmts_whole.ensures
