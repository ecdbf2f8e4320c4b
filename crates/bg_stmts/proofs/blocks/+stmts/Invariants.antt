use Rattle.std.proofs.Common.{◌≡◌, map, drop, ◌+◌, ◌-◌, ◌*◌}
use Rattle.bg_text.specs.Tokens.{views}
use Rattle.bg_text.specs.Views.{st_of, arm_view}
use Rattle.bg_text.specs.declared.token.Kind.TheVariants as kinds
use Rattle.bg_reader.specs.Reading.{joined}
use Rattle.bg_grammar.specs.Rules.{a_kind, chain_at, rows, below, room}
use Rattle.bg_grammar.proofs.Loops.{chained}
use Rattle.bg_stmts.specs.Statements.{arm_at, block_at, elses_at, stmt_kinds, stmt_at, stmts_in}
use Rattle.bg_stmts.proofs.blocks.+stmts.Given as goal

abbrev pub decreases-stmts : goal.decreases-stmts
decreases-stmts l = 20 * l.depth + 13

abbrev pub decreases-stmts_whole : goal.decreases-stmts_whole
decreases-stmts_whole l = 20 * l.depth + 12

abbrev pub decreases-statements : goal.decreases-statements
decreases-statements l = 20 * l.depth + 11

abbrev pub decreases-stmt : goal.decreases-stmt
decreases-stmt l = 20 * l.depth + 10

abbrev pub decreases-if_stmt : goal.decreases-if_stmt
decreases-if_stmt l = 20 * l.depth + 8

abbrev pub decreases-while_stmt : goal.decreases-while_stmt
decreases-while_stmt l = 20 * l.depth + 8

abbrev pub decreases-elses : goal.decreases-elses
decreases-elses l = 20 * l.depth + 7

abbrev pub decreases-arm : goal.decreases-arm
decreases-arm l = 20 * l.depth + 6

abbrev pub decreases-block : goal.decreases-block
decreases-block l = 20 * l.depth + 5

abbrev pub invariant-elses-loop : goal.invariant-elses-loop
invariant-elses-loop l =
    let inner = (room (stmts_in l.limit) (below l.depth)) in
    chained (map arm_view l.made.items) (chain_at kinds.Else kinds.If (arm_at l.limit l.depth inner) (block_at inner) (l.limit - l.counter) (views (drop l.rest l.tokens))) ≡ elses_at l.limit l.depth inner (views (drop l.at l.tokens))

abbrev pub invariant-statements-loop : goal.invariant-statements-loop
invariant-statements-loop l =
    let part = stmt_at l.limit l.depth (room (stmts_in l.limit) (below l.depth)) in
    joined (map st_of l.made.items) (rows (a_kind stmt_kinds) part (l.limit - l.counter) (views (drop l.rest l.tokens))) ≡ rows (a_kind stmt_kinds) part l.limit (views (drop l.at l.tokens))
