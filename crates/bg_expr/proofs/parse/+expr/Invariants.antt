use Rattle.std.proofs.Common.{◌≡◌, ◌-◌, ◌+◌, ◌*◌, drop, map}
use Rattle.bg_text.specs.declared.token.Kind.TheVariants as kinds
use Rattle.bg_text.specs.Tokens.{views}
use Rattle.bg_reader.specs.Reading.{many, joined}
use Rattle.bg_reader.specs.Reading.{a_sign}
use Rattle.bg_text.specs.Views.{link_view, bracket_view, ex_of}
use Rattle.bg_expr.specs.Exprs.{next_sign, operand, ladder, inner_of, expr_at, bracket_at}
use Rattle.bg_expr.proofs.parse.+expr.Given as goal

abbrev pub decreases-args : goal.decreases-args
decreases-args l = 40 * l.depth + 25

abbrev pub decreases-atom : goal.decreases-atom
decreases-atom l = 40 * l.depth + 1

abbrev pub decreases-call : goal.decreases-call
decreases-call l = 40 * l.depth

abbrev pub decreases-inside : goal.decreases-inside
decreases-inside l = 40 * l.depth + 23

abbrev pub decreases-bracket : goal.decreases-bracket
decreases-bracket l = 40 * l.depth + 26

abbrev pub decreases-brackets : goal.decreases-brackets
decreases-brackets l = 40 * l.depth

abbrev pub decreases-ladder : goal.decreases-ladder
decreases-ladder l = 40 * l.depth + 3 * l.rungs + 3

abbrev pub decreases-links : goal.decreases-links
decreases-links l = 40 * l.depth + 3 * l.rungs + 5

abbrev pub decreases-list : goal.decreases-list
decreases-list l = 40 * l.depth + 24

abbrev pub decreases-more_exprs : goal.decreases-more_exprs
decreases-more_exprs l = 40 * l.depth + 23

abbrev pub decreases-more_links : goal.decreases-more_links
decreases-more_links l = 40 * l.level.depth + 3 * l.level.rungs + 4

abbrev pub decreases-prefixed : goal.decreases-prefixed
decreases-prefixed l = 40 * l.depth + 2

abbrev pub invariant-brackets-loop : goal.invariant-brackets-loop
invariant-brackets-loop l =
    let part = bracket_at l.limit (expr_at l.limit (l.depth - 1)) in
    joined (map bracket_view l.made.items) (many (a_sign kinds.OpenBracket) part (l.limit - l.counter) (views (drop l.rest l.tokens))) ≡ many (a_sign kinds.OpenBracket) part l.limit (views (drop l.at l.tokens))

abbrev pub invariant-more_exprs-loop : goal.invariant-more_exprs-loop
invariant-more_exprs-loop l =
    let part = expr_at l.limit l.depth in
    joined (map ex_of l.made.items) (many (a_sign kinds.Comma) (λ _. part) (l.limit - l.counter) (views (drop l.rest l.tokens))) ≡ joined (map ex_of l.fn.made.items) (many (a_sign kinds.Comma) (λ _. part) l.limit (views (drop l.at l.tokens)))

abbrev pub invariant-more_links-loop : goal.invariant-more_links-loop
invariant-more_links-loop l =
    let part = operand (ladder l.level.limit (inner_of l.level.limit l.level.depth) l.level.rungs) in
    joined (map link_view l.made.items) (many (next_sign l.first) part (l.level.limit - l.counter) (views (drop l.rest l.tokens))) ≡ joined (map link_view l.fn.made.items) (many (next_sign l.first) part l.level.limit (views (drop l.at l.tokens)))
