use Rattle.std.proofs.Common.{◌≡◌, map, drop, ◌+◌, ◌-◌, ◌*◌}
use Rattle.bg_text.specs.Tokens.{views}
use Rattle.bg_text.specs.Views.{type_of, index_view}
use Rattle.bg_text.specs.declared.token.Kind.TheVariants as kinds
use Rattle.bg_reader.specs.Reading.{a_sign, joined}
use Rattle.bg_grammar.specs.Rules.{after, commas_at, rows, below, room}
use Rattle.bg_parts.specs.Types.{index_at, type_in}
use Rattle.bg_parts.proofs.types.+types.Given as goal

abbrev pub decreases-types : goal.decreases-types
decreases-types l = 20 * l.depth + 12

abbrev pub decreases-whole : goal.decreases-whole
decreases-whole l = 20 * l.depth + 9

abbrev pub decreases-ty : goal.decreases-ty
decreases-ty l = 20 * l.depth + 10

abbrev pub decreases-indices : goal.decreases-indices
decreases-indices l = 20 * l.depth + 8

abbrev pub decreases-index : goal.decreases-index
decreases-index l = 20 * l.depth + 6

abbrev pub decreases-base : goal.decreases-base
decreases-base l = 20 * l.depth + 5

abbrev pub decreases-parens : goal.decreases-parens
decreases-parens l = 20 * l.depth + 3

abbrev pub invariant-indices-loop : goal.invariant-indices-loop
invariant-indices-loop l =
    let part = index_at l.limit (room (type_in l.limit) (below l.depth)) in
    joined (map index_view l.made.items) (rows (a_sign kinds.OpenBracket) part (l.limit - l.counter) (views (drop l.rest l.tokens))) ≡ rows (a_sign kinds.OpenBracket) part l.limit (views (drop l.at l.tokens))

abbrev pub invariant-types-loop : goal.invariant-types-loop
invariant-types-loop l =
    let part = type_in l.limit l.depth in
    joined (map type_of l.made.items) (rows (a_sign kinds.Comma) (after kinds.Comma part) (l.limit - l.counter) (views (drop l.rest l.tokens))) ≡ commas_at part l.limit (views (drop l.at l.tokens))
