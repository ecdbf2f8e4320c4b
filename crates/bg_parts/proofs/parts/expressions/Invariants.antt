use Rattle.std.proofs.Common.{◌≡◌, map, drop, ◌-◌}
use Rattle.bg_text.specs.Tokens.{views}
use Rattle.bg_text.specs.declared.token.Kind.TheVariants as kinds
use Rattle.bg_reader.specs.Reading.{a_sign, joined}
use Rattle.bg_grammar.specs.Rules.{after, commas_at, rows}
use Rattle.bg_text.specs.Views.{ex_of}
use Rattle.bg_expr.specs.Exprs.{expr_at}
use Rattle.bg_parts.proofs.parts.expressions.Given as goal

abbrev pub invariant-loop : goal.invariant-loop
invariant-loop l = joined (map ex_of l.made.items) (rows (a_sign kinds.Comma) (after kinds.Comma (expr_at l.limit l.depth)) (l.limit - l.counter) (views (drop l.rest l.tokens))) ≡ commas_at (expr_at l.limit l.depth) l.limit (views (drop l.at l.tokens))
