use Rattle.std.proofs.Common.{◌≡◌, ◌-◌, drop}
use Rattle.bg_text.specs.Tokens.{views}
use Rattle.bg_reader.specs.Reading.{many, nothing}
use Rattle.bg_expr.specs.Exprs.{a_prefix}
use Rattle.bg_reader.specs.Reading.{joined}
use Rattle.bg_expr.proofs.parse.prefixes.Given as goal

abbrev pub invariant-loop : goal.invariant-loop
invariant-loop l = joined l.made.items (many a_prefix nothing (l.limit - l.counter) (views (drop l.rest l.tokens))) ≡ many a_prefix nothing l.limit (views (drop l.at l.tokens))
