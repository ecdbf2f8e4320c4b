use Rattle.std.proofs.Common.{◌≡◌, map, drop, ◌-◌}
use Rattle.bg_text.specs.Tokens.{views}
use Rattle.bg_text.specs.declared.token.Kind.TheVariants as kinds
use Rattle.bg_reader.specs.Reading.{a_sign, joined}
use Rattle.bg_grammar.specs.Rules.{after, rows}
use Rattle.bg_text.specs.Views.{target_of}
use Rattle.bg_stmts.specs.Statements.{target_at, targets_at}
use Rattle.bg_stmts.proofs.simple.more_targets.Given as goal

abbrev pub invariant-loop : goal.invariant-loop
invariant-loop l = joined (map target_of l.made.items) (rows (a_sign kinds.Comma) (after kinds.Comma (target_at l.limit l.depth)) (l.limit - l.counter) (views (drop l.rest l.tokens))) ≡ targets_at l.limit l.depth (views (drop l.at l.tokens))
