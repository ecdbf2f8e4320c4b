use Rattle.std.proofs.Common.{◌≡◌, map, drop, ◌-◌}
use Rattle.bg_text.specs.Tokens.{views}
use Rattle.bg_text.specs.declared.token.Kind.TheVariants as kinds
use Rattle.bg_reader.specs.Reading.{a_sign, joined}
use Rattle.bg_grammar.specs.Rules.{after, rows}
use Rattle.bg_text.specs.Views.{id_of}
use Rattle.bg_parts.specs.Types.{id_at}
use Rattle.bg_stmts.specs.Statements.{more_ids}
use Rattle.bg_stmts.proofs.simple.more_names.Given as goal

abbrev pub invariant-loop : goal.invariant-loop
invariant-loop l = joined (map id_of l.made.items) (rows (a_sign kinds.Comma) (after kinds.Comma id_at) (l.limit - l.counter) (views (drop l.rest l.tokens))) ≡ more_ids l.limit (views (drop l.at l.tokens))
