use Rattle.std.proofs.Common.{◌≡◌, map, drop, ◌-◌}
use Rattle.bg_text.specs.Tokens.{views}
use Rattle.bg_text.specs.declared.token.Kind.TheVariants as kinds
use Rattle.bg_reader.specs.Reading.{a_sign, joined}
use Rattle.bg_grammar.specs.Rules.{after, commas_at, rows}
use Rattle.bg_text.specs.Views.{group_of}
use Rattle.bg_parts.specs.Parts.{group_at}
use Rattle.bg_parts.proofs.parts.groups.Given as goal

abbrev pub invariant-loop : goal.invariant-loop
invariant-loop l = joined (map group_of l.made.items) (rows (a_sign kinds.Comma) (after kinds.Comma (group_at l.limit l.depth)) (l.limit - l.counter) (views (drop l.rest l.tokens))) ≡ commas_at (group_at l.limit l.depth) l.limit (views (drop l.at l.tokens))
