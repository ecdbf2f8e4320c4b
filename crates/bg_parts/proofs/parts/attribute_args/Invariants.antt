use Rattle.std.proofs.Common.{◌≡◌, map, drop, ◌-◌}
use Rattle.bg_text.specs.Tokens.{views}
use Rattle.bg_text.specs.declared.token.Kind.TheVariants as kinds
use Rattle.bg_reader.specs.Reading.{a_sign, joined}
use Rattle.bg_grammar.specs.Rules.{after, commas_at, rows}
use Rattle.bg_text.specs.Views.{arg_of}
use Rattle.bg_parts.specs.Parts.{arg_at}
use Rattle.bg_parts.proofs.parts.attribute_args.Given as goal

abbrev pub invariant-loop : goal.invariant-loop
invariant-loop l = joined (map arg_of l.made.items) (rows (a_sign kinds.Comma) (after kinds.Comma (arg_at l.limit l.depth)) (l.limit - l.counter) (views (drop l.rest l.tokens))) ≡ commas_at (arg_at l.limit l.depth) l.limit (views (drop l.at l.tokens))
