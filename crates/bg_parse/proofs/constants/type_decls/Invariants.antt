use Rattle.std.proofs.Common.{◌≡◌, map, drop, ◌-◌}
use Rattle.bg_text.specs.Tokens.{views}
use Rattle.bg_text.specs.declared.token.Kind.TheVariants as kinds
use Rattle.bg_reader.specs.Reading.{a_sign, joined}
use Rattle.bg_grammar.specs.Rules.{after, commas_at, rows}
use Rattle.bg_text.specs.Views.{new_type_of}
use Rattle.bg_parse.specs.Declarations.{new_type_at}
use Rattle.bg_parse.proofs.constants.type_decls.Given as goal

abbrev pub invariant-loop : goal.invariant-loop
invariant-loop l = joined (map new_type_of l.made.items) (rows (a_sign kinds.Comma) (after kinds.Comma (new_type_at l.limit l.depth)) (l.limit - l.counter) (views (drop l.rest l.tokens))) ≡ commas_at (new_type_at l.limit l.depth) l.limit (views (drop l.at l.tokens))
