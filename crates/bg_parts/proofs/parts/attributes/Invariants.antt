use Rattle.std.proofs.Common.{◌≡◌, map, drop, ◌-◌}
use Rattle.bg_text.specs.Tokens.{views}
use Rattle.bg_text.specs.declared.token.Kind.TheVariants as kinds
use Rattle.bg_reader.specs.Reading.{a_sign, joined}
use Rattle.bg_grammar.specs.Rules.{rows}
use Rattle.bg_text.specs.Views.{attr_of}
use Rattle.bg_parts.specs.Parts.{attr_at, attrs_at}
use Rattle.bg_parts.proofs.parts.attributes.Given as goal

abbrev pub invariant-loop : goal.invariant-loop
invariant-loop l = joined (map attr_of l.made.items) (rows (a_sign kinds.OpenBrace) (attr_at l.limit l.depth) (l.limit - l.counter) (views (drop l.rest l.tokens))) ≡ attrs_at l.limit l.depth (views (drop l.at l.tokens))
