use Rattle.std.proofs.Common.{◌≡◌, map, drop, ◌-◌}
use Rattle.bg_text.specs.Tokens.{views}
use Rattle.bg_reader.specs.Reading.{joined}
use Rattle.bg_grammar.specs.Rules.{a_kind, rows}
use Rattle.bg_text.specs.Views.{spec_of}
use Rattle.bg_parse.specs.Declarations.{spec_kinds, spec_at, specs_at}
use Rattle.bg_parse.proofs.procedures.specs.Given as goal

abbrev pub invariant-loop : goal.invariant-loop
invariant-loop l = joined (map spec_of l.made.items) (rows (a_kind spec_kinds) (spec_at l.limit l.depth) (l.limit - l.counter) (views (drop l.rest l.tokens))) ≡ specs_at l.limit l.depth (views (drop l.at l.tokens))
