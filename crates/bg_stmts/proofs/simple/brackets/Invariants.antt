use Rattle.std.proofs.Common.{◌≡◌, map, drop, ◌-◌}
use Rattle.bg_text.specs.Tokens.{views}
use Rattle.bg_text.specs.declared.token.Kind.TheVariants as kinds
use Rattle.bg_reader.specs.Reading.{a_sign, joined}
use Rattle.bg_grammar.specs.Rules.{rows}
use Rattle.bg_text.specs.Views.{bracket_of}
use Rattle.bg_stmts.specs.Statements.{bracket_in, brackets_in}
use Rattle.bg_stmts.proofs.simple.brackets.Given as goal

abbrev pub invariant-loop : goal.invariant-loop
invariant-loop l = joined (map bracket_of l.made.items) (rows (a_sign kinds.OpenBracket) (bracket_in l.limit l.depth) (l.limit - l.counter) (views (drop l.rest l.tokens))) ≡ brackets_in l.limit l.depth (views (drop l.at l.tokens))
