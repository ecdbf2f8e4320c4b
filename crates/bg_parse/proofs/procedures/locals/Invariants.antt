use Rattle.std.proofs.Common.{◌≡◌, map, drop, ◌-◌}
use Rattle.bg_text.specs.Tokens.{views}
use Rattle.bg_text.specs.declared.token.Kind.TheVariants as kinds
use Rattle.bg_reader.specs.Reading.{a_sign, joined}
use Rattle.bg_grammar.specs.Rules.{rows}
use Rattle.bg_text.specs.Views.{vars_of}
use Rattle.bg_parse.specs.Declarations.{vars_at}
use Rattle.bg_parse.proofs.procedures.locals.Given as goal

abbrev pub invariant-loop : goal.invariant-loop
invariant-loop l = joined (map vars_of l.made.items) (rows (a_sign kinds.Var) (vars_at l.limit l.depth) (l.limit - l.counter) (views (drop l.rest l.tokens))) ≡ rows (a_sign kinds.Var) (vars_at l.limit l.depth) l.limit (views (drop l.at l.tokens))
