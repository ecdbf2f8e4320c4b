use Rattle.std.proofs.Common.{◌≡◌, map, drop, ◌-◌, [], ◌∷◌}
use Rattle.bg_text.specs.Tokens.{views}
use Rattle.bg_text.specs.declared.token.Kind.TheVariants as kinds
use Rattle.bg_reader.specs.Reading.{joined}
use Rattle.bg_grammar.specs.Rules.{a_kind, rows}
use Rattle.bg_text.specs.Views.{clause_of}
use Rattle.bg_parts.specs.Parts.{invariant_at}
use Rattle.bg_parts.proofs.parts.invariants.Given as goal

abbrev pub invariant-loop : goal.invariant-loop
invariant-loop l = joined (map clause_of l.made.items) (rows (a_kind (kinds.Free ∷ kinds.Invariant ∷ [])) (invariant_at l.limit l.depth) (l.limit - l.counter) (views (drop l.rest l.tokens))) ≡ rows (a_kind (kinds.Free ∷ kinds.Invariant ∷ [])) (invariant_at l.limit l.depth) l.limit (views (drop l.at l.tokens))
