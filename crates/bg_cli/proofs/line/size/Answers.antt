use Rattle.std.proofs.Common.{rules, ℤ, subst, ap, Some, ◌≡◌, ◌∙◌, pos}
use Rattle.std.specs.Int.{int_max, int_min}
use Rattle.clap.specs.declared.builder.value_parser.ValueParser.TheVariants as parser
use Rattle.clap.specs.Words.{NarrowsTo, signed_between}
use Rattle.clap.specs.declared.builder.value_parser.ValueParser.{ValueParser}
use Rattle.bg_cli.proofs.line.size.Goals as goal

narrowed : (p r : ValueParser) (a b : ℤ) → p ≡ parser.Signed (pos 0) (pos 4294967295) → a ≡ pos 1 → b ≡ pos 1000 → NarrowsTo p (Some a) (Some b) r → r ≡ parser.Signed (pos 1) (pos 1000)
narrowed p r a b e f g h =
    subst (λ b. r ≡ signed_between (int_max (pos 0) (pos 1)) (int_min (pos 4294967295) b)) g
    (subst (λ a. r ≡ signed_between (int_max (pos 0) a) (int_min (pos 4294967295) b)) f (subst (λ p. NarrowsTo p (Some a) (Some b) r) e h))

pub returns-clause-rule : goal.returns-clause-rule
returns-clause-rule c =
    let given = c.value_parser-2.ensures.given in
    let reads : c.value_parser-2.result.value_parser ≡ Some (parser.Signed (pos 1) (pos 1000)) =
    given.1 ∙ ap Some (given.2 ∙ narrowed c.value_parser.result c.range.result _ _ c.value_parser.ensures c.new-2.ensures.start c.new-2.ensures.end c.range.ensures) in
    search (rules, reads)
