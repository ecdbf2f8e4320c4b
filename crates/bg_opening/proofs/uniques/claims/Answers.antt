use Rattle.std.proofs.Common.{map, ap, ◌++◌, ◌∙◌}
use Rattle.std.proofs.lemmas.List.{map-append}
use Rattle.bg_ast.specs.Views.{ex_of}
use Rattle.bg_opening.proofs.uniques.claims.Goals as goal

pub returns : goal.returns
returns c =
    let axioms = c.args.axioms.now.items in
    ap (map ex_of) c.in_ok-append.ensures.items
    ∙ map-append ex_of c.in_ok-made.made.items axioms
    ∙ ap (λ l. l ++ map ex_of axioms) c.in_ok-made.ensures
