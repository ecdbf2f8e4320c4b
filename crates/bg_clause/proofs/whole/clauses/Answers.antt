use Rattle.std.proofs.Common.{◌≡◌, map, sym, ap, ◌∙◌}
use Rattle.std.specs.Prelude.{None, Some, Ok}
use Rattle.bg_places.specs.Views.{spot_of}
use Rattle.bg_formula.specs.Atoms.{view_linear}
use Rattle.bg_formed.specs.Used.{refused}
use Rattle.bg_formed.specs.Views.{form_block_of}
use Rattle.bg_slice.specs.Slices.{sliced}
use Rattle.bg_slice.specs.Marks.{marked_rows}
use Rattle.bg_clause.specs.Whole.{formula, clauses_by}
use Rattle.bg_clause.proofs.whole.clauses.Goals as goal

pub returns-in-Some : goal.returns-in-Some
returns-in-Some c =
    let names = c.args.names.now in
    let t = spot_of c.args.target in
    let bs = map form_block_of c.args.blocks.now in
    let rows = marked_rows names.kept.now (map view_linear names.rows.now) in
    let told : refused t (sliced t bs) ≡ Some c.in-Some.e = c.slices_use_alike.ensures t bs ∙ (sym c.in_ok-clauses.ensures.refusal ∙ c.in-Some.is) in
    ap (λ r. clauses_by r (formula names.first names.named.now names.terms rows t (sliced t bs))) told

pub returns-in-None : goal.returns-in-None
returns-in-None c =
    let names = c.args.names.now in
    let t = spot_of c.args.target in
    let bs = map form_block_of c.args.blocks.now in
    let rows = marked_rows names.kept.now (map view_linear names.rows.now) in
    let told : refused t (sliced t bs) ≡ None = c.slices_use_alike.ensures t bs ∙ (sym c.in_ok-clauses.ensures.refusal ∙ c.in-None.is) in
    ap (λ r. clauses_by r (formula names.first names.named.now names.terms rows t (sliced t bs))) told
    ∙ ap Ok (sym c.in_ok-clauses.ensures.formula)
