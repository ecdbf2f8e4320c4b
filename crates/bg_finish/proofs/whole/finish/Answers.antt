use Rattle.std.proofs.Common.{map, length, sym, subst}
use Rattle.bg_kinds.specs.Views.{ref_in}
use Rattle.bg_terms.specs.Typed.{types_with}
use Rattle.bg_term_table.specs.Views.{terms_in, incs_of}
use Rattle.bg_scalar.specs.Views.{vals_in}
use Rattle.bg_wanted.specs.Scalars.{scalars_in}
use Rattle.bg_wanted.specs.Answers.{IsAnswer}
use Rattle.bg_wanted.proofs.Rowed.{mapped_length}
use Rattle.bg_finish.specs.Filled.{AreTables}
use Rattle.bg_finish.proofs.Indexing.{types_indexed}
use Rattle.bg_finish.proofs.Ending.{are_built, are_final}
use Rattle.bg_finish.proofs.whole.finish.Goals as goal

pub returns-in_ok-tried-in-Lines : goal.returns-in_ok-tried-in-Lines
returns-in_ok-tried-in-Lines c =
    let incs = incs_of c.args.around in
    λ fs give leaf.
    let ts = terms_in fs c.args.terms.now in
    subst (IsAnswer incs ts c.args.scalars.now) c.in-Lines.is (c.in_ok-lines.ensures fs give (record { terms = leaf.terms.typed; indexed = leaf.indexed; types = types_indexed fs incs ts leaf.gives leaf.incarnations leaf.terms; scalars = leaf.scalars }))

pub returns-in-Leaves : goal.returns-in-Leaves
returns-in-Leaves c =
    let incs = incs_of c.args.around in
    λ fs give leaf.
    let ts = terms_in fs c.args.terms.now in
    subst (IsAnswer incs ts c.args.scalars.now) c.in-Leaves.is (c.in_ok-lines.ensures fs give (record { terms = leaf.terms.typed; indexed = leaf.indexed; types = types_indexed fs incs ts leaf.gives leaf.incarnations leaf.terms; scalars = leaf.scalars }))

pub returns-in-NoScalars : goal.returns-in-NoScalars
returns-in-NoScalars c =
    let incs = incs_of c.args.around in
    λ fs give leaf.
    let ts = terms_in fs c.args.terms.now in
    subst (IsAnswer incs ts c.args.scalars.now) c.in-NoScalars.is (c.in_ok-lines.ensures fs give (record { terms = leaf.terms.typed; indexed = leaf.indexed; types = types_indexed fs incs ts leaf.gives leaf.incarnations leaf.terms; scalars = leaf.scalars }))

pub returns-in_ok-made-in-Nothing : goal.returns-in_ok-made-in-Nothing
returns-in_ok-made-in-Nothing c =
    let incs = incs_of c.args.around in
    let scalars = c.args.scalars.now in
    let terms = c.args.terms.now in
    let rows = c.in-Nothing.rows.items in
    let w = vals_in c.in-Nothing.values.items in
    let made = c.in_ok-made-in-Nothing.made.items in
    λ fs give leaf.
    let ts = terms_in fs terms in
    let done = subst (IsAnswer incs ts scalars) c.in-Nothing.is (c.in_ok-lines.ensures fs give (record { terms = leaf.terms.typed; indexed = leaf.indexed; types = types_indexed fs incs ts leaf.gives leaf.incarnations leaf.terms; scalars = leaf.scalars })) in
    let built = are_built fs incs terms scalars w rows leaf done in
    let law = c.finished_leaves_stand.ensures in
    let tables = subst (λ n. AreTables w terms rows n (map ref_in c.args.around.results.now) made) (sym (mapped_length ref_in c.args.around.incarnations.now))
    (subst (λ rs. AreTables w terms rs (length c.args.around.incarnations.now) (map ref_in c.args.around.results.now) made) c.deref-in-Nothing.ensures.value
    (subst (λ vs. AreTables (vals_in vs) terms c.deref-in-Nothing.result.now (length c.args.around.incarnations.now) (map ref_in c.args.around.results.now) made) c.deref-in-Nothing-2.ensures.value c.in_ok-made-in-Nothing.ensures)) in
    are_final fs incs terms scalars w rows leaf done
    (law.stand (length incs) ts (types_with incs ts) (scalars_in scalars) w leaf.scalars built done.finished)
    (law.congruent fs incs ts (scalars_in scalars) w leaf.terms.typed leaf.scalars built done.finished)
    c.args.around.results.now made give tables
