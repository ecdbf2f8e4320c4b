use Rattle.std.proofs.Common.{◌≡◌, Option, length, take, map, sym, ap, ◌∙◌, subst, ℤ, List}
use Rattle.std.proofs.lemmas.List.{take-map}
use Rattle.bg_tree.specs.Ends.{IsLeaf}
use Rattle.bg_point.specs.Points.{target_of}
use Rattle.bg_cert.specs.Walks.{has}
use Rattle.bg_text.specs.Views.{option_of}
use Rattle.bg_ast.specs.Values.{Val}
use Rattle.bg_ast.specs.Meaning.{meaning_of}
use Rattle.bg_ast.specs.Views.{program_of, candidate_of}
use Rattle.bg_places.specs.Views.{spot_of}
use Rattle.bg_formula.specs.Formulas.{formula_of}
use Rattle.bg_formed.specs.Views.{form_block_of}
use Rattle.bg_scalar.specs.Values.{value_of}
use Rattle.bg_scalar.specs.Views.{tables_in}
use Rattle.bg_numbered.specs.Lines.{instances_in}
use Rattle.bg_term_table.specs.Lines.{lines_of}
use Rattle.bg_termed.specs.Termed.{count_in}
use Rattle.bg_model.specs.Behind.{behind_front}
use Rattle.bg_model.specs.declared.failure.Counterexample.{Counterexample}
use Rattle.bg_task.specs.Slices.{encoding_in}
use Rattle.bg_task.proofs.Prepares.{impl, proc}
use Rattle.bg_check.specs.LeafRuns.{IsBuilt}
use Rattle.bg_check.proofs.Unnamed.{leaves_met, units_met, signs_met}
use Rattle.bg_check.proofs.Refutes.{LeafLaws, IsRun, refutes}
use Rattle.bg_check.proofs.failing.failing.Goals as goal

pub unreachable-requires : goal.unreachable-requires
unreachable-requires c =
    let p = program_of c.args.question.program.now in
    let P = meaning_of p in
    let place = c.args.question.place.now in
    let n = place.implementation in
    let w = c.args.question.prepared.now in
    let h = c.requires.prepared in
    let es = lines_of c.args.lines.now in
    let f = formula_of c.args.met.clauses.now in
    let leaf = c.args.met.leaf.now in
    let near = subst (λ (zs : List ℤ). IsLeaf (target_of zs) f (has c.args.question.set.now) leaf) c.requires.prepared.targets c.requires.leaf in
    let laws : LeafLaws = record {
      bodies = c.typed_programs_have_typed_bodies.ensures.implementations;
      fits = c.arrivals_fit.ensures;
      whole = c.clauses_of_encodings_are_whole.ensures;
      stand_ins = c.built_values_are_typed.ensures.scalars;
      first = c.built_values_are_typed.ensures.first;
      starts = c.typed_values_begin_with_a_state.ensures;
      meets = c.tables_meet_programs_over_values.ensures;
      holds = c.scalar_values_hold.ensures;
      denies = c.clauses_fail_alike.ensures.denied;
      within = c.clauses_fail_alike.ensures.inside;
      rows = c.atoms_of_clauses.ensures.rows;
      units_own = c.atoms_of_clauses.ensures.units;
      units_named = c.atoms_of_clauses.ensures.named;
      leaves = leaves_met c.leaves_are_met.ensures.clauses;
      units = units_met c.leaves_are_met.ensures.units;
      signs = signs_met c.leaves_are_met.ensures.atoms;
      own_spots = c.places_have_spots_of_their_own.ensures.candidate;
      checks = c.checks_of_passive_blocks_are_places.ensures;
      tabled = c.programs_over_values_are_tabled.ensures;
      terms = c.passive_blocks_have_terms.ensures;
      own = c.blocks_behind_lines_stay_flat.ensures.own;
      flat = c.flat_expressions_say_the_same.ensures;
      alike = c.scalars_say_the_same.ensures;
      stands = c.built_values_are_models.ensures.stand;
      models = c.built_values_are_models.ensures.models;
    } in
    let met = c.requires.built h in
    let X = met.built in
    let N = count_in P n (impl p n w h) (proc p n w h) in
    let built = subst (λ (vs : List Val). IsBuilt P n (impl p n w h) (proc p n w h) es f leaf vs (tables_in c.args.tables.items)) X met in
    let front : c.in_ok-front.front ≡ length (instances_in es) = c.in_ok-front.ensures in
    let forms : behind_front c.in_ok-front.front (map form_block_of c.deref-3.result.now) ≡ behind_front (length (instances_in es)) (encoding_in c.args.cut.now).blocks = ap (λ k. behind_front k (map form_block_of c.deref-3.result.now)) front ∙ ap (behind_front (length (instances_in es))) (ap (map form_block_of) c.deref-3.ensures.value ∙ c.in_ok-forms.ensures) in
    let kinds = c.first_kinds.ensures ∙ ap (take w.count) c.deref-4.ensures.value in
    let first : map value_of c.first.result.now ≡ take N (map value_of c.args.met.values.now) = ap (map value_of) c.first.ensures ∙ (sym (take-map value_of w.count c.args.met.values.now) ∙ ap (λ k. take k (map value_of c.args.met.values.now)) h.count) in
    let vals = first ∙ ap (take N) X in
    let R : Option Counterexample → Type 0 = IsRun laws p n w h c.requires.typed c.requires.scalars es (spot_of place.spot) (option_of candidate_of place.candidate) c.args.cut.now c.requires.slice f c.args.question.set.now leaf c.requires.clauses near c.requires.asked in
    subst R c.in-None.is
    (refutes laws p n w h c.requires.typed c.requires.scalars es (spot_of place.spot) (option_of candidate_of place.candidate) c.args.cut.now c.requires.slice f c.args.question.set.now leaf c.requires.clauses near c.requires.asked (tables_in c.args.tables.items) built c.deref.result.now c.deref-2.result.now (behind_front c.in_ok-front.front (map form_block_of c.deref-3.result.now)) c.args.met.truths.now c.first_kinds.result.now (map value_of c.first.result.now) c.in_ok-cex.field-0 c.deref.ensures.value c.deref-2.ensures.value forms c.requires.truths kinds vals c.in_ok-cex.ensures.told c.in_ok-cex.ensures.typed)

pub returns : goal.returns
returns c =
    let p = program_of c.args.question.program.now in
    let P = meaning_of p in
    let place = c.args.question.place.now in
    let n = place.implementation in
    let w = c.args.question.prepared.now in
    let h = c.requires.prepared in
    let es = lines_of c.args.lines.now in
    let f = formula_of c.args.met.clauses.now in
    let leaf = c.args.met.leaf.now in
    let near = subst (λ (zs : List ℤ). IsLeaf (target_of zs) f (has c.args.question.set.now) leaf) c.requires.prepared.targets c.requires.leaf in
    let laws : LeafLaws = record {
      bodies = c.typed_programs_have_typed_bodies.ensures.implementations;
      fits = c.arrivals_fit.ensures;
      whole = c.clauses_of_encodings_are_whole.ensures;
      stand_ins = c.built_values_are_typed.ensures.scalars;
      first = c.built_values_are_typed.ensures.first;
      starts = c.typed_values_begin_with_a_state.ensures;
      meets = c.tables_meet_programs_over_values.ensures;
      holds = c.scalar_values_hold.ensures;
      denies = c.clauses_fail_alike.ensures.denied;
      within = c.clauses_fail_alike.ensures.inside;
      rows = c.atoms_of_clauses.ensures.rows;
      units_own = c.atoms_of_clauses.ensures.units;
      units_named = c.atoms_of_clauses.ensures.named;
      leaves = leaves_met c.leaves_are_met.ensures.clauses;
      units = units_met c.leaves_are_met.ensures.units;
      signs = signs_met c.leaves_are_met.ensures.atoms;
      own_spots = c.places_have_spots_of_their_own.ensures.candidate;
      checks = c.checks_of_passive_blocks_are_places.ensures;
      tabled = c.programs_over_values_are_tabled.ensures;
      terms = c.passive_blocks_have_terms.ensures;
      own = c.blocks_behind_lines_stay_flat.ensures.own;
      flat = c.flat_expressions_say_the_same.ensures;
      alike = c.scalars_say_the_same.ensures;
      stands = c.built_values_are_models.ensures.stand;
      models = c.built_values_are_models.ensures.models;
    } in
    let met = c.requires.built h in
    let X = met.built in
    let N = count_in P n (impl p n w h) (proc p n w h) in
    let built = subst (λ (vs : List Val). IsBuilt P n (impl p n w h) (proc p n w h) es f leaf vs (tables_in c.args.tables.items)) X met in
    let front : c.in_ok-front.front ≡ length (instances_in es) = c.in_ok-front.ensures in
    let forms : behind_front c.in_ok-front.front (map form_block_of c.deref-3.result.now) ≡ behind_front (length (instances_in es)) (encoding_in c.args.cut.now).blocks = ap (λ k. behind_front k (map form_block_of c.deref-3.result.now)) front ∙ ap (behind_front (length (instances_in es))) (ap (map form_block_of) c.deref-3.ensures.value ∙ c.in_ok-forms.ensures) in
    let kinds = c.first_kinds.ensures ∙ ap (take w.count) c.deref-4.ensures.value in
    let first : map value_of c.first.result.now ≡ take N (map value_of c.args.met.values.now) = ap (map value_of) c.first.ensures ∙ (sym (take-map value_of w.count c.args.met.values.now) ∙ ap (λ k. take k (map value_of c.args.met.values.now)) h.count) in
    let vals = first ∙ ap (take N) X in
    let R : Option Counterexample → Type 0 = IsRun laws p n w h c.requires.typed c.requires.scalars es (spot_of place.spot) (option_of candidate_of place.candidate) c.args.cut.now c.requires.slice f c.args.question.set.now leaf c.requires.clauses near c.requires.asked in
    subst R c.in-Some.is
    (refutes laws p n w h c.requires.typed c.requires.scalars es (spot_of place.spot) (option_of candidate_of place.candidate) c.args.cut.now c.requires.slice f c.args.question.set.now leaf c.requires.clauses near c.requires.asked (tables_in c.args.tables.items) built c.deref.result.now c.deref-2.result.now (behind_front c.in_ok-front.front (map form_block_of c.deref-3.result.now)) c.args.met.truths.now c.first_kinds.result.now (map value_of c.first.result.now) c.in_ok-cex.field-0 c.deref.ensures.value c.deref-2.ensures.value forms c.requires.truths kinds vals c.in_ok-cex.ensures.told c.in_ok-cex.ensures.typed)
