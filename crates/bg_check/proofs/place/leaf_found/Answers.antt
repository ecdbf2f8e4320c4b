use Rattle.std.proofs.Common.{◌≡◌, List, length, map, sym, ap, ◌∙◌, subst, refl, arith, ℤ}
use Rattle.std.proofs.lemmas.List.{length-map}
use Rattle.std.proofs.lemmas.Result.{IfOk-weaker}
use Rattle.bg_tree.specs.Ends.{IsLeaf}
use Rattle.bg_point.specs.Points.{target_of}
use Rattle.bg_cert.specs.Walks.{has}
use Rattle.bg_text.specs.Views.{option_of}
use Rattle.bg_ast.specs.Values.{Val}
use Rattle.bg_ast.specs.Meaning.{meaning_of}
use Rattle.bg_ast.specs.Views.{program_of, candidate_of}
use Rattle.bg_places.specs.Views.{placed_of, spot_of}
use Rattle.bg_block_types.specs.Typed.{incarnations_in}
use Rattle.bg_formula.specs.Atoms.{atom_of}
use Rattle.bg_formula.specs.Formulas.{formula_of}
use Rattle.bg_scalar.specs.Values.{val_of, value_of}
use Rattle.bg_scalar.specs.Views.{tables_in}
use Rattle.bg_term_table.specs.Lines.{lines_of}
use Rattle.bg_finish.specs.Finished.{IsFinish}
use Rattle.bg_termed.specs.Lined.{lined_terms}
use Rattle.bg_task.proofs.Prepares.{impl, proc, clauses_here}
use Rattle.bg_check.specs.LeafRuns.{numbers_in, IsBuilt}
use Rattle.bg_check.specs.Fitting.{MayRefute}
use Rattle.bg_check.proofs.Placing.{scalars_made, truths_from, finish_here}
use Rattle.bg_check.proofs.place.leaf_found.Goals as goal

pub unreachable-requires : goal.unreachable-requires
unreachable-requires c =
    let p = program_of c.args.question.program.now in
    let n = c.args.question.place.now.implementation in
    let w = c.args.question.prepared.now in
    let h = c.requires.prepared in
    let ls = lines_of c.args.lines.now in
    let f = formula_of c.args.f.now in
    let many : c.len.result ≡ length f.atoms = omega (arith, c.len.ensures, c.args.f.now.atoms.ok.0, length-map c.args.f.now.atoms.items atom_of) in
    let truths = c.in_ok-truths.ensures ∙ truths_from f c.args.leaf c.deref.result.now c.len.result c.deref.ensures.value many in
    let has_lines = c.in_ok-lined.ensures n h in
    let made = scalars_made p n w h ls f c.args.leaf c.deref-2.result.now c.deref-3.result.now c.deref-4.result.now c.deref-5.result.now (c.deref-2.ensures.value ∙ has_lines.sorts) (c.deref-3.ensures.value ∙ truths) c.deref-4.ensures.value c.deref-5.ensures.value in
    let scalars = ap (map val_of) (c.deref-8.ensures.value ∙ c.in_ok-scalars.ensures) ∙ made in
    let finish = finish_here p n w h ls f c.args.leaf c.programs_over_values_are_tabled.ensures c.types_over_values_are_indexed.ensures.functions c.types_over_values_are_indexed.ensures.incarnations c.passive_blocks_have_terms.ensures c.blocks_behind_lines_stay_flat.ensures.lined c.built_values_are_typed.ensures.scalars c.requires.typed c.requires.scalars c.in_ok-lined.lined has_lines (record { incarnations = c.in_ok-lined.lined.incarnations; results = c.deref-6.result }) refl c.deref-6.ensures.value c.deref-7.result.now c.deref-7.ensures.value c.deref-8.result.now scalars c.in_ok-values.field-0 c.in_ok-values.ensures in
    let came = subst (IsFinish (meaning_of p).functions (incarnations_in (meaning_of p) n (impl p n w h) (proc p n w h)) (lined_terms (meaning_of p) n (impl p n w h) (proc p n w h) ls) (numbers_in (meaning_of p) n (impl p n w h) (proc p n w h) ls f c.args.leaf)) c.in-NoScalars.is finish in
    came

pub failing-requires-clause-truths : goal.failing-requires-clause-truths
failing-requires-clause-truths c =
    let f = formula_of c.args.f.now in
    let many : c.len.result ≡ length f.atoms = omega (arith, c.len.ensures, c.args.f.now.atoms.ok.0, length-map c.args.f.now.atoms.items atom_of) in
    let truths = c.in_ok-truths.ensures ∙ truths_from f c.args.leaf c.deref.result.now c.len.result c.deref.ensures.value many in
    c.deref-in-Tables.ensures.value ∙ truths

pub failing-requires-clause-built : goal.failing-requires-clause-built
failing-requires-clause-built c h =
    let p = program_of c.args.question.program.now in
    let n = c.args.question.place.now.implementation in
    let w = c.args.question.prepared.now in
    let ls = lines_of c.args.lines.now in
    let f = formula_of c.args.f.now in
    let many : c.len.result ≡ length f.atoms = omega (arith, c.len.ensures, c.args.f.now.atoms.ok.0, length-map c.args.f.now.atoms.items atom_of) in
    let truths = c.in_ok-truths.ensures ∙ truths_from f c.args.leaf c.deref.result.now c.len.result c.deref.ensures.value many in
    let has_lines = c.in_ok-lined.ensures n h in
    let made = scalars_made p n w h ls f c.args.leaf c.deref-2.result.now c.deref-3.result.now c.deref-4.result.now c.deref-5.result.now (c.deref-2.ensures.value ∙ has_lines.sorts) (c.deref-3.ensures.value ∙ truths) c.deref-4.ensures.value c.deref-5.ensures.value in
    let scalars = ap (map val_of) (c.deref-8.ensures.value ∙ c.in_ok-scalars.ensures) ∙ made in
    let finish = finish_here p n w h ls f c.args.leaf c.programs_over_values_are_tabled.ensures c.types_over_values_are_indexed.ensures.functions c.types_over_values_are_indexed.ensures.incarnations c.passive_blocks_have_terms.ensures c.blocks_behind_lines_stay_flat.ensures.lined c.built_values_are_typed.ensures.scalars c.requires.typed c.requires.scalars c.in_ok-lined.lined has_lines (record { incarnations = c.in_ok-lined.lined.incarnations; results = c.deref-6.result }) refl c.deref-6.ensures.value c.deref-7.result.now c.deref-7.ensures.value c.deref-8.result.now scalars c.in_ok-values.field-0 c.in_ok-values.ensures in
    let came = subst (IsFinish (meaning_of p).functions (incarnations_in (meaning_of p) n (impl p n w h) (proc p n w h)) (lined_terms (meaning_of p) n (impl p n w h) (proc p n w h) ls) (numbers_in (meaning_of p) n (impl p n w h) (proc p n w h) ls f c.args.leaf)) c.in-Tables.is finish in
    let values = sym (ap (map value_of) c.deref-in-Tables-2.ensures.value) in
    subst (λ (vs : List Val). IsBuilt (meaning_of p) n (impl p n w h) (proc p n w h) ls f c.args.leaf vs (tables_in c.in-Tables.tables.items)) values
    (record { finished = came.finished; built = came.built; read_off = came.read_off })

pub replayed-requires-clause-fails : goal.replayed-requires-clause-fails
replayed-requires-clause-fails c = c.in_ok-cex-in-Tables.ensures.1.0

pub replayed-requires-clause-types : goal.replayed-requires-clause-types
replayed-requires-clause-types c = c.in_ok-cex-in-Tables.ensures.1.1

pub returns-in_ok-cex-in-Tables-clause-found : goal.returns-in_ok-cex-in-Tables-clause-found
returns-in_ok-cex-in-Tables-clause-found c =
    IfOk-weaker c.replayed.result _ _ (λ x is. λ left. is left (lines_of c.args.lines.now) c.in_ok-cex-in-Tables.ensures.0) c.replayed.ensures.found

pub returns-in-None-clause-found : goal.returns-in-None-clause-found
returns-in-None-clause-found c left =
    let p = program_of c.args.question.program.now in
    let n = c.args.question.place.now.implementation in
    let w = c.args.question.prepared.now in
    let h = c.requires.prepared in
    let ls = lines_of c.args.lines.now in
    let f = formula_of c.args.f.now in
    let many : c.len.result ≡ length f.atoms = omega (arith, c.len.ensures, c.args.f.now.atoms.ok.0, length-map c.args.f.now.atoms.items atom_of) in
    let truths = c.in_ok-truths.ensures ∙ truths_from f c.args.leaf c.deref.result.now c.len.result c.deref.ensures.value many in
    let has_lines = c.in_ok-lined.ensures n h in
    let made = scalars_made p n w h ls f c.args.leaf c.deref-2.result.now c.deref-3.result.now c.deref-4.result.now c.deref-5.result.now (c.deref-2.ensures.value ∙ has_lines.sorts) (c.deref-3.ensures.value ∙ truths) c.deref-4.ensures.value c.deref-5.ensures.value in
    let scalars = ap (map val_of) (c.deref-8.ensures.value ∙ c.in_ok-scalars.ensures) ∙ made in
    let finish = finish_here p n w h ls f c.args.leaf c.programs_over_values_are_tabled.ensures c.types_over_values_are_indexed.ensures.functions c.types_over_values_are_indexed.ensures.incarnations c.passive_blocks_have_terms.ensures c.blocks_behind_lines_stay_flat.ensures.lined c.built_values_are_typed.ensures.scalars c.requires.typed c.requires.scalars c.in_ok-lined.lined has_lines (record { incarnations = c.in_ok-lined.lined.incarnations; results = c.deref-6.result }) refl c.deref-6.ensures.value c.deref-7.result.now c.deref-7.ensures.value c.deref-8.result.now scalars c.in_ok-values.field-0 c.in_ok-values.ensures in
    let came = subst (IsFinish (meaning_of p).functions (incarnations_in (meaning_of p) n (impl p n w h) (proc p n w h)) (lined_terms (meaning_of p) n (impl p n w h) (proc p n w h) ls) (numbers_in (meaning_of p) n (impl p n w h) (proc p n w h) ls f c.args.leaf)) c.in-Lines.is finish in
    let is = clauses_here p n w h ls (spot_of c.args.question.place.now.spot) (option_of candidate_of c.args.question.place.now.candidate) c.args.cut.now f c.requires.slice c.requires.clauses in
    record { formula = f; is = is; is_leaf = subst (λ (zs : List ℤ). IsLeaf (target_of zs) f (has c.args.question.set.now) c.args.leaf) c.requires.prepared.targets c.requires.leaf; wanting = came }

pub returns-in-Leaves-clause-found : goal.returns-in-Leaves-clause-found
returns-in-Leaves-clause-found c left =
    let p = program_of c.args.question.program.now in
    let n = c.args.question.place.now.implementation in
    let w = c.args.question.prepared.now in
    let h = c.requires.prepared in
    let ls = lines_of c.args.lines.now in
    let f = formula_of c.args.f.now in
    let many : c.len.result ≡ length f.atoms = omega (arith, c.len.ensures, c.args.f.now.atoms.ok.0, length-map c.args.f.now.atoms.items atom_of) in
    let truths = c.in_ok-truths.ensures ∙ truths_from f c.args.leaf c.deref.result.now c.len.result c.deref.ensures.value many in
    let has_lines = c.in_ok-lined.ensures n h in
    let made = scalars_made p n w h ls f c.args.leaf c.deref-2.result.now c.deref-3.result.now c.deref-4.result.now c.deref-5.result.now (c.deref-2.ensures.value ∙ has_lines.sorts) (c.deref-3.ensures.value ∙ truths) c.deref-4.ensures.value c.deref-5.ensures.value in
    let scalars = ap (map val_of) (c.deref-8.ensures.value ∙ c.in_ok-scalars.ensures) ∙ made in
    let finish = finish_here p n w h ls f c.args.leaf c.programs_over_values_are_tabled.ensures c.types_over_values_are_indexed.ensures.functions c.types_over_values_are_indexed.ensures.incarnations c.passive_blocks_have_terms.ensures c.blocks_behind_lines_stay_flat.ensures.lined c.built_values_are_typed.ensures.scalars c.requires.typed c.requires.scalars c.in_ok-lined.lined has_lines (record { incarnations = c.in_ok-lined.lined.incarnations; results = c.deref-6.result }) refl c.deref-6.ensures.value c.deref-7.result.now c.deref-7.ensures.value c.deref-8.result.now scalars c.in_ok-values.field-0 c.in_ok-values.ensures in
    let came = subst (IsFinish (meaning_of p).functions (incarnations_in (meaning_of p) n (impl p n w h) (proc p n w h)) (lined_terms (meaning_of p) n (impl p n w h) (proc p n w h) ls) (numbers_in (meaning_of p) n (impl p n w h) (proc p n w h) ls f c.args.leaf)) c.in-Leaves.is finish in
    let is = clauses_here p n w h ls (spot_of c.args.question.place.now.spot) (option_of candidate_of c.args.question.place.now.candidate) c.args.cut.now f c.requires.slice c.requires.clauses in
    record { formula = f; is = is; is_leaf = subst (λ (zs : List ℤ). IsLeaf (target_of zs) f (has c.args.question.set.now) c.args.leaf) c.requires.prepared.targets c.requires.leaf; leaves = came }

pub returns-in-Some-clause-found : goal.returns-in-Some-clause-found
returns-in-Some-clause-found c left =
    subst (MayRefute (meaning_of (program_of c.args.question.program.now)) (has c.args.question.set.now) (placed_of c.args.question.place.now).place) c.in-Some.is c.in_ok-found-in-Lines.ensures
