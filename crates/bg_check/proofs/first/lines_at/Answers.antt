use Rattle.std.proofs.Common.{[], map, refl, ap, ◌∙◌, subst}
use Rattle.bg_ast.specs.Meaning.{meaning_of}
use Rattle.bg_ast.specs.Views.{program_of}
use Rattle.bg_block_types.specs.Typed.{incarnations_in}
use Rattle.bg_linear.specs.Sorts.{scalar_values}
use Rattle.bg_term_table.specs.Lines.{lines_of}
use Rattle.bg_scalar.specs.Values.{val_of}
use Rattle.bg_finish.specs.Finished.{IsFinish}
use Rattle.bg_termed.specs.Lined.{lined_terms, lined_sorts}
use Rattle.bg_task.proofs.Prepares.{impl, proc}
use Rattle.bg_check.specs.Leaves.{scalars_from}
use Rattle.bg_check.proofs.Finishing.{numbers_by, truths_by, scalars_of_these, finish_at}
use Rattle.bg_check.proofs.Standing.{there_behind}
use Rattle.bg_check.proofs.first.lines_at.Goals as goal

pub returns-in-Lines : goal.returns-in-Lines
returns-in-Lines c =
    let p = program_of c.args.question.program.now in
    let n = c.args.question.place.now.implementation in
    let w = c.args.question.prepared.now in
    let ls = lines_of c.args.lines.now in
    let zs = c.args.numbers.now in
    there_behind p n w ls _ c.requires.there
    (λ h.
    let has_lines = c.requires.lined n h in
    let sorts = lined_sorts (meaning_of p) n (impl p n w h) (proc p n w h) ls in
    let made = c.deref-4.ensures.value ∙ (c.in_ok-scalars.ensures ∙ ap (scalars_from [] zs 0 0) (c.deref.ensures.value ∙ has_lines.sorts)) in
    let scalars = ap (map val_of) made ∙ scalars_of_these [] zs sorts in
    let finish = finish_at p n w h ls (numbers_by zs) (truths_by [] sorts) c.programs_over_values_are_tabled.ensures c.types_over_values_are_indexed.ensures.functions c.types_over_values_are_indexed.ensures.incarnations c.passive_blocks_have_terms.ensures c.blocks_behind_lines_stay_flat.ensures.lined c.built_values_are_typed.ensures.scalars c.requires.typed c.requires.scalars c.args.lined.now has_lines (record { incarnations = c.args.lined.now.incarnations; results = c.deref-2.result }) refl c.deref-2.ensures.value c.deref-3.result.now c.deref-3.ensures.value c.deref-4.result.now scalars c.in_ok-more.field-0 c.in_ok-more.ensures in
    let came = subst (IsFinish (meaning_of p).functions (incarnations_in (meaning_of p) n (impl p n w h) (proc p n w h)) (lined_terms (meaning_of p) n (impl p n w h) (proc p n w h) ls) (scalar_values (numbers_by zs) (truths_by [] sorts) sorts)) c.in-Lines.is finish in
    came.there)
