use Rattle.std.proofs.Common.{ap, ◌∙◌, refl, true}
use Rattle.bg_print.specs.Docs.{text, each, gap, commas_from}
use Rattle.bg_print.specs.Rows.{tree_type_doc, type_bracket_doc}
use Rattle.bg_print.proofs.Rows.{type_doc-Map}
use Rattle.bg_print.proofs.Steps.{by_form, both}
use Rattle.bg_print.proofs.Loops.{one_more, two_more, none_left}
use Rattle.bg_print.proofs.types.+print_type.Goals as goal

pub put_type-returns-in_ok-put_type-in-Map : goal.put_type-returns-in_ok-put_type-in-Map
put_type-returns-in_ok-put_type-in-Map t c =
    by_form _ _ _ _ (ap tree_type_doc c.in-Map.is ∙ type_doc-Map c.in-Map.brackets c.in-Map.ty _ _ c.deref-in-Map-2.ensures c.deref-in-Map.ensures.value) (both c.args.out.now.items _ _ (each type_bracket_doc c.deref-in-Map.result.now) (tree_type_doc c.deref-in-Map-2.result.now) c.in_ok-put_type_brackets-in-Map.ensures c.in_ok-put_type-in-Map.ensures)

pub put_types-loop-ty-preserved : goal.put_types-loop-ty-preserved
put_types-loop-ty-preserved t c = two_more (λ l. text (commas_from c.loop-ty.behind tree_type_doc l)) (λ l. text (commas_from true tree_type_doc l)) c.args.types.now c.loop-ty.ty-index c.ty-item.result (text (gap c.loop-ty.behind)) (text (tree_type_doc c.ty-item.result)) _ _ _ _ (λ ys. refl) c.loop-ty-test.true c.ty-item.is c.in_ok-put_gap.ensures c.in_ok-put_type.ensures c.loop-ty.invariant

pub put_types-returns : goal.put_types-returns
put_types-returns t c = none_left (λ l. text (commas_from c.loop-ty.behind tree_type_doc l)) c.args.types.now c.loop-ty.ty-index _ _ refl c.loop-ty-test.false c.loop-ty.invariant

pub put_type_brackets-loop-bracket-preserved : goal.put_type_brackets-loop-bracket-preserved
put_type_brackets-loop-bracket-preserved t c = one_more (λ l. text (each type_bracket_doc l)) (λ l. text (each type_bracket_doc l)) c.args.brackets.now c.loop-bracket.bracket-index c.bracket-item.result (text (type_bracket_doc c.bracket-item.result)) _ _ _ (λ ys. refl) c.loop-bracket-test.true c.bracket-item.is c.in_ok-put_type_bracket.ensures c.loop-bracket.invariant

pub put_type_brackets-returns : goal.put_type_brackets-returns
put_type_brackets-returns t c = none_left (λ l. text (each type_bracket_doc l)) c.args.brackets.now c.loop-bracket.bracket-index _ _ refl c.loop-bracket-test.false c.loop-bracket.invariant
