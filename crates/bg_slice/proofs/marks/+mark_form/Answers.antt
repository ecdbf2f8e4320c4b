use Rattle.std.proofs.Common.{arith, sym, ap, ◌∙◌}
use Rattle.bg_forms.specs.Views.{form_in}
use Rattle.bg_slice.specs.Slices.{names_form}
use Rattle.bg_slice.specs.Marks.{marked}
use Rattle.bg_slice.proofs.Sizes.{falls_both, falls_behind, falls_same, falls_beside, weaker}
use Rattle.bg_slice.proofs.Marking.{marked_none, marked_both}
use Rattle.bg_slice.proofs.marks.+mark_form.Goals as goal

pub returns-in-Plain : goal.returns-in-Plain
returns-in-Plain t c =
    sym (marked_none c.args.base c.loop-left.marks)
    ∙ (ap (λ f. marked (λ n. names_form n (form_in f)) c.args.base c.loop-left.marks) (sym c.in-Plain.is)
    ∙ c.loop-left.invariant.0)

pub loop-left-preserved-in-Both : goal.loop-left-preserved-in-Both
loop-left-preserved-in-Both t c =
    let base = c.args.base in
    let old = c.loop-left.marks in
    let g = c.in-Both.g.value in
    let h = c.in-Both.h.value in (
      ap (λ f. marked (λ n. names_form n (form_in f)) base c.mark_form.new.marks) c.deref-left-in-Both.ensures
          ∙ (ap (marked (λ n. names_form n (form_in h)) base) (c.mark_form.ensures ∙ ap (λ f. marked (λ n. names_form n (form_in f)) base old) c.deref.ensures)
          ∙ (marked_both (λ n. names_form n (form_in g)) (λ n. names_form n (form_in h)) base old
          ∙ (ap (λ f. marked (λ n. names_form n (form_in f)) base old) (sym c.in-Both.is)
          ∙ c.loop-left.invariant.0))),
      weaker _ _ (falls_behind (form_in c.loop-left.left.now) (form_in g) (form_in h) _ _ (ap form_in c.in-Both.is) (ap form_in c.deref-left-in-Both.ensures) c.loop-left.invariant.1),
    )

pub loop-left-preserved : goal.loop-left-preserved
loop-left-preserved t c =
    let base = c.args.base in
    let old = c.loop-left.marks in
    let g = c.in-Same.g.value in
    let h = c.in-Same.h.value in (
      ap (λ f. marked (λ n. names_form n (form_in f)) base c.mark_form-in-Same.new.marks) c.deref-left-in-Same.ensures
          ∙ (ap (marked (λ n. names_form n (form_in h)) base) (c.mark_form-in-Same.ensures ∙ ap (λ f. marked (λ n. names_form n (form_in f)) base old) c.deref-in-Same.ensures)
          ∙ (marked_both (λ n. names_form n (form_in g)) (λ n. names_form n (form_in h)) base old
          ∙ (ap (λ f. marked (λ n. names_form n (form_in f)) base old) (sym c.in-Same.is)
          ∙ c.loop-left.invariant.0))),
      weaker _ _ (falls_beside (form_in c.loop-left.left.now) (form_in g) (form_in h) _ _ (ap form_in c.in-Same.is) (ap form_in c.deref-left-in-Same.ensures) c.loop-left.invariant.1),
    )

pub mark_form-requires : goal.mark_form-requires
mark_form-requires t c =
    let falls = falls_both (form_in c.loop-left.left.now) (form_in c.in-Both.g.value) (form_in c.in-Both.h.value) (form_in c.deref.result.now) _ (ap form_in c.in-Both.is) (ap form_in c.deref.ensures) c.loop-left.invariant.1 in
    (omega (arith, falls, c.decreases), tt)

pub mark_form-requires-in-Same : goal.mark_form-requires-in-Same
mark_form-requires-in-Same t c =
    let falls = falls_same (form_in c.loop-left.left.now) (form_in c.in-Same.g.value) (form_in c.in-Same.h.value) (form_in c.deref-in-Same.result.now) _ (ap form_in c.in-Same.is) (ap form_in c.deref-in-Same.ensures) c.loop-left.invariant.1 in
    (omega (arith, falls, c.decreases), tt)
