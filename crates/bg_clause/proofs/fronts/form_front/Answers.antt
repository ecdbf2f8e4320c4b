use Rattle.std.proofs.Common.{refl, sym, ap, ◌∙◌}
use Rattle.bg_forms.specs.Views.{form_in}
use Rattle.bg_clause.specs.Lends.{literal_in_form}
use Rattle.bg_clause.proofs.Emits.{left_same, left_then, left_literal, left_row}
use Rattle.bg_clause.proofs.fronts.form_front.Goals as goal

pub loop-left-init : goal.loop-left-init
loop-left-init c = (left_same _ _ _ _ refl, refl)

pub returns-in-Is-clause-left : goal.returns-in-Is-clause-left
returns-in-Is-clause-left c =
    left_then _ _ _ _ _ _ _ c.loop-left.invariant.0 (left_literal _ _ _ _ _ _ (ap form_in c.in-Is.is) c.loop-left.invariant.1 c.in_ok-add_beside-in-Is.ensures.clauses)

pub loop-left-preserved : goal.loop-left-preserved
loop-left-preserved c =
    let first = sym (ap (λ f. literal_in_form (form_in f)) c.deref.ensures) ∙ (sym c.form_literal.ensures ∙ c.in-Some.is) in (
      left_then _ _ _ _ _ _ _ c.loop-left.invariant.0 (left_row _ _ _ _ _ _ _ _ _ (ap form_in c.in-Both.is) first (ap form_in c.deref-left.ensures) c.loop-left.invariant.1 c.in_ok-add_beside-in-Both.ensures.clauses),
      c.in_ok-add_beside-in-Both.ensures.same ∙ c.loop-left.invariant.1,
    )
