use Rattle.std.proofs.Common.{◌≡◌, ◌≤◌}
use Rattle.bg_forms.specs.Views.{form_in}
use Rattle.bg_slice.specs.Slices.{names_form}
use Rattle.bg_slice.specs.Marks.{marked}
use Rattle.bg_slice.proofs.Sizes.{size_form}
use Rattle.bg_slice.proofs.marks.+mark_form.Given as goal

abbrev pub decreases-mark_form : goal.decreases-mark_form
decreases-mark_form l = size_form (form_in l.f.now)

abbrev pub invariant-loop-left : goal.invariant-loop-left
invariant-loop-left l =
    (marked (λ n. names_form n (form_in l.left)) l.base l.marks ≡ marked (λ n. names_form n (form_in l.f)) l.base l.fn.marks) × (size_form (form_in l.left) ≤ size_form (form_in l.f))

abbrev pub decreases-loop-left : goal.decreases-loop-left
decreases-loop-left l = size_form (form_in l.left)
