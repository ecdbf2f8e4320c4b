-- What the forms of what was made say.
use Rattle.std.proofs.Common.{◌≡◌, ◌+◌, ℕ, Bool, List, length, Option, Some, None, ℤ, refl, sym, ap, ◌∙◌, arith}
use Rattle.std.specs.Prelude.{Ok, Err}
use Rattle.bg_base.specs.declared.exact.OutOfRange.{OutOfRange}
use Rattle.bg_ast.specs.Values.{truth_of}
use Rattle.bg_ast.specs.Syntax as s
use Rattle.bg_ast.specs.Meaning as m
use Rattle.bg_ast.specs.Views as u
use Rattle.bg_sense.specs.Eval.{Scope, ev}
use Rattle.bg_formula.specs.Atoms.{AtomOf}
use Rattle.bg_formula.specs.Meaning.{AtomsAgree}
use Rattle.bg_forms.specs.Forms.{Form, form_of, form_true}
use Rattle.bg_forms.specs.Worth.{truth_values}
use Rattle.bg_forms.proofs.Meaning.{form_means, value_of_truth}
use Rattle.bg_formed.specs.Agree.{RowsAgree}
use Rattle.bg_formed.specs.Formed.{form_below}
use Rattle.bg_formed.proofs.Below.{ex_below}
use Rattle.bg_linear.specs.declared.scalar.Sort.{Sort}
use Rattle.bg_linear.specs.Sorts.{HoldScalars}
use Rattle.bg_atoms.specs.declared.made.Made.{Made}
use Rattle.bg_atoms.specs.Over.{over, first_refused, says_unless, says_over}
use Rattle.bg_atoms.specs.Ranks.{rank}
use Rattle.bg_atoms.specs.Worlds.{World, Agrees, Means}
use Rattle.bg_atoms.specs.Made.{IsMade}
use Rattle.bg_atoms.specs.Told.{IsTold}
use Rattle.bg_atoms.proofs.Reading.{is_below}

module _ (sorts : List Sort) (n : ℕ) (rows : List AtomOf) (e : s.Ex) where
  said_by : (r : Option OutOfRange) → first_refused sorts e ≡ r → says_over sorts n rows e ≡ says_unless r (over sorts n rows e)
  said_by r h = ap (λ o. says_unless o (over sorts n rows e)) h

  pub tells_outside : (x : Made) (o : OutOfRange) → x.refused ≡ Some o → IsMade sorts n rows e x → IsTold sorts n rows e (Err o)
  tells_outside x o is h t =
      record { below = refl; same = λ z w c a d held. tt; exact = sym (said_by (Some o) ((h t).refused ∙ is)) }

  said_same : (x : s.Ex) → Means sorts n rows e x → first_refused sorts e ≡ None → (z : ℕ → ℤ) (w : ℕ → Bool) (c : Scope) → RowsAgree z w n rows → AtomsAgree rows → HoldScalars sorts z (λ j. w (rank sorts j)) c.frame → form_true w (form_of x) ≡ truth_of (ev e c)
  said_same x h fine z w c a d held =
      let many = n + length rows in
      let over = record c { frame = truth_values w many } in
      let k : World = record { numbers = z; truth = w; scope = c; atoms = over } in
      let g : Agrees n rows k = record { atoms = a; denials = d; reads = λ j lt. value_of_truth w many j (is_below j many lt) } in
      sym (ap truth_of (form_means w many over refl x h.fits)) ∙ ap truth_of (h.same fine k g held)

  pub tells_form : (x : Made) (f : Form) → x.refused ≡ None → f ≡ form_of (m.ex_of (u.ex_of x.says)) → IsMade sorts n rows e x → IsTold sorts n rows e (Ok f)
  tells_form x f is form h t =
      let y = m.ex_of (u.ex_of x.says) in
      let means = (h t).means in
      let fine = (h t).refused ∙ is in
      record {
        below = ap (form_below (n + length rows)) form ∙ ex_below (n + length rows) (n + length rows) (omega arith) y means.fits;
        same = λ z w c a d held. ap (form_true w) form ∙ said_same y means fine z w c a d held;
        exact = ap Ok (form ∙ ap form_of means.exact) ∙ sym (said_by None fine);
      }
