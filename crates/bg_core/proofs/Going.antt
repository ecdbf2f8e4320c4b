-- A run goes on event by event.
use Rattle.std.proofs.Common.{◌≡◌, ℕ, zero, suc, ◌+◌, ◌<◌, List, [], ◌∷◌, ◌++◌, length, take, get_or, sym, refl, ap, ◌∙◌, Option, Some, None}
use Rattle.std.proofs.lemmas.Option.{slice_get_read}
use Rattle.bg_base.proofs.Takes.{take_more}
use Rattle.bg_words.specs.declared.machine.CoreState.{CoreState}
use Rattle.bg_words.specs.declared.machine.Event.{Event}
use Rattle.bg_words.specs.Core.{run, step, then_step}

run-snoc : (es : List Event) (e : Event) (o : Option CoreState) → run (es ++ e ∷ []) o ≡ then_step (run es o) e
run-snoc [] e o = refl
run-snoc (x ∷ xs) e o = run-snoc xs e (then_step o x)

run-none : (es : List Event) → run es None ≡ None
run-none [] = refl
run-none (x ∷ xs) = run-none xs

run-stops : (es : List Event) (i : ℕ) (o : Option CoreState) → run (take i es) o ≡ None → run es o ≡ None
run-stops [] zero o e = e
run-stops [] (suc i) o e = e
run-stops (x ∷ xs) zero o e = ap (run (x ∷ xs)) e ∙ run-none xs
run-stops (x ∷ xs) (suc i) o e = run-stops xs i (then_step o x) e

pub more : (es : List Event) (i : ℕ) (e : Event) (o r : Option CoreState) (s : CoreState) → i < length es → e ≡ get_or es i e → run (take i es) o ≡ Some s → r ≡ step s e → run (take (i + 1) es) o ≡ r
more es i e o r s lt is at now = ap (λ (l : List Event). run l o) (take_more es i e (slice_get_read es (length es) i e refl lt is)) ∙ (run-snoc (take i es) e o ∙ (ap (λ (x : Option CoreState). then_step x e) at ∙ sym now))

pub stops : (es : List Event) (i : ℕ) (e : Event) (o r : Option CoreState) (s : CoreState) → i < length es → e ≡ get_or es i e → run (take i es) o ≡ Some s → r ≡ step s e → r ≡ None → run es o ≡ None
stops es i e o r s lt is at now z = run-stops es (i + 1) o (more es i e o r s lt is at now ∙ z)
