-- The best of faults is the first of them.
use Rattle.std.proofs.Common.{◌≡◌, zero, suc, Bool, true, false, List, [], ◌∷◌, ◌++◌, Option, Some, None, refl, subst, arith, append-nil, append_assoc}
use Rattle.std.proofs.lemmas.Bool.Decides.{nat_tests}
use Rattle.std.specs.Prelude.{All, Contains, slice_index_or, if◌then◌else◌}
use Rattle.std.proofs.lemmas.List.Elements.{All-append, Contains-append_left, Contains-append_right}
use Rattle.bg_names.specs.Faults.{Fault, is_before, lesser, better, IsFirst}

pub never_itself : (a : Fault) → is_before a a ≡ false
unfolding is_before
never_itself a = grind (arith, nat_tests)

pub before_before : (a b c : Fault) → is_before a b ≡ true → is_before b c ≡ true → is_before a c ≡ true
unfolding is_before
before_before a b c h k = grind (arith, nat_tests)

-- what the best so far keeps: it is one of the faults, and none is before it
abbrev pub Keeps : Option Fault → List Fault → Type 0
Keeps None fs = fs ≡ []
Keeps (Some f) fs = IsFirst f fs

one : {X : Type 0} (P : X → Type 0) (f : X) → P f → All P (f ∷ [])
one P f h zero d lt = h
one P f h (suc k) d lt = absurd (omega (arith, lt))

here : {X : Type 0} (f : X) → Contains (f ∷ []) f
here f = (0, omega arith, refl)

not_true : (b : Bool) → (b ≡ true → ⊥) → b ≡ false
not_true true h = absurd (h refl)
not_true false h = refl

false_true : (b : Bool) → b ≡ false → b ≡ true → ⊥
false_true true h k = absurd cc
false_true false h k = absurd cc

step : (best : Option Fault) (done : List Fault) (f : Fault) → Keeps best done → Keeps (lesser best f) (done ++ f ∷ [])
step None done f h =
    (Contains-append_right done (f ∷ []) f (here f), All-append (λ g. is_before g f ≡ false) done (f ∷ []) (rw h (λ k d lt. absurd (omega (arith, lt)))) (one (λ g. is_before g f ≡ false) f (never_itself f)))
step (Some g) done f h = by (is_before f g) refl
  where
    by : (b : Bool) → is_before f g ≡ b → Keeps (if b then Some f else Some g) (done ++ f ∷ [])
    by true e =
        (Contains-append_right done (f ∷ []) f (here f), All-append (λ x. is_before x f ≡ false) done (f ∷ []) (λ k d lt. not_true (is_before (slice_index_or done k d) f) (λ t. false_true (is_before (slice_index_or done k d) g) (h.1 k d lt) (before_before (slice_index_or done k d) f g t e))) (one (λ x. is_before x f ≡ false) f (never_itself f)))
    by false e = (Contains-append_left done (f ∷ []) g h.0, All-append (λ x. is_before x g ≡ false) done (f ∷ []) h.1 (one (λ x. is_before x g ≡ false) f e))

from : (best : Option Fault) (done fs : List Fault) → Keeps best done → Keeps (better best fs) (done ++ fs)
from best done [] h = rw (append-nil done) h
from best done (f ∷ fs) h = subst (Keeps (better (lesser best f) fs)) (append_assoc done (f ∷ []) fs) (from (lesser best f) (done ++ f ∷ []) fs (step best done f h))

pub best_some : (fs : List Fault) (f : Fault) → better None fs ≡ Some f → IsFirst f fs
best_some fs f h = subst (λ o. Keeps o fs) h (from None [] fs refl)

pub best_none : (fs : List Fault) → better None fs ≡ None → fs ≡ []
best_none fs h = subst (λ o. Keeps o fs) h (from None [] fs refl)
