-- Values that are kept at places.
use Rattle.std.proofs.Common.{◌≡◌, ◌<◌, ◌≤◌, ℕ, zero, suc, List, [], ◌∷◌, length, get_or, refl, sym, ap, arith}
use Rattle.std.specs.Prelude.{slice_get}
use Rattle.bg_scalar.specs.Worths.{Is, NoValue, known}
use Rattle.bg_scalar.specs.Values.{value_of}
use Rattle.bg_scalar.specs.Views.{vals_in}
use Rattle.bg_scalar.specs.declared.value.Value.{Value}

pub there : (xs : List Value) (k : ℕ) (x : Value) → k < length xs → x ≡ get_or xs k x → Is (value_of x) ≡ known (slice_get (vals_in xs) k)
there [] k x h e = absurd (omega (arith, h))
there (y ∷ xs) zero x h e = ap (λ v. Is (value_of v)) e
there (y ∷ xs) (suc k) x h e = there xs k x (omega (arith, h)) e

pub nowhere : (xs : List Value) (k : ℕ) → length xs ≤ k → NoValue ≡ known (slice_get (vals_in xs) k)
nowhere [] k h = refl
nowhere (y ∷ xs) zero h = absurd (omega (arith, h))
nowhere (y ∷ xs) (suc k) h = nowhere xs k (omega (arith, h))
