-- Atoms of one sign, and bounds of terms that are there.
use Rattle.std.specs.Prelude.{◌≡◌, ℕ, Bool, true, false, nat_lt, ◌&&◌, List, [], ◌∷◌}
use Rattle.bg_cert.specs.declared.cert.Decision.{Decision}
use Rattle.bg_cert.specs.declared.cert.Decision.TheVariants.{Atom, AtMost}
use Rattle.bg_cert.specs.Paths.{decides}

-- no atom has both signs
abbrev pub IsOnce : List Decision → Type 0
IsOnce ds = (a : ℕ) → (decides a true ds && decides a false ds) ≡ false

-- each bound is that of one of the first n terms
abbrev pub bound_in : ℕ → Decision → Bool
bound_in n (Atom a s) = true
bound_in n (AtMost x k s) = nat_lt x n

abbrev pub bounds_in : ℕ → List Decision → Bool
bounds_in n [] = true
bounds_in n (d ∷ ds) = bound_in n d && bounds_in n ds
