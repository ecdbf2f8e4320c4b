-- What the walk along the retained names comes to.
use Rattle.std.specs.Prelude.{◌≡◌, ℕ, Bool, false, List, [], ◌∷◌, map, Some, None}
use Rattle.std.specs.Str.{bytes_eq}
use denote.Bor.{Bor}
use Rattle.bg_text.specs.Trees.{Id}
use Rattle.bg_accept.specs.Names.{marks, unplaced}
use Rattle.bg_accept.specs.declared.retained.Retained.{Retained}
use Rattle.bg_accept.specs.declared.retained.Retained.TheVariants.{Marks, Unplaced}

-- names by reference, as texts
abbrev pub texts : List (Bor (List ℕ)) → List (List ℕ)
texts names = map (λ n. n.now) names

-- whether the first of these names is the candidate's
abbrev pub begins : Id → List (List ℕ) → Bool
begins c [] = false
begins c (n ∷ ns) = bytes_eq c.text n

-- the marks, or the first name that has no place
abbrev pub IsRetained : List Id → List (List ℕ) → Retained → Type 0
IsRetained cs names (Marks v) = (unplaced cs names ≡ None) × (v.items ≡ marks cs names)
IsRetained cs names (Unplaced n) = unplaced cs names ≡ Some n.now
