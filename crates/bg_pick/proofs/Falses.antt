-- False clauses of two lists, one behind the other.
use Rattle.std.proofs.Common.{◌≡◌, Bool, true, false, ◌||◌, List, [], ◌∷◌, ◌++◌, refl}
use Rattle.bg_formula.specs.declared.atom.Literal.{Literal}
use Rattle.bg_cert.specs.declared.cert.Decision.{Decision}
use Rattle.bg_cert.specs.Paths.{clause_false}
use Rattle.bg_cert.specs.Causes.{any_false}

pub false_append : (ds : List Decision) (xs ys : List (List Literal)) → any_false ds xs ≡ false → any_false ds (xs ++ ys) ≡ any_false ds ys
false_append ds [] ys h = refl
false_append ds (x ∷ xs) ys h = by_first (clause_false ds x) (λ g. false_append ds xs ys g) h
  where
    by_first : (b : Bool) → (any_false ds xs ≡ false → any_false ds (xs ++ ys) ≡ any_false ds ys) → (b || any_false ds xs) ≡ false → (b || any_false ds (xs ++ ys)) ≡ any_false ds ys
    by_first true r g = absurd (cc)
    by_first false r g = r g

pub false_parts : (ds : List Decision) (xs ys : List (List Literal)) → any_false ds (xs ++ ys) ≡ false → (any_false ds xs ≡ false) × (any_false ds ys ≡ false)
false_parts ds [] ys h = (refl, h)
false_parts ds (x ∷ xs) ys h = by_first (clause_false ds x) (λ g. false_parts ds xs ys g) h
  where
    by_first : (b : Bool) → (any_false ds (xs ++ ys) ≡ false → (any_false ds xs ≡ false) × (any_false ds ys ≡ false)) → (b || any_false ds (xs ++ ys)) ≡ false → ((b || any_false ds xs) ≡ false) × (any_false ds ys ≡ false)
    by_first true r g = absurd (cc)
    by_first false r g = r g
