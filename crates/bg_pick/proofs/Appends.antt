-- Clauses behind others: where one of a kind is.
use Rattle.std.proofs.Common.{◌≡◌, ℕ, Bool, true, false, not, ◌&&◌, ◌||◌, List, [], ◌∷◌, ◌++◌, refl, ap, ◌∙◌}
use Rattle.bg_formula.specs.declared.atom.Literal.{Literal}
use Rattle.bg_cert.specs.declared.cert.Decision.{Decision}
use Rattle.bg_cert.specs.Causes.{has_true, is_among, is_unit, is_unit_of, any_unit, any_unit_of, any_open, any_open_of}

or_assoc : (a b c : Bool) → (a || (b || c)) ≡ ((a || b) || c)
or_assoc true b c = refl
or_assoc false b c = refl

pub or_none : (a b : Bool) → a ≡ false → b ≡ false → (a || b) ≡ false
or_none a b h k = rw (h, k) refl

pub unit_append : (ds : List Decision) (xs ys : List (List Literal)) → any_unit ds (xs ++ ys) ≡ (any_unit ds xs || any_unit ds ys)
unit_append ds [] ys = refl
unit_append ds (x ∷ xs) ys = ap (λ b. is_unit ds x || b) (unit_append ds xs ys) ∙ or_assoc (is_unit ds x) (any_unit ds xs) (any_unit ds ys)

pub unit_of_append : (a : ℕ) (ds : List Decision) (xs ys : List (List Literal)) → any_unit_of a ds (xs ++ ys) ≡ (any_unit_of a ds xs || any_unit_of a ds ys)
unit_of_append a ds [] ys = refl
unit_of_append a ds (x ∷ xs) ys = ap (λ b. is_unit_of a ds x || b) (unit_of_append a ds xs ys) ∙ or_assoc (is_unit_of a ds x) (any_unit_of a ds xs) (any_unit_of a ds ys)

pub open_append : (ds : List Decision) (xs ys : List (List Literal)) → any_open ds (xs ++ ys) ≡ (any_open ds xs || any_open ds ys)
open_append ds [] ys = refl
open_append ds (x ∷ xs) ys = ap (λ b. not (has_true ds x) || b) (open_append ds xs ys) ∙ or_assoc (not (has_true ds x)) (any_open ds xs) (any_open ds ys)

pub open_of_append : (a : ℕ) (ds : List Decision) (xs ys : List (List Literal)) → any_open_of a ds (xs ++ ys) ≡ (any_open_of a ds xs || any_open_of a ds ys)
open_of_append a ds [] ys = refl
open_of_append a ds (x ∷ xs) ys =
    ap (λ b. (not (has_true ds x) && is_among a x) || b) (open_of_append a ds xs ys) ∙ or_assoc (not (has_true ds x) && is_among a x) (any_open_of a ds xs) (any_open_of a ds ys)
