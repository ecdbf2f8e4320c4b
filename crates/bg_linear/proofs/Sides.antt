-- What is known of the sides of an operator from the kind that it has.
use Rattle.std.proofs.Common.{◌≡◌, Bool, true, false, refl, Option, Some, None}
use Rattle.std.specs.Prelude.{◌&&◌}
use Rattle.bg_linear.specs.declared.scalar.Sort.{Sort}
use Rattle.bg_linear.specs.declared.scalar.Sort.TheVariants as sort
use Rattle.bg_linear.specs.declared.scalar.Kind.{Kind}
use Rattle.bg_linear.specs.declared.scalar.Kind.TheVariants as kind
use Rattle.bg_linear.specs.Sorts.{kind_at, is_truth, is_number, is_constant, number_only, truth_if, equal_kind, sum_kind, product_kind, sort_of}

pub constant_number : (k : Option Kind) → is_constant k ≡ true → is_number k ≡ true
constant_number None h = h
constant_number (Some kind.Truth) h = h
constant_number (Some kind.Constant) h = refl
constant_number (Some kind.Number) h = refl

pub number_sort : (k : Option Kind) → sort_of k ≡ Some sort.Number → is_number k ≡ true
number_sort None h = absurd (let bad : ⊥ = cc in bad)
number_sort (Some kind.Truth) h = absurd (let bad : ⊥ = cc in bad)
number_sort (Some kind.Constant) h = refl
number_sort (Some kind.Number) h = refl

pub number_at : (s : Option Sort) → is_number (kind_at s) ≡ true → s ≡ Some sort.Number
number_at None h = absurd (let bad : ⊥ = cc in bad)
number_at (Some sort.Truth) h = absurd (let bad : ⊥ = cc in bad)
number_at (Some sort.Number) h = refl
number_at (Some sort.Other) h = absurd (let bad : ⊥ = cc in bad)

pub no_constant_at : (s : Option Sort) → is_constant (kind_at s) ≡ true → ⊥
no_constant_at None h = let bad : ⊥ = cc in bad
no_constant_at (Some sort.Truth) h = let bad : ⊥ = cc in bad
no_constant_at (Some sort.Number) h = let bad : ⊥ = cc in bad
no_constant_at (Some sort.Other) h = let bad : ⊥ = cc in bad

pub only_number : (k : Option Kind) → is_number (number_only k) ≡ true → is_number k ≡ true
only_number None h = h
only_number (Some kind.Truth) h = h
only_number (Some kind.Constant) h = refl
only_number (Some kind.Number) h = refl

pub only_constant : (k : Option Kind) → is_constant (number_only k) ≡ true → is_constant k ≡ true
only_constant None h = h
only_constant (Some kind.Truth) h = h
only_constant (Some kind.Constant) h = refl
only_constant (Some kind.Number) h = h

pub no_truth : (b : Bool) → is_number (truth_if b) ≡ true → ⊥
no_truth true h = let bad : ⊥ = cc in bad
no_truth false h = let bad : ⊥ = cc in bad

pub no_equal : (a b : Option Kind) → is_number (equal_kind a b) ≡ true → ⊥
no_equal None b h = no_truth (is_number None && is_number b) h
no_equal (Some kind.Truth) b h = no_truth (is_truth (Some kind.Truth) && is_truth b) h
no_equal (Some kind.Constant) b h = no_truth (is_number (Some kind.Constant) && is_number b) h
no_equal (Some kind.Number) b h = no_truth (is_number (Some kind.Number) && is_number b) h

pub sum_numbers : (a b : Option Kind) → is_number (sum_kind a b) ≡ true → (is_number a ≡ true) × (is_number b ≡ true)
sum_numbers None b h = absurd (let bad : ⊥ = cc in bad)
sum_numbers (Some kind.Truth) b h = absurd (let bad : ⊥ = cc in bad)
sum_numbers (Some kind.Constant) b h = (refl, only_number b h)
sum_numbers (Some kind.Number) None h = absurd (let bad : ⊥ = cc in bad)
sum_numbers (Some kind.Number) (Some kind.Truth) h = absurd (let bad : ⊥ = cc in bad)
sum_numbers (Some kind.Number) (Some kind.Constant) h = (refl, refl)
sum_numbers (Some kind.Number) (Some kind.Number) h = (refl, refl)

pub sum_constants : (a b : Option Kind) → is_constant (sum_kind a b) ≡ true → (is_constant a ≡ true) × (is_constant b ≡ true)
sum_constants None b h = absurd (let bad : ⊥ = cc in bad)
sum_constants (Some kind.Truth) b h = absurd (let bad : ⊥ = cc in bad)
sum_constants (Some kind.Constant) b h = (refl, only_constant b h)
sum_constants (Some kind.Number) None h = absurd (let bad : ⊥ = cc in bad)
sum_constants (Some kind.Number) (Some kind.Truth) h = absurd (let bad : ⊥ = cc in bad)
sum_constants (Some kind.Number) (Some kind.Constant) h = absurd (let bad : ⊥ = cc in bad)
sum_constants (Some kind.Number) (Some kind.Number) h = absurd (let bad : ⊥ = cc in bad)

-- where the right side of a product is no constant, the left one is
abbrev pub Factors : Option Kind → Option Kind → Type 0
Factors a b = (is_number a ≡ true) × (is_number b ≡ true) × (is_constant b ≡ false → is_constant a ≡ true)

pub product_numbers : (a b : Option Kind) → is_number (product_kind a b) ≡ true → Factors a b
product_numbers None b h = absurd (let bad : ⊥ = cc in bad)
product_numbers (Some kind.Truth) b h = absurd (let bad : ⊥ = cc in bad)
product_numbers (Some kind.Constant) b h = (refl, only_number b h, λ n. refl)
product_numbers (Some kind.Number) None h = absurd (let bad : ⊥ = cc in bad)
product_numbers (Some kind.Number) (Some kind.Truth) h = absurd (let bad : ⊥ = cc in bad)
product_numbers (Some kind.Number) (Some kind.Constant) h = (refl, refl, λ n. absurd (let bad : ⊥ = cc in bad))
product_numbers (Some kind.Number) (Some kind.Number) h = absurd (let bad : ⊥ = cc in bad)

pub product_constants : (a b : Option Kind) → is_constant (product_kind a b) ≡ true → (is_constant a ≡ true) × (is_constant b ≡ true)
product_constants None b h = absurd (let bad : ⊥ = cc in bad)
product_constants (Some kind.Truth) b h = absurd (let bad : ⊥ = cc in bad)
product_constants (Some kind.Constant) b h = (refl, only_constant b h)
product_constants (Some kind.Number) None h = absurd (let bad : ⊥ = cc in bad)
product_constants (Some kind.Number) (Some kind.Truth) h = absurd (let bad : ⊥ = cc in bad)
product_constants (Some kind.Number) (Some kind.Constant) h = absurd (let bad : ⊥ = cc in bad)
product_constants (Some kind.Number) (Some kind.Number) h = absurd (let bad : ⊥ = cc in bad)
