-- Sorts of incarnations and of expressions over them, and values of these sorts.
use Rattle.std.specs.Prelude.{◌≡◌, ℕ, suc, ℤ, pos, Bool, true, false, ◌&&◌, if◌then◌else◌, List, [], ◌∷◌, Option, Some, None, slice_get}
use Rattle.bg_ast.specs.Values.{Val, Num, Truth}
use Rattle.bg_ast.specs.Syntax.{Ex, Number, Fact, Read, Local, Not, Negative, Binary, Op, And, Or, Implies, Iff, Equal, Unequal, Less, AtMost, Greater, AtLeast, Plus, Minus, Times}
use Rattle.bg_sense.specs.Eval.{value_at}
use Rattle.bg_linear.specs.declared.scalar.Sort.{Sort}
use Rattle.bg_linear.specs.declared.scalar.Sort.TheVariants as sort
use Rattle.bg_linear.specs.declared.scalar.Kind.{Kind}
use Rattle.bg_linear.specs.declared.scalar.Kind.TheVariants as kind

-- the kind of an incarnation; one of another sort has none
abbrev pub kind_at : Option Sort → Option Kind
kind_at (Some sort.Truth) = Some kind.Truth
kind_at (Some sort.Number) = Some kind.Number
kind_at _ = None

abbrev pub is_truth : Option Kind → Bool
is_truth (Some kind.Truth) = true
is_truth _ = false

abbrev pub is_number : Option Kind → Bool
is_number (Some kind.Constant) = true
is_number (Some kind.Number) = true
is_number _ = false

abbrev pub is_constant : Option Kind → Bool
is_constant (Some kind.Constant) = true
is_constant _ = false

abbrev pub number_only : Option Kind → Option Kind
number_only k = if is_number k then k else None

abbrev pub truth_if : Bool → Option Kind
truth_if b = if b then Some kind.Truth else None

-- truth values under an operator on truth values
abbrev pub both_truths : Option Kind → Option Kind → Option Kind
both_truths a b = truth_if (is_truth a && is_truth b)

-- numbers under a relation
abbrev pub related_kind : Option Kind → Option Kind → Option Kind
related_kind a b = truth_if (is_number a && is_number b)

-- two truth values, or two numbers
abbrev pub equal_kind : Option Kind → Option Kind → Option Kind
equal_kind a b = if is_truth a then both_truths a b else related_kind a b

abbrev pub sum_kind : Option Kind → Option Kind → Option Kind
sum_kind a b = if is_constant a then number_only b else if is_number a && is_number b then Some kind.Number else None

-- one side of a product is a constant
abbrev pub product_kind : Option Kind → Option Kind → Option Kind
product_kind a b = if is_constant a then number_only b else if is_number a && is_constant b then Some kind.Number else None

abbrev pub kind_by : Op → Option Kind → Option Kind → Option Kind
kind_by And a b = both_truths a b
kind_by Or a b = both_truths a b
kind_by Implies a b = both_truths a b
kind_by Iff a b = both_truths a b
kind_by Equal a b = equal_kind a b
kind_by Unequal a b = equal_kind a b
kind_by Less a b = related_kind a b
kind_by AtMost a b = related_kind a b
kind_by Greater a b = related_kind a b
kind_by AtLeast a b = related_kind a b
kind_by Plus a b = sum_kind a b
kind_by Minus a b = sum_kind a b
kind_by Times a b = product_kind a b

-- the kind of an expression that is well sorted and names incarnations that are there
abbrev pub kind_ex : List Sort → Ex → Option Kind
kind_ex sorts (Number z) = Some kind.Constant
kind_ex sorts (Fact b) = Some kind.Truth
kind_ex sorts (Read (Local j)) = kind_at (slice_get sorts j)
kind_ex sorts (Not e) = truth_if (is_truth (kind_ex sorts e))
kind_ex sorts (Negative e) = number_only (kind_ex sorts e)
kind_ex sorts (Binary op a b) = kind_by op (kind_ex sorts a) (kind_ex sorts b)
kind_ex sorts _ = None

abbrev pub sort_of : Option Kind → Option Sort
sort_of None = None
sort_of (Some kind.Truth) = Some sort.Truth
sort_of (Some kind.Constant) = Some sort.Number
sort_of (Some kind.Number) = Some sort.Number

-- its sort
abbrev pub sort_ex : List Sort → Ex → Option Sort
sort_ex sorts e = sort_of (kind_ex sorts e)

-- ---- values

-- the value of an incarnation; what is neither a number nor a truth value is not said
abbrev pub scalar_value : Sort → ℤ → Bool → Val
scalar_value sort.Truth z b = Truth b
scalar_value sort.Number z b = Num z
scalar_value sort.Other z b = Num (pos 0)

-- the values of incarnations of these sorts, from the first one on
abbrev pub scalar_values : (ℕ → ℤ) → (ℕ → Bool) → List Sort → List Val
scalar_values numbers truths [] = []
scalar_values numbers truths (s ∷ ss) =
    scalar_value s (numbers 0) (truths 0) ∷ scalar_values (λ j. numbers (suc j)) (λ j. truths (suc j)) ss

-- the frame holds these numbers and truth values, where an incarnation is a number or a truth value
pub record HoldScalars (sorts : List Sort) (numbers : ℕ → ℤ) (truths : ℕ → Bool) (frame : List Val) : Type 0 where
  pub number : (j : ℕ) → slice_get sorts j ≡ Some sort.Number → value_at frame j ≡ Num (numbers j)
  pub truth : (j : ℕ) → slice_get sorts j ≡ Some sort.Truth → value_at frame j ≡ Truth (truths j)
