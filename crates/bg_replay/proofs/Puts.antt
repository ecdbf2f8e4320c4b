-- Values that are put into variables.
use Rattle.std.proofs.Common.{◌≡◌, ◌≤◌, ℕ, zero, suc, List, [], ◌∷◌, ◌++◌, map, length, drop, refl, ap, arith}
use Rattle.std.specs.Prelude.{slice_set}
use Rattle.bg_ast.specs.Values.{Val}
use Rattle.bg_ast.specs.Syntax as s
use Rattle.bg_scalar.specs.Values.{value_of}
use Rattle.bg_scalar.specs.Views.{vals_in}
use Rattle.bg_scalar.specs.Choices.{choice_of}
use Rattle.bg_scalar.specs.declared.value.Value.{Value}
use Rattle.bg_scalar.specs.declared.choice.Choice.{Choice}
use Rattle.bg_replay.specs.Moments.{Moment}
use Rattle.bg_replay.specs.Acts.{put_each}

put_none : (xs : List s.Var) (m : Moment) → put_each xs [] m ≡ m
put_none [] m = refl
put_none (x ∷ xs) m = refl

-- no value is left to put
pub put_past : (xs : List s.Var) (ys : List Value) (m : Moment) (i : ℕ) → length ys ≤ i → put_each xs (vals_in (drop i ys)) m ≡ m
put_past xs [] m zero h = put_none xs m
put_past xs [] m (suc i) h = put_none xs m
put_past xs (y ∷ ys) m zero h = absurd (omega (arith, h))
put_past xs (y ∷ ys) m (suc i) h = put_past xs ys m i (omega (arith, h))

pub value_set : (xs : List Value) (k : ℕ) (y : Value) → vals_in (slice_set xs k y) ≡ slice_set (vals_in xs) k (value_of y)
value_set [] k y = refl
value_set (x ∷ xs) zero y = refl
value_set (x ∷ xs) (suc k) y = ap (λ (l : List Val). value_of x ∷ l) (value_set xs k y)

-- nothing is put past the end
pub value_past : (xs : List Value) (k : ℕ) (y : Val) → length xs ≤ k → slice_set (vals_in xs) k y ≡ vals_in xs
value_past [] k y h = refl
value_past (x ∷ xs) zero y h = absurd (omega (arith, h))
value_past (x ∷ xs) (suc k) y h = ap (λ (l : List Val). value_of x ∷ l) (value_past xs k y (omega (arith, h)))

pub values_join : (xs ys : List Value) → vals_in (xs ++ ys) ≡ vals_in xs ++ vals_in ys
values_join [] ys = refl
values_join (x ∷ xs) ys = ap (λ (l : List Val). value_of x ∷ l) (values_join xs ys)

pub as_many : (xs : List Value) → length (vals_in xs) ≡ length xs
as_many [] = refl
as_many (x ∷ xs) = ap suc (as_many xs)

pub choices_behind : (n : ℕ) (cs : List Choice) → drop n (map choice_of cs) ≡ map choice_of (drop n cs)
choices_behind zero cs = refl
choices_behind (suc n) [] = refl
choices_behind (suc n) (c ∷ cs) = choices_behind n cs

-- the choices behind those that values took
pub choices_left : (xs : List Value) (cs : List Choice) → drop (length (vals_in xs)) (map choice_of cs) ≡ map choice_of (drop (length xs) cs)
choices_left [] cs = refl
choices_left (x ∷ xs) [] = refl
choices_left (x ∷ xs) (c ∷ cs) = choices_left xs cs

pub ruleset back_forms = (values_join, choices_left)
