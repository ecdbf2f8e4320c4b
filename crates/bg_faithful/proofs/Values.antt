-- Typed values of `int` and `bool` are numbers and truth values, and such values are typed.
use Rattle.std.proofs.Common.{◌≡◌, ℕ, ℤ, suc, Bool, true, List, [], ◌∷◌, map, refl, ap}
use Rattle.bg_ast.specs.Values.{Ty, IntTy, BoolTy, UserTy, MapTy, Val, Num, Truth, Element, Default, Entry, number_of, truth_of}
use Rattle.bg_sense.specs.Types.{are_of}
use Rattle.bg_sense.specs.Eval.{value_at}
use Rattle.bg_linear.specs.Sorts.{scalar_values}
use Rattle.bg_sorts.specs.Sorts.{sort_of_type}
use Rattle.bg_faithful.proofs.ValueTypes.{AreBasic}

-- the numbers and the truth values at the places of a list
abbrev pub numbers_of : List Val → ℕ → ℤ
numbers_of vs j = number_of (value_at vs j)

abbrev pub truths_of : List Val → ℕ → Bool
truths_of vs j = truth_of (value_at vs j)

pub values_read : (ts : List Ty) (vs : List Val) → AreBasic ts → are_of ts vs ≡ true → vs ≡ scalar_values (numbers_of vs) (truths_of vs) (map sort_of_type ts)
values_read [] [] h e = refl
values_read [] (v ∷ vs) h e = absurd (let bad : ⊥ = cc in bad)
values_read (t ∷ ts) [] h e = absurd (let bad : ⊥ = cc in bad)
values_read (BoolTy ∷ ts) (Truth b ∷ vs) h e = ap (λ ws. Truth b ∷ ws) (values_read ts vs h.1 e)
values_read (IntTy ∷ ts) (Num z ∷ vs) h e = ap (λ ws. Num z ∷ ws) (values_read ts vs h.1 e)
values_read (BoolTy ∷ ts) (Num z ∷ vs) h e = absurd (let bad : ⊥ = cc in bad)
values_read (BoolTy ∷ ts) (Element u z ∷ vs) h e = absurd (let bad : ⊥ = cc in bad)
values_read (BoolTy ∷ ts) (Default d ∷ vs) h e = absurd (let bad : ⊥ = cc in bad)
values_read (BoolTy ∷ ts) (Entry k v w ∷ vs) h e = absurd (let bad : ⊥ = cc in bad)
values_read (IntTy ∷ ts) (Truth b ∷ vs) h e = absurd (let bad : ⊥ = cc in bad)
values_read (IntTy ∷ ts) (Element u z ∷ vs) h e = absurd (let bad : ⊥ = cc in bad)
values_read (IntTy ∷ ts) (Default d ∷ vs) h e = absurd (let bad : ⊥ = cc in bad)
values_read (IntTy ∷ ts) (Entry k v w ∷ vs) h e = absurd (let bad : ⊥ = cc in bad)
values_read (UserTy u ∷ ts) (v ∷ vs) h e = absurd h.0
values_read (MapTy ks u ∷ ts) (v ∷ vs) h e = absurd h.0

pub values_typed : (ts : List Ty) (numbers : ℕ → ℤ) (truths : ℕ → Bool) → AreBasic ts → are_of ts (scalar_values numbers truths (map sort_of_type ts)) ≡ true
values_typed [] numbers truths h = refl
values_typed (BoolTy ∷ ts) numbers truths h = values_typed ts (λ j. numbers (suc j)) (λ j. truths (suc j)) h.1
values_typed (IntTy ∷ ts) numbers truths h = values_typed ts (λ j. numbers (suc j)) (λ j. truths (suc j)) h.1
values_typed (UserTy u ∷ ts) numbers truths h = absurd h.0
values_typed (MapTy ks u ∷ ts) numbers truths h = absurd h.0
