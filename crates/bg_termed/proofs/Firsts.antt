-- The first values of typed values are typed.
use Rattle.std.proofs.Common.{◌≡◌, true, List, [], ◌∷◌, ◌++◌, length, take, refl}
use Rattle.bg_ast.specs.Values.{Ty, Val, is_of}
use Rattle.bg_sense.specs.Types.{are_of}
use Rattle.bg_sense.proofs.Bools.{and_left, and_right, both}

pub first_typed : (ts us : List Ty) (vs : List Val) → are_of (ts ++ us) vs ≡ true → are_of ts (take (length ts) vs) ≡ true
first_typed [] us vs h = refl
first_typed (t ∷ ts) us [] h = absurd (let bad : ⊥ = cc in bad)
first_typed (t ∷ ts) us (v ∷ vs) h =
    both (is_of t v) (are_of ts (take (length ts) vs)) (and_left (is_of t v) (are_of (ts ++ us) vs) h) (first_typed ts us vs (and_right (is_of t v) (are_of (ts ++ us) vs) h))
