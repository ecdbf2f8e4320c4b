-- The best fault of lists in a row.
use Rattle.std.proofs.Common.{◌≡◌, ◌&&◌, List, [], ◌∷◌, ◌++◌, Option, refl}
use Rattle.bg_kinds.specs.Faults.{Fault, earlier, first_of, is_none}

pub first_of_append : (best : Option Fault) (fs gs : List Fault) → first_of best (fs ++ gs) ≡ first_of (first_of best fs) gs
first_of_append best [] gs = refl
first_of_append best (f ∷ fs) gs = first_of_append (earlier best f) fs gs

pub is_none_append : (fs gs : List Fault) → is_none (fs ++ gs) ≡ (is_none fs && is_none gs)
is_none_append [] gs = refl
is_none_append (f ∷ fs) gs = refl
