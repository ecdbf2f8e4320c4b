-- What is claimed of a program's constants: the unique ones of each type are pairwise different, and the axioms are true.
use Rattle.std.specs.Prelude.{ℕ, suc, if◌then◌else◌, List, [], ◌∷◌, ◌++◌, map}
use Rattle.bg_ast.specs.Values.{Ty}
use Rattle.bg_ast.specs.Syntax.{Ex, Constant, Binary, Unequal, Const, Prog}
use Rattle.bg_sense.specs.Types.{ty_eq}

-- unique constants, which are numbered from here on: the number of each, and its type
abbrev pub uniques : ℕ → List Const → List (ℕ × Ty)
uniques k [] = []
uniques k (c ∷ cs) = if c.is_unique then (k, c.ty) ∷ uniques (suc k) cs else uniques (suc k) cs

-- a constant of this type, with another one where it is of the same type
abbrev pub pair_of : ℕ → Ty → ℕ × Ty → List (ℕ × ℕ)
pair_of k t x = if ty_eq t x.1 then (k, x.0) ∷ [] else []

-- with each of these that is of the same type
abbrev pub pairs_with : ℕ → Ty → List (ℕ × Ty) → List (ℕ × ℕ)
pairs_with k t [] = []
pairs_with k t (x ∷ xs) = pair_of k t x ++ pairs_with k t xs

-- each with each later one of the same type
abbrev pub pairs : List (ℕ × Ty) → List (ℕ × ℕ)
pairs [] = []
pairs (x ∷ xs) = pairs_with x.0 x.1 xs ++ pairs xs

-- the pairs of unique constants of one type, by the first of each
abbrev pub unique_pairs : List Const → List (ℕ × ℕ)
unique_pairs cs = pairs (uniques 0 cs)

-- two constants are different
abbrev pub apart : ℕ × ℕ → Ex
apart q = Binary Unequal (Constant q.0) (Constant q.1)

-- the constants of each pair are different, and the axioms are true
abbrev pub claims : Prog → List Ex
claims p = map apart (unique_pairs p.constants) ++ p.axioms
