-- The atom of a truth incarnation: the number of truth incarnations before it.
use Rattle.std.specs.Prelude.{ℕ, zero, suc, ◌+◌, false, List, [], ◌∷◌, Option, Some, None, slice_get}
use Rattle.bg_ast.specs.Syntax.{Ex, Fact, Read, Var, Local, Global}
use Rattle.bg_linear.specs.declared.scalar.Sort.{Sort}
use Rattle.bg_linear.specs.declared.scalar.Sort.TheVariants as sort

-- one for a truth incarnation, none for another
abbrev pub one_for : Sort → ℕ
one_for sort.Truth = 1
one_for sort.Number = 0
one_for sort.Other = 0

-- the number of truth incarnations
abbrev pub truths : List Sort → ℕ
truths [] = 0
truths (s ∷ ss) = one_for s + truths ss

-- the number of truth incarnations before incarnation j
abbrev pub rank : List Sort → ℕ → ℕ
rank [] j = 0
rank (s ∷ ss) zero = 0
rank (s ∷ ss) (suc j) = one_for s + rank ss j

-- the ranks of incarnations behind n truth incarnations
abbrev pub ranks_from : ℕ → List Sort → List ℕ
ranks_from n [] = []
ranks_from n (s ∷ ss) = n ∷ ranks_from (n + one_for s) ss

-- what reads an atom, if there is one
abbrev pub read_by : Option ℕ → Ex
read_by (Some a) = Read (Local a)
read_by None = Fact false

-- what reads the atom of a variable; there are no globals among incarnations
abbrev pub read_var : List ℕ → Var → Ex
read_var ranks (Local j) = read_by (slice_get ranks j)
read_var ranks (Global k) = Fact false
