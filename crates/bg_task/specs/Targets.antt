-- Targets of incarnations and terms: whole numbers near which a point has what stands for them.
use Rattle.std.specs.Prelude.{ℕ, suc, Bool, true, false, if◌then◌else◌, ◌==◌, ◌&&◌, ◌||◌, List, [], ◌∷◌, map, ℤ, pos, ◌+ℤ◌, int_lt, int_le}
use Rattle.std.specs.List.{list_any}
use Rattle.bg_ast.specs.Values.{Ty, IntTy, BoolTy, UserTy, MapTy}
use Rattle.bg_ast.specs.Syntax.{Ex, Exs, Number, Read, Local, Not, Negative, Binary, NoMore, More, Proc, Impl, Prog}
use Rattle.bg_terms.specs.Terms.{Term}
use Rattle.bg_termed.specs.Termed.{terms_in, types_in}

-- whether a flat expression reads the incarnation or term with this number
abbrev pub reads : ℕ → Ex → Bool
reads j (Read (Local i)) = j == i
reads j (Not e) = reads j e
reads j (Negative e) = reads j e
reads j (Binary op a b) = reads j a || reads j b
reads j _ = false

abbrev pub any_reads : ℕ → Exs → Bool
any_reads j NoMore = false
any_reads j (More e es) = reads j e || any_reads j es

-- whether it stands in an argument of one of these terms
abbrev pub stands : ℕ → List Term → Bool
stands j ts = list_any (λ t. any_reads j t.args) ts

-- numbers and elements are to differ where they stand in arguments; truth values and maps aren't
abbrev pub is_spread : Ty → Bool
is_spread BoolTy = false
is_spread IntTy = true
is_spread (UserTy u) = true
is_spread (MapTy ks t) = false

-- which of those of these types do, where the first of them has number j
abbrev pub are_spread : ℕ → List Ty → List Term → List Bool
are_spread j [] ts = []
are_spread j (t ∷ tys) ts = (is_spread t && stands j ts) ∷ are_spread (suc j) tys ts

-- the number that an expression is, and 0 if it is none
abbrev pub literal : Ex → ℤ
literal (Number z) = z
literal _ = pos 0

-- the number behind n where that is more than z, unless n is out of proportion
abbrev pub passed : ℤ → ℤ → ℤ
passed z n = if int_le z n && int_lt n (pos 1000000000) then n +ℤ pos 1 else z

-- the least number from z on that is behind those among these expressions
abbrev pub past : ℤ → Exs → ℤ
past z NoMore = z
past z (More e es) = past (passed z (literal e)) es

-- the same, of those that stand as an argument of these terms
abbrev pub past_all : ℤ → List Term → ℤ
past_all z [] = z
past_all z (t ∷ ts) = past_all (past z t.args) ts

-- z, z + 1, z + 2 and so on for those that do, in their order, and 0 for all others
abbrev pub spread_from : ℤ → List Bool → List ℤ
spread_from z [] = []
spread_from z (true ∷ bs) = z ∷ spread_from (z +ℤ pos 1) bs
spread_from z (false ∷ bs) = pos 0 ∷ spread_from z bs

-- the targets of incarnations and terms of these types, where the terms are these: for numbers and elements that stand in an argument those
-- behind the largest number that is an argument, one after the other, and 0 for all else
abbrev pub targets_of : List Ty → List Term → List ℤ
targets_of tys ts = spread_from (past_all (pos 1) ts) (are_spread 0 tys ts)

-- those of the incarnations and terms of an implementation
abbrev pub targets_in : Prog → ℕ → Impl → Proc → List ℤ
targets_in p k m q = targets_of (types_in p k m q) (terms_in p k m q)
