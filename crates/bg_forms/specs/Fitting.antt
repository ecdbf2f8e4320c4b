-- Whether expressions are formulas over truth values, and name incarnations that are there.
use Rattle.std.specs.Prelude.{ℕ, nat_lt, Bool, true, false, ◌&&◌}
use Rattle.bg_ast.specs.Syntax.{Ex, Fact, Read, Local, Not, Binary, Op, And, Or, Implies, Iff, Equal, Unequal}

abbrev pub joins_truths : Op → Bool
joins_truths And = true
joins_truths Or = true
joins_truths Implies = true
joins_truths Iff = true
joins_truths Equal = true
joins_truths Unequal = true
joins_truths _ = false

-- an expression over truth values that names incarnations below n
abbrev pub fits_ex : ℕ → Ex → Bool
fits_ex n (Fact b) = true
fits_ex n (Read (Local j)) = nat_lt j n
fits_ex n (Not e) = fits_ex n e
fits_ex n (Binary op a b) = joins_truths op && (fits_ex n a && fits_ex n b)
fits_ex n _ = false
