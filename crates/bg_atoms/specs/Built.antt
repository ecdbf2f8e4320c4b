-- Small expressions over atoms.
use Rattle.std.specs.Prelude.{ℕ, Bool, true, false}
use Rattle.bg_ast.specs.Syntax.{Ex, Read, Local, Not, Op, Unequal}

-- what says that an atom has this sign
abbrev pub literal_ex : Bool → ℕ → Ex
literal_ex true a = Read (Local a)
literal_ex false a = Not (Read (Local a))

-- what says a relation, where this says that its rows hold
abbrev pub says_ex : Op → Ex → Ex
says_ex Unequal x = Not x
says_ex _ x = x
