-- Signs as they are written: between operands and before them.
use Rattle.std.specs.Prelude.{List, [], ◌∷◌}
use Rattle.bg_text.specs.declared.expr.InfixSign.{InfixSign}
use Rattle.bg_text.specs.declared.expr.InfixSign.TheVariants as sign
use Rattle.bg_text.specs.declared.expr.PrefixSign.{PrefixSign}
use Rattle.bg_text.specs.declared.expr.PrefixSign.TheVariants as prefix
use Rattle.bg_text.specs.declared.expr.TreePrefix.{TreePrefix}
use Rattle.bg_ast.specs.Syntax.{Op, And, Or, Implies, Iff, Equal, Unequal, Less, AtMost, Greater, AtLeast, Plus, Minus, Times}
use Rattle.bg_ast.specs.Values.{Val}
use Rattle.bg_scalar.specs.Worths.{WorthOf, and_then, joined, not_on, minus_on}

-- the operator that a sign stands for; `<==` is `==>` with its sides turned
abbrev pub op_of : InfixSign → Op
op_of sign.Iff = Iff
op_of sign.Implies = Implies
op_of sign.Explies = Implies
op_of sign.And = And
op_of sign.Or = Or
op_of sign.Equal = Equal
op_of sign.Unequal = Unequal
op_of sign.Less = Less
op_of sign.AtMost = AtMost
op_of sign.Greater = Greater
op_of sign.AtLeast = AtLeast
op_of sign.Plus = Plus
op_of sign.Minus = Minus
op_of sign.Times = Times

-- a sign between two operands: of `a <== b` the right one comes first
abbrev pub between : InfixSign → WorthOf → WorthOf → WorthOf
between sign.Explies a b = joined Implies b a
between g a b = joined (op_of g) a b

abbrev pub prefix_on : PrefixSign → Val → WorthOf
prefix_on prefix.Not x = not_on x
prefix_on prefix.Minus x = minus_on x

abbrev pub prefixed : PrefixSign → WorthOf → WorthOf
prefixed g a = and_then a (prefix_on g)

-- a row of prefix signs: the last is the innermost
abbrev pub signed : List TreePrefix → WorthOf → WorthOf
signed [] a = a
signed (x ∷ xs) a = prefixed x.sign (signed xs a)
