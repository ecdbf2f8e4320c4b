-- When two kinds of tokens are one.
use Rattle.std.specs.Prelude.{ℕ, Bool, ◌==◌}
use Rattle.bg_text.specs.declared.token.Kind.{Kind}
use Rattle.bg_text.specs.declared.token.Kind.TheVariants as kinds

-- the place of a kind in the list of them
abbrev pub number : Kind → ℕ
number kinds.Name = 0
number (kinds.Number z) = 1
number kinds.Quoted = 2
number kinds.Assert = 3
number kinds.Assume = 4
number kinds.Axiom = 5
number kinds.Bool = 6
number kinds.Break = 7
number kinds.Call = 8
number kinds.Const = 9
number kinds.Else = 10
number kinds.Ensures = 11
number kinds.False = 12
number kinds.Free = 13
number kinds.Function = 14
number kinds.Goto = 15
number kinds.Havoc = 16
number kinds.If = 17
number kinds.Implementation = 18
number kinds.Int = 19
number kinds.Invariant = 20
number kinds.Modifies = 21
number kinds.Old = 22
number kinds.Procedure = 23
number kinds.Requires = 24
number kinds.Return = 25
number kinds.Returns = 26
number kinds.True = 27
number kinds.Type = 28
number kinds.Unique = 29
number kinds.Var = 30
number kinds.While = 31
number kinds.Open = 32
number kinds.Close = 33
number kinds.OpenBracket = 34
number kinds.CloseBracket = 35
number kinds.OpenBrace = 36
number kinds.CloseBrace = 37
number kinds.Comma = 38
number kinds.Semicolon = 39
number kinds.Colon = 40
number kinds.Becomes = 41
number kinds.Sets = 42
number kinds.Less = 43
number kinds.AtMost = 44
number kinds.Greater = 45
number kinds.AtLeast = 46
number kinds.Equal = 47
number kinds.Unequal = 48
number kinds.Implies = 49
number kinds.Explies = 50
number kinds.Iff = 51
number kinds.And = 52
number kinds.Or = 53
number kinds.Not = 54
number kinds.Plus = 55
number kinds.Minus = 56
number kinds.Times = 57

-- the second kind is the first, all numbers being of one kind
abbrev pub is_kind : Kind → Kind → Bool
is_kind k j = number j == number k
