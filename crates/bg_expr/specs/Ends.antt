-- Where expressions end.
use Rattle.std.specs.Prelude.{ℕ, Bool, true, Option, Some, None, nat_lt}
use Rattle.bg_text.specs.declared.token.Kind.{Kind}
use Rattle.bg_text.specs.declared.token.Kind.TheVariants as kinds
use Rattle.bg_text.specs.Tokens.{Tok}

-- the level of the rule that goes on with the token
abbrev pub reach : Kind → Option ℕ
reach kinds.Iff = Some 0
reach kinds.Implies = Some 1
reach kinds.Explies = Some 1
reach kinds.And = Some 2
reach kinds.Or = Some 2
reach kinds.Equal = Some 3
reach kinds.Unequal = Some 3
reach kinds.Less = Some 3
reach kinds.AtMost = Some 3
reach kinds.Greater = Some 3
reach kinds.AtLeast = Some 3
reach kinds.Plus = Some 4
reach kinds.Minus = Some 4
reach kinds.Times = Some 5
reach kinds.OpenBracket = Some 7
reach kinds.Open = Some 8
reach _ = None

abbrev pub below : ℕ → Option ℕ → Bool
below k None = true
below k (Some g) = nat_lt g k

-- the token goes on with no expression of at least this level
abbrev pub ends : ℕ → Tok → Bool
ends k t = below k (reach t.kind)
