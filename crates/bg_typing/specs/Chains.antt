-- A chain from the left: what is left of a `==>` waits for the rest.
use Rattle.std.specs.Prelude.{List, [], ◌∷◌}
use Rattle.bg_base.specs.declared.pos.Pos.{Pos}
use Rattle.bg_text.specs.declared.expr.InfixSign.{InfixSign}
use Rattle.bg_text.specs.declared.expr.InfixSign.TheVariants as op
use Rattle.bg_kinds.specs.Faults.{Fault}
use Rattle.bg_typing.specs.Sides.{Side, Judged, infix_side, infix_faults}
use Rattle.bg_typing.specs.Exprs.{implied}

-- the left side of a `==>`, and where the sign stands
abbrev pub Waiting : Type 0
Waiting = Pos × Side

-- what waits, the first the outermost, before the rest
abbrev pub unwound : List Waiting → Judged → Judged
unwound [] j = j
unwound (x ∷ xs) j = implied x.0 x.1 (unwound xs j)

-- one more operand: what waits then, the left side of what follows, and the faults
abbrev pub waits : InfixSign → Pos → Side → List Waiting
waits op.Implies p a = (p, a) ∷ []
waits _ p a = []

abbrev pub left_side : InfixSign → Side → Side → Side
left_side op.Implies a b = b
left_side sign a b = infix_side sign a b

abbrev pub left_faults : InfixSign → Pos → Side → Side → List Fault
left_faults op.Implies p a b = []
left_faults sign p a b = infix_faults sign p a b
