-- A chain from one link to the next: what stands before `==>` is a premise of all that follows; and a row of brackets.
use Rattle.std.specs.Prelude.{List, [], ◌∷◌, Option, Some, None}
use Rattle.bg_base.specs.declared.pos.Pos.{Pos}
use Rattle.bg_text.specs.declared.expr.InfixSign.{InfixSign}
use Rattle.bg_text.specs.declared.expr.InfixSign.TheVariants as sign
use Rattle.bg_ast.specs.Syntax.{And, Implies}
use Rattle.bg_ast.specs.Resolved as r
use Rattle.bg_ast.specs.Meaning.{ex_of, exs_of}
use Rattle.bg_ast.specs.Views.{Behind}
use Rattle.bg_scalar.specs.Worths.{Seen, WorthOf, joined, selected, updated, worth, worths}
use Rattle.bg_scalar.specs.Signs.{between}

-- under a premise, if there is one
abbrev pub under : Option WorthOf → WorthOf → WorthOf
under None a = a
under (Some p) a = joined Implies p a

-- one more premise
abbrev pub and_premise : Option WorthOf → WorthOf → Option WorthOf
and_premise None a = Some a
and_premise (Some p) a = Some (joined And p a)

abbrev pub premise_after : InfixSign → Option WorthOf → WorthOf → Option WorthOf
premise_after sign.Implies premise a = and_premise premise a
premise_after _ premise a = premise

-- the operand that is at hand behind a sign
abbrev pub operand_after : InfixSign → WorthOf → WorthOf → WorthOf
operand_after sign.Implies a b = b
operand_after g a b = between g a b

-- the value of a chain, under a premise and with this operand at hand
abbrev pub along : Option WorthOf → WorthOf → List (Pos × InfixSign × r.Ex) → Seen → WorthOf
along premise a [] s = under premise a
along premise a (l ∷ ls) s =
    along (premise_after l.1 premise a) (operand_after l.1 a (worth (ex_of l.2) s)) ls s

-- a bracket behind a map, with the new value of an update
abbrev pub bracketed : WorthOf → r.Exs → Option r.Ex → Seen → WorthOf
bracketed a es None s = selected a (worths (exs_of es) s)
bracketed a es (Some e) s = updated a (worths (exs_of es) s) (worth (ex_of e) s)

-- a row of brackets: the first is the innermost
abbrev pub behind : WorthOf → List Behind → Seen → WorthOf
behind a [] s = a
behind a (b ∷ bs) s = behind (bracketed a b.1 b.2 s) bs s
