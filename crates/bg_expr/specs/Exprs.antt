-- Reading expressions.
use Rattle.std.specs.Prelude.{ℕ, zero, suc, List, [], ◌∷◌, true, false, Option, Some, None, ◌==◌, ◌-◌}
use Rattle.bg_base.specs.declared.pos.Pos.{Pos}
use Rattle.bg_text.specs.declared.token.Kind.{Kind}
use Rattle.bg_text.specs.declared.token.Kind.TheVariants as kinds
use Rattle.bg_text.specs.Tokens.{Tok}
use Rattle.bg_text.specs.declared.expr.InfixSign.{InfixSign}
use Rattle.bg_text.specs.declared.expr.InfixSign.TheVariants as op
use Rattle.bg_text.specs.declared.expr.PrefixSign.TheVariants as prefix
use Rattle.bg_text.specs.declared.expr.TreePrefix.{TreePrefix}
use Rattle.bg_text.specs.Trees.{Ex, Number, Truth, Named, Apply, Old, Parens, Prefix, Postfix, Chain, Exs, NoMore, More, Brackets, NoBracket, Select, Update, Links, NoLink, Link}
use Rattle.bg_text.specs.Spelling.{grade, goes_on}
use Rattle.bg_text.specs.Views.{exs_of, links_of, Bracket, brackets_of}
use Rattle.bg_reader.specs.Reading.{Reader, if_true, a_sign, a_text, with_read, both, one, branch, sink, sunk, must, nothing, many}

-- a name
abbrev pub a_name : Tok → Option (Pos × List ℕ)
a_name = a_text kinds.Name

-- a number or a truth value
abbrev pub plain_by : Kind → Pos → Option Ex
plain_by (kinds.Number z) p = Some (Number p z)
plain_by kinds.True p = Some (Truth p true)
plain_by kinds.False p = Some (Truth p false)
plain_by _ p = None

-- what it is as an expression
abbrev pub plain : Tok → Option Ex
plain t = plain_by t.kind t.pos

-- a prefix sign
abbrev pub prefix_by : Kind → Pos → Option TreePrefix
prefix_by kinds.Not p = Some (record { pos = p; sign = prefix.Not })
prefix_by kinds.Minus p = Some (record { pos = p; sign = prefix.Minus })
prefix_by _ p = None

abbrev pub a_prefix : Tok → Option TreePrefix
a_prefix t = prefix_by t.kind t.pos

-- a sign between operands
abbrev pub infix_of : Kind → Option InfixSign
infix_of kinds.Iff = Some op.Iff
infix_of kinds.Implies = Some op.Implies
infix_of kinds.Explies = Some op.Explies
infix_of kinds.And = Some op.And
infix_of kinds.Or = Some op.Or
infix_of kinds.Equal = Some op.Equal
infix_of kinds.Unequal = Some op.Unequal
infix_of kinds.Less = Some op.Less
infix_of kinds.AtMost = Some op.AtMost
infix_of kinds.Greater = Some op.Greater
infix_of kinds.AtLeast = Some op.AtLeast
infix_of kinds.Plus = Some op.Plus
infix_of kinds.Minus = Some op.Minus
infix_of kinds.Times = Some op.Times
infix_of _ = None

abbrev pub first_by : ℕ → Pos → Option InfixSign → Option (Pos × InfixSign)
first_by k p None = None
first_by k p (Some s) = if_true (grade s == k) (p, s)

-- a sign that a chain of this level begins with
abbrev pub first_sign : ℕ → Tok → Option (Pos × InfixSign)
first_sign k t = first_by k t.pos (infix_of t.kind)

abbrev pub next_by : InfixSign → Pos → Option InfixSign → Option (Pos × InfixSign)
next_by s p None = None
next_by s p (Some r) = if_true (goes_on s r) (p, r)

-- a sign that goes on with it
abbrev pub next_sign : InfixSign → Tok → Option (Pos × InfixSign)
next_sign s t = next_by s t.pos (infix_of t.kind)

-- an operand, with the sign before it
abbrev pub Operand : Type 0
Operand = Pos × InfixSign × Ex

-- an operand alone, or a chain
abbrev pub chain_of : Ex → Links → Ex
chain_of e NoLink = e
chain_of e (Link p s f links) = Chain e (Link p s f links)

-- an operand alone, or behind prefix signs
abbrev pub prefix_of : List TreePrefix → Ex → Ex
prefix_of [] e = e
prefix_of (s ∷ rest) e = Prefix (s ∷ rest) e

-- an atom alone, or with brackets behind it
abbrev pub postfix_of : Ex → Brackets → Ex
postfix_of e NoBracket = e
postfix_of e (Select p es bs) = Postfix e (Select p es bs)
postfix_of e (Update p es f bs) = Postfix e (Update p es f bs)

-- the sign and the operand behind it
abbrev pub operand : Reader Ex → Pos × InfixSign → Reader Operand
operand P b ts = with_read (λ e. (b.0, b.1, e)) (P ts)

-- the operand behind the first sign, and those behind it
abbrev pub links_by : ℕ → Reader Ex → Pos × InfixSign → Reader Links
links_by n P b ts = with_read (λ v. Link b.0 b.1 v.0 (links_of v.1)) (both P (many (next_sign b.1) (operand P) n) ts)

-- the operands behind the first, if a sign of this level follows it
abbrev pub links_at : ℕ → ℕ → Reader Ex → Reader Links
links_at n k P = branch (first_sign k) (links_by n P) (nothing NoLink)

-- a chain of level k over operands
unfoldable pub chain_at : ℕ → ℕ → Reader Ex → Reader Ex
chain_at n k P ts = with_read (λ v. chain_of v.0 v.1) (both P (links_at n k P) ts)

-- expressions with commas between them
unfoldable pub list_at : ℕ → Reader Ex → Reader Exs
list_at n P ts = with_read (λ v. More v.0 (exs_of v.1)) (both P (many (a_sign kinds.Comma) (λ _. P) n) ts)

-- the arguments of a call, and the closing bracket
unfoldable pub args_at : ℕ → Reader Ex → Reader Exs
args_at n P = branch (a_sign kinds.Close) (λ _. nothing NoMore) (λ ts. with_read (λ v. v.0) (both (list_at n P) (one (a_sign kinds.Close)) ts))

-- behind the indices: the value of an update, if `:=` follows, and the closing bracket
abbrev pub value_at : Reader Ex → Reader (Option Ex)
value_at P = branch (a_sign kinds.Becomes) (λ _ ts. with_read (λ v. Some v.0) (both P (one (a_sign kinds.CloseBracket)) ts)) (λ ts. with_read (λ _. None) (one (a_sign kinds.CloseBracket) ts))

-- what stands behind an opening bracket, up to the closing one
unfoldable pub bracket_at : ℕ → Reader Ex → Pos → Reader Bracket
bracket_at n P p ts = with_read (λ v. (p, v.0, v.1)) (both (list_at n P) (value_at P) ts)

-- what stands in brackets is read by inner, if a bracket more may be opened
abbrev pub brackets_at : ℕ → Option (Reader Ex) → Reader Brackets
brackets_at n None ts = sink (a_sign kinds.OpenBracket) (nothing NoBracket) ts
brackets_at n (Some P) ts = with_read brackets_of (many (a_sign kinds.OpenBracket) (bracket_at n P) n ts)

-- a name, with arguments if a bracket follows
abbrev pub call_at : ℕ → Option (Reader Ex) → Pos × List ℕ → Reader Ex
call_at n None b = sink (a_sign kinds.Open) (nothing (Named b.0 b.1))
call_at n (Some P) b = branch (a_sign kinds.Open) (λ _ ts. with_read (Apply b.0 b.1) (args_at n P ts)) (nothing (Named b.0 b.1))

-- an expression and the closing bracket
abbrev pub closed : Reader Ex → Reader Ex
closed P ts = with_read (λ v. v.0) (both P (one (a_sign kinds.Close)) ts)

-- an expression in brackets, where they must stand
abbrev pub enclosed : Option (Reader Ex) → Reader (Pos × Ex)
enclosed None = sunk (a_sign kinds.Open)
enclosed (Some P) = must (a_sign kinds.Open) (closed P)

-- an expression in brackets, or a number or a truth value
abbrev pub parens_at : Option (Reader Ex) → Reader Ex
parens_at None = sink (a_sign kinds.Open) (one plain)
parens_at (Some P) = branch (a_sign kinds.Open) (λ p ts. with_read (Parens p) (closed P ts)) (one plain)

-- behind `old`: an expression in brackets
abbrev pub old_at : Option (Reader Ex) → Pos → Reader Ex
old_at inner p ts = with_read (λ v. Old p v.1) (enclosed inner ts)

-- an expression without signs, and without brackets behind it
unfoldable pub atom_at : ℕ → Option (Reader Ex) → Reader Ex
atom_at n inner = branch a_name (call_at n inner) (branch (a_sign kinds.Old) (old_at inner) (parens_at inner))

-- an atom and the brackets behind it
unfoldable pub postfix_at : ℕ → Option (Reader Ex) → Reader Ex
postfix_at n inner ts = with_read (λ v. postfix_of v.0 v.1) (both (atom_at n inner) (brackets_at n inner) ts)

-- the same behind prefix signs
unfoldable pub prefix_at : ℕ → Option (Reader Ex) → Reader Ex
prefix_at n inner ts = with_read (λ v. prefix_of v.0 v.1) (both (many a_prefix nothing n) (postfix_at n inner) ts)

-- the chains of the levels k to 5, where rungs = 6 - k
unfoldable pub ladder : ℕ → Option (Reader Ex) → ℕ → Reader Ex
ladder n inner zero = prefix_at n inner
ladder n inner (suc rungs) = chain_at n (5 - rungs) (ladder n inner rungs)

-- what reads in brackets, if a bracket more may be opened
unfoldable pub inner_of : ℕ → ℕ → Option (Reader Ex)
inner_of n zero = None
inner_of n (suc depth) = Some (ladder n (inner_of n depth) 6)

-- an expression with at most depth brackets in one another, each list with at most n parts behind its first
abbrev pub expr_at : ℕ → ℕ → Reader Ex
expr_at n depth = ladder n (inner_of n depth) 6
