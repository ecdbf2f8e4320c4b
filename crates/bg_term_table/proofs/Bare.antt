-- The leaf that stands beside a row, and leaves in lists.
use Rattle.std.proofs.Common.{◌≡◌, List, [], ◌∷◌, ◌++◌, map, Option, Some, None, refl, ap, ◌∙◌, Vec, Box, Global}
use Rattle.bg_base.specs.declared.pos.Pos.{Pos}
use Rattle.bg_text.specs.declared.expr.InfixSign.{InfixSign}
use Rattle.bg_text.specs.declared.expr.InfixSign.TheVariants as op
use Rattle.bg_text.specs.declared.expr.PrefixSign.{PrefixSign}
use Rattle.bg_text.specs.declared.expr.PrefixSign.TheVariants as prefix
use Rattle.bg_text.specs.declared.expr.TreePrefix.{TreePrefix}
use Rattle.bg_ast.specs.declared.resolved.Expr.{Expr}
use Rattle.bg_ast.specs.declared.resolved.Expr.TheVariants as expr
use Rattle.bg_ast.specs.declared.resolved.Link.{Link}
use Rattle.bg_ast.specs.declared.resolved.Bracket.{Bracket}
use Rattle.bg_ast.specs.Syntax as s
use Rattle.bg_ast.specs.Syntax.{Ex, Binary, Implies}
use Rattle.bg_ast.specs.Meaning as m
use Rattle.bg_ast.specs.Meaning.{ex_of, prefix_of, infix_of}
use Rattle.bg_ast.specs.Resolved as r
use Rattle.bg_ast.specs.Views as u
use Rattle.bg_ast.proofs.Lists.{ex_of-Postfix}
use Rattle.bg_term_table.specs.declared.leaf.Leaf.{Leaf}
use Rattle.bg_term_table.specs.Views.{meaning, operands, signs, prefixes}
use Rattle.bg_term_table.specs.Chains.{chain_from, signed_by}
use Rattle.bg_term_table.specs.Keys.{leaf_in, with_leaf, leaves_in, bare}
use Rattle.bg_term_table.proofs.Means.{meaning-Chain, meaning-Prefix}

-- ---- signs

sign_none : (p : PrefixSign) (e : Ex) → leaf_in (prefix_of p e) ≡ None
sign_none prefix.Not e = refl
sign_none prefix.Minus e = refl

signed_leaf : (ss : List TreePrefix) (e : Ex) → leaf_in (signed_by (prefixes ss) e) ≡ bare ss (leaf_in e)
signed_leaf [] e = refl
signed_leaf (x ∷ ss) e = sign_none x.sign (signed_by (prefixes ss) e)

pub prefix_leaf : (ss : Vec TreePrefix Global) (e : Box Expr Global) → leaf_in (meaning (expr.Prefix ss e)) ≡ bare ss.items (leaf_in (meaning e.value))
prefix_leaf ss e = ap leaf_in (meaning-Prefix ss e) ∙ signed_leaf ss.items (meaning e.value)

-- ---- brackets

behind_none : (bs : r.Brackets) (e : Ex) → leaf_in e ≡ None → leaf_in (m.behind e bs) ≡ None
behind_none r.NoBracket e h = h
behind_none (r.Select p es bs) e h = behind_none bs (s.Select e (m.exs_of es)) refl
behind_none (r.Update p es v bs) e h = behind_none bs (s.Update e (m.exs_of es) (ex_of v)) refl

some_brackets : (w : Pos × r.Exs × Option r.Ex) (bs : r.Brackets) (e : Ex) → leaf_in (m.behind e (u.behind_parts w.0 w.1 w.2 bs)) ≡ None
some_brackets (p, es, None) bs e = behind_none bs (s.Select e (m.exs_of es)) refl
some_brackets (p, es, Some v) bs e = behind_none bs (s.Update e (m.exs_of es) (ex_of v)) refl

brackets_leaf : (bs : List Bracket) (e : Ex) → leaf_in (m.behind e (u.brackets_of (map u.bracket_view bs))) ≡ bare bs (leaf_in e)
brackets_leaf [] e = refl
brackets_leaf (b ∷ bs) e = some_brackets (u.bracket_view b) (u.brackets_of (map u.bracket_view bs)) e

pub postfix_leaf : (e : Box Expr Global) (bs : Vec Bracket Global) → leaf_in (meaning (expr.Postfix e bs)) ≡ bare bs.items (leaf_in (meaning e.value))
postfix_leaf e bs = ap (λ x. leaf_in (ex_of x)) (ex_of-Postfix e bs) ∙ brackets_leaf bs.items (meaning e.value)

-- ---- links

link_none : (g : InfixSign) (e a : Ex) (ls : List Link) → ((b : Ex) → leaf_in b ≡ None → leaf_in (chain_from b (signs ls) (operands ls)) ≡ None) → leaf_in (chain_from a (g ∷ signs ls) (e ∷ operands ls)) ≡ None
link_none op.Iff e a ls h = h (infix_of op.Iff a e) refl
link_none op.Implies e a ls h = refl
link_none op.Explies e a ls h = h (infix_of op.Explies a e) refl
link_none op.And e a ls h = h (infix_of op.And a e) refl
link_none op.Or e a ls h = h (infix_of op.Or a e) refl
link_none op.Equal e a ls h = h (infix_of op.Equal a e) refl
link_none op.Unequal e a ls h = h (infix_of op.Unequal a e) refl
link_none op.Less e a ls h = h (infix_of op.Less a e) refl
link_none op.AtMost e a ls h = h (infix_of op.AtMost a e) refl
link_none op.Greater e a ls h = h (infix_of op.Greater a e) refl
link_none op.AtLeast e a ls h = h (infix_of op.AtLeast a e) refl
link_none op.Plus e a ls h = h (infix_of op.Plus a e) refl
link_none op.Minus e a ls h = h (infix_of op.Minus a e) refl
link_none op.Times e a ls h = h (infix_of op.Times a e) refl

chain_none : (ls : List Link) (a : Ex) → leaf_in a ≡ None → leaf_in (chain_from a (signs ls) (operands ls)) ≡ None
chain_none [] a h = h
chain_none (l ∷ ls) a h = link_none l.sign (meaning l.operand) a ls (chain_none ls)

links_leaf : (ls : List Link) (e : Ex) → leaf_in (chain_from e (signs ls) (operands ls)) ≡ bare ls (leaf_in e)
links_leaf [] e = refl
links_leaf (l ∷ ls) e = link_none l.sign (meaning l.operand) e ls (chain_none ls)

pub chain_leaf : (e : Box Expr Global) (ls : Vec Link Global) → leaf_in (meaning (expr.Chain e ls)) ≡ bare ls.items (leaf_in (meaning e.value))
chain_leaf e ls = ap leaf_in (meaning-Chain e ls) ∙ links_leaf ls.items (meaning e.value)

-- ---- lists

-- leaves so far, and an expression that is none or one more
pub stop : (es : List Ex) (e : Ex) (rest : List Ex) → leaf_in e ≡ None → leaves_in (es ++ e ∷ rest) ≡ None
stop [] e rest h = ap (λ l. with_leaf l (leaves_in rest)) h
stop (d ∷ es) e rest h = ap (with_leaf (leaf_in d)) (stop es e rest h) ∙ with_none (leaf_in d)
  where
    with_none : (o : Option Leaf) → with_leaf o None ≡ None
    with_none None = refl
    with_none (Some l) = refl

pub go_on : (es : List Ex) (ls : List Leaf) (e : Ex) (l : Leaf) → leaves_in es ≡ Some ls → leaf_in e ≡ Some l → leaves_in (es ++ e ∷ []) ≡ Some (ls ++ l ∷ [])
go_on [] ls e l h k = ap (λ o. with_leaf o (Some [])) k ∙ ap (λ m. Some (m ++ l ∷ [])) (let q : [] ≡ ls = cc in q)
go_on (d ∷ es) ls e l h k = on (leaf_in d) (leaves_in es) refl h (go_on es)
  where
    on : (x : Option Leaf) (o : Option (List Leaf)) → leaves_in es ≡ o → with_leaf x o ≡ Some ls → ((ms : List Leaf) (e' : Ex) (l' : Leaf) → leaves_in es ≡ Some ms → leaf_in e' ≡ Some l' → leaves_in (es ++ e' ∷ []) ≡ Some (ms ++ l' ∷ [])) → with_leaf x (leaves_in (es ++ e ∷ [])) ≡ Some (ls ++ l ∷ [])
    on None o q r later = absurd (let bad : ⊥ = cc in bad)
    on (Some x) None q r later = absurd (let bad : ⊥ = cc in bad)
    on (Some x) (Some ms) q r later = ap (with_leaf (Some x)) (later ms e l q k) ∙ ap (λ m. Some (m ++ l ∷ [])) (let z : x ∷ ms ≡ ls = cc in z)
