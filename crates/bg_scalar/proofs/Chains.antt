-- Chains, rows of prefix signs and rows of brackets, as the code goes through them.
use Rattle.std.proofs.Common.{◌≡◌, ◌<◌, ◌≤◌, ◌+◌, ℕ, suc, true, false, List, [], ◌∷◌, ◌++◌, refl, sym, ap, ◌∙◌, map, length, drop, drop-cons, add-one, get_or, Option, Some, None, Vec, Box, Global}
use Rattle.std.specs.Prelude.{slice_get}
use Rattle.std.proofs.lemmas.List.{drop_all}
use Rattle.bg_base.specs.declared.pos.Pos.{Pos}
use Rattle.bg_text.specs.declared.expr.InfixSign.{InfixSign}
use Rattle.bg_text.specs.declared.expr.InfixSign.TheVariants as sign
use Rattle.bg_text.specs.declared.expr.PrefixSign.{PrefixSign}
use Rattle.bg_text.specs.declared.expr.PrefixSign.TheVariants as prefix
use Rattle.bg_text.specs.declared.expr.TreePrefix.{TreePrefix}
use Rattle.bg_ast.specs.Syntax as s
use Rattle.bg_ast.specs.Resolved as r
use Rattle.bg_ast.specs.Meaning as m
use Rattle.bg_ast.specs.Views as view
use Rattle.bg_ast.specs.Views.{links_of, link_view, exs_in, behind_parts, brackets_of, bracket_view}
use Rattle.bg_ast.specs.declared.resolved.Expr.TheVariants as expr
use Rattle.bg_ast.specs.declared.resolved.Expr.{Expr}
use Rattle.bg_ast.specs.declared.resolved.Link.{Link}
use Rattle.bg_ast.specs.declared.resolved.Bracket.{Bracket}
use Rattle.bg_ast.specs.declared.resolved.Bracket.TheVariants as bracket
use Rattle.bg_ast.proofs.Lists.{ex_of-Apply, ex_of-Chain, ex_of-Postfix, bracket_view-Select, bracket_view-Update}
use Rattle.bg_ast.specs.Values.{Num, Truth, Element, Default, Entry}
use Rattle.bg_sense.specs.Eval.{look_up}
use Rattle.bg_scalar.specs.Worths.{Seen, WorthOf, Is, Leaves, NoValue, and_then, not_on, minus_on, joined, and_then_all, selected, updated, worth, worths}
use Rattle.bg_scalar.specs.Signs.{prefixed, signed}
use Rattle.bg_scalar.specs.Along.{under, and_premise, premise_after, operand_after, along, bracketed, behind}

-- two premises are one
two_premises : (p a x : WorthOf) → joined s.Implies (joined s.And p a) x ≡ joined s.Implies p (joined s.Implies a x)
two_premises (Leaves o) a x = refl
two_premises NoValue a x = refl
two_premises (Is (Num z)) a x = refl
two_premises (Is (Element t z)) a x = refl
two_premises (Is (Default d)) a x = refl
two_premises (Is (Entry k v m)) a x = refl
two_premises (Is (Truth b)) (Leaves o) x = refl
two_premises (Is (Truth b)) NoValue x = refl
two_premises (Is (Truth b)) (Is (Num z)) x = refl
two_premises (Is (Truth b)) (Is (Element t z)) x = refl
two_premises (Is (Truth b)) (Is (Default d)) x = refl
two_premises (Is (Truth b)) (Is (Entry k v m)) x = refl
two_premises (Is (Truth b)) (Is (Truth c)) (Leaves o) = refl
two_premises (Is (Truth b)) (Is (Truth c)) NoValue = refl
two_premises (Is (Truth b)) (Is (Truth c)) (Is (Num z)) = refl
two_premises (Is (Truth b)) (Is (Truth c)) (Is (Element t z)) = refl
two_premises (Is (Truth b)) (Is (Truth c)) (Is (Default d)) = refl
two_premises (Is (Truth b)) (Is (Truth c)) (Is (Entry k v m)) = refl
two_premises (Is (Truth true)) (Is (Truth c)) (Is (Truth d)) = refl
two_premises (Is (Truth false)) (Is (Truth c)) (Is (Truth d)) = refl

one_more : (g : Option WorthOf) (a x : WorthOf) → under (and_premise g a) x ≡ under g (joined s.Implies a x)
one_more None a x = refl
one_more (Some p) a x = two_premises p a x

module _ (w : Seen) where
  -- a chain under a premise
  abbrev Under : List (Pos × InfixSign × r.Ex) → Type 0
  Under ls = (g : Option WorthOf) (a : s.Ex) → along g (worth a w) ls w ≡ under g (worth (m.chained a (links_of ls)) w)

  under_sign : (sg : InfixSign) (g : Option WorthOf) (a : s.Ex) (p : Pos) (e : r.Ex) (ls : List (Pos × InfixSign × r.Ex)) → Under ls → along g (worth a w) ((p, sg, e) ∷ ls) w ≡ under g (worth (m.chained a (r.Link p sg e (links_of ls))) w)
  under_sign sign.Iff g a p e ls h = h g (s.Binary s.Iff a (m.ex_of e))
  under_sign sign.Implies g a p e ls h =
      h (and_premise g (worth a w)) (m.ex_of e) ∙ one_more g (worth a w) (worth (m.chained (m.ex_of e) (links_of ls)) w)
  under_sign sign.Explies g a p e ls h = h g (s.Binary s.Implies (m.ex_of e) a)
  under_sign sign.And g a p e ls h = h g (s.Binary s.And a (m.ex_of e))
  under_sign sign.Or g a p e ls h = h g (s.Binary s.Or a (m.ex_of e))
  under_sign sign.Equal g a p e ls h = h g (s.Binary s.Equal a (m.ex_of e))
  under_sign sign.Unequal g a p e ls h = h g (s.Binary s.Unequal a (m.ex_of e))
  under_sign sign.Less g a p e ls h = h g (s.Binary s.Less a (m.ex_of e))
  under_sign sign.AtMost g a p e ls h = h g (s.Binary s.AtMost a (m.ex_of e))
  under_sign sign.Greater g a p e ls h = h g (s.Binary s.Greater a (m.ex_of e))
  under_sign sign.AtLeast g a p e ls h = h g (s.Binary s.AtLeast a (m.ex_of e))
  under_sign sign.Plus g a p e ls h = h g (s.Binary s.Plus a (m.ex_of e))
  under_sign sign.Minus g a p e ls h = h g (s.Binary s.Minus a (m.ex_of e))
  under_sign sign.Times g a p e ls h = h g (s.Binary s.Times a (m.ex_of e))

  pub along_is : (ls : List (Pos × InfixSign × r.Ex)) → Under ls
  along_is [] g a = refl
  along_is (l ∷ ls) g a = under_sign l.1 g a l.0 l.2 ls (along_is ls)

  before : (g : PrefixSign) (a : WorthOf) (e : s.Ex) → a ≡ worth e w → prefixed g a ≡ worth (m.prefix_of g e) w
  before prefix.Not a e h = ap (λ (x : WorthOf). and_then x not_on) h
  before prefix.Minus a e h = ap (λ (x : WorthOf). and_then x minus_on) h

  prefix_is : (xs : List TreePrefix) (e : s.Ex) → signed xs (worth e w) ≡ worth (m.signed xs e) w
  prefix_is [] e = refl
  prefix_is (x ∷ xs) e = before x.sign (signed xs (worth e w)) (m.signed xs e) (prefix_is xs e)

-- the innermost sign first
pub innermost : (xs : List TreePrefix) (x : TreePrefix) (a : WorthOf) → signed (xs ++ x ∷ []) a ≡ signed xs (prefixed x.sign a)
innermost [] x a = refl
innermost (y ∷ xs) x a = ap (prefixed y.sign) (innermost xs x a)

-- the value of the code's expression
abbrev pub worth_of : Expr → Seen → WorthOf
worth_of e w = worth (m.ex_of (view.ex_of e)) w

pub apply_expr : (p : Pos) (f : ℕ) (es : Vec Expr Global) (w : Seen) → worth_of (expr.Apply p f es) w ≡ and_then_all (worths (m.exs_of (exs_in es.items)) w) (λ xs. Is (look_up (slice_get w.tables f) xs))
apply_expr p f es w = ap (λ x. worth (m.ex_of x) w) (ex_of-Apply p f es)

pub chain_expr : (e : Box Expr Global) (ls : Vec Link Global) (w : Seen) → worth_of (expr.Chain e ls) w ≡ along None (worth_of e.value w) (map link_view ls.items) w
chain_expr e ls w =
    ap (λ x. worth (m.ex_of x) w) (ex_of-Chain e ls) ∙ sym (along_is w (map link_view ls.items) None (m.ex_of (view.ex_of e.value)))

pub prefix_expr : (signs : Vec TreePrefix Global) (e : Box Expr Global) (w : Seen) → worth_of (expr.Prefix signs e) w ≡ signed signs.items (worth_of e.value w)
prefix_expr signs e w = sym (prefix_is w signs.items (m.ex_of (view.ex_of e.value)))

by_part : (w : Seen) (p : Pos) (es : r.Exs) (o : Option r.Ex) (bs : List view.Behind) (e : s.Ex) → ((x : s.Ex) → worth (m.behind x (brackets_of bs)) w ≡ behind (worth x w) bs w) → worth (m.behind e (behind_parts p es o (brackets_of bs))) w ≡ behind (bracketed (worth e w) es o w) bs w
by_part w p es None bs e h = h (s.Select e (m.exs_of es))
by_part w p es (Some x) bs e h = h (s.Update e (m.exs_of es) (m.ex_of x))

postfix_is : (w : Seen) (bs : List view.Behind) (e : s.Ex) → worth (m.behind e (brackets_of bs)) w ≡ behind (worth e w) bs w
postfix_is w [] e = refl
postfix_is w (b ∷ bs) e = by_part w b.0 b.1 b.2 bs e (postfix_is w bs)

pub postfix_expr : (e : Box Expr Global) (bs : Vec Bracket Global) (w : Seen) → worth_of (expr.Postfix e bs) w ≡ behind (worth_of e.value w) (map bracket_view bs.items) w
postfix_expr e bs w =
    ap (λ x. worth (m.ex_of x) w) (ex_of-Postfix e bs) ∙ postfix_is w (map bracket_view bs.items) (m.ex_of (view.ex_of e.value))

-- one more bracket
pub bracket_step : (bs : List Bracket) (i : ℕ) (b : Bracket) (w : Seen) (a a' whole : WorthOf) → i < length bs → b ≡ get_or bs i b → a' ≡ (let v = bracket_view b in bracketed a v.1 v.2 w) → behind a (map bracket_view (drop i bs)) w ≡ whole → behind a' (map bracket_view (drop (i + 1) bs)) w ≡ whole
bracket_step bs i b w a a' whole h at ae known =
    let d : drop i bs ≡ b ∷ drop (i + 1) bs = rw (add-one, drop-cons bs i b h) (ap (λ x. x ∷ drop (suc i) bs) (sym at)) in
    rw ae (rw d at known)

-- no bracket is left
pub bracket_end : (bs : List Bracket) (i : ℕ) (w : Seen) (a whole : WorthOf) → length bs ≤ i → behind a (map bracket_view (drop i bs)) w ≡ whole → a ≡ whole
bracket_end bs i w a whole h known = rw (drop_all i bs h) at known

-- a bracket's parts, as the code has them
pub select_bracket : (p : Pos) (es : Vec Expr Global) (a : WorthOf) (w : Seen) → (let v = bracket_view (bracket.Select p es) in bracketed a v.1 v.2 w) ≡ selected a (worths (m.exs_of (exs_in es.items)) w)
select_bracket p es a w = ap (λ (v : view.Behind). bracketed a v.1 v.2 w) (bracket_view-Select p es)

pub update_bracket : (p : Pos) (es : Vec Expr Global) (e : Expr) (a : WorthOf) (w : Seen) → (let v = bracket_view (bracket.Update p es e) in bracketed a v.1 v.2 w) ≡ updated a (worths (m.exs_of (exs_in es.items)) w) (worth_of e w)
update_bracket p es e a w = ap (λ (v : view.Behind). bracketed a v.1 v.2 w) (bracket_view-Update p es e)

-- one more link of a chain
pub link_step : (ls : List Link) (i : ℕ) (l : Link) (w : Seen) (premise premise' : Option WorthOf) (a a' b whole : WorthOf) → i < length ls → l ≡ get_or ls i l → b ≡ worth_of l.operand w → premise' ≡ premise_after l.sign premise a → a' ≡ operand_after l.sign a b → along premise a (map link_view (drop i ls)) w ≡ whole → along premise' a' (map link_view (drop (i + 1) ls)) w ≡ whole
link_step ls i l w premise premise' a a' b whole h at be pe ae known =
    let d : drop i ls ≡ l ∷ drop (i + 1) ls = rw (add-one, drop-cons ls i l h) (ap (λ x. x ∷ drop (suc i) ls) (sym at)) in
    rw (pe, ae, be) (rw d at known)

-- no link is left
pub link_end : (ls : List Link) (i : ℕ) (w : Seen) (premise : Option WorthOf) (a whole : WorthOf) → length ls ≤ i → along premise a (map link_view (drop i ls)) w ≡ whole → under premise a ≡ whole
link_end ls i w premise a whole h known = rw (drop_all i ls h) at known
