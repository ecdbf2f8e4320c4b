-- The forms of chains and of rows of signs.
use Rattle.std.proofs.Common.{◌≡◌, ◌<◌, ◌+◌, ℕ, suc, Bool, true, false, List, [], ◌∷◌, ◌++◌, length, map, drop, get_or, Option, Some, None, refl, sym, ap, ◌∙◌, arith, drop-cons, Vec, Box, Global}
use Rattle.std.specs.Prelude.{if◌then◌else◌, Result, Ok}
use Rattle.bg_base.specs.declared.pos.Pos.{Pos}
use Rattle.bg_base.specs.declared.exact.OutOfRange.{OutOfRange}
use Rattle.bg_text.specs.declared.expr.InfixSign.TheVariants as op
use Rattle.bg_text.specs.declared.expr.PrefixSign.{PrefixSign}
use Rattle.bg_text.specs.declared.expr.PrefixSign.TheVariants as prefix
use Rattle.bg_text.specs.declared.expr.TreePrefix.{TreePrefix}
use Rattle.bg_ast.specs.declared.resolved.Expr.{Expr}
use Rattle.bg_ast.specs.declared.resolved.Expr.TheVariants as expr
use Rattle.bg_ast.specs.declared.resolved.Link.{Link}
use Rattle.bg_ast.specs.declared.resolved.Bracket.{Bracket}
use Rattle.bg_ast.specs.Syntax as s
use Rattle.bg_ast.specs.Meaning as m
use Rattle.bg_ast.specs.Resolved as r
use Rattle.bg_ast.specs.Views as u
use Rattle.bg_ast.proofs.Lists as z
use Rattle.bg_rows.specs.Rows.{and_then}
use Rattle.bg_linear.specs.Lins.{LinOf, negative}
use Rattle.bg_linear.specs.Forms.{nothing, linear}
use Rattle.bg_linear.specs.Chains.{sign_form, is_implies, chain_forms, prefix_form, signed_form}

pub chain_is : (ls : r.Links) (a : s.Ex) → linear (m.chained a ls) ≡ chain_forms (linear a) ls
chain_is r.NoLink a = refl
chain_is (r.Link p op.Implies e ls) a = refl
chain_is (r.Link p op.Iff e ls) a = chain_is ls (m.infix_of op.Iff a (m.ex_of e))
chain_is (r.Link p op.Explies e ls) a = chain_is ls (m.infix_of op.Explies a (m.ex_of e))
chain_is (r.Link p op.And e ls) a = chain_is ls (m.infix_of op.And a (m.ex_of e))
chain_is (r.Link p op.Or e ls) a = chain_is ls (m.infix_of op.Or a (m.ex_of e))
chain_is (r.Link p op.Equal e ls) a = chain_is ls (m.infix_of op.Equal a (m.ex_of e))
chain_is (r.Link p op.Unequal e ls) a = chain_is ls (m.infix_of op.Unequal a (m.ex_of e))
chain_is (r.Link p op.Less e ls) a = chain_is ls (m.infix_of op.Less a (m.ex_of e))
chain_is (r.Link p op.AtMost e ls) a = chain_is ls (m.infix_of op.AtMost a (m.ex_of e))
chain_is (r.Link p op.Greater e ls) a = chain_is ls (m.infix_of op.Greater a (m.ex_of e))
chain_is (r.Link p op.AtLeast e ls) a = chain_is ls (m.infix_of op.AtLeast a (m.ex_of e))
chain_is (r.Link p op.Plus e ls) a = chain_is ls (m.infix_of op.Plus a (m.ex_of e))
chain_is (r.Link p op.Minus e ls) a = chain_is ls (m.infix_of op.Minus a (m.ex_of e))
chain_is (r.Link p op.Times e ls) a = chain_is ls (m.infix_of op.Times a (m.ex_of e))

prefix_is : (sign : PrefixSign) (a : s.Ex) (f : Result LinOf OutOfRange) → linear a ≡ f → linear (m.prefix_of sign a) ≡ prefix_form sign f
prefix_is prefix.Not a f h = refl
prefix_is prefix.Minus a f h = ap (λ r. and_then r (λ g. negative g)) h

signed_is : (xs : List TreePrefix) (e : s.Ex) → linear (m.signed xs e) ≡ signed_form xs (linear e)
signed_is [] e = refl
signed_is (x ∷ xs) e = prefix_is x.sign (m.signed xs e) (signed_form xs (linear e)) (signed_is xs e)

-- brackets leave no form
brackets_bare : (bs : r.Brackets) (e : s.Ex) → linear e ≡ Ok nothing → linear (m.behind e bs) ≡ Ok nothing
brackets_bare r.NoBracket e h = h
brackets_bare (r.Select p es bs) e h = brackets_bare bs (s.Select e (m.exs_of es)) refl
brackets_bare (r.Update p es v bs) e h = brackets_bare bs (s.Update e (m.exs_of es) (m.ex_of v)) refl

brackets_by : (w : Pos × r.Exs × Option r.Ex) (bs : r.Brackets) (e : s.Ex) → linear (m.behind e (u.behind_parts w.0 w.1 w.2 bs)) ≡ Ok nothing
brackets_by (p, es, None) bs e = brackets_bare bs (s.Select e (m.exs_of es)) refl
brackets_by (p, es, Some v) bs e = brackets_bare bs (s.Update e (m.exs_of es) (m.ex_of v)) refl

some_brackets : (bs : List Bracket) (e : s.Ex) → 0 < length bs → linear (m.behind e (u.brackets_of (map u.bracket_view bs))) ≡ Ok nothing
some_brackets [] e h = absurd (omega (arith, h))
some_brackets (b ∷ bs) e h = brackets_by (u.bracket_view b) (u.brackets_of (map u.bracket_view bs)) e

no_brackets : (bs : List Bracket) (e : s.Ex) → length bs ≡ 0 → linear (m.behind e (u.brackets_of (map u.bracket_view bs))) ≡ linear e
no_brackets [] e h = refl
no_brackets (b ∷ bs) e h = absurd (omega (arith, h))

-- how the code meets them
pub linear_chain : (e : Box Expr Global) (ls : Vec Link Global) → linear (m.ex_of (u.ex_of (expr.Chain e ls))) ≡ chain_forms (linear (m.ex_of (u.ex_of e.value))) (u.links_of (map u.link_view ls.items))
linear_chain e ls =
    ap (λ x. linear (m.ex_of x)) (z.ex_of-Chain e ls)
    ∙ chain_is (u.links_of (map u.link_view ls.items)) (m.ex_of (u.ex_of e.value))

pub linear_none : (e : Box Expr Global) (bs : Vec Bracket Global) → 0 < length bs.items → linear (m.ex_of (u.ex_of (expr.Postfix e bs))) ≡ Ok nothing
linear_none e bs h =
    ap (λ x. linear (m.ex_of x)) (z.ex_of-Postfix e bs)
    ∙ some_brackets bs.items (m.ex_of (u.ex_of e.value)) h

pub linear_bare : (e : Box Expr Global) (bs : Vec Bracket Global) → length bs.items ≡ 0 → linear (m.ex_of (u.ex_of (expr.Postfix e bs))) ≡ linear (m.ex_of (u.ex_of e.value))
linear_bare e bs h =
    ap (λ x. linear (m.ex_of x)) (z.ex_of-Postfix e bs)
    ∙ no_brackets bs.items (m.ex_of (u.ex_of e.value)) h

pub linear_prefix : (xs : Vec TreePrefix Global) (e : Box Expr Global) → linear (m.ex_of (u.ex_of (expr.Prefix xs e))) ≡ signed_form xs.items (linear (m.ex_of (u.ex_of e.value)))
linear_prefix xs e = signed_is xs.items (m.ex_of (u.ex_of e.value))

pub drop_item : (links : List Link) (i : ℕ) (l : Link) → i < length links → l ≡ get_or links i l → drop i links ≡ l ∷ drop (i + 1) links
drop_item links i l lt is =
    let next : suc i ≡ i + 1 = omega arith in
    drop-cons links i l lt
    ∙ ap (λ j. get_or links i l ∷ drop j links) next
    ∙ ap (λ x. x ∷ drop (i + 1) links) (sym is)

one_false : {A : Type 0} (b : Bool) (f g : A) → b ≡ false → (if b then f else g) ≡ g
one_false true f g e = absurd (let bad : ⊥ = cc in bad)
one_false false f g e = refl

one_true : {A : Type 0} (b : Bool) (f g : A) → b ≡ true → (if b then f else g) ≡ f
one_true true f g e = refl
one_true false f g e = absurd (let bad : ⊥ = cc in bad)

-- one more operand
pub chain_step : (links : List Link) (i : ℕ) (l : Link) (made new goal g : Result LinOf OutOfRange) → i < length links → l ≡ get_or links i l → is_implies l.sign ≡ false → g ≡ linear (m.ex_of (u.ex_of l.operand)) → new ≡ sign_form l.sign made g → chain_forms made (u.links_of (map u.link_view (drop i links))) ≡ goal → chain_forms new (u.links_of (map u.link_view (drop (i + 1) links))) ≡ goal
chain_step links i l made new goal g lt is other formed step inv =
    let rest = u.links_of (map u.link_view (drop (i + 1) links)) in
    ap (λ x. chain_forms x rest) (step ∙ ap (sign_form l.sign made) formed)
    ∙ sym (one_false (is_implies l.sign) (Ok nothing) (chain_forms (sign_form l.sign made (linear (m.ex_of (u.ex_of l.operand)))) rest) other)
    ∙ ap (λ d. chain_forms made (u.links_of (map u.link_view d))) (sym (drop_item links i l lt is))
    ∙ inv

-- an implication is no number
pub chain_stop : (links : List Link) (i : ℕ) (l : Link) (made goal : Result LinOf OutOfRange) → i < length links → l ≡ get_or links i l → is_implies l.sign ≡ true → chain_forms made (u.links_of (map u.link_view (drop i links))) ≡ goal → Ok nothing ≡ goal
chain_stop links i l made goal lt is implies inv =
    let rest = u.links_of (map u.link_view (drop (i + 1) links)) in
    sym (one_true (is_implies l.sign) (Ok nothing) (chain_forms (sign_form l.sign made (linear (m.ex_of (u.ex_of l.operand)))) rest) implies)
    ∙ ap (λ d. chain_forms made (u.links_of (map u.link_view d))) (sym (drop_item links i l lt is))
    ∙ inv

pub chain_at : (f g : Result LinOf OutOfRange) (ls ms : List Link) → f ≡ g → ls ≡ ms → chain_forms f (u.links_of (map u.link_view ls)) ≡ chain_forms g (u.links_of (map u.link_view ms))
chain_at f g ls ms h k = rw (h, k) refl

-- the last one of a row of signs is the innermost
pub signed_last : (xs : List TreePrefix) (x : TreePrefix) (f : Result LinOf OutOfRange) → signed_form (xs ++ x ∷ []) f ≡ signed_form xs (prefix_form x.sign f)
signed_last [] x f = refl
signed_last (y ∷ xs) x f = ap (prefix_form y.sign) (signed_last xs x f)

pub ruleset chain_rules = (linear_chain, linear_none, linear_bare, linear_prefix)
