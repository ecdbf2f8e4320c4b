-- The forms of chains and of rows of signs.
use Rattle.std.proofs.Common.{◌≡◌, ◌<◌, ◌+◌, ℕ, suc, Bool, true, false, List, [], ◌∷◌, ◌++◌, length, map, drop, get_or, Option, Some, None, refl, sym, ap, ◌∙◌, arith, drop-cons, Vec, Box, Global}
use Rattle.std.specs.Prelude.{if◌then◌else◌}
use Rattle.bg_base.specs.declared.pos.Pos.{Pos}
use Rattle.bg_text.specs.declared.expr.InfixSign.{InfixSign}
use Rattle.bg_text.specs.declared.expr.InfixSign.TheVariants as op
use Rattle.bg_text.specs.declared.expr.PrefixSign.{PrefixSign}
use Rattle.bg_text.specs.declared.expr.PrefixSign.TheVariants as prefix
use Rattle.bg_text.specs.declared.expr.TreePrefix.{TreePrefix}
use Rattle.bg_ast.specs.declared.resolved.Expr.{Expr}
use Rattle.bg_ast.specs.declared.resolved.Expr.TheVariants as expr
use Rattle.bg_ast.specs.declared.resolved.Link.{Link}
use Rattle.bg_ast.specs.declared.resolved.Bracket.{Bracket}
use Rattle.bg_ast.specs.Syntax as s
use Rattle.bg_ast.specs.Meaning as m
use Rattle.bg_ast.specs.Resolved as r
use Rattle.bg_ast.specs.Views as u
use Rattle.bg_ast.proofs.Lists as z
use Rattle.bg_forms.specs.declared.form.Form as code
use Rattle.bg_forms.specs.Views.{form_in}
use Rattle.bg_forms.specs.Forms.{Form, Plain, denied, any_of, form_of}
use Rattle.bg_forms.specs.ChainForms.{sign_form, is_implies, chain_forms, chain_one, folded, prefix_form, signed_form}

chain_is : (ls : r.Links) (a : s.Ex) → form_of (m.chained a ls) ≡ chain_forms (form_of a) ls
chain_is r.NoLink a = refl
chain_is (r.Link p op.Implies e ls) a = ap (any_of (denied (form_of a))) (chain_is ls (m.ex_of e))
chain_is (r.Link p op.Iff e ls) a = chain_is ls (m.infix_of op.Iff a (m.ex_of e))
chain_is (r.Link p op.Explies e ls) a = chain_is ls (m.infix_of op.Explies a (m.ex_of e))
chain_is (r.Link p op.And e ls) a = chain_is ls (m.infix_of op.And a (m.ex_of e))
chain_is (r.Link p op.Or e ls) a = chain_is ls (m.infix_of op.Or a (m.ex_of e))
chain_is (r.Link p op.Equal e ls) a = chain_is ls (m.infix_of op.Equal a (m.ex_of e))
chain_is (r.Link p op.Unequal e ls) a = chain_is ls (m.infix_of op.Unequal a (m.ex_of e))
chain_is (r.Link p op.Less e ls) a = chain_is ls (m.infix_of op.Less a (m.ex_of e))
chain_is (r.Link p op.AtMost e ls) a = chain_is ls (m.infix_of op.AtMost a (m.ex_of e))
chain_is (r.Link p op.Greater e ls) a = chain_is ls (m.infix_of op.Greater a (m.ex_of e))
chain_is (r.Link p op.AtLeast e ls) a = chain_is ls (m.infix_of op.AtLeast a (m.ex_of e))
chain_is (r.Link p op.Plus e ls) a = chain_is ls (m.infix_of op.Plus a (m.ex_of e))
chain_is (r.Link p op.Minus e ls) a = chain_is ls (m.infix_of op.Minus a (m.ex_of e))
chain_is (r.Link p op.Times e ls) a = chain_is ls (m.infix_of op.Times a (m.ex_of e))

prefix_is : (sign : PrefixSign) (a : s.Ex) (f : Form) → form_of a ≡ f → form_of (m.prefix_of sign a) ≡ prefix_form sign f
prefix_is prefix.Not a f h = ap denied h
prefix_is prefix.Minus a f h = refl

signed_is : (xs : List TreePrefix) (e : s.Ex) → form_of (m.signed xs e) ≡ signed_form xs (form_of e)
signed_is [] e = refl
signed_is (x ∷ xs) e = prefix_is x.sign (m.signed xs e) (signed_form xs (form_of e)) (signed_is xs e)

-- brackets leave no form
brackets_bare : (bs : r.Brackets) (e : s.Ex) → form_of e ≡ Plain false → form_of (m.behind e bs) ≡ Plain false
brackets_bare r.NoBracket e h = h
brackets_bare (r.Select p es bs) e h = brackets_bare bs (s.Select e (m.exs_of es)) refl
brackets_bare (r.Update p es v bs) e h = brackets_bare bs (s.Update e (m.exs_of es) (m.ex_of v)) refl

brackets_by : (w : Pos × r.Exs × Option r.Ex) (bs : r.Brackets) (e : s.Ex) → form_of (m.behind e (u.behind_parts w.0 w.1 w.2 bs)) ≡ Plain false
brackets_by (p, es, None) bs e = brackets_bare bs (s.Select e (m.exs_of es)) refl
brackets_by (p, es, Some v) bs e = brackets_bare bs (s.Update e (m.exs_of es) (m.ex_of v)) refl

some_brackets : (bs : List Bracket) (e : s.Ex) → 0 < length bs → form_of (m.behind e (u.brackets_of (map u.bracket_view bs))) ≡ Plain false
some_brackets [] e h = absurd (omega (arith, h))
some_brackets (b ∷ bs) e h = brackets_by (u.bracket_view b) (u.brackets_of (map u.bracket_view bs)) e

no_brackets : (bs : List Bracket) (e : s.Ex) → length bs ≡ 0 → form_of (m.behind e (u.brackets_of (map u.bracket_view bs))) ≡ form_of e
no_brackets [] e h = refl
no_brackets (b ∷ bs) e h = absurd (omega (arith, h))

-- how the code meets them
pub form_chain : (e : Box Expr Global) (ls : Vec Link Global) → form_of (m.ex_of (u.ex_of (expr.Chain e ls))) ≡ chain_forms (form_of (m.ex_of (u.ex_of e.value))) (u.links_of (map u.link_view ls.items))
form_chain e ls =
    ap (λ x. form_of (m.ex_of x)) (z.ex_of-Chain e ls)
    ∙ chain_is (u.links_of (map u.link_view ls.items)) (m.ex_of (u.ex_of e.value))

pub form_none : (e : Box Expr Global) (bs : Vec Bracket Global) → 0 < length bs.items → form_of (m.ex_of (u.ex_of (expr.Postfix e bs))) ≡ Plain false
form_none e bs h =
    ap (λ x. form_of (m.ex_of x)) (z.ex_of-Postfix e bs)
    ∙ some_brackets bs.items (m.ex_of (u.ex_of e.value)) h

pub form_bare : (e : Box Expr Global) (bs : Vec Bracket Global) → length bs.items ≡ 0 → form_of (m.ex_of (u.ex_of (expr.Postfix e bs))) ≡ form_of (m.ex_of (u.ex_of e.value))
form_bare e bs h =
    ap (λ x. form_of (m.ex_of x)) (z.ex_of-Postfix e bs)
    ∙ no_brackets bs.items (m.ex_of (u.ex_of e.value)) h

pub form_prefix : (xs : Vec TreePrefix Global) (e : Box Expr Global) → form_of (m.ex_of (u.ex_of (expr.Prefix xs e))) ≡ signed_form xs.items (form_of (m.ex_of (u.ex_of e.value)))
form_prefix xs e = signed_is xs.items (m.ex_of (u.ex_of e.value))

-- one that waits behind others
pub folded_last : (ps : List Form) (p f : Form) → folded (ps ++ p ∷ []) f ≡ folded ps (any_of p f)
folded_last [] p f = refl
folded_last (q ∷ ps) p f = ap (any_of q) (folded_last ps p f)

one_true : (b : Bool) (f g : Form) → b ≡ true → f ≡ (if b then f else g)
one_true true f g e = refl
one_true false f g e = absurd (let bad : ⊥ = cc in bad)

one_false : (b : Bool) (f g : Form) → b ≡ false → g ≡ (if b then f else g)
one_false true f g e = absurd (let bad : ⊥ = cc in bad)
one_false false f g e = refl

-- the last one that waits is the innermost
folded_end : (ps : List code.Form) (p : code.Form) (f : Form) → folded (map form_in (ps ++ p ∷ [])) f ≡ folded (map form_in ps) (any_of (form_in p) f)
folded_end [] p f = refl
folded_end (q ∷ ps) p f = ap (any_of (form_in q)) (folded_end ps p f)

pub close_step : (ps old : List code.Form) (p : code.Form) (f made : Form) → old ≡ ps ++ p ∷ [] → made ≡ any_of (form_in p) f → folded (map form_in ps) made ≡ folded (map form_in old) f
close_step ps old p f made h k = rw (h, k) (sym (folded_end ps p f))

-- what stands before an implication waits
pub waits : (ws more : List code.Form) (p : code.Form) (sign : InfixSign) (f g : Form) → more ≡ ws ++ p ∷ [] → form_in p ≡ denied f → is_implies sign ≡ true → (ls : r.Links) → folded (map form_in more) (chain_forms g ls) ≡ folded (map form_in ws) (chain_one sign f g ls)
waits ws more p sign f g h k i ls =
    ap (λ l. folded (map form_in l) (chain_forms g ls)) h
    ∙ folded_end ws p (chain_forms g ls)
    ∙ ap (λ q. folded (map form_in ws) (any_of q (chain_forms g ls))) k
    ∙ ap (folded (map form_in ws)) (one_true (is_implies sign) (any_of (denied f) (chain_forms g ls)) (chain_forms (sign_form sign f g) ls) i)

pub joins_on : (ws : List code.Form) (sign : InfixSign) (f g x : Form) → x ≡ sign_form sign f g → is_implies sign ≡ false → (ls : r.Links) → folded (map form_in ws) (chain_forms x ls) ≡ folded (map form_in ws) (chain_one sign f g ls)
joins_on ws sign f g x h i ls =
    ap (λ y. folded (map form_in ws) (chain_forms y ls)) h
    ∙ ap (folded (map form_in ws)) (one_false (is_implies sign) (any_of (denied f) (chain_forms g ls)) (chain_forms (sign_form sign f g) ls) i)

drop_item : (links : List Link) (i : ℕ) (l : Link) → i < length links → l ≡ get_or links i l → drop i links ≡ l ∷ drop (i + 1) links
drop_item links i l lt is =
    let next : suc i ≡ i + 1 = omega arith in
    drop-cons links i l lt
    ∙ ap (λ j. get_or links i l ∷ drop j links) next
    ∙ ap (λ x. x ∷ drop (i + 1) links) (sym is)

pub chain_step : (links : List Link) (i : ℕ) (l : Link) (ws more : List code.Form) (made new goal g : Form) → i < length links → l ≡ get_or links i l → g ≡ form_of (m.ex_of (u.ex_of l.operand)) → ((ls : r.Links) → folded (map form_in more) (chain_forms new ls) ≡ folded (map form_in ws) (chain_one l.sign made g ls)) → folded (map form_in ws) (chain_forms made (u.links_of (map u.link_view (drop i links)))) ≡ goal → folded (map form_in more) (chain_forms new (u.links_of (map u.link_view (drop (i + 1) links)))) ≡ goal
chain_step links i l ws more made new goal g lt is formed step inv =
    let rest = u.links_of (map u.link_view (drop (i + 1) links)) in
    step rest
    ∙ ap (λ x. folded (map form_in ws) (chain_one l.sign made x rest)) formed
    ∙ ap (λ d. folded (map form_in ws) (chain_forms made (u.links_of (map u.link_view d)))) (sym (drop_item links i l lt is))
    ∙ inv

pub chain_at : (f g : Form) (ls ms : List Link) → f ≡ g → ls ≡ ms → chain_forms f (u.links_of (map u.link_view ls)) ≡ chain_forms g (u.links_of (map u.link_view ms))
chain_at f g ls ms h k = rw (h, k) refl

-- the last one of a row of signs is the innermost
pub signed_last : (xs : List TreePrefix) (x : TreePrefix) (f : Form) → signed_form (xs ++ x ∷ []) f ≡ signed_form xs (prefix_form x.sign f)
signed_last [] x f = refl
signed_last (y ∷ xs) x f = ap (prefix_form y.sign) (signed_last xs x f)

pub ruleset chain_rules = (form_chain, form_none, form_bare, form_prefix, folded_last)
