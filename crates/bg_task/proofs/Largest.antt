-- The largest number that stands as an argument.
use Rattle.std.proofs.Common.{◌≡◌, ℕ, zero, suc, ◌+◌, ◌<◌, ◌≤◌, Bool, true, false, List, [], ◌∷◌, map, length, drop, get_or, ℤ, pos, refl, sym, ap, ◌∙◌, arith, Vec, Box, Global}
use Rattle.std.specs.Prelude.{Option, Some, None}
use Rattle.bg_base.specs.declared.pos.Pos.{Pos}
use Rattle.bg_text.specs.declared.expr.InfixSign.{InfixSign}
use Rattle.bg_text.specs.declared.expr.InfixSign.TheVariants as op
use Rattle.bg_text.specs.declared.expr.PrefixSign.{PrefixSign}
use Rattle.bg_text.specs.declared.expr.PrefixSign.TheVariants as prefix
use Rattle.bg_text.specs.declared.expr.TreePrefix.{TreePrefix}
use Rattle.bg_ast.specs.declared.resolved.Expr.{Expr}
use Rattle.bg_ast.specs.declared.resolved.Expr.TheVariants as expr
use Rattle.bg_ast.specs.declared.resolved.Link.{Link}
use Rattle.bg_ast.specs.declared.resolved.Bracket.{Bracket}
use Rattle.bg_ast.specs.Syntax as s
use Rattle.bg_ast.specs.Syntax.{Ex, Exs, Fun}
use Rattle.bg_ast.specs.Meaning as m
use Rattle.bg_ast.specs.Meaning.{ex_of, prefix_of, infix_of}
use Rattle.bg_ast.specs.Resolved as r
use Rattle.bg_ast.specs.Views as u
use Rattle.bg_ast.proofs.Lists.{ex_of-Postfix}
use Rattle.bg_terms.specs.Terms.{Term}
use Rattle.bg_term_table.specs.declared.table.Term as kept
use Rattle.bg_term_table.specs.Views.{meaning, meanings, listed, operands, signs, prefixes, terms_in}
use Rattle.bg_term_table.specs.Chains.{chain_from, signed_by}
use Rattle.bg_term_table.proofs.Means.{meaning-Chain, meaning-Prefix}
use Rattle.bg_task.specs.Targets.{literal, passed, past, past_all}
use Rattle.bg_task.proofs.Marked.{drop_item, drop_all}

-- ---- what is no number

-- what is no number, with the next sign and operand, where all chains from no number on are none
module _ (ls : List Link) (h : (e : Ex) → literal e ≡ pos 0 → literal (chain_from e (signs ls) (operands ls)) ≡ pos 0) where
  link_is_none : (g : InfixSign) (a e : Ex) → literal (chain_from a (g ∷ signs ls) (e ∷ operands ls)) ≡ pos 0
  link_is_none op.Iff a e = h (infix_of op.Iff a e) refl
  link_is_none op.Implies a e = refl
  link_is_none op.Explies a e = h (infix_of op.Explies a e) refl
  link_is_none op.And a e = h (infix_of op.And a e) refl
  link_is_none op.Or a e = h (infix_of op.Or a e) refl
  link_is_none op.Equal a e = h (infix_of op.Equal a e) refl
  link_is_none op.Unequal a e = h (infix_of op.Unequal a e) refl
  link_is_none op.Less a e = h (infix_of op.Less a e) refl
  link_is_none op.AtMost a e = h (infix_of op.AtMost a e) refl
  link_is_none op.Greater a e = h (infix_of op.Greater a e) refl
  link_is_none op.AtLeast a e = h (infix_of op.AtLeast a e) refl
  link_is_none op.Plus a e = h (infix_of op.Plus a e) refl
  link_is_none op.Minus a e = h (infix_of op.Minus a e) refl
  link_is_none op.Times a e = h (infix_of op.Times a e) refl

-- a chain behind what is no number is none
more_is_none : (ls : List Link) (a : Ex) → literal a ≡ pos 0 → literal (chain_from a (signs ls) (operands ls)) ≡ pos 0
more_is_none [] a h = h
more_is_none (l ∷ ls) a h = link_is_none ls (more_is_none ls) l.sign a (meaning l.operand)

chain_is_none : (ls : List Link) (a : Ex) → 0 < length ls → literal (chain_from a (signs ls) (operands ls)) ≡ pos 0
chain_is_none [] a h = absurd (omega (arith, h))
chain_is_none (l ∷ ls) a h = link_is_none ls (more_is_none ls) l.sign a (meaning l.operand)

bare_chain : (ls : List Link) (a : Ex) → length ls ≡ 0 → chain_from a (signs ls) (operands ls) ≡ a
bare_chain [] a h = refl
bare_chain (l ∷ ls) a h = absurd (omega (arith, h))

signed_is_none : (xs : List TreePrefix) (e : Ex) → 0 < length xs → literal (signed_by (prefixes xs) e) ≡ pos 0
signed_is_none [] e h = absurd (omega (arith, h))
signed_is_none (x ∷ xs) e h = by_sign x.sign
  where
    by_sign : (p : PrefixSign) → literal (prefix_of p (signed_by (prefixes xs) e)) ≡ pos 0
    by_sign prefix.Not = refl
    by_sign prefix.Minus = refl

bare_signs : (xs : List TreePrefix) (e : Ex) → length xs ≡ 0 → signed_by (prefixes xs) e ≡ e
bare_signs [] e h = refl
bare_signs (x ∷ xs) e h = absurd (omega (arith, h))

behind_is_none : (bs : r.Brackets) (e : Ex) → literal e ≡ pos 0 → literal (m.behind e bs) ≡ pos 0
behind_is_none r.NoBracket e h = h
behind_is_none (r.Select p es bs) e h = behind_is_none bs (s.Select e (m.exs_of es)) refl
behind_is_none (r.Update p es v bs) e h = behind_is_none bs (s.Update e (m.exs_of es) (ex_of v)) refl

some_brackets : (w : Pos × r.Exs × Option r.Ex) (bs : r.Brackets) (e : Ex) → literal (m.behind e (u.behind_parts w.0 w.1 w.2 bs)) ≡ pos 0
some_brackets (p, es, None) bs e = behind_is_none bs (s.Select e (m.exs_of es)) refl
some_brackets (p, es, Some v) bs e = behind_is_none bs (s.Update e (m.exs_of es) (ex_of v)) refl

brackets_are_none : (bs : List Bracket) (e : Ex) → 0 < length bs → literal (m.behind e (u.brackets_of (map u.bracket_view bs))) ≡ pos 0
brackets_are_none [] e h = absurd (omega (arith, h))
brackets_are_none (b ∷ bs) e h = some_brackets (u.bracket_view b) (u.brackets_of (map u.bracket_view bs)) e

no_brackets : (bs : List Bracket) (e : Ex) → length bs ≡ 0 → m.behind e (u.brackets_of (map u.bracket_view bs)) ≡ e
no_brackets [] e h = refl
no_brackets (b ∷ bs) e h = absurd (omega (arith, h))

-- ---- by forms

pub bare_prefix : (xs : Vec TreePrefix Global) (e : Box Expr Global) (z : ℤ) → length xs.items ≡ 0 → z ≡ literal (meaning e.value) → z ≡ literal (meaning (expr.Prefix xs e))
bare_prefix xs e z n h = h ∙ sym (ap (λ x. literal x) (meaning-Prefix xs e ∙ bare_signs xs.items (meaning e.value) n))

pub prefix_is_none : (xs : Vec TreePrefix Global) (e : Box Expr Global) → 0 < length xs.items → pos 0 ≡ literal (meaning (expr.Prefix xs e))
prefix_is_none xs e n = sym (ap (λ x. literal x) (meaning-Prefix xs e) ∙ signed_is_none xs.items (meaning e.value) n)

pub bare_postfix : (e : Box Expr Global) (bs : Vec Bracket Global) (z : ℤ) → length bs.items ≡ 0 → z ≡ literal (meaning e.value) → z ≡ literal (meaning (expr.Postfix e bs))
bare_postfix e bs z n h = h ∙ sym (ap (λ x. literal (ex_of x)) (ex_of-Postfix e bs) ∙ ap (λ x. literal x) (no_brackets bs.items (meaning e.value) n))

pub postfix_is_none : (e : Box Expr Global) (bs : Vec Bracket Global) → 0 < length bs.items → pos 0 ≡ literal (meaning (expr.Postfix e bs))
postfix_is_none e bs n = sym (ap (λ x. literal (ex_of x)) (ex_of-Postfix e bs) ∙ brackets_are_none bs.items (meaning e.value) n)

pub bare_links : (e : Box Expr Global) (ls : Vec Link Global) (z : ℤ) → length ls.items ≡ 0 → z ≡ literal (meaning e.value) → z ≡ literal (meaning (expr.Chain e ls))
bare_links e ls z n h = h ∙ sym (ap (λ x. literal x) (meaning-Chain e ls ∙ bare_chain ls.items (meaning e.value) n))

pub links_are_none : (e : Box Expr Global) (ls : Vec Link Global) → 0 < length ls.items → pos 0 ≡ literal (meaning (expr.Chain e ls))
links_are_none e ls n = sym (ap (λ x. literal x) (meaning-Chain e ls) ∙ chain_is_none ls.items (meaning e.value) n)

-- ---- one more argument, and one more term

pub past_next : (es : List Expr) (i : ℕ) (e : Expr) (old new whole : ℤ) → i < length es → e ≡ get_or es i e → new ≡ passed old (literal (meaning e)) → past old (listed (meanings (drop i es))) ≡ whole → past new (listed (meanings (drop (i + 1) es))) ≡ whole
past_next es i e old new whole h is n known =
    ap (λ z. past z (listed (meanings (drop (i + 1) es)))) n
    ∙ ap (λ l. past old (listed (meanings l))) (sym (drop_item es i e h is))
    ∙ known

pub past_last : (es : List Expr) (i : ℕ) (most whole : ℤ) → length es ≤ i → past most (listed (meanings (drop i es))) ≡ whole → most ≡ whole
past_last es i most whole h known = sym (ap (λ l. past most (listed (meanings l))) (drop_all es i h)) ∙ known

pub terms_next : (fs : List Fun) (ts : List kept.Term) (i : ℕ) (t : kept.Term) (old new whole : ℤ) → i < length ts → t ≡ get_or ts i t → new ≡ past old (listed (meanings t.args.items)) → past_all old (terms_in fs (drop i ts)) ≡ whole → past_all new (terms_in fs (drop (i + 1) ts)) ≡ whole
terms_next fs ts i t old new whole h is n known =
    ap (λ z. past_all z (terms_in fs (drop (i + 1) ts))) n
    ∙ ap (λ l. past_all old (terms_in fs l)) (sym (drop_item ts i t h is))
    ∙ known

pub terms_last : (fs : List Fun) (ts : List kept.Term) (i : ℕ) (most whole : ℤ) → length ts ≤ i → past_all most (terms_in fs (drop i ts)) ≡ whole → most ≡ whole
terms_last fs ts i most whole h known = sym (ap (λ l. past_all most (terms_in fs l)) (drop_all ts i h)) ∙ known
