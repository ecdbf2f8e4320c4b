-- The kinds of chains and of rows of signs.
use Rattle.std.proofs.Common.{◌≡◌, ◌<◌, ◌+◌, ℕ, Bool, true, false, List, [], ◌∷◌, ◌++◌, length, map, drop, get_or, Option, Some, None, refl, sym, ap, ◌∙◌, arith, Vec, Box, Global}
use Rattle.std.specs.Prelude.{◌&&◌, if◌then◌else◌}
use Rattle.bg_base.specs.declared.pos.Pos.{Pos}
use Rattle.bg_text.specs.declared.expr.InfixSign.{InfixSign}
use Rattle.bg_text.specs.declared.expr.InfixSign.TheVariants as op
use Rattle.bg_text.specs.declared.expr.PrefixSign.{PrefixSign}
use Rattle.bg_text.specs.declared.expr.PrefixSign.TheVariants as prefix
use Rattle.bg_text.specs.declared.expr.TreePrefix.{TreePrefix}
use Rattle.bg_ast.specs.declared.resolved.Expr.{Expr}
use Rattle.bg_ast.specs.declared.resolved.Expr.TheVariants as expr
use Rattle.bg_ast.specs.declared.resolved.Link.{Link}
use Rattle.bg_ast.specs.declared.resolved.Bracket.{Bracket}
use Rattle.bg_ast.specs.Syntax as s
use Rattle.bg_ast.specs.Meaning as m
use Rattle.bg_ast.specs.Resolved as r
use Rattle.bg_ast.specs.Views as u
use Rattle.bg_ast.proofs.Lists as z
use Rattle.bg_linear.specs.declared.scalar.Sort.{Sort}
use Rattle.bg_linear.specs.declared.scalar.Kind.{Kind}
use Rattle.bg_linear.specs.Chains.{is_implies}
use Rattle.bg_linear.specs.Sorts.{is_truth, truth_if, both_truths, kind_ex}
use Rattle.bg_linear.specs.ChainKinds.{sign_kind, chain_kinds, folded, all_so_far, next_waiting, next_kind, prefix_kind, signed_kind}
use Rattle.bg_linear.proofs.Chained.{drop_item}

module _ (sorts : List Sort) where
  pub chain_is : (ls : r.Links) (a : s.Ex) → kind_ex sorts (m.chained a ls) ≡ chain_kinds sorts (kind_ex sorts a) ls
  chain_is r.NoLink a = refl
  chain_is (r.Link p op.Implies e ls) a = ap (both_truths (kind_ex sorts a)) (chain_is ls (m.ex_of e))
  chain_is (r.Link p op.Iff e ls) a = chain_is ls (m.infix_of op.Iff a (m.ex_of e))
  chain_is (r.Link p op.Explies e ls) a = chain_is ls (m.infix_of op.Explies a (m.ex_of e))
  chain_is (r.Link p op.And e ls) a = chain_is ls (m.infix_of op.And a (m.ex_of e))
  chain_is (r.Link p op.Or e ls) a = chain_is ls (m.infix_of op.Or a (m.ex_of e))
  chain_is (r.Link p op.Equal e ls) a = chain_is ls (m.infix_of op.Equal a (m.ex_of e))
  chain_is (r.Link p op.Unequal e ls) a = chain_is ls (m.infix_of op.Unequal a (m.ex_of e))
  chain_is (r.Link p op.Less e ls) a = chain_is ls (m.infix_of op.Less a (m.ex_of e))
  chain_is (r.Link p op.AtMost e ls) a = chain_is ls (m.infix_of op.AtMost a (m.ex_of e))
  chain_is (r.Link p op.Greater e ls) a = chain_is ls (m.infix_of op.Greater a (m.ex_of e))
  chain_is (r.Link p op.AtLeast e ls) a = chain_is ls (m.infix_of op.AtLeast a (m.ex_of e))
  chain_is (r.Link p op.Plus e ls) a = chain_is ls (m.infix_of op.Plus a (m.ex_of e))
  chain_is (r.Link p op.Minus e ls) a = chain_is ls (m.infix_of op.Minus a (m.ex_of e))
  chain_is (r.Link p op.Times e ls) a = chain_is ls (m.infix_of op.Times a (m.ex_of e))

  prefix_is : (sign : PrefixSign) (a : s.Ex) → kind_ex sorts (m.prefix_of sign a) ≡ prefix_kind sign (kind_ex sorts a)
  prefix_is prefix.Not a = refl
  prefix_is prefix.Minus a = refl

  signed_is : (xs : List TreePrefix) (e : s.Ex) → kind_ex sorts (m.signed xs e) ≡ signed_kind xs (kind_ex sorts e)
  signed_is [] e = refl
  signed_is (x ∷ xs) e = prefix_is x.sign (m.signed xs e) ∙ ap (prefix_kind x.sign) (signed_is xs e)

  -- what has brackets has no kind
  brackets_bare : (bs : r.Brackets) (e : s.Ex) → kind_ex sorts e ≡ None → kind_ex sorts (m.behind e bs) ≡ None
  brackets_bare r.NoBracket e h = h
  brackets_bare (r.Select p es bs) e h = brackets_bare bs (s.Select e (m.exs_of es)) refl
  brackets_bare (r.Update p es v bs) e h = brackets_bare bs (s.Update e (m.exs_of es) (m.ex_of v)) refl

  brackets_by : (w : Pos × r.Exs × Option r.Ex) (bs : r.Brackets) (e : s.Ex) → kind_ex sorts (m.behind e (u.behind_parts w.0 w.1 w.2 bs)) ≡ None
  brackets_by (p, es, None) bs e = brackets_bare bs (s.Select e (m.exs_of es)) refl
  brackets_by (p, es, Some v) bs e = brackets_bare bs (s.Update e (m.exs_of es) (m.ex_of v)) refl

  some_brackets : (bs : List Bracket) (e : s.Ex) → 0 < length bs → kind_ex sorts (m.behind e (u.brackets_of (map u.bracket_view bs))) ≡ None
  some_brackets [] e h = absurd (omega (arith, h))
  some_brackets (b ∷ bs) e h = brackets_by (u.bracket_view b) (u.brackets_of (map u.bracket_view bs)) e

  no_brackets : (bs : List Bracket) (e : s.Ex) → length bs ≡ 0 → kind_ex sorts (m.behind e (u.brackets_of (map u.bracket_view bs))) ≡ kind_ex sorts e
  no_brackets [] e h = refl
  no_brackets (b ∷ bs) e h = absurd (omega (arith, h))

  -- how the code meets them
  pub kind_chain : (e : Box Expr Global) (ls : Vec Link Global) → kind_ex sorts (m.ex_of (u.ex_of (expr.Chain e ls))) ≡ chain_kinds sorts (kind_ex sorts (m.ex_of (u.ex_of e.value))) (u.links_of (map u.link_view ls.items))
  kind_chain e ls =
      ap (λ x. kind_ex sorts (m.ex_of x)) (z.ex_of-Chain e ls)
      ∙ chain_is (u.links_of (map u.link_view ls.items)) (m.ex_of (u.ex_of e.value))

  pub kind_none : (e : Box Expr Global) (bs : Vec Bracket Global) → 0 < length bs.items → kind_ex sorts (m.ex_of (u.ex_of (expr.Postfix e bs))) ≡ None
  kind_none e bs h =
      ap (λ x. kind_ex sorts (m.ex_of x)) (z.ex_of-Postfix e bs)
      ∙ some_brackets bs.items (m.ex_of (u.ex_of e.value)) h

  pub kind_bare : (e : Box Expr Global) (bs : Vec Bracket Global) → length bs.items ≡ 0 → kind_ex sorts (m.ex_of (u.ex_of (expr.Postfix e bs))) ≡ kind_ex sorts (m.ex_of (u.ex_of e.value))
  kind_bare e bs h =
      ap (λ x. kind_ex sorts (m.ex_of x)) (z.ex_of-Postfix e bs)
      ∙ no_brackets bs.items (m.ex_of (u.ex_of e.value)) h

  pub kind_prefix : (xs : Vec TreePrefix Global) (e : Box Expr Global) → kind_ex sorts (m.ex_of (u.ex_of (expr.Prefix xs e))) ≡ signed_kind xs.items (kind_ex sorts (m.ex_of (u.ex_of e.value)))
  kind_prefix xs e = signed_is xs.items (m.ex_of (u.ex_of e.value))

  assoc_truth : (all a b : Bool) → truth_if (all && is_truth (truth_if (a && b))) ≡ truth_if ((all && a) && b)
  assoc_truth true true true = refl
  assoc_truth true true false = refl
  assoc_truth true false b = refl
  assoc_truth false a b = refl

  waits : (w : Option Bool) (a k : Option Kind) → folded (Some (all_so_far w && is_truth a)) k ≡ folded w (both_truths a k)
  waits None a k = refl
  waits (Some all) a k = sym (assoc_truth all (is_truth a) (is_truth k))

  -- one more operand
  one_more : (w : Option Bool) (sign : InfixSign) (a k : Option Kind) (p : Pos) (e : r.Ex) (ls : r.Links) → k ≡ kind_ex sorts (m.ex_of e) → folded (next_waiting sign w a) (chain_kinds sorts (next_kind sign a k) ls) ≡ folded w (chain_kinds sorts a (r.Link p sign e ls))
  one_more w sign a k p e ls h = by_sign (is_implies sign)
    where
      by_sign : (b : Bool) → folded (if b then Some (all_so_far w && is_truth a) else w) (chain_kinds sorts (if b then k else sign_kind sign a k) ls) ≡ folded w (if b then both_truths a (chain_kinds sorts (kind_ex sorts (m.ex_of e)) ls) else chain_kinds sorts (sign_kind sign a (kind_ex sorts (m.ex_of e))) ls)
      by_sign true = waits w a (chain_kinds sorts k ls) ∙ ap (λ x. folded w (both_truths a (chain_kinds sorts x ls))) h
      by_sign false = ap (λ x. folded w (chain_kinds sorts (sign_kind sign a x) ls)) h

  pub chain_step : (links : List Link) (i : ℕ) (l : Link) (w : Option Bool) (a k goal : Option Kind) → i < length links → l ≡ get_or links i l → k ≡ kind_ex sorts (m.ex_of (u.ex_of l.operand)) → folded w (chain_kinds sorts a (u.links_of (map u.link_view (drop i links)))) ≡ goal → folded (next_waiting l.sign w a) (chain_kinds sorts (next_kind l.sign a k) (u.links_of (map u.link_view (drop (i + 1) links)))) ≡ goal
  chain_step links i l w a k goal lt is h inv =
      one_more w l.sign a k l.pos (u.ex_of l.operand) (u.links_of (map u.link_view (drop (i + 1) links))) h
      ∙ ap (λ d. folded w (chain_kinds sorts a (u.links_of (map u.link_view d)))) (sym (drop_item links i l lt is))
      ∙ inv

  pub chain_at : (f g : Option Kind) (ls ms : List Link) → f ≡ g → ls ≡ ms → chain_kinds sorts f (u.links_of (map u.link_view ls)) ≡ chain_kinds sorts g (u.links_of (map u.link_view ms))
  chain_at f g ls ms h k = rw (h, k) refl

-- the last one of a row of signs is the innermost
pub signed_last : (xs : List TreePrefix) (x : TreePrefix) (k : Option Kind) → signed_kind (xs ++ x ∷ []) k ≡ signed_kind xs (prefix_kind x.sign k)
signed_last [] x k = refl
signed_last (y ∷ xs) x k = ap (prefix_kind y.sign) (signed_last xs x k)

pub ruleset kind_rules = (kind_chain, kind_none, kind_bare, kind_prefix, chain_step)
