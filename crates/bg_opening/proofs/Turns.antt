-- Passes over an expression, one after the other.
use Rattle.std.proofs.Common.{◌≡◌, ◌<◌, ◌≤◌, ℕ, zero, suc, ◌+◌, ◌-◌, List, [], refl, sym, ap, ◌∙◌, arith}
use Rattle.bg_base.specs.declared.pos.Pos.{Pos}
use Rattle.bg_text.specs.declared.expr.InfixSign.{InfixSign}
use Rattle.bg_ast.specs.Resolved as r
use Rattle.bg_opened.specs.Changed.{changed, all_changed, brackets_changed, links_changed, copying, opening, opened_within}

pub same_more : (a b : r.Ex) (es fs : r.Exs) → a ≡ b → es ≡ fs → r.More a es ≡ r.More b fs
same_more a b es fs h k = rw (h, k) refl

pub same_update : (p : Pos) (es fs : r.Exs) (a b : r.Ex) (bs cs : r.Brackets) → es ≡ fs → a ≡ b → bs ≡ cs → r.Update p es a bs ≡ r.Update p fs b cs
same_update p es fs a b bs cs h k l = rw (h, k, l) refl

pub same_select : (p : Pos) (es fs : r.Exs) (bs cs : r.Brackets) → es ≡ fs → bs ≡ cs → r.Select p es bs ≡ r.Select p fs cs
same_select p es fs bs cs h k = rw (h, k) refl

pub same_postfix : (a b : r.Ex) (bs cs : r.Brackets) → a ≡ b → bs ≡ cs → r.Postfix a bs ≡ r.Postfix b cs
same_postfix a b bs cs h k = rw (h, k) refl

pub same_chain : (a b : r.Ex) (ls ms : r.Links) → a ≡ b → ls ≡ ms → r.Chain a ls ≡ r.Chain b ms
same_chain a b ls ms h k = rw (h, k) refl

pub same_link : (p : Pos) (sign : InfixSign) (a b : r.Ex) (ls ms : r.Links) → a ≡ b → ls ≡ ms → r.Link p sign a ls ≡ r.Link p sign b ms
same_link p sign a b ls ms h k = rw (h, k) refl

mutual
  -- a copy is the same
  pub copied : (e : r.Ex) → changed copying e ≡ e
  copied (r.Number p z) = refl
  copied (r.Truth p b) = refl
  copied (r.Constant p k) = refl
  copied (r.Read p x) = refl
  copied (r.Apply p f es) = ap (r.Apply p f) (all_copied es)
  copied (r.Old p e) = ap (r.Old p) (copied e)
  copied (r.Parens p e) = ap (r.Parens p) (copied e)
  copied (r.Prefix signs e) = ap (r.Prefix signs) (copied e)
  copied (r.Postfix e bs) = same_postfix _ _ _ _ (copied e) (brackets_copied bs)
  copied (r.Chain e ls) = same_chain _ _ _ _ (copied e) (links_copied ls)

  all_copied : (es : r.Exs) → all_changed copying es ≡ es
  all_copied r.NoMore = refl
  all_copied (r.More e es) = same_more _ _ _ _ (copied e) (all_copied es)

  brackets_copied : (bs : r.Brackets) → brackets_changed copying bs ≡ bs
  brackets_copied r.NoBracket = refl
  brackets_copied (r.Select p es bs) = same_select p _ _ _ _ (all_copied es) (brackets_copied bs)
  brackets_copied (r.Update p es e bs) = same_update p _ _ _ _ _ _ (all_copied es) (copied e) (brackets_copied bs)

  links_copied : (ls : r.Links) → links_changed copying ls ≡ ls
  links_copied r.NoLink = refl
  links_copied (r.Link p sign e ls) = same_link p sign _ _ _ _ (copied e) (links_copied ls)

-- one more pass, where so many are left
pub next_pass : (depth i g : ℕ) (fs : List r.Fun) (e next : r.Ex) (whole : r.Ex) → i < depth → next ≡ changed (opening g fs) e → opened_within (depth - i) g fs e ≡ whole → opened_within (depth - (i + 1)) g fs next ≡ whole
next_pass depth i g fs e next whole lt is h =
    let n : depth - i ≡ suc (depth - (i + 1)) = omega arith in
    ap (opened_within (depth - (i + 1)) g fs) is ∙ (ap (λ k. opened_within k g fs e) (sym n) ∙ h)

-- where none is left
pub last_pass : (depth i g : ℕ) (fs : List r.Fun) (e last whole : r.Ex) → depth ≤ i → last ≡ changed (opening g []) e → opened_within (depth - i) g fs e ≡ whole → last ≡ whole
last_pass depth i g fs e last whole le is h =
    let n : depth - i ≡ zero = omega arith in
    is ∙ (ap (λ k. opened_within k g fs e) (sym n) ∙ h)
