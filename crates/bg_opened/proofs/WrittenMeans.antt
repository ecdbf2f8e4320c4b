-- To change an expression as it is written means to change what it means.
use Rattle.std.proofs.Common.{◌≡◌, ℕ, List, [], ◌∷◌, refl, ap, ◌∙◌}
use Rattle.bg_base.specs.declared.pos.Pos.{Pos}
use Rattle.bg_text.specs.declared.expr.InfixSign.{InfixSign}
use Rattle.bg_text.specs.declared.expr.InfixSign.TheVariants as op
use Rattle.bg_text.specs.declared.expr.PrefixSign.{PrefixSign}
use Rattle.bg_text.specs.declared.expr.PrefixSign.TheVariants as prefix
use Rattle.bg_text.specs.declared.expr.TreePrefix.{TreePrefix}
use Rattle.bg_ast.specs.Syntax as s
use Rattle.bg_ast.specs.Resolved as r
use Rattle.bg_ast.specs.Meaning.{ex_of, exs_of, behind, chained, infix_of, prefix_of, signed}
use Rattle.bg_opened.specs.Changed.{Handlers, changed, all_changed, brackets_changed, links_changed}

-- what is done to an expression goes through each form of it, and meets what is written in the place of constants, variables and
-- applications
pub record Goes (h : Handlers) (E : s.Ex → s.Ex) (Es : s.Exs → s.Exs) : Type 0 where
  pub number : (z : Rattle.std.specs.Prelude.ℤ) → s.Number z ≡ E (s.Number z)
  pub fact : (b : Rattle.std.specs.Prelude.Bool) → s.Fact b ≡ E (s.Fact b)
  pub not_ : (e : s.Ex) → s.Not (E e) ≡ E (s.Not e)
  pub negative : (e : s.Ex) → s.Negative (E e) ≡ E (s.Negative e)
  pub binary : (o : s.Op) (a b : s.Ex) → s.Binary o (E a) (E b) ≡ E (s.Binary o a b)
  pub select : (m : s.Ex) (es : s.Exs) → s.Select (E m) (Es es) ≡ E (s.Select m es)
  pub update : (m : s.Ex) (es : s.Exs) (e : s.Ex) → s.Update (E m) (Es es) (E e) ≡ E (s.Update m es e)
  pub old : (e : s.Ex) → s.Old (E e) ≡ E (s.Old e)
  pub none : s.NoMore ≡ Es s.NoMore
  pub more : (e : s.Ex) (es : s.Exs) → s.More (E e) (Es es) ≡ Es (s.More e es)
  pub constant : (p : Pos) (k : ℕ) → ex_of (h.constant p k) ≡ E (s.Constant k)
  pub read : (p : Pos) (x : s.Var) → ex_of (h.read p x) ≡ E (s.Read x)
  pub apply : (p : Pos) (f : ℕ) (es : r.Exs) (xs : s.Exs) → exs_of es ≡ Es xs → ex_of (h.apply p f es) ≡ E (s.Apply f xs)

module _ (h : Handlers) (E : s.Ex → s.Ex) (Es : s.Exs → s.Exs) (go : Goes h E Es) where
  sign_changed : (x : PrefixSign) (e : s.Ex) → prefix_of x (E e) ≡ E (prefix_of x e)
  sign_changed prefix.Not e = go.not_ e
  sign_changed prefix.Minus e = go.negative e

  signs_changed : (xs : List TreePrefix) (e : s.Ex) → signed xs (E e) ≡ E (signed xs e)
  signs_changed [] e = refl
  signs_changed (x ∷ xs) e = ap (prefix_of x.sign) (signs_changed xs e) ∙ sign_changed x.sign (signed xs e)

  infix_changed : (sign : InfixSign) (a b : s.Ex) → infix_of sign (E a) (E b) ≡ E (infix_of sign a b)
  infix_changed op.Iff a b = go.binary s.Iff a b
  infix_changed op.Implies a b = go.binary s.Implies a b
  infix_changed op.Explies a b = go.binary s.Implies b a
  infix_changed op.And a b = go.binary s.And a b
  infix_changed op.Or a b = go.binary s.Or a b
  infix_changed op.Equal a b = go.binary s.Equal a b
  infix_changed op.Unequal a b = go.binary s.Unequal a b
  infix_changed op.Less a b = go.binary s.Less a b
  infix_changed op.AtMost a b = go.binary s.AtMost a b
  infix_changed op.Greater a b = go.binary s.Greater a b
  infix_changed op.AtLeast a b = go.binary s.AtLeast a b
  infix_changed op.Plus a b = go.binary s.Plus a b
  infix_changed op.Minus a b = go.binary s.Minus a b
  infix_changed op.Times a b = go.binary s.Times a b

  -- one more sign of a chain but `==>`, where what stands behind the operand is changed
  turned : (sign : InfixSign) (e : r.Ex) (ls : r.Links) → ex_of (changed h e) ≡ E (ex_of e) → ((a : s.Ex) → chained (E a) (links_changed h ls) ≡ E (chained a ls)) → (a : s.Ex) → chained (infix_of sign (E a) (ex_of (changed h e))) (links_changed h ls) ≡ E (chained (infix_of sign a (ex_of e)) ls)
  turned sign e ls is on a =
      ap (λ x. chained (infix_of sign (E a) x) (links_changed h ls)) is
      ∙ ap (λ x. chained x (links_changed h ls)) (infix_changed sign a (ex_of e))
      ∙ on (infix_of sign a (ex_of e))

  linked : (sign : InfixSign) (p : Pos) (e : r.Ex) (ls : r.Links) → ex_of (changed h e) ≡ E (ex_of e) → ((a : s.Ex) → chained (E a) (links_changed h ls) ≡ E (chained a ls)) → (a : s.Ex) → chained (E a) (r.Link p sign (changed h e) (links_changed h ls)) ≡ E (chained a (r.Link p sign e ls))
  linked op.Implies p e ls is on a =
      ap (λ x. s.Binary s.Implies (E a) (chained x (links_changed h ls))) is
      ∙ ap (s.Binary s.Implies (E a)) (on (ex_of e))
      ∙ go.binary s.Implies a (chained (ex_of e) ls)
  linked op.Iff p e ls is on a = turned op.Iff e ls is on a
  linked op.Explies p e ls is on a = turned op.Explies e ls is on a
  linked op.And p e ls is on a = turned op.And e ls is on a
  linked op.Or p e ls is on a = turned op.Or e ls is on a
  linked op.Equal p e ls is on a = turned op.Equal e ls is on a
  linked op.Unequal p e ls is on a = turned op.Unequal e ls is on a
  linked op.Less p e ls is on a = turned op.Less e ls is on a
  linked op.AtMost p e ls is on a = turned op.AtMost e ls is on a
  linked op.Greater p e ls is on a = turned op.Greater e ls is on a
  linked op.AtLeast p e ls is on a = turned op.AtLeast e ls is on a
  linked op.Plus p e ls is on a = turned op.Plus e ls is on a
  linked op.Minus p e ls is on a = turned op.Minus e ls is on a
  linked op.Times p e ls is on a = turned op.Times e ls is on a

  same_update : (m : s.Ex) (es es' : s.Exs) (e e' : s.Ex) → es ≡ es' → e ≡ e' → s.Update m es e ≡ s.Update m es' e'
  same_update m es es' e e' a b = rw (a, b) refl

  same_more : (e e' : s.Ex) (es es' : s.Exs) → e ≡ e' → es ≡ es' → s.More e es ≡ s.More e' es'
  same_more e e' es es' a b = rw (a, b) refl

  mutual
    pub means : (e : r.Ex) → ex_of (changed h e) ≡ E (ex_of e)
    means (r.Number p z) = go.number z
    means (r.Truth p b) = go.fact b
    means (r.Constant p k) = go.constant p k
    means (r.Read p x) = go.read p x
    means (r.Apply p f es) = go.apply p f (all_changed h es) (exs_of es) (all_mean es)
    means (r.Old p e) = ap s.Old (means e) ∙ go.old (ex_of e)
    means (r.Parens p e) = means e
    means (r.Prefix signs e) = ap (signed signs) (means e) ∙ signs_changed signs (ex_of e)
    means (r.Postfix e bs) = ap (λ m. behind m (brackets_changed h bs)) (means e) ∙ behind_changed bs (ex_of e)
    means (r.Chain e ls) = ap (λ a. chained a (links_changed h ls)) (means e) ∙ chain_changed ls (ex_of e)

    pub all_mean : (es : r.Exs) → exs_of (all_changed h es) ≡ Es (exs_of es)
    all_mean r.NoMore = go.none
    all_mean (r.More e es) = same_more _ _ _ _ (means e) (all_mean es) ∙ go.more (ex_of e) (exs_of es)

    behind_changed : (bs : r.Brackets) (m : s.Ex) → behind (E m) (brackets_changed h bs) ≡ E (behind m bs)
    behind_changed r.NoBracket m = refl
    behind_changed (r.Select p es bs) m =
        ap (λ l. behind (s.Select (E m) l) (brackets_changed h bs)) (all_mean es)
        ∙ ap (λ n. behind n (brackets_changed h bs)) (go.select m (exs_of es))
        ∙ behind_changed bs (s.Select m (exs_of es))
    behind_changed (r.Update p es e bs) m =
        ap (λ n. behind n (brackets_changed h bs)) (same_update (E m) _ _ _ _ (all_mean es) (means e) ∙ go.update m (exs_of es) (ex_of e))
        ∙ behind_changed bs (s.Update m (exs_of es) (ex_of e))

    chain_changed : (ls : r.Links) (a : s.Ex) → chained (E a) (links_changed h ls) ≡ E (chained a ls)
    chain_changed r.NoLink a = refl
    chain_changed (r.Link p sign e ls) a = linked sign p e ls (means e) (chain_changed ls) a
