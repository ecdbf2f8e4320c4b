-- Renaming an expression as it is written means to rename what it means.
use Rattle.std.proofs.Common.{◌≡◌, ℕ, List, [], ◌∷◌, Option, Some, None, refl, ap, ◌∙◌}
use Rattle.bg_base.specs.declared.pos.Pos.{Pos}
use Rattle.bg_text.specs.declared.expr.InfixSign.{InfixSign}
use Rattle.bg_text.specs.declared.expr.InfixSign.TheVariants as op
use Rattle.bg_text.specs.declared.expr.PrefixSign.{PrefixSign}
use Rattle.bg_text.specs.declared.expr.PrefixSign.TheVariants as prefix
use Rattle.bg_text.specs.declared.expr.TreePrefix.{TreePrefix}
use Rattle.bg_ast.specs.Syntax as s
use Rattle.bg_ast.specs.Resolved as r
use Rattle.bg_ast.specs.Meaning.{ex_of, exs_of, behind, chained, infix_of, prefix_of, signed}
use Rattle.bg_passive.specs.Incarnations.{Env, rename_at, rename, renames, rename_var}
use Rattle.bg_renamed.specs.Renamed.{read_at, read_var, rename_r, renames_r, rename_brackets, rename_links}

read_means : (p : Pos) (o : Option ℕ) → ex_of (read_at p o) ≡ rename_at o
read_means p None = refl
read_means p (Some j) = refl

pub var_means : (p : Pos) (v : Env) (x : s.Var) → ex_of (read_var p v x) ≡ rename_var v x
var_means p v (s.Global x) = read_means p _
var_means p v (s.Local x) = read_means p _

sign_renamed : (x : PrefixSign) (e : s.Ex) (v : Env) → prefix_of x (rename e v) ≡ rename (prefix_of x e) v
sign_renamed prefix.Not e v = refl
sign_renamed prefix.Minus e v = refl

signs_renamed : (xs : List TreePrefix) (e : s.Ex) (v : Env) → signed xs (rename e v) ≡ rename (signed xs e) v
signs_renamed [] e v = refl
signs_renamed (x ∷ xs) e v = ap (prefix_of x.sign) (signs_renamed xs e v) ∙ sign_renamed x.sign (signed xs e) v

infix_renamed : (sign : InfixSign) (a b : s.Ex) (v : Env) → infix_of sign (rename a v) (rename b v) ≡ rename (infix_of sign a b) v
infix_renamed op.Iff a b v = refl
infix_renamed op.Implies a b v = refl
infix_renamed op.Explies a b v = refl
infix_renamed op.And a b v = refl
infix_renamed op.Or a b v = refl
infix_renamed op.Equal a b v = refl
infix_renamed op.Unequal a b v = refl
infix_renamed op.Less a b v = refl
infix_renamed op.AtMost a b v = refl
infix_renamed op.Greater a b v = refl
infix_renamed op.AtLeast a b v = refl
infix_renamed op.Plus a b v = refl
infix_renamed op.Minus a b v = refl
infix_renamed op.Times a b v = refl

-- one more sign of a chain, where what stands behind the operand is renamed
linked : (sign : InfixSign) (p : Pos) (e : r.Ex) (ls : r.Links) (v : Env) → ex_of (rename_r e v) ≡ rename (ex_of e) v → ((a : s.Ex) → chained (rename a v) (rename_links ls v) ≡ rename (chained a ls) v) → (a : s.Ex) → chained (rename a v) (r.Link p sign (rename_r e v) (rename_links ls v)) ≡ rename (chained a (r.Link p sign e ls)) v
linked op.Implies p e ls v h go a =
    ap (λ x. s.Binary s.Implies (rename a v) (chained x (rename_links ls v))) h ∙ ap (s.Binary s.Implies (rename a v)) (go (ex_of e))
linked op.Iff p e ls v h go a =
    ap (λ x. chained (infix_of op.Iff (rename a v) x) (rename_links ls v)) h ∙ go (infix_of op.Iff a (ex_of e))
linked op.Explies p e ls v h go a =
    ap (λ x. chained (infix_of op.Explies (rename a v) x) (rename_links ls v)) h ∙ go (infix_of op.Explies a (ex_of e))
linked op.And p e ls v h go a =
    ap (λ x. chained (infix_of op.And (rename a v) x) (rename_links ls v)) h ∙ go (infix_of op.And a (ex_of e))
linked op.Or p e ls v h go a =
    ap (λ x. chained (infix_of op.Or (rename a v) x) (rename_links ls v)) h ∙ go (infix_of op.Or a (ex_of e))
linked op.Equal p e ls v h go a =
    ap (λ x. chained (infix_of op.Equal (rename a v) x) (rename_links ls v)) h ∙ go (infix_of op.Equal a (ex_of e))
linked op.Unequal p e ls v h go a =
    ap (λ x. chained (infix_of op.Unequal (rename a v) x) (rename_links ls v)) h ∙ go (infix_of op.Unequal a (ex_of e))
linked op.Less p e ls v h go a =
    ap (λ x. chained (infix_of op.Less (rename a v) x) (rename_links ls v)) h ∙ go (infix_of op.Less a (ex_of e))
linked op.AtMost p e ls v h go a =
    ap (λ x. chained (infix_of op.AtMost (rename a v) x) (rename_links ls v)) h ∙ go (infix_of op.AtMost a (ex_of e))
linked op.Greater p e ls v h go a =
    ap (λ x. chained (infix_of op.Greater (rename a v) x) (rename_links ls v)) h ∙ go (infix_of op.Greater a (ex_of e))
linked op.AtLeast p e ls v h go a =
    ap (λ x. chained (infix_of op.AtLeast (rename a v) x) (rename_links ls v)) h ∙ go (infix_of op.AtLeast a (ex_of e))
linked op.Plus p e ls v h go a =
    ap (λ x. chained (infix_of op.Plus (rename a v) x) (rename_links ls v)) h ∙ go (infix_of op.Plus a (ex_of e))
linked op.Minus p e ls v h go a =
    ap (λ x. chained (infix_of op.Minus (rename a v) x) (rename_links ls v)) h ∙ go (infix_of op.Minus a (ex_of e))
linked op.Times p e ls v h go a =
    ap (λ x. chained (infix_of op.Times (rename a v) x) (rename_links ls v)) h ∙ go (infix_of op.Times a (ex_of e))

same_update : (m : s.Ex) (es es' : s.Exs) (e e' : s.Ex) → es ≡ es' → e ≡ e' → s.Update m es e ≡ s.Update m es' e'
same_update m es es' e e' h k = rw (h, k) refl

same_more : (e e' : s.Ex) (es es' : s.Exs) → e ≡ e' → es ≡ es' → s.More e es ≡ s.More e' es'
same_more e e' es es' h k = rw (h, k) refl

mutual
  pub renamed_means : (e : r.Ex) (v : Env) → ex_of (rename_r e v) ≡ rename (ex_of e) v
  renamed_means (r.Number p z) v = refl
  renamed_means (r.Truth p b) v = refl
  renamed_means (r.Constant p k) v = refl
  renamed_means (r.Read p x) v = var_means p v x
  renamed_means (r.Apply p f es) v = ap (s.Apply f) (all_renamed es v)
  renamed_means (r.Old p e) v = renamed_means e (record v { globals = v.before })
  renamed_means (r.Parens p e) v = renamed_means e v
  renamed_means (r.Prefix signs e) v = ap (signed signs) (renamed_means e v) ∙ signs_renamed signs (ex_of e) v
  renamed_means (r.Postfix e bs) v = ap (λ m. behind m (rename_brackets bs v)) (renamed_means e v) ∙ behind_renamed bs v (ex_of e)
  renamed_means (r.Chain e ls) v = ap (λ a. chained a (rename_links ls v)) (renamed_means e v) ∙ chain_renamed ls v (ex_of e)

  pub all_renamed : (es : r.Exs) (v : Env) → exs_of (renames_r es v) ≡ renames (exs_of es) v
  all_renamed r.NoMore v = refl
  all_renamed (r.More e es) v = same_more _ _ _ _ (renamed_means e v) (all_renamed es v)

  behind_renamed : (bs : r.Brackets) (v : Env) (m : s.Ex) → behind (rename m v) (rename_brackets bs v) ≡ rename (behind m bs) v
  behind_renamed r.NoBracket v m = refl
  behind_renamed (r.Select p es bs) v m =
      ap (λ l. behind (s.Select (rename m v) l) (rename_brackets bs v)) (all_renamed es v) ∙ behind_renamed bs v (s.Select m (exs_of es))
  behind_renamed (r.Update p es e bs) v m =
      ap (λ n. behind n (rename_brackets bs v)) (same_update (rename m v) _ _ _ _ (all_renamed es v) (renamed_means e v))
      ∙ behind_renamed bs v (s.Update m (exs_of es) (ex_of e))

  chain_renamed : (ls : r.Links) (v : Env) (a : s.Ex) → chained (rename a v) (rename_links ls v) ≡ rename (chained a ls) v
  chain_renamed r.NoLink v a = refl
  chain_renamed (r.Link p sign e ls) v a = linked sign p e ls v (renamed_means e v) (chain_renamed ls v) a
