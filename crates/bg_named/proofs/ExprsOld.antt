-- Expressions without faults of names have no `old` where it has no meaning.
use Rattle.std.proofs.Common.{◌≡◌, false, List, [], ◌∷◌, ◌++◌, sym, ◌∙◌}
use Rattle.bg_base.specs.declared.pos.Pos.{Pos}
use Rattle.bg_text.specs.declared.expr.InfixSign.{InfixSign}
use Rattle.bg_text.specs.declared.expr.InfixSign.TheVariants as op
use Rattle.bg_text.specs.declared.expr.PrefixSign.{PrefixSign}
use Rattle.bg_text.specs.declared.expr.PrefixSign.TheVariants as prefix
use Rattle.bg_text.specs.declared.expr.TreePrefix.{TreePrefix}
use Rattle.bg_text.specs.Trees as t
use Rattle.bg_ast.specs.Syntax as x
use Rattle.bg_ast.specs.Resolved as r
use Rattle.bg_ast.specs.Meaning as m
use Rattle.bg_names.specs.declared.error.FaultKind.TheVariants as kinds
use Rattle.bg_names.specs.declared.scope.Meaning.{Meaning}
use Rattle.bg_names.specs.declared.scope.Meaning.TheVariants as means
use Rattle.bg_names.specs.Faults.{fault, unless}
use Rattle.bg_names.specs.Spaces.{Scope, meaning, use_faults}
use Rattle.bg_names.specs.Exprs.{read_as, ex_faults, exs_faults, brackets_faults, links_faults, named_ex, named_exs, named_brackets, named_links}
use Rattle.bg_sense.specs.Typed.{HasNoOld, HaveNoOld}
use Rattle.bg_named.proofs.ExprsBits.{never, split_nil, holds}

read_plain : (p : Pos) (n : Meaning) → HasNoOld (m.ex_of (read_as p n))
read_plain p means.Nothing = tt
read_plain p (means.Constant k) = tt
read_plain p (means.Candidate k) = tt
read_plain p (means.Global k) = tt
read_plain p (means.Local k) = tt

signed_plain : (signs : List TreePrefix) (e : x.Ex) → HasNoOld e → HasNoOld (m.signed signs e)
signed_plain [] e h = h
signed_plain (s ∷ signs) e h = by s.sign (signed_plain signs e h)
  where
    by : (sign : PrefixSign) → HasNoOld (m.signed signs e) → HasNoOld (m.prefix_of sign (m.signed signs e))
    by prefix.Not h = h
    by prefix.Minus h = h

infix_plain : (sign : InfixSign) (a b : x.Ex) → HasNoOld a → HasNoOld b → HasNoOld (m.infix_of sign a b)
infix_plain op.Iff a b h i = (h, i)
infix_plain op.Implies a b h i = (h, i)
infix_plain op.Explies a b h i = (i, h)
infix_plain op.And a b h i = (h, i)
infix_plain op.Or a b h i = (h, i)
infix_plain op.Equal a b h i = (h, i)
infix_plain op.Unequal a b h i = (h, i)
infix_plain op.Less a b h i = (h, i)
infix_plain op.AtMost a b h i = (h, i)
infix_plain op.Greater a b h i = (h, i)
infix_plain op.AtLeast a b h i = (h, i)
infix_plain op.Plus a b h i = (h, i)
infix_plain op.Minus a b h i = (h, i)
infix_plain op.Times a b h i = (h, i)

-- one more operand of a chain, where what stands behind it is known whatever stands before
link_plain : (p : Pos) (sign : InfixSign) (a : x.Ex) (e : r.Ex) (ls : r.Links) → HasNoOld a → HasNoOld (m.ex_of e) → ((c : x.Ex) → HasNoOld c → HasNoOld (m.chained c ls)) → HasNoOld (m.chained a (r.Link p sign e ls))
link_plain p op.Implies a e ls h i f = (h, f (m.ex_of e) i)
link_plain p op.Iff a e ls h i f = f _ (infix_plain op.Iff a (m.ex_of e) h i)
link_plain p op.Explies a e ls h i f = f _ (infix_plain op.Explies a (m.ex_of e) h i)
link_plain p op.And a e ls h i f = f _ (infix_plain op.And a (m.ex_of e) h i)
link_plain p op.Or a e ls h i f = f _ (infix_plain op.Or a (m.ex_of e) h i)
link_plain p op.Equal a e ls h i f = f _ (infix_plain op.Equal a (m.ex_of e) h i)
link_plain p op.Unequal a e ls h i f = f _ (infix_plain op.Unequal a (m.ex_of e) h i)
link_plain p op.Less a e ls h i f = f _ (infix_plain op.Less a (m.ex_of e) h i)
link_plain p op.AtMost a e ls h i f = f _ (infix_plain op.AtMost a (m.ex_of e) h i)
link_plain p op.Greater a e ls h i f = f _ (infix_plain op.Greater a (m.ex_of e) h i)
link_plain p op.AtLeast a e ls h i f = f _ (infix_plain op.AtLeast a (m.ex_of e) h i)
link_plain p op.Plus a e ls h i f = f _ (infix_plain op.Plus a (m.ex_of e) h i)
link_plain p op.Minus a e ls h i f = f _ (infix_plain op.Minus a (m.ex_of e) h i)
link_plain p op.Times a e ls h i f = f _ (infix_plain op.Times a (m.ex_of e) h i)

mutual
  ex_plain : (s : Scope) → s.has_old ≡ false → (e : t.Ex) → ex_faults s e ≡ [] → HasNoOld (m.ex_of (named_ex s e))
  ex_plain s h (t.Number p z) n = tt
  ex_plain s h (t.Truth p b) n = tt
  ex_plain s h (t.Named p x) n = read_plain p (meaning s x)
  ex_plain s h (t.Apply p f es) n =
      exs_plain s h es (split_nil (use_faults s.functions (record { pos = p; text = f })) (exs_faults s es) n).1
  ex_plain s h (t.Old p e) n =
      let parts = split_nil (unless s.has_old (fault kinds.BadOld p [])) (ex_faults s e) n in
      never (sym h ∙ holds s.has_old (fault kinds.BadOld p []) parts.0)
  ex_plain s h (t.Parens p e) n = ex_plain s h e n
  ex_plain s h (t.Prefix signs e) n = signed_plain signs (m.ex_of (named_ex s e)) (ex_plain s h e n)
  ex_plain s h (t.Postfix e bs) n =
      let parts = split_nil (ex_faults s e) (brackets_faults s bs) n in
      behind_plain s h (m.ex_of (named_ex s e)) (ex_plain s h e parts.0) bs parts.1
  ex_plain s h (t.Chain e ls) n =
      let parts = split_nil (ex_faults s e) (links_faults s ls) n in
      chained_plain s h ls parts.1 (m.ex_of (named_ex s e)) (ex_plain s h e parts.0)

  exs_plain : (s : Scope) → s.has_old ≡ false → (es : t.Exs) → exs_faults s es ≡ [] → HaveNoOld (m.exs_of (named_exs s es))
  exs_plain s h t.NoMore n = tt
  exs_plain s h (t.More e es) n =
      let parts = split_nil (ex_faults s e) (exs_faults s es) n in
      (ex_plain s h e parts.0, exs_plain s h es parts.1)

  behind_plain : (s : Scope) → s.has_old ≡ false → (a : x.Ex) → HasNoOld a → (bs : t.Brackets) → brackets_faults s bs ≡ [] → HasNoOld (m.behind a (named_brackets s bs))
  behind_plain s h a i t.NoBracket n = i
  behind_plain s h a i (t.Select p es bs) n =
      let parts = split_nil (exs_faults s es) (brackets_faults s bs) n in
      behind_plain s h (x.Select a (m.exs_of (named_exs s es))) (i, exs_plain s h es parts.0) bs parts.1
  behind_plain s h a i (t.Update p es e bs) n =
      let parts = split_nil (exs_faults s es ++ ex_faults s e) (brackets_faults s bs) n in
      let inner = split_nil (exs_faults s es) (ex_faults s e) parts.0 in
      behind_plain s h (x.Update a (m.exs_of (named_exs s es)) (m.ex_of (named_ex s e))) (i, exs_plain s h es inner.0, ex_plain s h e inner.1) bs parts.1

  chained_plain : (s : Scope) → s.has_old ≡ false → (ls : t.Links) → links_faults s ls ≡ [] → (a : x.Ex) → HasNoOld a → HasNoOld (m.chained a (named_links s ls))
  chained_plain s h t.NoLink n a i = i
  chained_plain s h (t.Link p sign e ls) n a i =
      let parts = split_nil (ex_faults s e) (links_faults s ls) n in
      link_plain p sign a (named_ex s e) (named_links s ls) i (ex_plain s h e parts.0) (chained_plain s h ls parts.1)

pub plain_expression : (s : Scope) (e : t.Ex) → s.has_old ≡ false → ex_faults s e ≡ [] → HasNoOld (m.ex_of (named_ex s e))
plain_expression s e h n = ex_plain s h e n
