-- An expression without faults of names applies the functions that its text calls.
use Rattle.std.proofs.Common.{◌≡◌, ℕ, ◌<◌, List, [], ◌∷◌, ◌++◌, Option, sym, subst}
use Rattle.bg_base.specs.declared.pos.Pos.{Pos}
use Rattle.bg_text.specs.declared.expr.InfixSign.{InfixSign}
use Rattle.bg_text.specs.declared.expr.InfixSign.TheVariants as op
use Rattle.bg_text.specs.declared.expr.PrefixSign.{PrefixSign}
use Rattle.bg_text.specs.declared.expr.PrefixSign.TheVariants as prefix
use Rattle.bg_text.specs.declared.expr.TreePrefix.{TreePrefix}
use Rattle.bg_text.specs.Trees as t
use Rattle.bg_text.specs.Types.{All as Each}
use Rattle.bg_ast.specs.Syntax as x
use Rattle.bg_ast.specs.Meaning as m
use Rattle.bg_names.specs.declared.scope.Meaning.{Meaning}
use Rattle.bg_names.specs.declared.scope.Meaning.TheVariants as means
use Rattle.bg_names.specs.Faults.{unless}
use Rattle.bg_names.specs.Spaces.{Scope, meaning, place, or_zero, use_faults}
use Rattle.bg_names.specs.Exprs.{read_as, ex_faults, exs_faults, brackets_faults, links_faults, named_ex, named_exs, named_brackets, named_links}
use Rattle.bg_resolve.specs.Calls.{called, ex_calls, exs_calls, brackets_calls, links_calls}
use Rattle.bg_sense.specs.Recursion.{AppliesBelow, EachAppliesBelow}
use Rattle.bg_named.proofs.SpacesOnce.{empty_parts}
use Rattle.bg_named.proofs.SpacesPlaces.{used}
use Rattle.bg_named.proofs.ProgramsEach.{each_split}

module _ (rank : ℕ → ℕ) (r : ℕ) where
  abbrev pub Below : List ℕ → Type 0
  Below = Each (λ k. rank k < r)

  read_below : (p : Pos) (y : Meaning) → AppliesBelow rank r (m.ex_of (read_as p y))
  read_below p means.Nothing = tt
  read_below p (means.Constant k) = tt
  read_below p (means.Candidate k) = tt
  read_below p (means.Global k) = tt
  read_below p (means.Local k) = tt

  prefix_below : (sign : PrefixSign) (a : x.Ex) → AppliesBelow rank r a → AppliesBelow rank r (m.prefix_of sign a)
  prefix_below prefix.Not a h = h
  prefix_below prefix.Minus a h = h

  signed_below : (signs : List TreePrefix) (a : x.Ex) → AppliesBelow rank r a → AppliesBelow rank r (m.signed signs a)
  signed_below [] a h = h
  signed_below (y ∷ ys) a h = prefix_below y.sign (m.signed ys a) (signed_below ys a h)

  infix_below : (sign : InfixSign) (a b : x.Ex) → AppliesBelow rank r a → AppliesBelow rank r b → AppliesBelow rank r (m.infix_of sign a b)
  infix_below op.Explies a b h k = (k, h)
  infix_below _ a b h k = (h, k)

  called_below : (names : List (List ℕ)) (f : t.Id) → use_faults names f ≡ [] → Below (called (place names f.text)) → rank (or_zero (place names f.text)) < r
  called_below names f h b =
      let at = used names f h in
      let one = subst (λ (o : Option ℕ). Below (called o)) at.1 b in
      subst (λ (o : Option ℕ). rank (or_zero o) < r) (sym at.1) one.0

  module _ (s : Scope) where
    mutual
      pub ex_below : (e : t.Ex) → ex_faults s e ≡ [] → Below (ex_calls s.functions e) → AppliesBelow rank r (m.ex_of (named_ex s e))
      ex_below (t.Number p z) n b = tt
      ex_below (t.Truth p z) n b = tt
      ex_below (t.Named p y) n b = read_below p (meaning s y)
      ex_below (t.Apply p f es) n b =
          let id : t.Id = record { pos = p; text = f } in
          let parts = empty_parts (use_faults s.functions id) (exs_faults s es) n in
          let calls = each_split (λ k. rank k < r) (called (place s.functions f)) (exs_calls s.functions es) b in
          (called_below s.functions id parts.0 calls.0, exs_below es parts.1 calls.1)
      ex_below (t.Old p e) n b = ex_below e (empty_parts (unless s.has_old _) (ex_faults s e) n).1 b
      ex_below (t.Parens p e) n b = ex_below e n b
      ex_below (t.Prefix signs e) n b = signed_below signs (m.ex_of (named_ex s e)) (ex_below e n b)
      ex_below (t.Postfix e bs) n b =
          let parts = empty_parts (ex_faults s e) (brackets_faults s bs) n in
          let calls = each_split (λ k. rank k < r) (ex_calls s.functions e) (brackets_calls s.functions bs) b in
          brackets_below (m.ex_of (named_ex s e)) bs (ex_below e parts.0 calls.0) parts.1 calls.1
      ex_below (t.Chain e ls) n b =
          let parts = empty_parts (ex_faults s e) (links_faults s ls) n in
          let calls = each_split (λ k. rank k < r) (ex_calls s.functions e) (links_calls s.functions ls) b in
          links_below (m.ex_of (named_ex s e)) ls (ex_below e parts.0 calls.0) parts.1 calls.1

      exs_below : (es : t.Exs) → exs_faults s es ≡ [] → Below (exs_calls s.functions es) → EachAppliesBelow rank r (m.exs_of (named_exs s es))
      exs_below t.NoMore n b = tt
      exs_below (t.More e es) n b =
          let parts = empty_parts (ex_faults s e) (exs_faults s es) n in
          let calls = each_split (λ k. rank k < r) (ex_calls s.functions e) (exs_calls s.functions es) b in
          (ex_below e parts.0 calls.0, exs_below es parts.1 calls.1)

      brackets_below : (a : x.Ex) (bs : t.Brackets) → AppliesBelow rank r a → brackets_faults s bs ≡ [] → Below (brackets_calls s.functions bs) → AppliesBelow rank r (m.behind a (named_brackets s bs))
      brackets_below a t.NoBracket h n b = h
      brackets_below a (t.Select p es bs) h n b =
          let parts = empty_parts (exs_faults s es) (brackets_faults s bs) n in
          let calls = each_split (λ k. rank k < r) (exs_calls s.functions es) (brackets_calls s.functions bs) b in
          brackets_below (x.Select a (m.exs_of (named_exs s es))) bs (h, exs_below es parts.0 calls.0) parts.1 calls.1
      brackets_below a (t.Update p es e bs) h n b =
          let parts = empty_parts (exs_faults s es ++ ex_faults s e) (brackets_faults s bs) n in
          let inner = empty_parts (exs_faults s es) (ex_faults s e) parts.0 in
          let calls = each_split (λ k. rank k < r) (exs_calls s.functions es ++ ex_calls s.functions e) (brackets_calls s.functions bs) b in
          let own = each_split (λ k. rank k < r) (exs_calls s.functions es) (ex_calls s.functions e) calls.0 in
          brackets_below
          (x.Update a (m.exs_of (named_exs s es)) (m.ex_of (named_ex s e)))
          bs
          (h, exs_below es inner.0 own.0, ex_below e inner.1 own.1)
          parts.1
          calls.1

      links_below : (a : x.Ex) (ls : t.Links) → AppliesBelow rank r a → links_faults s ls ≡ [] → Below (links_calls s.functions ls) → AppliesBelow rank r (m.chained a (named_links s ls))
      links_below a t.NoLink h n b = h
      links_below a (t.Link p op.Implies e ls) h n b =
          let parts = empty_parts (ex_faults s e) (links_faults s ls) n in
          let calls = each_split (λ k. rank k < r) (ex_calls s.functions e) (links_calls s.functions ls) b in
          (h, links_below (m.ex_of (named_ex s e)) ls (ex_below e parts.0 calls.0) parts.1 calls.1)
      links_below a (t.Link p sign e ls) h n b =
          let parts = empty_parts (ex_faults s e) (links_faults s ls) n in
          let calls = each_split (λ k. rank k < r) (ex_calls s.functions e) (links_calls s.functions ls) b in
          links_below (m.infix_of sign a (m.ex_of (named_ex s e))) ls (infix_below sign a (m.ex_of (named_ex s e)) h (ex_below e parts.0 calls.0)) parts.1 calls.1
