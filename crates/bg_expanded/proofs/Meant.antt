-- The longest chain that ends with what an expression applies, by its meaning.
use Rattle.std.proofs.Common.{◌≡◌, ◌<◌, ℕ, max, List, [], ◌∷◌, refl, sym, ap, ◌∙◌, arith}
use Rattle.bg_text.specs.declared.expr.InfixSign.{InfixSign}
use Rattle.bg_text.specs.declared.expr.InfixSign.TheVariants as op
use Rattle.bg_text.specs.declared.expr.PrefixSign.{PrefixSign}
use Rattle.bg_text.specs.declared.expr.PrefixSign.TheVariants as prefix
use Rattle.bg_text.specs.declared.expr.TreePrefix.{TreePrefix}
use Rattle.bg_ast.specs.Syntax as s
use Rattle.bg_ast.specs.Resolved as r
use Rattle.bg_ast.specs.Meaning.{infix_of, prefix_of, signed, ex_of, exs_of, behind, chained}
use Rattle.bg_sense.specs.Recursion.{AppliesBelow, EachAppliesBelow}
use Rattle.bg_expanded.specs.Chains.{deepest, deepest_of, deepest_behind, deepest_linked}

module _ (c : ℕ → ℕ) where
  abbrev mutual
    -- the longest chain that ends with a function that is applied
    pub deep : s.Ex → ℕ
    deep (s.Not e) = deep e
    deep (s.Negative e) = deep e
    deep (s.Binary o a b) = max (deep a) (deep b)
    deep (s.Apply f es) = max (c f) (all_deep es)
    deep (s.Select m es) = max (deep m) (all_deep es)
    deep (s.Update m es e) = max (deep m) (max (all_deep es) (deep e))
    deep (s.Old e) = deep e
    deep _ = 0

    pub all_deep : s.Exs → ℕ
    all_deep s.NoMore = 0
    all_deep (s.More e es) = max (deep e) (all_deep es)

  deep_signed : (signs : List TreePrefix) (e : s.Ex) → deep (signed signs e) ≡ deep e
  deep_signed [] e = refl
  deep_signed (x ∷ xs) e = by x.sign ∙ deep_signed xs e
    where
      by : (sign : PrefixSign) → deep (prefix_of sign (signed xs e)) ≡ deep (signed xs e)
      by prefix.Not = refl
      by prefix.Minus = refl

  max_swap : (a b : ℕ) → max b a ≡ max a b
  max_swap a b = omega arith

  deep_infix : (sign : InfixSign) (a b : s.Ex) → deep (infix_of sign a b) ≡ max (deep a) (deep b)
  deep_infix op.Iff a b = refl
  deep_infix op.Implies a b = refl
  deep_infix op.Explies a b = max_swap (deep a) (deep b)
  deep_infix op.And a b = refl
  deep_infix op.Or a b = refl
  deep_infix op.Equal a b = refl
  deep_infix op.Unequal a b = refl
  deep_infix op.Less a b = refl
  deep_infix op.AtMost a b = refl
  deep_infix op.Greater a b = refl
  deep_infix op.AtLeast a b = refl
  deep_infix op.Plus a b = refl
  deep_infix op.Minus a b = refl
  deep_infix op.Times a b = refl

  max_in : (a b d : ℕ) → max (max a b) d ≡ max a (max b d)
  max_in a b d = omega arith

  -- one more operand of a chain, where what stands behind it is known whatever stands before
  deep_link : (p : _) (sign : InfixSign) (a : s.Ex) (e : r.Ex) (ls : r.Links) (d : ℕ) → ((b : s.Ex) → deep (chained b ls) ≡ max (deep b) d) → deep (chained a (r.Link p sign e ls)) ≡ max (deep a) (max (deep (ex_of e)) d)
  deep_link p op.Implies a e ls d h = ap (max (deep a)) (h (ex_of e))
  deep_link p op.Iff a e ls d h = h (infix_of op.Iff a (ex_of e)) ∙ max_in (deep a) (deep (ex_of e)) d
  deep_link p op.Explies a e ls d h =
      h (infix_of op.Explies a (ex_of e)) ∙ (ap (λ n. max n d) (max_swap (deep a) (deep (ex_of e))) ∙ max_in (deep a) (deep (ex_of e)) d)
  deep_link p op.And a e ls d h = h (infix_of op.And a (ex_of e)) ∙ max_in (deep a) (deep (ex_of e)) d
  deep_link p op.Or a e ls d h = h (infix_of op.Or a (ex_of e)) ∙ max_in (deep a) (deep (ex_of e)) d
  deep_link p op.Equal a e ls d h = h (infix_of op.Equal a (ex_of e)) ∙ max_in (deep a) (deep (ex_of e)) d
  deep_link p op.Unequal a e ls d h = h (infix_of op.Unequal a (ex_of e)) ∙ max_in (deep a) (deep (ex_of e)) d
  deep_link p op.Less a e ls d h = h (infix_of op.Less a (ex_of e)) ∙ max_in (deep a) (deep (ex_of e)) d
  deep_link p op.AtMost a e ls d h = h (infix_of op.AtMost a (ex_of e)) ∙ max_in (deep a) (deep (ex_of e)) d
  deep_link p op.Greater a e ls d h = h (infix_of op.Greater a (ex_of e)) ∙ max_in (deep a) (deep (ex_of e)) d
  deep_link p op.AtLeast a e ls d h = h (infix_of op.AtLeast a (ex_of e)) ∙ max_in (deep a) (deep (ex_of e)) d
  deep_link p op.Plus a e ls d h = h (infix_of op.Plus a (ex_of e)) ∙ max_in (deep a) (deep (ex_of e)) d
  deep_link p op.Minus a e ls d h = h (infix_of op.Minus a (ex_of e)) ∙ max_in (deep a) (deep (ex_of e)) d
  deep_link p op.Times a e ls d h = h (infix_of op.Times a (ex_of e)) ∙ max_in (deep a) (deep (ex_of e)) d

  mutual
    pub deepest_is : (e : r.Ex) → deepest c e ≡ deep (ex_of e)
    deepest_is (r.Number p z) = refl
    deepest_is (r.Truth p b) = refl
    deepest_is (r.Constant p k) = refl
    deepest_is (r.Read p x) = refl
    deepest_is (r.Apply p f es) = ap (max (c f)) (list_is es)
    deepest_is (r.Old p e) = deepest_is e
    deepest_is (r.Parens p e) = deepest_is e
    deepest_is (r.Prefix signs e) = deepest_is e ∙ sym (deep_signed signs (ex_of e))
    deepest_is (r.Postfix e bs) =
        ap (λ n. max n (deepest_behind c bs)) (deepest_is e) ∙ sym (behind_is bs (ex_of e))
    deepest_is (r.Chain e ls) =
        ap (λ n. max n (deepest_linked c ls)) (deepest_is e) ∙ sym (linked_is ls (ex_of e))

    list_is : (es : r.Exs) → deepest_of c es ≡ all_deep (exs_of es)
    list_is r.NoMore = refl
    list_is (r.More e es) =
        ap (λ n. max n (deepest_of c es)) (deepest_is e) ∙ ap (max (deep (ex_of e))) (list_is es)

    behind_is : (bs : r.Brackets) (m : s.Ex) → deep (behind m bs) ≡ max (deep m) (deepest_behind c bs)
    behind_is r.NoBracket m = omega arith
    behind_is (r.Select p es bs) m =
        let i = behind_is bs (s.Select m (exs_of es)) in
        let l = list_is es in
        omega (arith, i, l)
    behind_is (r.Update p es e bs) m =
        let i = behind_is bs (s.Update m (exs_of es) (ex_of e)) in
        let l = list_is es in
        let j = deepest_is e in
        omega (arith, i, l, j)

    linked_is : (ls : r.Links) (a : s.Ex) → deep (chained a ls) ≡ max (deep a) (deepest_linked c ls)
    linked_is r.NoLink a = omega arith
    linked_is (r.Link p sign e ls) a =
        deep_link p sign a e ls (deepest_linked c ls) (linked_is ls) ∙ ap (λ n. max (deep a) (max n (deepest_linked c ls))) (sym (deepest_is e))

-- where two agree on the functions that are applied, so do they on the expression
module _ (rank : ℕ → ℕ) (bound : ℕ) (c d : ℕ → ℕ) (same : (f : ℕ) → rank f < bound → c f ≡ d f) where
  mutual
    pub deep_same : (e : s.Ex) → AppliesBelow rank bound e → deep c e ≡ deep d e
    deep_same (s.Number z) h = refl
    deep_same (s.Fact b) h = refl
    deep_same (s.Constant k) h = refl
    deep_same (s.Read x) h = refl
    deep_same (s.Not e) h = deep_same e h
    deep_same (s.Negative e) h = deep_same e h
    deep_same (s.Binary o a b) h =
        ap (λ n. max n (deep c b)) (deep_same a h.0) ∙ ap (max (deep d a)) (deep_same b h.1)
    deep_same (s.Apply f es) h =
        ap (λ n. max n (all_deep c es)) (same f h.0) ∙ ap (max (d f)) (list_same es h.1)
    deep_same (s.Select m es) h =
        ap (λ n. max n (all_deep c es)) (deep_same m h.0) ∙ ap (max (deep d m)) (list_same es h.1)
    deep_same (s.Update m es e) h =
        ap (λ n. max n (max (all_deep c es) (deep c e))) (deep_same m h.0)
        ∙ (ap (λ n. max (deep d m) (max n (deep c e))) (list_same es h.1) ∙ ap (λ n. max (deep d m) (max (all_deep d es) n)) (deep_same e h.2))
    deep_same (s.Old e) h = deep_same e h

    list_same : (es : s.Exs) → EachAppliesBelow rank bound es → all_deep c es ≡ all_deep d es
    list_same s.NoMore h = refl
    list_same (s.More e es) h =
        ap (λ n. max n (all_deep c es)) (deep_same e h.0) ∙ ap (max (deep d e)) (list_same es h.1)
