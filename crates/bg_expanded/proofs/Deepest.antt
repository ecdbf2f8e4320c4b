-- What chains through an expression depend on: the functions that it applies.
use Rattle.std.proofs.Common.{◌≡◌, ℕ, zero, suc, ◌<◌, ◌≤◌, max, Bool, true, false, nat_lt, if◌then◌else◌, List, [], ◌∷◌, ◌++◌, map, get_or, Contains, Option, Some, None, inl, inr, refl, ap, ◌∙◌, arith}
use Rattle.std.proofs.lemmas.List.{map-append}
use Rattle.std.proofs.lemmas.List.Elements.{Contains-append_cases}
use Rattle.std.proofs.lemmas.Bool.{ltb-true, ltb-false}
use Rattle.bg_ast.specs.Resolved as r
use Rattle.bg_expanded.specs.Chains.{deepest, deepest_of, deepest_behind, deepest_linked}
use Rattle.bg_expanded.specs.Applied.{if_below, applied_in, applied_in_all, applied_behind, applied_linked, applied_by}
use Rattle.bg_expanded.specs.Ranked.{greatest_of}
use Rattle.bg_expanded.proofs.Greatest.{greatest_append}

module _ (n : ℕ) (deep : ℕ → ℕ) where
  abbrev Best : List ℕ → ℕ
  Best fs = greatest_of (map deep fs)

  two : (a b : List ℕ) → Best (a ++ b) ≡ max (Best a) (Best b)
  two a b = ap greatest_of (map-append deep a b) ∙ greatest_append (map deep a) (map deep b)

  both : (x y : ℕ) (a b : List ℕ) → x ≡ Best a → y ≡ Best b → max x y ≡ Best (a ++ b)
  both x y a b h k = let e = two a b in omega arith

  module _ (none : (f : ℕ) → n ≤ f → deep f ≡ 0) where
    by_test : (f : ℕ) (t : Bool) → nat_lt f n ≡ t → deep f ≡ Best (if t then f ∷ [] else [])
    by_test f true e = omega arith
    by_test f false e = none f (ltb-false f n e)

    mutual
      pub deepest_is : (e : r.Ex) → deepest deep e ≡ Best (applied_in n e)
      deepest_is (r.Number p z) = refl
      deepest_is (r.Truth p b) = refl
      deepest_is (r.Constant p k) = refl
      deepest_is (r.Read p x) = refl
      deepest_is (r.Apply p f es) = both (deep f) (deepest_of deep es) (if_below n f) (applied_in_all n es) (by_test f (nat_lt f n) refl) (all_deepest es)
      deepest_is (r.Old p e) = deepest_is e
      deepest_is (r.Parens p e) = deepest_is e
      deepest_is (r.Prefix signs e) = deepest_is e
      deepest_is (r.Postfix e bs) = both (deepest deep e) (deepest_behind deep bs) (applied_in n e) (applied_behind n bs) (deepest_is e) (behind_deepest bs)
      deepest_is (r.Chain e ls) = both (deepest deep e) (deepest_linked deep ls) (applied_in n e) (applied_linked n ls) (deepest_is e) (linked_deepest ls)

      all_deepest : (es : r.Exs) → deepest_of deep es ≡ Best (applied_in_all n es)
      all_deepest r.NoMore = refl
      all_deepest (r.More e es) = both (deepest deep e) (deepest_of deep es) (applied_in n e) (applied_in_all n es) (deepest_is e) (all_deepest es)

      behind_deepest : (bs : r.Brackets) → deepest_behind deep bs ≡ Best (applied_behind n bs)
      behind_deepest r.NoBracket = refl
      behind_deepest (r.Select p es bs) = both (deepest_of deep es) (deepest_behind deep bs) (applied_in_all n es) (applied_behind n bs) (all_deepest es) (behind_deepest bs)
      behind_deepest (r.Update p es e bs) =
          both (max (deepest_of deep es) (deepest deep e)) (deepest_behind deep bs) (applied_in_all n es ++ applied_in n e) (applied_behind n bs)
          (both (deepest_of deep es) (deepest deep e) (applied_in_all n es) (applied_in n e) (all_deepest es) (deepest_is e))
          (behind_deepest bs)

      linked_deepest : (ls : r.Links) → deepest_linked deep ls ≡ Best (applied_linked n ls)
      linked_deepest r.NoLink = refl
      linked_deepest (r.Link p sign e ls) = both (deepest deep e) (deepest_linked deep ls) (applied_in n e) (applied_linked n ls) (deepest_is e) (linked_deepest ls)

-- all of them are below n
module _ (n : ℕ) where
  abbrev Small : List ℕ → Type 0
  Small fs = (f : ℕ) → Contains fs f → f < n

  no_small : Small []
  no_small f h = absurd (omega (arith, h.1))

  two_small : (a b : List ℕ) → Small a → Small b → Small (a ++ b)
  two_small a b h k f c = elim (Contains-append_cases a b f c) [ inl l ↦ h f l | inr l ↦ k f l ]

  one_small : (f g k : ℕ) → f < n → k < 1 → get_or (f ∷ []) k g ≡ g → g < n
  one_small f g zero h l e = let same : f ≡ g = e in omega arith
  one_small f g (suc k) h l e = absurd (omega arith)

  test_small : (f : ℕ) (t : Bool) → nat_lt f n ≡ t → Small (if t then f ∷ [] else [])
  test_small f true e g h = one_small f g h.0 (ltb-true f n e) (omega (arith, h.1)) h.2
  test_small f false e g h = no_small g h

  mutual
    small : (e : r.Ex) → Small (applied_in n e)
    small (r.Number p z) = no_small
    small (r.Truth p b) = no_small
    small (r.Constant p k) = no_small
    small (r.Read p x) = no_small
    small (r.Apply p f es) = two_small (if_below n f) (applied_in_all n es) (test_small f (nat_lt f n) refl) (all_small es)
    small (r.Old p e) = small e
    small (r.Parens p e) = small e
    small (r.Prefix signs e) = small e
    small (r.Postfix e bs) = two_small (applied_in n e) (applied_behind n bs) (small e) (behind_small bs)
    small (r.Chain e ls) = two_small (applied_in n e) (applied_linked n ls) (small e) (linked_small ls)

    all_small : (es : r.Exs) → Small (applied_in_all n es)
    all_small r.NoMore = no_small
    all_small (r.More e es) = two_small (applied_in n e) (applied_in_all n es) (small e) (all_small es)

    behind_small : (bs : r.Brackets) → Small (applied_behind n bs)
    behind_small r.NoBracket = no_small
    behind_small (r.Select p es bs) = two_small (applied_in_all n es) (applied_behind n bs) (all_small es) (behind_small bs)
    behind_small (r.Update p es e bs) =
        two_small (applied_in_all n es ++ applied_in n e) (applied_behind n bs) (two_small (applied_in_all n es) (applied_in n e) (all_small es) (small e)) (behind_small bs)

    linked_small : (ls : r.Links) → Small (applied_linked n ls)
    linked_small r.NoLink = no_small
    linked_small (r.Link p sign e ls) = two_small (applied_in n e) (applied_linked n ls) (small e) (linked_small ls)

  pub body_small : (o : Option r.Ex) (f : ℕ) → Contains (applied_by n o) f → f < n
  body_small None = no_small
  body_small (Some e) = small e
