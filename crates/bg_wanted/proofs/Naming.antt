-- Names of an index at which two maps differ.
use Rattle.std.proofs.Common.{◌≡◌, ℕ, zero, suc, ◌+◌, ◌-◌, ◌<◌, ◌≤◌, Bool, true, false, List, [], ◌∷◌, ◌++◌, length, Some, refl, sym, ap, ◌∙◌, subst, arith, inl, inr, ⊎_elim}
use Rattle.std.specs.Prelude.{slice_get, nat_lt, ◌&&◌, ◌||◌, ◌==◌, ◌⊎◌}
use Rattle.std.proofs.lemmas.Bool.{eq-eqb}
use Rattle.std.proofs.lemmas.Bool.Decides.{nat_tests}
use Rattle.bg_ast.specs.Values.{Val, Ty, MapTy, KeyType}
use Rattle.bg_terms.specs.Terms.{Term}
use Rattle.bg_terms.specs.Typed.{types_with}
use Rattle.bg_terms.specs.Instances.{Apart}
use Rattle.bg_terms.specs.Closed.{IsFinished}
use Rattle.bg_terms.proofs.Heads.{kinds_refl}
use Rattle.bg_terms.proofs.Typed.{at_back}
use Rattle.bg_numbered.specs.Lines.{Names, Says, select_from, parts_from, reads_from, names_at, if_fit, names_by, named, is_any, is_within, are_there}
use Rattle.bg_wanted.specs.Wanting.{reads, is_argument, is_in, names, are_naming, IsWanting}
use Rattle.bg_wanted.proofs.Growth.{length_behind, or_right}

lt_is : (a b : ℕ) → a < b → nat_lt a b ≡ true
lt_is a b h = grind (arith, nat_tests, h)

not_lt : (a b : ℕ) → b ≤ a → nat_lt a b ≡ false
not_lt a b h = grind (arith, nat_tests, h)

or_left : (a b : Bool) → a ≡ true → (a || b) ≡ true
or_left true b h = refl
or_left false b h = absurd (let bad : ⊥ = cc in bad)

parts_length : (ks : List KeyType) (t : Ty) (m o j : ℕ) (ls : List KeyType) → length (parts_from ks t m o j ls) ≡ length ls
parts_length ks t m o j [] = refl
parts_length ks t m o j (l ∷ ls) = let e = parts_length ks t m o (suc j) ls in omega (arith, e)

-- what is read from a number on
reads_there : (n i : ℕ) (ls : List KeyType) → i < length ls → reads (n + i) (reads_from n ls) ≡ true
reads_there n i [] h = absurd (omega (arith, h))
reads_there n zero (l ∷ ls) h =
    or_left (n + 0 == n) (reads (n + 0) (reads_from (suc n) ls)) (eq-eqb (n + 0) n (omega arith))
reads_there n (suc i) (l ∷ ls) h =
    or_right (n + suc i == n) (reads (n + suc i) (reads_from (suc n) ls))
    (subst (λ k. reads k (reads_from (suc n) ls) ≡ true) (let e : suc n + i ≡ n + suc i = omega arith in e) (reads_there (suc n) i ls (omega (arith, h))))

at_length : {A : Type 0} (xs ys : List A) → slice_get (xs ++ ys) (length xs) ≡ slice_get ys 0
at_length xs ys =
    ap (slice_get (xs ++ ys)) (let e : length xs ≡ length xs + 0 = omega arith in e) ∙ at_back xs ys 0 (length xs) refl

module _ (incs : List Ty) (ts : List Term) (s : List Val) (k : KeyType) (ks : List KeyType) (t : Ty) (m o : ℕ) (first : slice_get (types_with incs ts) m ≡ Some (MapTy (k ∷ ks) t)) (second : slice_get (types_with incs ts) o ≡ Some (MapTy (k ∷ ks) t)) where
  abbrev n : ℕ
  n = length incs

  abbrev all_keys : List KeyType
  all_keys = k ∷ ks

  abbrev news : List Term
  news = names_at (k ∷ ks) t (n + length ts) m o

  its_named : named incs ts m o ≡ names_at (k ∷ ks) t (length incs + length ts) m o
  its_named =
      ap (λ x. names_by x (slice_get (types_with incs ts) o) (n + length ts) m o) first
      ∙ (ap (λ x. names_by (Some (MapTy (k ∷ ks) t)) x (n + length ts) m o) second
      ∙ ap (λ c. if_fit c (names_at (k ∷ ks) t (n + length ts) m o)) (kinds_refl (k ∷ ks) t))

  abbrev us : List Term
  us = ts ++ named incs ts m o

  size : length (ts ++ named incs ts m o) ≡ length ts + (length (k ∷ ks) + 2)
  size =
      let e = ap (λ l. length (ts ++ l)) its_named in
      let f = length_behind ts news in
      let g = length_behind (parts_from (k ∷ ks) t m o 0 (k ∷ ks)) (select_from (k ∷ ks) t m (reads_from (n + length ts) (k ∷ ks)) ∷ select_from (k ∷ ks) t o (reads_from (n + length ts) (k ∷ ks)) ∷ []) in
      let h = parts_length (k ∷ ks) t m o 0 (k ∷ ks) in
      omega (arith, e, f, g, h)

  -- the first select
  at_first : slice_get (ts ++ named incs ts m o) (length ts + length (k ∷ ks)) ≡ Some (select_from (k ∷ ks) t m (reads_from (length incs + length ts) (k ∷ ks)))
  at_first =
      ap (λ l. slice_get (ts ++ l) (length ts + length (k ∷ ks))) its_named
      ∙ (at_back ts news (length (k ∷ ks)) (length ts) refl
      ∙ (ap (slice_get news) (sym (parts_length (k ∷ ks) t m o 0 (k ∷ ks))) ∙ at_length (parts_from (k ∷ ks) t m o 0 (k ∷ ks)) _))

  module _ (one two : ℕ) (is : one ≡ length ts + length (k ∷ ks)) (also : two ≡ suc one) where
    within : is_within (length (ts ++ named incs ts m o)) (Apart one two) ≡ true
    within =
        ap (λ c. c && nat_lt two (length us)) (lt_is one (length us) (omega (arith, size, is))) ∙ lt_is two (length us) (omega (arith, size, is, also))

    fresh : is_within (length ts) (Apart one two) ≡ false
    fresh = ap (λ c. c && nat_lt two (length ts)) (not_lt one (length ts) (omega (arith, is)))

    there : are_there incs ts (Names m o ∷ Says (Apart one two) ∷ []) ≡ true
    there =
        ap (λ l. is_any l && (is_within (length us) (Apart one two) && true)) its_named
        ∙ ap (λ c. c && true) within

    named_all : (a : ℕ) → length ts ≤ a → a < length (ts ++ named incs ts m o) → are_naming (length incs) (ts ++ named incs ts m o) a (Apart one two ∷ []) ≡ true
    named_all a low high =
        or_left (names n us a (Apart one two)) false (by (nat_lt a one) refl)
      where
        by : (c : Bool) → nat_lt a one ≡ c → names (length incs) (ts ++ named incs ts m o) a (Apart one two) ≡ true
        by true e =
            let lt : a < one = grind (arith, nat_tests, e) in
            let i : a - length ts < length (k ∷ ks) = omega (arith, lt, is, low) in
            let place : (n + length ts) + (a - length ts) ≡ n + a = omega (arith, low) in
            or_left (is_in n us a one) (is_in n us a two)
            (or_right (a == one) (is_argument (n + a) (slice_get us one))
            (ap (λ j. is_argument (n + a) (slice_get us j)) is
            ∙ (ap (is_argument (n + a)) at_first
            ∙ or_right (n + a == m) (reads (n + a) (reads_from (n + length ts) (k ∷ ks))) (subst (λ j. reads j (reads_from (n + length ts) (k ∷ ks)) ≡ true) place (reads_there (n + length ts) (a - length ts) (k ∷ ks) i)))))
        by false e =
            let ge : one ≤ a = grind (arith, nat_tests, e) in
            let which : (a ≡ one) ⊎ (a ≡ two) = last_two a ge (omega (arith, high, size, is, also)) in
            ⊎_elim (λ q. or_left (is_in n us a one) (is_in n us a two) (or_left (a == one) (is_argument (n + a) (slice_get us one)) (eq-eqb a one q))) (λ q. or_right (is_in n us a one) (is_in n us a two) (or_left (a == two) (is_argument (n + a) (slice_get us two)) (eq-eqb a two q))) which
          where
            last_two : (b : ℕ) → one ≤ b → b ≤ two → (b ≡ one) ⊎ (b ≡ two)
            last_two b g h = on (b == one) refl
              where
                on : (c : Bool) → (b == one) ≡ c → (b ≡ one) ⊎ (b ≡ two)
                on true q = inl (grind (arith, nat_tests, q))
                on false q = let off : (b ≡ one → ⊥) = λ z. let y = eq-eqb b one z in let bad : false ≡ true = sym q ∙ y in let no : ⊥ = cc in no in inr (omega (arith, g, h, also, off))

    -- such names are wanted where the terms aren't finished
    pub wanted_names : (IsFinished s (length incs) ts (types_with incs ts) → ⊥) → IsWanting incs ts s (Names m o ∷ Says (Apart one two) ∷ [])
    wanted_names unfinished =
        record {
          there = there;
          some = omega arith;
          wanted = (inr fresh, tt);
          used =
              λ a. subst (λ l. length ts ≤ a → a < length l → are_naming (length incs) l a (Apart one two ∷ []) ≡ true) (sym (none us)) (named_all a);
          unfinished = unfinished;
        }
      where
        none : {A : Type 0} (xs : List A) → xs ++ [] ≡ xs
        none [] = refl
        none (x ∷ xs) = ap (λ l. x ∷ l) (none xs)
