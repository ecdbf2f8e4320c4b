-- Tables that are found by their order.
use Rattle.std.proofs.Common.{◌≡◌, ℕ, zero, suc, ◌+◌, ◌<◌, Bool, true, false, cond, List, [], ◌∷◌, ◌++◌, length, Some, None, refl, sym, ap, ◌∙◌, subst, arith}
use Rattle.std.specs.Prelude.{slice_get, if◌then◌else◌}
use Rattle.std.specs.Ordering.{is_eq}
use Rattle.std.specs.BTreeMap.{BTreeMap, is_at}
use Rattle.std.specs.Map.{lookup}
use Rattle.bg_ast.specs.Values.{val_eq}
use Rattle.bg_sense.proofs.MapLaws.{val_same, val_eq_refl}
use Rattle.bg_scalar.specs.declared.value.Value.{Value}
use Rattle.bg_scalar.specs.Values.{value_of}
use Rattle.bg_scalar.proofs.Ordered.{values_alike}
use Rattle.bg_wanted.specs.Alike.{same_there, are_same_at, AllApart, table_cmp, place_for, first_same}
use Rattle.bg_wanted.proofs.Earliest.{alike}

turned : (x y : Value) → val_eq (value_of x) (value_of y) ≡ val_eq (value_of y) (value_of x)
turned x y = alike _ _ (there x y) (there y x)
  where
    there : (x y : Value) → val_eq (value_of x) (value_of y) ≡ true → val_eq (value_of y) (value_of x) ≡ true
    there x y h = subst (λ v. val_eq v (value_of x) ≡ true) (val_same (value_of x) (value_of y) h) (val_eq_refl (value_of x))

-- equal in the order are the same, and no others
found_same : (x y : Value) → is_eq (table_cmp x y) ≡ val_eq (value_of x) (value_of y)
found_same x y = values_alike x y ∙ turned y x

found_turned : (x y : Value) → is_eq (table_cmp x y) ≡ is_eq (table_cmp y x)
found_turned x y = found_same x y ∙ (turned x y ∙ sym (found_same y x))

record Met (x : Value) (b : ℕ) (ts : List Value) (j : ℕ) : Type 0 where
  number : ℕ
  table : Value
  place : j ≡ b + number
  there : slice_get ts number ≡ Some table
  same : val_eq (value_of x) (value_of table) ≡ true

met : (x : Value) (b : ℕ) (ts : List Value) (j : ℕ) → first_same x b ts ≡ Some j → Met x b ts j
met x b [] j e = absurd (let bad : ⊥ = cc in bad)
met x b (t ∷ ts) j e = on (is_eq (table_cmp x t)) refl e (met x (suc b) ts j)
  where
    on : (c : Bool) → is_eq (table_cmp x t) ≡ c → (if c then Some b else first_same x (suc b) ts) ≡ Some j → (first_same x (suc b) ts ≡ Some j → Met x (suc b) ts j) → Met x b (t ∷ ts) j
    on true h f later =
        let here : b ≡ j = cc in
        record { number = 0; table = t; place = omega (arith, here); there = refl; same = sym (found_same x t) ∙ h }
    on false h f later =
        let w = later f in
        let at = w.place in
        record { number = suc w.number; table = w.table; place = omega (arith, at); there = w.there; same = w.same }

unmet : (x : Value) (b : ℕ) (ts : List Value) → first_same x b ts ≡ None → (a : ℕ) → same_there (Some x) (slice_get ts a) ≡ false
unmet x b [] e a = refl
unmet x b (t ∷ ts) e a = on (is_eq (table_cmp x t)) refl e (unmet x (suc b) ts) a
  where
    on : (c : Bool) → is_eq (table_cmp x t) ≡ c → (if c then Some b else first_same x (suc b) ts) ≡ None → (first_same x (suc b) ts ≡ None → (k : ℕ) → same_there (Some x) (slice_get ts k) ≡ false) → (k : ℕ) → same_there (Some x) (slice_get (t ∷ ts) k) ≡ false
    on true h f later k = absurd (let bad : ⊥ = cc in bad)
    on false h f later zero = sym (found_same x t) ∙ h
    on false h f later (suc k) = later f k

-- tables so far: those behind the ones that are left
pub record SoFar (tables left : List Value) (known : BTreeMap Value ℕ) : Type 0 where
  pub rest : List Value
  pub is : left ++ rest ≡ tables
  pub kept : (k : Value) → place_for known k ≡ first_same k (length left) rest
  pub apart : AllApart rest

none_behind : (xs : List Value) → xs ++ [] ≡ xs
none_behind [] = refl
none_behind (x ∷ xs) = ap (λ l. x ∷ l) (none_behind xs)

pub at_first : (tables : List Value) (known : BTreeMap Value ℕ) → known.entries ≡ [] → SoFar tables tables known
at_first tables known e =
    record {
      rest = [];
      is = none_behind tables;
      kept = λ k. ap (λ es. lookup (is_at (λ (y : Value). table_cmp k y)) es) e;
      apart = λ j k l h. absurd (omega (arith, h));
    }

last_moved : (xs : List Value) (t : Value) (rest : List Value) → (xs ++ t ∷ []) ++ rest ≡ xs ++ t ∷ rest
last_moved [] t rest = refl
last_moved (x ∷ xs) t rest = ap (λ l. x ∷ l) (last_moved xs t rest)

longer : (xs : List Value) (t : Value) → length (xs ++ t ∷ []) ≡ suc (length xs)
longer [] t = refl
longer (x ∷ xs) t = ap suc (longer xs t)

at_middle : (xs rest : List Value) (t : Value) → slice_get (xs ++ t ∷ rest) (length xs) ≡ Some t
at_middle [] rest t = refl
at_middle (x ∷ xs) rest t = at_middle xs rest t

behind_middle : (xs rest : List Value) (t : Value) (a : ℕ) → slice_get (xs ++ t ∷ rest) (suc (length xs) + a) ≡ slice_get rest a
behind_middle [] rest t a = ap (slice_get (t ∷ rest)) (let q : suc 0 + a ≡ suc a = omega arith in q)
behind_middle (x ∷ xs) rest t a =
    ap (slice_get (x ∷ (xs ++ t ∷ rest))) (let q : suc (suc (length xs)) + a ≡ suc (suc (length xs) + a) = omega arith in q)
    ∙ behind_middle xs rest t a

below : (xs : List Value) (a : ℕ) (x : Value) → slice_get xs a ≡ Some x → a < length xs
below [] a x e = absurd (let bad : ⊥ = cc in bad)
below (y ∷ xs) zero x e = omega arith
below (y ∷ xs) (suc a) x e = let h = below xs a x e in omega (arith, h)

all_long : (xs rest : List Value) (t : Value) → length (xs ++ t ∷ rest) ≡ suc (length xs) + length rest
all_long [] rest t = let q : suc (length rest) ≡ suc 0 + length rest = omega arith in q
all_long (x ∷ xs) rest t = let e = all_long xs rest t in omega (arith, e)

module _ (tables left now : List Value) (t : Value) (known : BTreeMap Value ℕ) (i : ℕ) (so : SoFar tables left known) (pop : left ≡ now ++ t ∷ []) (at : i ≡ length now) where
  whole : now ++ t ∷ so.rest ≡ tables
  whole = sym (last_moved now t so.rest) ∙ (ap (λ l. l ++ so.rest) (sym pop) ∙ so.is)

  place : length left ≡ suc (length now)
  place = ap length pop ∙ longer now t

  pub two_same : (j : ℕ) → place_for known t ≡ Some j → (i < j) × ((j < length tables) × (are_same_at tables i j ≡ true))
  two_same j e =
      let w = met t (length left) so.rest j (sym (so.kept t) ∙ e) in
      let far = w.place in
      let high = below so.rest w.number w.table w.there in
      let size : length tables ≡ suc (length now) + length so.rest = ap length (sym whole) ∙ all_long now so.rest t in
      let its : j ≡ suc (length now) + w.number = omega (arith, far, place) in (
        omega (arith, its, at),
        (
          omega (arith, its, size, high),
          ap (λ l. are_same_at l i j) (sym whole)
              ∙ (ap (λ a. same_there (slice_get (now ++ t ∷ so.rest) a) (slice_get (now ++ t ∷ so.rest) j)) at
              ∙ (ap (λ o. same_there o (slice_get (now ++ t ∷ so.rest) j)) (at_middle now so.rest t)
              ∙ (ap (λ a. same_there (Some t) (slice_get (now ++ t ∷ so.rest) a)) its
              ∙ (ap (same_there (Some t)) (behind_middle now so.rest t w.number ∙ w.there) ∙ w.same)))),
        ),
      )

  pub one_more : (new : BTreeMap Value ℕ) → place_for known t ≡ None → ((k : Value) → place_for new k ≡ cond (is_eq (table_cmp t k)) (Some i) (place_for known k)) → SoFar tables now new
  one_more new none put =
      record {
        rest = t ∷ so.rest;
        is = whole;
        kept = λ k. put k ∙ (on k (is_eq (table_cmp t k)) refl);
        apart = λ j k l h. apart j k l h;
      }
    where
      on : (k : Value) (c : Bool) → is_eq (table_cmp t k) ≡ c → cond c (Some i) (place_for known k) ≡ (if is_eq (table_cmp k t) then Some (length now) else first_same k (suc (length now)) so.rest)
      on k true h =
          ap (λ a. Some a) at
          ∙ sym (ap (λ c. if c then Some (length now) else first_same k (suc (length now)) so.rest) (found_turned k t ∙ h))
      on k false h =
          so.kept k
          ∙ (ap (λ a. first_same k a so.rest) place
          ∙ sym (ap (λ c. if c then Some (length now) else first_same k (suc (length now)) so.rest) (found_turned k t ∙ h)))

      apart : (j k : ℕ) → j < k → k < length (t ∷ so.rest) → are_same_at (t ∷ so.rest) j k ≡ false
      apart zero zero l h = absurd (omega (arith, l))
      apart zero (suc k) l h = unmet t (length left) so.rest (sym (so.kept t) ∙ none) k
      apart (suc j) zero l h = absurd (omega (arith, l))
      apart (suc j) (suc k) l h = so.apart j k (omega (arith, l)) (omega (arith, h))

pub all_apart : (tables left : List Value) (known : BTreeMap Value ℕ) → left ≡ [] → SoFar tables left known → AllApart tables
all_apart tables left known e so = subst AllApart (sym (ap (λ l. l ++ so.rest) e) ∙ so.is) so.apart
