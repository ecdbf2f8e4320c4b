-- Selects by their maps.
use Rattle.std.proofs.Common.{◌≡◌, ℕ, suc, ◌+◌, Bool, true, false, cond, List, [], ◌∷◌, ◌++◌, length, Option, Some, None, Vec, Global, refl, sym, ap, ◌∙◌, subst, arith}
use Rattle.std.specs.Prelude.{if◌then◌else◌}
use Rattle.std.specs.Ordering.{nat_cmp, ordering_then, is_eq}
use Rattle.std.specs.BTreeMap.{BTreeMap, is_at, get_by}
use Rattle.std.specs.Map.{lookup}
use Rattle.std.proofs.lemmas.Map.Lookups.{exact_unsigned}
use Rattle.bg_scalar.specs.declared.scalar.Scalar.{Scalar}
use Rattle.bg_wanted.specs.Rows.{RowOf}
use Rattle.bg_wanted.specs.Firsts.{scalar_cmp}
use Rattle.bg_wanted.specs.Selects.{MapOf, map_cmp, is_map, items_of, places_at, map_in, is_from, places_of, HasSelects}
use Rattle.bg_wanted.proofs.Earliest.{first_equal, equal_is, scalar_exact, nat_same, scalar_equal, alike}

-- ---- maps that compare equal are equal

pub map_same : (k : MapOf) → is_map k k ≡ true
map_same k = ap (λ o. is_eq (ordering_then o (scalar_cmp k.1 k.1))) (nat_same k.0) ∙ ap is_eq (scalar_equal k.1)

pub map_is : (k l : MapOf) → is_map k l ≡ true → k ≡ l
map_is k l h =
    let e = first_equal (nat_cmp k.0 l.0) (scalar_cmp k.1 l.1) (equal_is (map_cmp k l) h) in
    ap (λ (z : ℕ). (z, k.1)) (exact_unsigned k.0 l.0 e.0) ∙ ap (λ (z : Scalar). (l.0, z)) (scalar_exact k.1 l.1 e.1)

map_turned : (k l : MapOf) → is_map k l ≡ is_map l k
map_turned k l = alike _ _ (there k l) (there l k)
  where
    there : (k l : MapOf) → is_map k l ≡ true → is_map l k ≡ true
    there k l h = subst (λ z. is_map z k ≡ true) (map_is k l h) (map_same k)

-- ---- a table of places

pub taken_at : (c : Bool) (o : Option (Vec ℕ Global)) {n : Option (Vec ℕ Global)} → n ≡ cond c None o → items_of n ≡ (if c then [] else items_of o)
taken_at true o e = ap items_of e
taken_at false o e = ap items_of e

pub put_at : (old mid now : BTreeMap MapOf (Vec ℕ Global)) (map k : MapOf) (place : ℕ) (taken : List ℕ) (places : Vec ℕ Global) → taken ≡ places_at old map → places_at mid k ≡ (if is_map map k then [] else places_at old k) → places.items ≡ taken ++ place ∷ [] → get_by (λ y. map_cmp k y) now ≡ cond (is_map map k) (Some places) (get_by (λ y. map_cmp k y) mid) → places_at now k ≡ (if is_map map k then places_at old k ++ place ∷ [] else places_at old k)
put_at old mid now map k place taken places was others push put = on (is_map map k) refl others put
  where
    on : (c : Bool) → is_map map k ≡ c → places_at mid k ≡ (if c then [] else places_at old k) → get_by (λ y. map_cmp k y) now ≡ cond c (Some places) (get_by (λ y. map_cmp k y) mid) → places_at now k ≡ (if c then places_at old k ++ place ∷ [] else places_at old k)
    on true e f g =
        ap items_of g
        ∙ (push ∙ (ap (λ l. l ++ place ∷ []) was ∙ ap (λ q. places_at old q ++ place ∷ []) (map_is map k e)))
    on false e f g = ap items_of g ∙ f

pub no_selects : (m : BTreeMap MapOf (Vec ℕ Global)) (k : MapOf) → m.entries ≡ [] → places_at m k ≡ places_of k 0 []
no_selects m k h = ap (λ es. items_of (lookup (is_at (λ (y : MapOf). map_cmp k y)) es)) h

-- ---- one row more

places_last : (k : MapOf) (a : ℕ) (rs : List RowOf) (r : RowOf) → places_of k a (rs ++ r ∷ []) ≡ places_of k a rs ++ (if is_from k (map_in r.class r.args) then (a + length rs) ∷ [] else [])
places_last k a [] r = on (is_from k (map_in r.class r.args))
  where
    on : (c : Bool) → (if c then a ∷ [] else []) ≡ (if c then (a + 0) ∷ [] else [])
    on true = ap (λ b. b ∷ []) (let q : a ≡ a + 0 = omega arith in q)
    on false = refl
places_last k a (u ∷ rs) r =
    on (is_from k (map_in u.class u.args)) (places_last k (suc a) rs r ∙ ap (λ b. places_of k (suc a) rs ++ (if is_from k (map_in r.class r.args) then b ∷ [] else [])) (let q : suc a + length rs ≡ a + suc (length rs) = omega arith in q))
  where
    on : (c : Bool) → places_of k (suc a) (rs ++ r ∷ []) ≡ places_of k (suc a) rs ++ (if is_from k (map_in r.class r.args) then (a + suc (length rs)) ∷ [] else []) → (if c then a ∷ places_of k (suc a) (rs ++ r ∷ []) else places_of k (suc a) (rs ++ r ∷ [])) ≡ (if c then a ∷ places_of k (suc a) rs else places_of k (suc a) rs) ++ (if is_from k (map_in r.class r.args) then (a + suc (length rs)) ∷ [] else [])
    on true later = ap (λ l. a ∷ l) later
    on false later = later

none_behind : {A : Type 0} (xs : List A) → xs ++ [] ≡ xs
none_behind [] = refl
none_behind (x ∷ xs) = ap (λ l. x ∷ l) (none_behind xs)

-- a row that selects from no map
pub selects_same : (m : BTreeMap MapOf (Vec ℕ Global)) (rs : List RowOf) (r : RowOf) → HasSelects m rs → map_in r.class r.args ≡ None → HasSelects m (rs ++ r ∷ [])
selects_same m rs r has none k =
    has k
    ∙ sym (places_last k 0 rs r
    ∙ (ap (λ o. places_of k 0 rs ++ (if is_from k o then (0 + length rs) ∷ [] else [])) none ∙ none_behind (places_of k 0 rs)))

-- one that selects from a map
pub selects_more : (m w : BTreeMap MapOf (Vec ℕ Global)) (rs : List RowOf) (r : RowOf) → HasSelects m rs → (map : MapOf) (place : ℕ) → map_in r.class r.args ≡ Some map → place ≡ length rs → ((k : MapOf) → places_at w k ≡ (if is_map map k then places_at m k ++ place ∷ [] else places_at m k)) → HasSelects w (rs ++ r ∷ [])
selects_more m w rs r has map place is at put k =
    put k
    ∙ (on (is_map map k)
    ∙ (ap (λ c. places_of k 0 rs ++ (if c then (0 + length rs) ∷ [] else [])) (map_turned map k)
    ∙ (sym (ap (λ o. places_of k 0 rs ++ (if is_from k o then (0 + length rs) ∷ [] else [])) is) ∙ sym (places_last k 0 rs r))))
  where
    on : (c : Bool) → (if c then places_at m k ++ place ∷ [] else places_at m k) ≡ places_of k 0 rs ++ (if c then (0 + length rs) ∷ [] else [])
    on true =
        ap (λ l. l ++ place ∷ []) (has k)
        ∙ ap (λ j. places_of k 0 rs ++ j ∷ []) (let q : place ≡ 0 + length rs = omega (arith, at) in q)
    on false = has k ∙ sym (none_behind (places_of k 0 rs))
