-- Updates of maps, by the place of the key.
use Rattle.std.proofs.Common.{◌≡◌, ℕ, zero, suc, ℤ, Bool, true, false, ◌&&◌, List, [], ◌∷◌, ◌++◌, length, map, refl, sym, ap, ◌∙◌, ◌≤◌, ◌<◌, arith}
use Rattle.std.specs.Prelude.{if◌then◌else◌, slice_get}
use Rattle.std.specs.List.{insert, remove}
use Rattle.bg_ast.specs.Values.{Val, Default, Entry, keys_eq, keys_lt, val_eq, default_of, update, entry}
use Rattle.bg_scalar.specs.Maps.{Item, with_entries, entry_in, key_in, map_of, place_in, is_key, entries_eq, taken_out, put_in}
use Rattle.bg_scalar.specs.declared.value.Entry as kept

abbrev pub key_at : Item → List ℤ
key_at e = e.0

-- ---- entries that are the same

and_assoc : (a b c : Bool) → (a && (b && c)) ≡ ((a && b) && c)
and_assoc true b c = refl
and_assoc false b c = refl

three : (a b c d : Bool) → (a && (b && (c && d))) ≡ ((a && (b && c)) && d)
three true true c d = refl
three true false c d = refl
three false b c d = refl

pub maps_same : (es fs : List Item) (c d : Val) → val_eq (with_entries es (Default c)) (with_entries fs (Default d)) ≡ (entries_eq es fs && val_eq c d)
maps_same [] [] c d = refl
maps_same [] (f ∷ fs) c d = refl
maps_same (e ∷ es) [] c d = refl
maps_same (e ∷ es) (f ∷ fs) c d =
    ap (λ b. keys_eq e.0 f.0 && (val_eq e.1 f.1 && b)) (maps_same es fs c d)
    ∙ three (keys_eq e.0 f.0) (val_eq e.1 f.1) (entries_eq es fs) (val_eq c d)

-- ---- the default

pub default_is : (es : List Item) (d : Val) → default_of (with_entries es (Default d)) ≡ d
default_is [] d = refl
default_is (e ∷ es) d = default_is es d

-- ---- updates

taken_behind : (b : Bool) (i : ℕ) (e : Item) (es : List Item) → taken_out b (suc i) (e ∷ es) ≡ e ∷ taken_out b i es
taken_behind true i e es = refl
taken_behind false i e es = refl

put_behind : (b : Bool) (i : ℕ) (x e : Item) (es : List Item) → put_in b (suc i) x (e ∷ es) ≡ e ∷ put_in b i x es
put_behind true i x e es = refl
put_behind false i x e es = refl

pub map_insert : {A B : Type 0} (f : A → B) (xs : List A) (i : ℕ) (x : A) → map f (insert xs i x) ≡ insert (map f xs) i (f x)
map_insert f [] zero x = refl
map_insert f [] (suc i) x = refl
map_insert f (y ∷ ys) zero x = refl
map_insert f (y ∷ ys) (suc i) x = ap (λ l. f y ∷ l) (map_insert f ys i x)

pub map_remove : {A B : Type 0} (f : A → B) (xs : List A) (i : ℕ) → map f (remove xs i) ≡ remove (map f xs) i
map_remove f [] zero = refl
map_remove f [] (suc i) = refl
map_remove f (y ∷ ys) zero = refl
map_remove f (y ∷ ys) (suc i) = ap (λ l. f y ∷ l) (map_remove f ys i)

-- a place is no further than the end, with or without an entry taken out there
within : (b c : Bool) (n m : ℕ) → n ≤ m → (if b then zero else if c then zero else suc n) ≤ suc m
within true c n m h = omega arith
within false true n m h = omega arith
within false false n m h = omega (arith, h)

pub place_within : (ks : List (List ℤ)) (q : List ℤ) → place_in ks q ≤ length ks
place_within [] q = omega arith
place_within (k ∷ ks) q = within (keys_eq q k) (keys_lt q k) (place_in ks q) (length ks) (place_within ks q)

pub key_within : (ks : List (List ℤ)) (i : ℕ) (q : List ℤ) → is_key (slice_get ks i) q ≡ true → i < length ks
key_within [] i q h = absurd (let bad : ⊥ = cc in bad)
key_within (k ∷ ks) zero q h = omega arith
key_within (k ∷ ks) (suc i) q h = let l = key_within ks i q h in omega (arith, l)

pub still_within : (es : List Item) (i : ℕ) (b : Bool) → i ≤ length es → (b ≡ true → i < length es) → i ≤ length (taken_out b i es)
still_within es i false le f = le
still_within [] zero true le f = omega arith
still_within [] (suc i) true le f = let k = f refl in absurd (omega (arith, k))
still_within (e ∷ es) zero true le f = omega arith
still_within (e ∷ es) (suc i) true le f =
    let k = f refl in
    let rest = still_within es i true (omega (arith, k)) (λ x. omega (arith, k)) in
    omega (arith, rest)

module _ (d : Val) (q : List ℤ) (v : Val) where
  abbrev pub whole : List Item → Val
  whole es = with_entries es (Default d)

  -- the entries with another value at the key, which has this place
  abbrev pub changed : ℕ → List Item → List Item
  changed i es = put_in (val_eq v d) i (q, v) (taken_out (is_key (slice_get (map key_at es) i) q) i es)

  put_first : (b : Bool) (es : List Item) → (if b then whole es else Entry q v (whole es)) ≡ whole (put_in b zero (q, v) es)
  put_first true es = refl
  put_first false es = refl

  entry_is : (es : List Item) → entry q v (whole es) ≡ whole (put_in (val_eq v d) zero (q, v) es)
  entry_is es =
      ap (λ x. if val_eq v x then whole es else Entry q v (whole es)) (default_is es d) ∙ put_first (val_eq v d) es

  abbrev Changed : List Item → Type 0
  Changed es = update (whole es) q v ≡ whole (changed (place_in (map key_at es) q) es)

  module _ (k : List ℤ) (u : Val) (es : List Item) where
    abbrev more : List Item
    more = (k, u) ∷ es

    abbrev left : Bool → Bool → Val
    left same less = if same then entry q v (whole es) else if less then entry q v (whole more) else Entry k u (update (whole es) q v)

    abbrev at : Bool → Bool → ℕ
    at same less = if same then zero else if less then zero else suc (place_in (map key_at es) q)

    first_taken : keys_eq q k ≡ true → changed zero more ≡ put_in (val_eq v d) zero (q, v) es
    first_taken h = ap (λ b. put_in (val_eq v d) zero (q, v) (taken_out b zero more)) h

    none_taken : keys_eq q k ≡ false → changed zero more ≡ put_in (val_eq v d) zero (q, v) more
    none_taken h = ap (λ b. put_in (val_eq v d) zero (q, v) (taken_out b zero more)) h

    later : (i : ℕ) → changed (suc i) more ≡ (k, u) ∷ changed i es
    later i =
        ap (put_in (val_eq v d) (suc i) (q, v)) (taken_behind (is_key (slice_get (map key_at es) i) q) i (k, u) es)
        ∙ put_behind (val_eq v d) i (q, v) (k, u) (taken_out (is_key (slice_get (map key_at es) i) q) i es)

    by_test : (same less : Bool) → keys_eq q k ≡ same → Changed es → left same less ≡ whole (changed (at same less) more)
    by_test true less h made = entry_is es ∙ sym (ap whole (first_taken h))
    by_test false true h made = entry_is more ∙ sym (ap whole (none_taken h))
    by_test false false h made = ap (Entry k u) made ∙ sym (ap whole (later (place_in (map key_at es) q)))

  pub updates_are : (es : List Item) → Changed es
  updates_are [] = entry_is []
  updates_are (e ∷ es) = by_test e.0 e.1 es (keys_eq q e.0) (keys_lt q e.0) refl (updates_are es)

keys_are : (es : List kept.Entry) → map key_at (map entry_in es) ≡ map key_in es
keys_are [] = refl
keys_are (e ∷ es) = ap (λ ks. key_in e ∷ ks) (keys_are es)

pub updated : (items mid new : List kept.Entry) (d v : Val) (q : List ℤ) (i : ℕ) → i ≡ place_in (map key_in items) q → map entry_in mid ≡ taken_out (is_key (slice_get (map key_in items) i) q) i (map entry_in items) → map entry_in new ≡ put_in (val_eq v d) i (q, v) (map entry_in mid) → map_of new d ≡ update (map_of items d) q v
updated items mid new d v q i at out put =
    let es = map entry_in items in
    ap (whole d q v) put
    ∙ (ap (λ l. whole d q v (put_in (val_eq v d) i (q, v) l)) out
    ∙ (ap (λ ks. whole d q v (put_in (val_eq v d) i (q, v) (taken_out (is_key (slice_get ks i) q) i es))) (sym (keys_are items))
    ∙ (ap (λ j. whole d q v (changed d q v j es)) (at ∙ ap (λ ks. place_in ks q) (sym (keys_are items)))
    ∙ sym (updates_are d q v es))))
