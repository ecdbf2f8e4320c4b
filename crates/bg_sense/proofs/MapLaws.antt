-- Laws of map values: equal where they agree everywhere; what an update gives.
use Rattle.std.proofs.Common.{◌≡◌, ℕ, suc, ◌+◌, ◌≤◌, Bool, true, false, List, [], ◌∷◌, length, refl, sym, ap, ◌∙◌, subst, ⊎_elim, arith}
use Rattle.std.specs.Prelude.{◌↔◌, ℤ, pos, negsuc, not, ◌&&◌, if◌then◌else◌, ◌==◌}
use Rattle.std.specs.Ordering.{int_eq}
use Rattle.std.proofs.lemmas.Bool.{eqb-true, eq-eqb}
use Rattle.bg_ast.specs.Values.{Val, Num, Truth, Element, Default, Entry, Ty, MapTy, KeyType, keys_eq, keys_lt, val_eq, default_of, select, entry, update, below_first, takes_parts, is_of}
use Rattle.bg_sense.proofs.Bools.{and_left, and_right, both, bool_cases}
use Rattle.bg_sense.proofs.Keys.{int_eq_same, keys_same, keys_turn, keys_eq_refl, keys_lt_apart, keys_apart, below_trans, false_true}
use Rattle.bg_sense.proofs.TypedMaps.{Parts, parts}

int_eq_refl : (z : ℤ) → int_eq z z ≡ true
int_eq_refl z = grind arith

pub val_eq_refl : (v : Val) → val_eq v v ≡ true
val_eq_refl (Num z) = int_eq_refl z
val_eq_refl (Truth true) = refl
val_eq_refl (Truth false) = refl
val_eq_refl (Element t z) = both (t == t) (int_eq z z) (eq-eqb t t refl) (int_eq_refl z)
val_eq_refl (Default d) = val_eq_refl d
val_eq_refl (Entry k v m) =
    both (keys_eq k k) (val_eq v v && val_eq m m) (keys_eq_refl k) (both (val_eq v v) (val_eq m m) (val_eq_refl v) (val_eq_refl m))

pub val_same : (v w : Val) → val_eq v w ≡ true → v ≡ w
val_same (Num x) (Num y) e = ap Num (int_eq_same x y e)
val_same (Num x) (Truth b) e = absurd (let bad : ⊥ = cc in bad)
val_same (Num x) (Element t y) e = absurd (let bad : ⊥ = cc in bad)
val_same (Num x) (Default d) e = absurd (let bad : ⊥ = cc in bad)
val_same (Num x) (Entry k v m) e = absurd (let bad : ⊥ = cc in bad)
val_same (Truth true) (Num x) e = absurd (let bad : ⊥ = cc in bad)
val_same (Truth false) (Num x) e = absurd (let bad : ⊥ = cc in bad)
val_same (Truth true) (Truth true) e = refl
val_same (Truth true) (Truth false) e = absurd (let bad : ⊥ = cc in bad)
val_same (Truth false) (Truth true) e = absurd (let bad : ⊥ = cc in bad)
val_same (Truth false) (Truth false) e = refl
val_same (Truth true) (Element t y) e = absurd (let bad : ⊥ = cc in bad)
val_same (Truth false) (Element t y) e = absurd (let bad : ⊥ = cc in bad)
val_same (Truth true) (Default d) e = absurd (let bad : ⊥ = cc in bad)
val_same (Truth false) (Default d) e = absurd (let bad : ⊥ = cc in bad)
val_same (Truth true) (Entry k v m) e = absurd (let bad : ⊥ = cc in bad)
val_same (Truth false) (Entry k v m) e = absurd (let bad : ⊥ = cc in bad)
val_same (Element t x) (Num y) e = absurd (let bad : ⊥ = cc in bad)
val_same (Element t x) (Truth b) e = absurd (let bad : ⊥ = cc in bad)
val_same (Element t x) (Element u y) e =
    ap (λ n. Element n x) (eqb-true t u (and_left (t == u) (int_eq x y) e)) ∙ ap (Element u) (int_eq_same x y (and_right (t == u) (int_eq x y) e))
val_same (Element t x) (Default d) e = absurd (let bad : ⊥ = cc in bad)
val_same (Element t x) (Entry k v m) e = absurd (let bad : ⊥ = cc in bad)
val_same (Default a) (Num x) e = absurd (let bad : ⊥ = cc in bad)
val_same (Default a) (Truth b) e = absurd (let bad : ⊥ = cc in bad)
val_same (Default a) (Element t x) e = absurd (let bad : ⊥ = cc in bad)
val_same (Default a) (Default b) e = ap Default (val_same a b e)
val_same (Default a) (Entry k v m) e = absurd (let bad : ⊥ = cc in bad)
val_same (Entry k v m) (Num x) e = absurd (let bad : ⊥ = cc in bad)
val_same (Entry k v m) (Truth b) e = absurd (let bad : ⊥ = cc in bad)
val_same (Entry k v m) (Element t x) e = absurd (let bad : ⊥ = cc in bad)
val_same (Entry k v m) (Default d) e = absurd (let bad : ⊥ = cc in bad)
val_same (Entry k v m) (Entry l w n) e =
    let rest = and_right (keys_eq k l) (val_eq v w && val_eq m n) e in
    ap (λ x. Entry x v m) (keys_same k l (and_left (keys_eq k l) (val_eq v w && val_eq m n) e))
    ∙ ap (λ x. Entry l x m) (val_same v w (and_left (val_eq v w) (val_eq m n) rest))
    ∙ ap (Entry l w) (val_same m n (and_right (val_eq v w) (val_eq m n) rest))

pub val_eq_is_same : (v w : Val) → val_eq v w ≡ true ↔ v ≡ w
val_eq_is_same v w = (val_same v w, λ e. subst (λ x. val_eq v x ≡ true) e (val_eq_refl v))

not_same : (v w : Val) → not (val_eq v w) ≡ true → v ≡ w → ⊥
not_same v w n e =
    let same : val_eq v w ≡ true = subst (λ x. val_eq v x ≡ true) e (val_eq_refl v) in
    let no : false ≡ true = sym (ap not same) ∙ n in
    let bad : ⊥ = cc in bad

-- a choice of two values, where the test is known
pub if_true : (b : Bool) (v w : Val) → b ≡ true → (if b then v else w) ≡ v
if_true true v w e = refl
if_true false v w e = absurd (let bad : ⊥ = cc in bad)

pub if_false : (b : Bool) (v w : Val) → b ≡ false → (if b then v else w) ≡ w
if_false true v w e = absurd (let bad : ⊥ = cc in bad)
if_false false v w e = refl

-- how far up the first parts of a map's indices go
abbrev size : ℤ → ℕ
size (pos n) = n
size (negsuc n) = 0

abbrev reach : Val → ℕ
reach (Entry [] v m) = reach m
reach (Entry (x ∷ xs) v m) = size x + reach m
reach _ = 0

beyond : (x : ℤ) (n : ℕ) → size x ≤ n → int_eq x (pos (suc n)) ≡ false
beyond (pos k) n h = grind arith
beyond (negsuc k) n h = grind arith

-- beyond all indices a map gives its default
far : (m : Val) (n : ℕ) (qs : List ℤ) → reach m ≤ n → select m (pos (suc n) ∷ qs) ≡ default_of m
far (Num z) n qs h = refl
far (Truth b) n qs h = refl
far (Element t z) n qs h = refl
far (Default d) n qs h = refl
far (Entry [] v m) n qs h = far m n qs h
far (Entry (x ∷ xs) v m) n qs h =
    if_false (int_eq x (pos (suc n)) && keys_eq xs qs) v (select m (pos (suc n) ∷ qs)) (ap (λ b. b && keys_eq xs qs) (beyond x n (omega arith))) ∙ far m n qs (omega arith)

module _ (ks : List KeyType) (t : Ty) where
  -- below its first index a map gives its default
  before : (m : Val) (q : List ℤ) → is_of (MapTy ks t) m ≡ true → below_first q m ≡ true → select m q ≡ default_of m
  before (Num z) q h b = refl
  before (Truth x) q h b = refl
  before (Element u z) q h b = refl
  before (Default d) q h b = refl
  before (Entry k v m) q h b =
      let p = parts ks t k v m h in
      if_false (keys_eq k q) v (select m q) (keys_lt_apart q k b) ∙ before m q p.rest (below_trans q k m b p.below)

  entry_at : (m : Val) (q : List ℤ) (v : Val) → is_of (MapTy ks t) m ≡ true → below_first q m ≡ true → select (entry q v m) q ≡ v
  entry_at m q v h b = on (val_eq v (default_of m)) refl
    where
      on : (c : Bool) → val_eq v (default_of m) ≡ c → select (if c then m else Entry q v m) q ≡ v
      on true e = before m q h b ∙ sym (val_same v (default_of m) e)
      on false e = if_true (keys_eq q q) v (select m q) (keys_eq_refl q)

  entry_off : (m : Val) (q r : List ℤ) (v : Val) → keys_eq q r ≡ false → select (entry q v m) r ≡ select m r
  entry_off m q r v e = on (val_eq v (default_of m))
    where
      on : (c : Bool) → select (if c then m else Entry q v m) r ≡ select m r
      on true = refl
      on false = if_false (keys_eq q r) v (select m r) e

  pub select_updated : (m : Val) (q : List ℤ) (v : Val) → is_of (MapTy ks t) m ≡ true → select (update m q v) q ≡ v
  select_updated (Num z) q v h = absurd (let bad : ⊥ = cc in bad)
  select_updated (Truth x) q v h = absurd (let bad : ⊥ = cc in bad)
  select_updated (Element u z) q v h = absurd (let bad : ⊥ = cc in bad)
  select_updated (Default d) q v h = entry_at (Default d) q v h refl
  select_updated (Entry k u m) q v h =
      on (keys_eq q k) (keys_lt q k) refl refl (select_updated m q v (parts ks t k u m h).rest)
    where
      p : Parts ks t k u m
      p = parts ks t k u m h

      on : (a b : Bool) → keys_eq q k ≡ a → keys_lt q k ≡ b → select (update m q v) q ≡ v → select (if a then entry q v m else if b then entry q v (Entry k u m) else Entry k u (update m q v)) q ≡ v
      on true b e f r =
          entry_at m q v p.rest (subst (λ l. below_first l m ≡ true) (sym (keys_same q k e)) p.below)
      on false true e f r = entry_at (Entry k u m) q v h f
      on false false e f r =
          if_false (keys_eq k q) u (select (update m q v) q) (keys_apart k q (λ same. false_true (keys_eq q k) e (ap (keys_eq q) same ∙ keys_eq_refl q))) ∙ r

  pub select_elsewhere : (m : Val) (q r : List ℤ) (v : Val) → is_of (MapTy ks t) m ≡ true → keys_eq q r ≡ false → select (update m q v) r ≡ select m r
  select_elsewhere (Num z) q r v h d = refl
  select_elsewhere (Truth x) q r v h d = refl
  select_elsewhere (Element u z) q r v h d = refl
  select_elsewhere (Default a) q r v h d = entry_off (Default a) q r v d
  select_elsewhere (Entry k u m) q r v h d =
      on (keys_eq q k) (keys_lt q k) refl (select_elsewhere m q r v (parts ks t k u m h).rest d)
    where
      through : (c : Bool) → select (update m q v) r ≡ select m r → (if c then u else select (update m q v) r) ≡ (if c then u else select m r)
      through true e = refl
      through false e = e

      on : (a b : Bool) → keys_eq q k ≡ a → select (update m q v) r ≡ select m r → select (if a then entry q v m else if b then entry q v (Entry k u m) else Entry k u (update m q v)) r ≡ (if keys_eq k r then u else select m r)
      on true b e rest =
          entry_off m q r v d ∙ sym (if_false (keys_eq k r) u (select m r) (ap (λ l. keys_eq l r) (sym (keys_same q k e)) ∙ d))
      on false true e rest = entry_off (Entry k u m) q r v d
      on false false e rest = through (keys_eq k r) rest

  -- they agree at each index of this many parts
  abbrev Agree : Val → Val → Type 0
  Agree m n = (q : List ℤ) → length q ≡ length ks → select m q ≡ select n q

  fits : (q : List ℤ) → takes_parts (MapTy ks t) (length q) ≡ true → length q ≡ length ks
  fits q h = sym (eqb-true (length ks) (length q) h)

  -- where the first indices are the same, the maps behind them agree
  agree_behind : (k : List ℤ) (v w m n : Val) → is_of (MapTy ks t) (Entry k v m) ≡ true → is_of (MapTy ks t) (Entry k w n) ≡ true → default_of m ≡ default_of n → Agree (Entry k v m) (Entry k w n) → Agree m n
  agree_behind k v w m n h g d a q l =
      ⊎_elim
      (λ same. subst (λ x. select m x ≡ select n x) (keys_same k q same) (before m k p.rest p.below ∙ d ∙ sym (before n k r.rest r.below)))
      (λ other. sym (if_false (keys_eq k q) v (select m q) other) ∙ a q l ∙ if_false (keys_eq k q) w (select n q) other)
      (bool_cases (keys_eq k q))
    where
      p : Parts ks t k v m
      p = parts ks t k v m h

      r : Parts ks t k w n
      r = parts ks t k w n g

  -- an entry that the other map lacks
  lacks : (k : List ℤ) (v m n : Val) → is_of (MapTy ks t) (Entry k v m) ≡ true → is_of (MapTy ks t) n ≡ true → below_first k n ≡ true → default_of m ≡ default_of n → Agree (Entry k v m) n → ⊥
  lacks k v m n h g b d a =
      let p = parts ks t k v m h in
      let here : v ≡ select n k = sym (if_true (keys_eq k k) v (select m k) (keys_eq_refl k)) ∙ a k (fits k p.takes) in
      not_same v (default_of m) p.differs (here ∙ before n k g b ∙ sym d)

  pub agreeing : (m n : Val) → is_of (MapTy ks t) m ≡ true → is_of (MapTy ks t) n ≡ true → default_of m ≡ default_of n → Agree m n → m ≡ n
  agreeing (Num z) n h g d a = absurd (let bad : ⊥ = cc in bad)
  agreeing (Truth x) n h g d a = absurd (let bad : ⊥ = cc in bad)
  agreeing (Element u z) n h g d a = absurd (let bad : ⊥ = cc in bad)
  agreeing (Default x) (Num z) h g d a = absurd (let bad : ⊥ = cc in bad)
  agreeing (Default x) (Truth z) h g d a = absurd (let bad : ⊥ = cc in bad)
  agreeing (Default x) (Element u z) h g d a = absurd (let bad : ⊥ = cc in bad)
  agreeing (Default x) (Default y) h g d a = ap Default d
  agreeing (Default x) (Entry l w n) h g d a =
      absurd (lacks l w n (Default x) g h refl (sym d) (λ q e. sym (a q e)))
  agreeing (Entry k v m) (Num z) h g d a = absurd (let bad : ⊥ = cc in bad)
  agreeing (Entry k v m) (Truth z) h g d a = absurd (let bad : ⊥ = cc in bad)
  agreeing (Entry k v m) (Element u z) h g d a = absurd (let bad : ⊥ = cc in bad)
  agreeing (Entry k v m) (Default y) h g d a = absurd (lacks k v m (Default y) h g refl d a)
  agreeing (Entry k v m) (Entry l w n) h g d a =
      ⊎_elim
      (λ same. joined (keys_same k l same) (agreeing m n (parts ks t k v m h).rest (parts ks t l w n g).rest d))
      (λ other. ⊎_elim
      (λ lt. absurd (lacks k v m (Entry l w n) h g lt d a))
      (λ ge. absurd (lacks l w n (Entry k v m) g h (keys_turn k l other ge) (sym d) (λ q e. sym (a q e))))
      (bool_cases (keys_lt k l)))
      (bool_cases (keys_eq k l))
    where
      here : k ≡ l → v ≡ w
      here e =
          sym (if_true (keys_eq k k) v (select m k) (keys_eq_refl k))
          ∙ a k (fits k (parts ks t k v m h).takes)
          ∙ if_true (keys_eq l k) w (select n k) (ap (λ x. keys_eq x k) (sym e) ∙ keys_eq_refl k)

      joined : k ≡ l → (Agree m n → m ≡ n) → Entry k v m ≡ Entry l w n
      joined e rest =
          let again : is_of (MapTy ks t) (Entry k w n) ≡ true = subst (λ x. is_of (MapTy ks t) (Entry x w n) ≡ true) (sym e) g in
          let both_here : Agree (Entry k v m) (Entry k w n) = subst (λ x. Agree (Entry k v m) (Entry x w n)) (sym e) a in
          ap (λ x. Entry x v m) e ∙ ap (λ x. Entry l x m) (here e) ∙ ap (Entry l w) (rest (agree_behind k v w m n h again d both_here))

-- zeros, so many
abbrev zeros : {A : Type 0} → List A → List ℤ
zeros [] = []
zeros (x ∷ xs) = pos 0 ∷ zeros xs

zeros_length : {A : Type 0} → (xs : List A) → length (zeros xs) ≡ length xs
zeros_length [] = refl
zeros_length (x ∷ xs) = let e = zeros_length xs in omega arith

pub equal_where_agreeing : (k : KeyType) (ks : List KeyType) (t : Ty) (m n : Val) → is_of (MapTy (k ∷ ks) t) m ≡ true → is_of (MapTy (k ∷ ks) t) n ≡ true → ((q : List ℤ) → length q ≡ length (k ∷ ks) → select m q ≡ select n q) → m ≡ n
equal_where_agreeing k ks t m n h g a =
    let b = reach m + reach n in
    let len : length (pos (suc b) ∷ zeros ks) ≡ length (k ∷ ks) = let e = zeros_length ks in omega arith in
    let d : default_of m ≡ default_of n = sym (far m b (zeros ks) (omega arith)) ∙ a (pos (suc b) ∷ zeros ks) len ∙ far n b (zeros ks) (omega arith) in
    agreeing (k ∷ ks) t m n h g d a
