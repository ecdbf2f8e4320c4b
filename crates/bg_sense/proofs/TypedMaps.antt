-- Selects and updates of typed maps are typed: an update keeps a map in normal form.
use Rattle.std.proofs.Common.{◌≡◌, Bool, true, false, List, length, refl, sym, ap, ◌∙◌, subst}
use Rattle.std.specs.Prelude.{ℤ, not, ◌&&◌, if◌then◌else◌}
use Rattle.bg_ast.specs.Values.{Val, Num, Truth, Element, Default, Entry, Ty, MapTy, KeyType, keys_eq, keys_lt, val_eq, default_of, select, entry, update, below_first, takes_parts, is_of}
use Rattle.bg_sense.proofs.Keys.{keys_same, keys_turn, below_trans}
use Rattle.bg_sense.proofs.Bools.{and_left, and_right, both}

default_if : (b : Bool) (k : List ℤ) (v m : Val) → default_of (if b then m else Entry k v m) ≡ default_of m
default_if true k v m = refl
default_if false k v m = refl

default_choice : (b : Bool) (m n : Val) (d : Val) → default_of m ≡ d → default_of n ≡ d → default_of (if b then m else n) ≡ d
default_choice true m n d e f = e
default_choice false m n d e f = f

pub default_update : (m : Val) (q : List ℤ) (v : Val) → default_of (update m q v) ≡ default_of m
default_update (Num z) q v = refl
default_update (Truth b) q v = refl
default_update (Element t z) q v = refl
default_update (Default d) q v = default_if (val_eq v d) q v (Default d)
default_update (Entry k u m) q v =
    default_choice
    (keys_eq q k)
    (entry q v m)
    (if keys_lt q k then entry q v (Entry k u m) else Entry k u (update m q v))
    (default_of m)
    (default_if (val_eq v (default_of m)) q v m)
    (default_choice (keys_lt q k) (entry q v (Entry k u m)) (Entry k u (update m q v)) (default_of m) (default_if (val_eq v (default_of m)) q v (Entry k u m)) (default_update m q v))

below_if : (b : Bool) (k : List ℤ) (m n : Val) → below_first k m ≡ true → below_first k n ≡ true → below_first k (if b then m else n) ≡ true
below_if true k m n e f = e
below_if false k m n e f = f

module _ (ks : List KeyType) (t : Ty) where
  abbrev pub M : Ty
  M = MapTy ks t

  entry_if : (b : Bool) (q : List ℤ) (v m : Val) → val_eq v (default_of m) ≡ b → takes_parts M (length q) ≡ true → is_of t v ≡ true → below_first q m ≡ true → is_of M m ≡ true → is_of M (if b then m else Entry q v m) ≡ true
  entry_if true q v m e a b c d = d
  entry_if false q v m e a b c d =
      both (takes_parts M (length q)) _ a (both (is_of t v) _ b (both (not (val_eq v (default_of m))) _ (ap not e) (both (below_first q m) (is_of M m) c d)))

  entry_typed : (q : List ℤ) (v m : Val) → takes_parts M (length q) ≡ true → is_of t v ≡ true → below_first q m ≡ true → is_of M m ≡ true → is_of M (entry q v m) ≡ true
  entry_typed q v m = entry_if (val_eq v (default_of m)) q v m refl

  of_if : (b : Bool) (m n : Val) → (b ≡ true → is_of M m ≡ true) → (b ≡ false → is_of M n ≡ true) → is_of M (if b then m else n) ≡ true
  of_if true m n h k = h refl
  of_if false m n h k = k refl

  pub record Parts (k : List ℤ) (u m : Val) : Type 0 where
    pub takes : takes_parts M (length k) ≡ true
    pub value : is_of t u ≡ true
    pub differs : not (val_eq u (default_of m)) ≡ true
    pub below : below_first k m ≡ true
    pub rest : is_of M m ≡ true

  pub parts : (k : List ℤ) (u m : Val) → is_of M (Entry k u m) ≡ true → Parts k u m
  parts k u m e =
      let a = takes_parts M (length k) in
      let b = is_of t u in
      let c = not (val_eq u (default_of m)) in
      let d = below_first k m in
      let e1 = and_right a (b && (c && (d && is_of M m))) e in
      let e2 = and_right b (c && (d && is_of M m)) e1 in
      let e3 = and_right c (d && is_of M m) e2 in
      record {
        takes = and_left a (b && (c && (d && is_of M m))) e;
        value = and_left b (c && (d && is_of M m)) e1;
        differs = and_left c (d && is_of M m) e2;
        below = and_left d (is_of M m) e3;
        rest = and_right d (is_of M m) e3;
      }

  below_update : (k q : List ℤ) (m v : Val) → is_of M m ≡ true → keys_lt k q ≡ true → below_first k m ≡ true → below_first k (update m q v) ≡ true
  below_update k q (Num z) v h e f = refl
  below_update k q (Truth b) v h e f = refl
  below_update k q (Element u z) v h e f = refl
  below_update k q (Default d) v h e f = below_if (val_eq v d) k (Default d) (Entry q v (Default d)) refl e
  below_update k q (Entry l u n) v h e f =
      below_if
      (keys_eq q l)
      k
      (entry q v n)
      (if keys_lt q l then entry q v (Entry l u n) else Entry l u (update n q v))
      (below_if (val_eq v (default_of n)) k n (Entry q v n) (below_trans k l n f (parts l u n h).below) e)
      (below_if (keys_lt q l) k (entry q v (Entry l u n)) (Entry l u (update n q v)) (below_if (val_eq v (default_of n)) k (Entry l u n) (Entry q v (Entry l u n)) f e) f)

  pub update_typed : (m : Val) (q : List ℤ) (v : Val) → is_of M m ≡ true → takes_parts M (length q) ≡ true → is_of t v ≡ true → is_of M (update m q v) ≡ true
  update_typed (Num z) q v h a b = h
  update_typed (Truth x) q v h a b = h
  update_typed (Element u z) q v h a b = h
  update_typed (Default d) q v h a b = entry_typed q v (Default d) a b refl h
  update_typed (Entry k u m) q v h a b =
      let p = parts k u m h in
      of_if
      (keys_eq q k)
      (entry q v m)
      (if keys_lt q k then entry q v (Entry k u m) else Entry k u (update m q v))
      (λ same. entry_typed q v m a b (subst (λ l. below_first l m ≡ true) (sym (keys_same q k same)) p.below) p.rest)
      (λ other. of_if
      (keys_lt q k)
      (entry q v (Entry k u m))
      (Entry k u (update m q v))
      (λ lt. entry_typed q v (Entry k u m) a b lt h)
      (λ ge. both
      (takes_parts M (length k))
      _
      p.takes
      (both
      (is_of t u)
      _
      p.value
      (both
      (not (val_eq u (default_of (update m q v))))
      _
      (ap (λ d. not (val_eq u d)) (default_update m q v) ∙ p.differs)
      (both
      (below_first k (update m q v))
      (is_of M (update m q v))
      (below_update k q m v p.rest (keys_turn q k other ge) p.below)
      (update_typed m q v p.rest a b))))))

  of_choice : (b : Bool) (m n : Val) → is_of t m ≡ true → is_of t n ≡ true → is_of t (if b then m else n) ≡ true
  of_choice true m n h k = h
  of_choice false m n h k = k

  pub select_typed : (m : Val) (q : List ℤ) → is_of M m ≡ true → is_of t (select m q) ≡ true
  select_typed (Num z) q h = absurd (let bad : ⊥ = cc in bad)
  select_typed (Truth x) q h = absurd (let bad : ⊥ = cc in bad)
  select_typed (Element u z) q h = absurd (let bad : ⊥ = cc in bad)
  select_typed (Default d) q h = h
  select_typed (Entry k v m) q h =
      let p = parts k v m h in of_choice (keys_eq k q) v (select m q) p.value (select_typed m q p.rest)
