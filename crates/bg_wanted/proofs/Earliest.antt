-- The first rows with each key.
use Rattle.std.proofs.Common.{◌≡◌, ◌⊎◌, ℕ, ℤ, zero, suc, ◌+◌, Bool, true, false, cond, List, [], ◌∷◌, ◌++◌, length, Option, Some, None, Vec, Global, refl, sym, ap, ◌∙◌, subst, arith, inl, inr, ⊎_elim}
use Rattle.std.specs.Prelude.{if◌then◌else◌, slice_get}
use Rattle.std.specs.declared.cmp.Ordering.{Ordering}
use Rattle.std.specs.declared.cmp.Ordering.TheVariants.{Less, Equal, Greater}
use Rattle.std.specs.Ordering.{ordering_reverse, nat_cmp, int_cmp, ordering_then, is_eq}
use Rattle.std.specs.BTreeMap.{BTreeMap, is_at}
use Rattle.std.specs.Map.{lookup}
use Rattle.std.proofs.lemmas.Cmp.{nat_cmp_total, int_cmp_total}
use Rattle.std.proofs.lemmas.Map.Lookups.{exact_unsigned, exact_signed}
use Rattle.bg_ast.specs.Values.{val_eq}
use Rattle.bg_sense.proofs.MapLaws.{val_same}
use Rattle.bg_term_table.specs.declared.line.Line.{Line}
use Rattle.bg_term_table.specs.declared.line.Line.TheVariants.{Congruent}
use Rattle.bg_scalar.specs.declared.scalar.Scalar.{Scalar}
use Rattle.bg_scalar.specs.declared.scalar.Scalar.TheVariants.{Truth, Number, Element}
use Rattle.bg_scalar.specs.Values.{val_of}
use Rattle.bg_wanted.specs.declared.class.Class.{Class}
use Rattle.bg_wanted.specs.declared.class.Class.TheVariants as class
use Rattle.bg_wanted.specs.Wanting.{Each}
use Rattle.bg_wanted.specs.Rows.{RowOf}
use Rattle.bg_wanted.specs.Firsts.{KeyOf, class_cmp, scalar_cmp, args_cmp, key_cmp, key_of, first_row, first_at, Agreeing, IsApart, AreApart, IsSoFar}

-- ---- keys that compare equal are equal

pub first_equal : (o p : Ordering) → ordering_then o p ≡ Equal → (o ≡ Equal) × (p ≡ Equal)
first_equal Less p h = absurd (let bad : ⊥ = cc in bad)
first_equal Equal p h = (refl, h)
first_equal Greater p h = absurd (let bad : ⊥ = cc in bad)

pub scalar_exact : (x y : Scalar) → scalar_cmp x y ≡ Equal → x ≡ y
scalar_exact (Number a) (Number b) h = ap (λ z. Number z) (exact_signed a b h)
scalar_exact (Number a) (Truth b) h = absurd (let bad : ⊥ = cc in bad)
scalar_exact (Number a) (Element u b) h = absurd (let bad : ⊥ = cc in bad)
scalar_exact (Truth a) (Number b) h = absurd (let bad : ⊥ = cc in bad)
scalar_exact (Truth a) (Element u b) h = absurd (let bad : ⊥ = cc in bad)
scalar_exact (Element t a) (Number b) h = absurd (let bad : ⊥ = cc in bad)
scalar_exact (Element t a) (Truth b) h = absurd (let bad : ⊥ = cc in bad)
scalar_exact (Element t a) (Element u b) h =
    let e = first_equal (nat_cmp t u) (int_cmp a b) h in
    ap (λ k. Element k a) (exact_unsigned t u e.0) ∙ ap (λ z. Element u z) (exact_signed a b e.1)
scalar_exact (Truth true) (Truth true) h = refl
scalar_exact (Truth false) (Truth false) h = refl
scalar_exact (Truth true) (Truth false) h = absurd (let bad : ⊥ = cc in bad)
scalar_exact (Truth false) (Truth true) h = absurd (let bad : ⊥ = cc in bad)

pub equal_is : (o : Ordering) → is_eq o ≡ true → o ≡ Equal
equal_is Less h = absurd (let bad : ⊥ = cc in bad)
equal_is Equal h = refl
equal_is Greater h = absurd (let bad : ⊥ = cc in bad)

pub args_exact : (xs ys : List Scalar) → args_cmp xs ys ≡ Equal → xs ≡ ys
args_exact [] [] h = refl
args_exact [] (y ∷ ys) h = absurd (let bad : ⊥ = cc in bad)
args_exact (x ∷ xs) [] h = absurd (let bad : ⊥ = cc in bad)
args_exact (x ∷ xs) (y ∷ ys) h =
    let e = first_equal (scalar_cmp x y) (args_cmp xs ys) h in
    ap (λ z. z ∷ xs) (scalar_exact x y e.0) ∙ ap (λ l. y ∷ l) (args_exact xs ys e.1)

class_exact : (c d : Class) → class_cmp c d ≡ Equal → c ≡ d
class_exact (class.Function a) (class.Function b) h = ap (λ z. class.Function z) (exact_unsigned a b h)
class_exact (class.Function a) (class.Select b) h = absurd (let bad : ⊥ = cc in bad)
class_exact (class.Function a) (class.Update b) h = absurd (let bad : ⊥ = cc in bad)
class_exact (class.Function a) (class.Part b c) h = absurd (let bad : ⊥ = cc in bad)
class_exact (class.Select a) (class.Function b) h = absurd (let bad : ⊥ = cc in bad)
class_exact (class.Select a) (class.Select b) h = ap (λ z. class.Select z) (exact_unsigned a b h)
class_exact (class.Select a) (class.Update b) h = absurd (let bad : ⊥ = cc in bad)
class_exact (class.Select a) (class.Part b c) h = absurd (let bad : ⊥ = cc in bad)
class_exact (class.Update a) (class.Function b) h = absurd (let bad : ⊥ = cc in bad)
class_exact (class.Update a) (class.Select b) h = absurd (let bad : ⊥ = cc in bad)
class_exact (class.Update a) (class.Update b) h = ap (λ z. class.Update z) (exact_unsigned a b h)
class_exact (class.Update a) (class.Part b c) h = absurd (let bad : ⊥ = cc in bad)
class_exact (class.Part a i) (class.Function b) h = absurd (let bad : ⊥ = cc in bad)
class_exact (class.Part a i) (class.Select b) h = absurd (let bad : ⊥ = cc in bad)
class_exact (class.Part a i) (class.Update b) h = absurd (let bad : ⊥ = cc in bad)
class_exact (class.Part a i) (class.Part b j) h =
    let e = first_equal (nat_cmp a b) (nat_cmp i j) h in
    ap (λ z. class.Part z i) (exact_unsigned a b e.0) ∙ ap (λ z. class.Part b z) (exact_unsigned i j e.1)

key_is : (k l : KeyOf) → is_eq (key_cmp k l) ≡ true → k ≡ l
key_is k l h =
    let e = first_equal (class_cmp k.0 l.0) (args_cmp k.1 l.1) (equal_is (key_cmp k l) h) in
    ap (λ z. (z, k.1)) (class_exact k.0 l.0 e.0) ∙ ap (λ z. (l.0, z)) (args_exact k.1 l.1 e.1)

reversed : (o : Ordering) → o ≡ ordering_reverse o → o ≡ Equal
reversed Less h = absurd (let bad : ⊥ = cc in bad)
reversed Equal h = refl
reversed Greater h = absurd (let bad : ⊥ = cc in bad)

pub nat_same : (m : ℕ) → nat_cmp m m ≡ Equal
nat_same m = reversed (nat_cmp m m) (nat_cmp_total.antisymm m m)

int_same : (z : ℤ) → int_cmp z z ≡ Equal
int_same z = reversed (int_cmp z z) (int_cmp_total.antisymm z z)

pub scalar_equal : (x : Scalar) → scalar_cmp x x ≡ Equal
scalar_equal (Number a) = int_same a
scalar_equal (Element t a) = ap (λ o. ordering_then o (int_cmp a a)) (nat_same t) ∙ int_same a
scalar_equal (Truth true) = refl
scalar_equal (Truth false) = refl

pub args_equal : (xs : List Scalar) → args_cmp xs xs ≡ Equal
args_equal [] = refl
args_equal (x ∷ xs) = rw (scalar_equal x) (args_equal xs)

class_equal : (c : Class) → class_cmp c c ≡ Equal
class_equal (class.Function a) = nat_same a
class_equal (class.Select a) = nat_same a
class_equal (class.Update a) = nat_same a
class_equal (class.Part a i) = ap (λ o. ordering_then o (nat_cmp i i)) (nat_same a) ∙ nat_same i

key_same : (k : KeyOf) → is_eq (key_cmp k k) ≡ true
key_same k = rw (class_equal k.0) (rw (args_equal k.1) refl)

-- two tests that hold alike are equal
pub alike : (a b : Bool) → (a ≡ true → b ≡ true) → (b ≡ true → a ≡ true) → a ≡ b
alike true b f g = sym (f refl)
alike false true f g = g refl
alike false false f g = refl

turned : (k l : KeyOf) → is_eq (key_cmp k l) ≡ is_eq (key_cmp l k)
turned k l = alike _ _ (there k l) (there l k)
  where
    there : (k l : KeyOf) → is_eq (key_cmp k l) ≡ true → is_eq (key_cmp l k) ≡ true
    there k l h = subst (λ z. is_eq (key_cmp z k) ≡ true) (key_is k l h) (key_same k)

-- ---- one row more

abbrev or_first : Option (ℕ × Scalar) → Option (ℕ × Scalar) → Option (ℕ × Scalar)
or_first None p = p
or_first (Some a) p = Some a

or_none : (o : Option (ℕ × Scalar)) → or_first o None ≡ o
or_none None = refl
or_none (Some a) = refl

first_last : (k : KeyOf) (a : ℕ) (rs : List RowOf) (r : RowOf) → first_row k a (rs ++ r ∷ []) ≡ or_first (first_row k a rs) (if is_eq (key_cmp k (key_of r)) then Some (a + length rs, r.value) else None)
first_last k a [] r = ap (λ b. if is_eq (key_cmp k (key_of r)) then Some (b, r.value) else None) (let q : a ≡ a + 0 = omega arith in q)
first_last k a (u ∷ rs) r =
    on (is_eq (key_cmp k (key_of u))) (first_last k (suc a) rs r ∙ ap (λ b. or_first (first_row k (suc a) rs) (if is_eq (key_cmp k (key_of r)) then Some (b, r.value) else None)) (let q : suc a + length rs ≡ a + suc (length rs) = omega arith in q))
  where
    on : (c : Bool) → first_row k (suc a) (rs ++ r ∷ []) ≡ or_first (first_row k (suc a) rs) (if is_eq (key_cmp k (key_of r)) then Some (a + suc (length rs), r.value) else None) → (if c then Some (a, u.value) else first_row k (suc a) (rs ++ r ∷ [])) ≡ or_first (if c then Some (a, u.value) else first_row k (suc a) rs) (if is_eq (key_cmp k (key_of r)) then Some (a + suc (length rs), r.value) else None)
    on true later = refl
    on false later = later

pub firsts_new : (k l : KeyOf) (b : ℕ) (rs : List RowOf) (r : RowOf) → key_of r ≡ l → b ≡ length rs → first_row l 0 rs ≡ None → cond (is_eq (key_cmp l k)) (Some (b, r.value)) (first_row k 0 rs) ≡ first_row k 0 (rs ++ r ∷ [])
firsts_new k l b rs r its at none =
    on (is_eq (key_cmp l k)) refl
    ∙ sym (first_last k 0 rs r ∙ ap (λ (q : KeyOf). or_first (first_row k 0 rs) (if is_eq (key_cmp k q) then Some (0 + length rs, r.value) else None)) its ∙ ap (λ m. or_first (first_row k 0 rs) (if is_eq (key_cmp k l) then Some (m, r.value) else None)) (let q : 0 + length rs ≡ b = omega (arith, at) in q))
  where
    on : (c : Bool) → is_eq (key_cmp l k) ≡ c → cond c (Some (b, r.value)) (first_row k 0 rs) ≡ or_first (first_row k 0 rs) (if is_eq (key_cmp k l) then Some (b, r.value) else None)
    on true h =
        let same : first_row k 0 rs ≡ None = subst (λ z. first_row z 0 rs ≡ None) (key_is l k h) none in
        sym (ap (λ o. or_first o (if is_eq (key_cmp k l) then Some (b, r.value) else None)) same ∙ ap (λ c. if c then Some (b, r.value) else None) (turned k l ∙ h))
    on false h =
        sym (ap (λ c. or_first (first_row k 0 rs) (if c then Some (b, r.value) else None)) (turned k l ∙ h) ∙ or_none (first_row k 0 rs))

pub firsts_old : (k : KeyOf) (w : ℕ × Scalar) (rs : List RowOf) (r : RowOf) → first_row (key_of r) 0 rs ≡ Some w → first_row k 0 rs ≡ first_row k 0 (rs ++ r ∷ [])
firsts_old k w rs r there = on (is_eq (key_cmp k (key_of r))) refl ∙ sym (first_last k 0 rs r)
  where
    on : (c : Bool) → is_eq (key_cmp k (key_of r)) ≡ c → first_row k 0 rs ≡ or_first (first_row k 0 rs) (if is_eq (key_cmp k (key_of r)) then Some (0 + length rs, r.value) else None)
    on true h =
        let same : first_row k 0 rs ≡ Some w = subst (λ z. first_row z 0 rs ≡ Some w) (sym (key_is k (key_of r) h)) there in
        same ∙ sym (ap (λ o. or_first o (if is_eq (key_cmp k (key_of r)) then Some (0 + length rs, r.value) else None)) same)
    on false h =
        sym (ap (λ c. or_first (first_row k 0 rs) (if c then Some (0 + length rs, r.value) else None)) h ∙ or_none (first_row k 0 rs))

-- ---- what is found

pub record Found (k : KeyOf) (a : ℕ) (rs : List RowOf) (p : ℕ) (x : Scalar) : Type 0 where
  pub number : ℕ
  pub row : RowOf
  pub is : p ≡ a + number
  pub there : slice_get rs number ≡ Some row
  pub key : key_of row ≡ k
  pub value : row.value ≡ x

some_same : (v w : ℕ × Scalar) → Some v ≡ Some w → v ≡ w
some_same v w e = cc

pub first_is : (k : KeyOf) (a : ℕ) (rs : List RowOf) (p : ℕ) (x : Scalar) → first_row k a rs ≡ Some (p, x) → Found k a rs p x
first_is k a [] p x e = absurd (let bad : ⊥ = cc in bad)
first_is k a (r ∷ rs) p x e = on (is_eq (key_cmp k (key_of r))) refl (first_is k (suc a) rs p x) e
  where
    on : (c : Bool) → is_eq (key_cmp k (key_of r)) ≡ c → (first_row k (suc a) rs ≡ Some (p, x) → Found k (suc a) rs p x) → (if c then Some (a, r.value) else first_row k (suc a) rs) ≡ Some (p, x) → Found k a (r ∷ rs) p x
    on true q later f =
        record {
          number = 0;
          row = r;
          is = let s : a ≡ p = ap (λ (w : ℕ × Scalar). w.0) (some_same (a, r.value) (p, x) f) in omega (arith, s);
          there = refl;
          key = sym (key_is k (key_of r) q);
          value = ap (λ (w : ℕ × Scalar). w.1) (some_same (a, r.value) (p, x) f);
        }
    on false q later f =
        let w = later f in
        record {
          number = suc w.number;
          row = w.row;
          is = let s = w.is in omega (arith, s);
          there = w.there;
          key = w.key;
          value = w.value;
        }

pub first_none : (k : KeyOf) (a : ℕ) (rs : List RowOf) → first_row k a rs ≡ None → (j : ℕ) (r : RowOf) → slice_get rs j ≡ Some r → key_of r ≡ k → ⊥
first_none k a [] e j r h i = let bad : ⊥ = cc in bad
first_none k a (u ∷ rs) e j r h i = on (is_eq (key_cmp k (key_of u))) refl e (first_none k (suc a) rs) j h
  where
    on : (c : Bool) → is_eq (key_cmp k (key_of u)) ≡ c → (if c then Some (a, u.value) else first_row k (suc a) rs) ≡ None → (first_row k (suc a) rs ≡ None → (j : ℕ) (r : RowOf) → slice_get rs j ≡ Some r → key_of r ≡ k → ⊥) → (j : ℕ) → slice_get (u ∷ rs) j ≡ Some r → ⊥
    on true q f later j g = let bad : ⊥ = cc in bad
    on false q f later zero g =
        let same : u ≡ r = cc in
        let yes : is_eq (key_cmp k (key_of u)) ≡ true = subst (λ z. is_eq (key_cmp k z) ≡ true) (sym (ap key_of same ∙ i)) (key_same k) in
        let no : false ≡ true = sym q ∙ yes in
        let bad : ⊥ = cc in
        bad
    on false q f later (suc j) g = later f j r g i

-- ---- rows that agree, and such that are apart

last_or : (xs : List RowOf) (y : RowOf) (a : ℕ) (x : RowOf) → slice_get (xs ++ y ∷ []) a ≡ Some x → (slice_get xs a ≡ Some x) ⊎ (x ≡ y)
last_or [] y zero x e = let same : y ≡ x = cc in inr (sym same)
last_or [] y (suc a) x e = absurd (let bad : ⊥ = cc in bad)
last_or (z ∷ xs) y zero x e = inl e
last_or (z ∷ xs) y (suc a) x e = last_or xs y a x e

at_front : (xs : List RowOf) (y : RowOf) (a : ℕ) (x : RowOf) → slice_get xs a ≡ Some x → slice_get (xs ++ y ∷ []) a ≡ Some x
at_front [] y a x e = absurd (let bad : ⊥ = cc in bad)
at_front (z ∷ xs) y zero x e = e
at_front (z ∷ xs) y (suc a) x e = at_front xs y a x e

at_end : (xs : List RowOf) (y : RowOf) → slice_get (xs ++ y ∷ []) (length xs) ≡ Some y
at_end [] y = refl
at_end (z ∷ xs) y = at_end xs y

agreeing_more : (rs : List RowOf) (r : RowOf) → Agreeing rs → ((j : ℕ) (q : RowOf) → slice_get rs j ≡ Some q → key_of q ≡ key_of r → q.value ≡ r.value) → Agreeing (rs ++ r ∷ [])
agreeing_more rs r all one a b p q e f k = ⊎_elim first last (last_or rs r a p e)
  where
    first : slice_get rs a ≡ Some p → p.value ≡ q.value
    first e = ⊎_elim (λ f. all a b p q e f k) (λ s. one a p e (k ∙ ap key_of s) ∙ sym (ap (λ z. z.value) s)) (last_or rs r b q f)

    last : p ≡ r → p.value ≡ q.value
    last s = ⊎_elim (λ f. ap (λ z. z.value) s ∙ sym (one b q f (sym k ∙ ap key_of s))) (λ t. ap (λ z. z.value) (s ∙ sym t)) (last_or rs r b q f)

apart_more : (rs : List RowOf) (r : RowOf) (e : Line) → IsApart rs e → IsApart (rs ++ r ∷ []) e
apart_more rs r e w =
    record { a = w.a; b = w.b; r = w.r; q = w.q; is = w.is; first = at_front rs r w.a w.r w.first; other = at_front rs r w.b w.q w.other; key = w.key; differ = w.differ }

each_more : (rs : List RowOf) (r : RowOf) (es : List Line) → Each (IsApart rs) es → Each (IsApart (rs ++ r ∷ [])) es
each_more rs r [] h = tt
each_more rs r (e ∷ es) h = (apart_more rs r e h.0, each_more rs r es h.1)

each_last : {A : Type 0} (P : A → Type 0) (es : List A) (e : A) → Each P es → P e → Each P (es ++ e ∷ [])
each_last P [] e h k = (k, tt)
each_last P (d ∷ es) e h k = (h.0, each_last P es e h.1 k)

not_empty : (es : List Line) (e : Line) → es ++ e ∷ [] ≡ [] → ⊥
not_empty [] e h = let bad : ⊥ = cc in bad
not_empty (d ∷ es) e h = let bad : ⊥ = cc in bad

pub none_at : (m : BTreeMap (Class × Vec Scalar Global) (ℕ × Scalar)) (k : Class × Vec Scalar Global) → m.entries ≡ [] → first_at m (k.0, k.1.items) ≡ None
none_at m k h = ap (λ es. lookup (is_at (λ (y : Class × Vec Scalar Global). key_cmp (k.0, k.1.items) (y.0, y.1.items))) es) h

pub none_yet : (m : BTreeMap (Class × Vec Scalar Global) (ℕ × Scalar)) (es : List Line) → ((k : Class × Vec Scalar Global) → first_at m (k.0, k.1.items) ≡ None) → es ≡ [] → IsSoFar m es []
none_yet m es h e = (h, (subst (Each (IsApart [])) (sym e) tt, λ q a b r p f. absurd (let bad : ⊥ = cc in bad)))

module _ (m : BTreeMap (Class × Vec Scalar Global) (ℕ × Scalar)) (es : List Line) (rs : List RowOf) (r : RowOf) (so : IsSoFar m es rs) where
  -- a row whose key is new
  pub new_row : (w : BTreeMap (Class × Vec Scalar Global) (ℕ × Scalar)) (b : ℕ) (at : Class × Vec Scalar Global) → key_of r ≡ (at.0, at.1.items) → b ≡ length rs → first_at m (at.0, at.1.items) ≡ None → ((k : Class × Vec Scalar Global) → first_at w (k.0, k.1.items) ≡ cond (is_eq (key_cmp (at.0, at.1.items) (k.0, k.1.items))) (Some (b, r.value)) (first_at m (k.0, k.1.items))) → IsSoFar w es (rs ++ r ∷ [])
  new_row w b at its place none put =
      let missing : first_row (at.0, at.1.items) 0 rs ≡ None = sym (so.0 at) ∙ none in (
        λ k. put k ∙ ap (cond (is_eq (key_cmp (at.0, at.1.items) (k.0, k.1.items))) (Some (b, r.value))) (so.0 k) ∙ firsts_new (k.0, k.1.items) (at.0, at.1.items) b rs r its place missing,
        (each_more rs r es so.1.0, λ e. agreeing_more rs r (so.1.1 e) (λ j q f k. absurd (first_none (at.0, at.1.items) 0 rs missing j q f (k ∙ its)))),
      )

  -- a row whose key is there
  pub old_row : (b p : ℕ) (x : Scalar) (at : Class × Vec Scalar Global) (fs : List Line) → key_of r ≡ (at.0, at.1.items) → b ≡ length rs → first_at m (at.0, at.1.items) ≡ Some (p, x) → fs ≡ (if val_eq (val_of x) (val_of r.value) then es else es ++ Congruent p b ∷ []) → IsSoFar m fs (rs ++ r ∷ [])
  old_row b p x at fs its place there told =
      let found : first_row (at.0, at.1.items) 0 rs ≡ Some (p, x) = sym (so.0 at) ∙ there in
      let f = first_is (at.0, at.1.items) 0 rs p x found in (
        λ k. so.0 k ∙ firsts_old (k.0, k.1.items) (p, x) rs r (ap (λ (l : KeyOf). first_row l 0 rs) its ∙ found),
        subst (AreApart (rs ++ r ∷ [])) (sym told) (on f (val_eq (val_of x) (val_of r.value)) refl),
      )
    where
      val_known : (y z : Scalar) → val_of y ≡ val_of z → y ≡ z
      val_known (Truth a) (Truth c) e = let q : a ≡ c = cc in ap (λ u. Truth u) q
      val_known (Truth a) (Number c) e = absurd (let bad : ⊥ = cc in bad)
      val_known (Truth a) (Element u c) e = absurd (let bad : ⊥ = cc in bad)
      val_known (Number a) (Truth c) e = absurd (let bad : ⊥ = cc in bad)
      val_known (Number a) (Number c) e = let q : a ≡ c = cc in ap (λ u. Number u) q
      val_known (Number a) (Element u c) e = absurd (let bad : ⊥ = cc in bad)
      val_known (Element t a) (Truth c) e = absurd (let bad : ⊥ = cc in bad)
      val_known (Element t a) (Number c) e = absurd (let bad : ⊥ = cc in bad)
      val_known (Element t a) (Element u c) e =
          let q : t ≡ u = cc in let w : a ≡ c = cc in ap (λ k. Element k a) q ∙ ap (λ z. Element u z) w

      on : Found (at.0, at.1.items) 0 rs p x → (c : Bool) → val_eq (val_of x) (val_of r.value) ≡ c → AreApart (rs ++ r ∷ []) (if c then es else es ++ Congruent p b ∷ [])
      on f true h =
          let same : x ≡ r.value = val_known x r.value (val_same (val_of x) (val_of r.value) h) in
          (each_more rs r es so.1.0, λ e. agreeing_more rs r (so.1.1 e) (λ j q g k. so.1.1 e j f.number q f.row g f.there (k ∙ its ∙ sym f.key) ∙ f.value ∙ same))
      on f false h =
          let here : p ≡ f.number = let s = f.is in omega (arith, s) in (
            each_last (IsApart (rs ++ r ∷ [])) es (Congruent p b) (each_more rs r es so.1.0)
                (record {
                  a = p;
                  b = b;
                  r = f.row;
                  q = r;
                  is = refl;
                  first = ap (slice_get (rs ++ r ∷ [])) here ∙ at_front rs r f.number f.row f.there;
                  other = ap (slice_get (rs ++ r ∷ [])) place ∙ at_end rs r;
                  key = f.key ∙ sym its;
                  differ = ap (λ y. val_eq (val_of y) (val_of r.value)) f.value ∙ h;
                }),
            λ e. absurd (not_empty es (Congruent p b) e),
          )
