-- What stands behind numbers, by rows.
use Rattle.std.proofs.Common.{◌≡◌, ℕ, zero, suc, ◌+◌, ◌<◌, ◌≤◌, ℤ, Bool, true, false, List, [], ◌∷◌, ◌++◌, length, get_or, take, drop, map, Option, Some, None, Vec, Box, Global, refl, sym, ap, ◌∙◌, subst, arith, inl}
use Rattle.std.specs.Prelude.{slice_get, pos, if◌then◌else◌}
use Rattle.bg_ast.specs.Values.{Val, Num, Default, Ty, IntTy, MapTy, KeyType, is_of, number_of, update}
use Rattle.bg_ast.specs.Syntax.{Fun}
use Rattle.bg_sense.specs.Eval.{value_at, default_for}
use Rattle.bg_terms.specs.Terms.{Selects, Term}
use Rattle.bg_terms.specs.Typed.{types_with, TermsTyped}
use Rattle.bg_terms.specs.Alike.{scalar_ty}
use Rattle.bg_terms.specs.Built.{index_of, selects_from, filled, built}
use Rattle.bg_kinds.specs.Views.{base_of, tower}
use Rattle.bg_kinds.specs.declared.kinds.Base.{Base}
use Rattle.bg_kinds.specs.declared.kinds.Base.TheVariants as base
use Rattle.bg_kinds.specs.declared.kinds.Keys.{Keys}
use Rattle.bg_scalar.specs.declared.scalar.Scalar.{Scalar}
use Rattle.bg_scalar.specs.declared.scalar.Scalar.TheVariants as scalar
use Rattle.bg_scalar.specs.declared.value.Value.{Value}
use Rattle.bg_scalar.specs.declared.value.Value.TheVariants as value
use Rattle.bg_scalar.specs.Values.{val_of, value_of}
use Rattle.bg_wanted.specs.Scalars.{scalars_in, part_of, key_of}
use Rattle.bg_scalar.specs.Maps.{entry_in, with_entries}
use Rattle.bg_scalar.proofs.Rows.{value_of-Map}
use Rattle.bg_wanted.specs.declared.class.Class.TheVariants as class
use Rattle.bg_wanted.specs.Classes.{speaks_there, first_before, or_zero, place_of, class_in}
use Rattle.bg_wanted.specs.Rows.{RowOf, AreRows}
use Rattle.bg_wanted.specs.Selects.{MapOf, map_in, is_from, places_of}
use Rattle.bg_wanted.specs.Behind.{behind_base, places_by, places_in, parts_by, parts_there, put_parts, put_of, put_all}
use Rattle.bg_wanted.proofs.ClassLaws.{places_same, some_found, found_there}
use Rattle.bg_wanted.proofs.Earliest.{alike}
use Rattle.bg_wanted.proofs.Mapping.{map_same, map_is}
use Rattle.bg_wanted.proofs.Asking.{select_parts}
use Rattle.bg_wanted.proofs.Settlement.{Its, of_term, begins, select_class, spoken_by}
use Rattle.bg_wanted.proofs.Numbers as numbers

-- ---- an index as the code makes it

pub parts_more : (xs : List Scalar) (j : ℕ) (d : Scalar) (z : ℤ) (made now : List ℤ) → j < length xs → z ≡ part_of (get_or xs j d) → now ≡ made ++ z ∷ [] → made ≡ key_of (take j xs) → now ≡ key_of (take (j + 1) xs)
parts_more xs j d z made now lt is push so =
    push ∙ (ap (λ l. l ++ z ∷ []) so ∙ (ap (λ y. key_of (take j xs) ++ y ∷ []) is ∙ sym (more xs j lt)))
  where
    more : (l : List Scalar) (i : ℕ) → i < length l → key_of (take (i + 1) l) ≡ key_of (take i l) ++ part_of (get_or l i d) ∷ []
    more [] i h = absurd (omega (arith, h))
    more (y ∷ l) zero h = refl
    more (y ∷ l) (suc i) h =
        ap (λ k. key_of (take k (y ∷ l))) (let q : suc i + 1 ≡ suc (i + 1) = omega arith in q)
        ∙ ap (λ k. part_of y ∷ k) (more l i (omega (arith, h)))

-- ---- defaults

abbrev pub wrapped : ℕ → Val → Val
wrapped zero v = v
wrapped (suc k) v = Default (wrapped k v)

pub wrapped_more : (k : ℕ) (v : Val) (es : Vec _ Global) (b : Box Value Global) (d : Value) → es.items ≡ [] → b.value ≡ d → value_of d ≡ wrapped k v → value_of (value.Map es b) ≡ wrapped (k + 1) v
wrapped_more k v es b d none is so =
    value_of-Map es b
    ∙ (ap (λ l. with_entries (map entry_in l) (Default (value_of b.value))) none
    ∙ (ap (λ x. Default (value_of x)) is ∙ (ap Default so ∙ ap (λ j. wrapped j v) (let q : suc k ≡ k + 1 = omega arith in q))))

tower_default : (ks : List Keys) (t : Ty) → wrapped (length ks) (default_for t) ≡ default_for (tower ks t)
tower_default [] t = refl
tower_default (k ∷ ks) t = ap Default (tower_default ks t)

pub default_all : (ks : List Keys) (b : Base) (k : ℕ) (v : Value) → length ks ≤ k → k ≤ length ks → value_of v ≡ wrapped k (default_for (base_of b)) → value_of v ≡ default_for (tower ks (base_of b))
default_all ks b k v low high so =
    so ∙ (ap (λ j. wrapped j (default_for (base_of b))) (let q : k ≡ length ks = omega (arith, low, high) in q) ∙ tower_default ks (base_of b))

pub plain_zero : (b : Base) (x : Val) → x ≡ behind_base (base_of b) (Num (pos 0)) → x ≡ default_for (base_of b)
plain_zero base.Int x h = h
plain_zero base.Bool x h = h
plain_zero (base.User u) x h = h

-- ---- types that are no maps

pub built_plain : (s : List Val) (n : ℕ) (ts : List Term) (b : Base) (v : Val) → behind_base (base_of b) v ≡ built s n ts (base_of b) v
built_plain s n ts base.Int v = refl
built_plain s n ts base.Bool v = refl
built_plain s n ts (base.User u) v = refl

pub no_maps : (ks : List Keys) (t : Ty) → length ks ≡ 0 → t ≡ tower ks t
no_maps [] t h = refl
no_maps (k ∷ ks) t h = absurd (let bad : ⊥ = cc in bad)

-- ---- entries

pub put_none : (s : List Val) (n : ℕ) (ts : List Term) (t : Ty) (rs : List RowOf) (a : ℕ) (m : Val) → parts_there (slice_get rs a) ≡ None → m ≡ put_of s n ts t rs a m
put_none s n ts t rs a m e = sym (ap (λ o. put_parts s n ts t o m) e)

pub put_some : (s : List Val) (n : ℕ) (ts : List Term) (t : Ty) (rs : List RowOf) (a : ℕ) (m : Val) (q : List Scalar) (k : List ℤ) (x : Scalar) (v w : Val) → parts_there (slice_get rs a) ≡ Some (q, x) → k ≡ key_of q → v ≡ built s n ts t (val_of x) → w ≡ update m k v → w ≡ put_of s n ts t rs a m
put_some s n ts t rs a m q k x v w e key value is =
    is ∙ (ap (λ i. update m i v) key ∙ (ap (update m (key_of q)) value ∙ sym (ap (λ o. put_parts s n ts t o m) e)))

pub parts_none : (args : List Scalar) (v : Scalar) → length args ≡ 0 → parts_by args v ≡ None
parts_none [] v h = refl
parts_none (x ∷ args) v h = absurd (let bad : ⊥ = cc in bad)

-- one place more, from the back
pub put_back : (s : List Val) (n : ℕ) (ts : List Term) (t : Ty) (rs : List RowOf) (ps : List ℕ) (i j : ℕ) (m w : Val) → j + 1 ≡ i → j < length ps → m ≡ put_all s n ts t rs (drop i ps) → w ≡ put_of s n ts t rs (get_or ps j 0) m → w ≡ put_all s n ts t rs (drop j ps)
put_back s n ts t rs ps i j m w next lt so put =
    put
    ∙ (ap (put_of s n ts t rs (get_or ps j 0)) (so ∙ ap (λ k. put_all s n ts t rs (drop k ps)) (sym next))
    ∙ ap (put_all s n ts t rs) (front ps j lt))
  where
    front : (xs : List ℕ) (k : ℕ) → k < length xs → get_or xs k 0 ∷ drop (k + 1) xs ≡ drop k xs
    front [] k h = absurd (omega (arith, h))
    front (x ∷ xs) zero h = refl
    front (x ∷ xs) (suc k) h =
        ap (λ j. get_or xs k 0 ∷ drop j (x ∷ xs)) (let q : suc k + 1 ≡ suc (k + 1) = omega arith in q) ∙ front xs k (omega (arith, h))

pub drop_whole : (ps : List ℕ) (i : ℕ) → length ps ≤ i → drop i ps ≡ []
drop_whole [] zero h = refl
drop_whole [] (suc i) h = refl
drop_whole (p ∷ ps) zero h = absurd (omega (arith, h))
drop_whole (p ∷ ps) (suc i) h = drop_whole ps i (omega (arith, h))

-- ---- the selects from a map are those of its number

module _ (fs : List Fun) (incs : List Ty) (ts : List Term) (terms : TermsTyped fs incs ts) (values : List Scalar) (typed : (j : ℕ) (t : Ty) → slice_get (types_with incs ts) j ≡ Some t → is_of (scalar_ty t) (value_at (scalars_in values) j) ≡ true) (rs : List RowOf) (rows : AreRows values (length incs) ts 0 ts rs) (ks : List KeyType) (t : Ty) (z : ℤ) where
  abbrev s : List Val
  s = scalars_in values

  abbrev n : ℕ
  n = length incs

  -- a number among scalars
  number_is : (x : Scalar) → is_of IntTy (val_of x) ≡ true → number_of (val_of x) ≡ z → x ≡ scalar.Number z
  number_is (scalar.Number y) h e = ap scalar.Number e
  number_is (scalar.Truth b) h e = absurd (let bad : ⊥ = cc in bad)
  number_is (scalar.Element u y) h e = absurd (let bad : ⊥ = cc in bad)

  from_is : (k : MapOf) (o : Option MapOf) → is_from k o ≡ true → o ≡ Some k
  from_is k None h = absurd (let bad : ⊥ = cc in bad)
  from_is k (Some l) h = ap (λ (m : MapOf). Some m) (sym (map_is k l h))

  -- by the number of a type of which some term speaks
  module _ (m : ℕ) (met : first_before ks t (length ts) 0 ts ≡ Some m) where
    its_place : place_of ks t ts ≡ m
    its_place = ap or_zero met

    spoken : (j : ℕ) × (speaks_there (slice_get ts j) ks t ≡ true)
    spoken = let w = found_there ks t (length ts) 0 m ts met in (w.0, w.1.1)

    head_is : (b : ℕ) (a : Term) → slice_get ts b ≡ Some a → class_in ts a.head ≡ class.Select m → a.head ≡ Selects ks t
    head_is b a e c =
        let w = select_class ts a.head m c in
        let one : speaks_there (slice_get ts b) w.0 w.1.0 ≡ true = ap (λ o. speaks_there o w.0 w.1.0) e ∙ spoken_by a.head w.0 w.1.0 (inl w.1.1.0) in
        let same = places_same ts b spoken.0 w.0 ks w.1.0 t one spoken.1 (w.1.1.1 ∙ sym its_place) in
        w.1.1.0 ∙ (ap (λ ls. Selects ls w.1.0) same.0 ∙ ap (Selects ks) same.1)

    -- a row of a select from the map is one by its number
    there : (b : ℕ) (a : Term) (r : RowOf) → Its values n ts rs rows b a r → is_from (m, scalar.Number z) (map_in r.class r.args) ≡ true → selects_from s ks t z a ≡ true
    there b a r its h =
        let parts = select_parts rs r.class r.args m (scalar.Number z) (from_is (m, scalar.Number z) (map_in r.class r.args) h) in
        let head = head_is b a its.term_there (sym its.its_class ∙ parts.1.0) in
        numbers.selects_it fs incs ts terms s typed ks t b a its.term_there head (Num z) (scalars_in parts.0) (its.args ∙ ap scalars_in parts.1.1)

    back : (b : ℕ) (a : Term) (r : RowOf) → Its values n ts rs rows b a r → selects_from s ks t z a ≡ true → is_from (m, scalar.Number z) (map_in r.class r.args) ≡ true
    back b a r its h =
        let head = numbers.selects_head fs incs ts terms s typed ks t z a h in
        let are = numbers.args_are fs incs ts terms s typed ks t b a its.term_there head in
        let read = numbers.args_read s a.args are.a_map are.index are.are in
        let parts = begins r.args are.a_map are.index (sym its.args ∙ are.are) in
        let first : parts.first ≡ scalar.Number z = number_is parts.first (subst (λ v. is_of IntTy v ≡ true) (sym parts.value) are.number) (ap number_of parts.value ∙ (sym read.0 ∙ numbers.selects_number fs incs ts terms s typed ks t z a h)) in
        let its_map : map_in r.class r.args ≡ Some (m, scalar.Number z) = ap (λ c. map_in c r.args) (its.its_class ∙ (ap (class_in ts) head ∙ ap (λ p. class.Select p) its_place)) ∙ (ap (map_in (class.Select m)) parts.is ∙ ap (λ x. Some (m, x)) first) in
        ap (is_from (m, scalar.Number z)) its_map ∙ map_same (m, scalar.Number z)

    one_by_one : (b : ℕ) (a : Term) (r : RowOf) → Its values n ts rs rows b a r → is_from (m, scalar.Number z) (map_in r.class r.args) ≡ selects_from s ks t z a
    one_by_one b a r its = alike _ _ (there b a r its) (back b a r its)

    -- the entry that such a row tells
    told : (b : ℕ) (a : Term) (r : RowOf) → Its values n ts rs rows b a r → is_from (m, scalar.Number z) (map_in r.class r.args) ≡ true → (v : Val) → put_of s n ts t rs b v ≡ update v (index_of s a.args) (built s n ts t (value_at s (n + b)))
    told b a r its h v =
        let parts = select_parts rs r.class r.args m (scalar.Number z) (from_is (m, scalar.Number z) (map_in r.class r.args) h) in
        let read = numbers.args_read s a.args (Num z) (scalars_in parts.0) (its.args ∙ ap scalars_in parts.1.1) in
        ap (λ o. put_parts s n ts t (parts_there o) v) its.there
        ∙ (ap (λ l. put_parts s n ts t (parts_by l r.value) v) parts.1.1
        ∙ (ap (λ k. update v k (built s n ts t (val_of r.value))) (keys parts.0 ∙ sym read.1)
        ∙ ap (λ x. update v (index_of s a.args) (built s n ts t x)) (sym its.value)))
      where
        keys : (q : List Scalar) → key_of q ≡ map number_of (scalars_in q)
        keys [] = refl
        keys (x ∷ q) = ap (λ l. part_of x ∷ l) (keys q)

    -- what the rows behind some place tell is what the terms there do
    fill : (b : ℕ) (us : List Term) (qs : List RowOf) → ((j : ℕ) (a : Term) (r : RowOf) → slice_get us j ≡ Some a → slice_get qs j ≡ Some r → Its values n ts rs rows (b + j) a r) → length us ≡ length qs → put_all s n ts t rs (places_of (m, scalar.Number z) b qs) ≡ filled s ks t (built s n ts t) z (n + b) us
    fill b [] [] each len = refl
    fill b [] (q ∷ qs) each len = absurd (let bad : ⊥ = cc in bad)
    fill b (u ∷ us) [] each len = absurd (let bad : ⊥ = cc in bad)
    fill b (u ∷ us) (q ∷ qs) each len =
        let zero_more : b + 0 ≡ b = omega arith in
        let its : Its values n ts rs rows b u q = subst (λ k. Its values n ts rs rows k u q) zero_more (each 0 u q refl refl) in
        let shorter : length us ≡ length qs = omega (arith, len) in
        let rest = fill (suc b) us qs (λ j a r e f. subst (λ k. Its values n ts rs rows k a r) (let g : b + suc j ≡ suc b + j = omega arith in g) (each (suc j) a r e f)) shorter in
        let behind : n + suc b ≡ suc (n + b) = omega arith in
        on (is_from (m, scalar.Number z) (map_in q.class q.args)) (selects_from s ks t z u) refl (one_by_one b u q its) its (rest ∙ ap (λ k. filled s ks t (built s n ts t) z k us) behind)
      where
        on : (c d : Bool) → is_from (m, scalar.Number z) (map_in q.class q.args) ≡ c → is_from (m, scalar.Number z) (map_in q.class q.args) ≡ d → Its values n ts rs rows b u q → put_all s n ts t rs (places_of (m, scalar.Number z) (suc b) qs) ≡ filled s ks t (built s n ts t) z (suc (n + b)) us → put_all s n ts t rs (if c then b ∷ places_of (m, scalar.Number z) (suc b) qs else places_of (m, scalar.Number z) (suc b) qs) ≡ (if d then update (filled s ks t (built s n ts t) z (suc (n + b)) us) (index_of s u.args) (built s n ts t (value_at s (n + b))) else filled s ks t (built s n ts t) z (suc (n + b)) us)
        on true true e f its h =
            ap (put_of s n ts t rs b) h ∙ told b u q its e (filled s ks t (built s n ts t) z (suc (n + b)) us)
        on true false e f its h = absurd (let bad : true ≡ false = sym e ∙ f in let no : ⊥ = cc in no)
        on false true e f its h = absurd (let bad : false ≡ true = sym e ∙ f in let no : ⊥ = cc in no)
        on false false e f its h = h

  -- where no term speaks of such maps none is selected from
  silent : first_before ks t (length ts) 0 ts ≡ None → (b : ℕ) (a : Term) → slice_get ts b ≡ Some a → selects_from s ks t z a ≡ false
  silent none b a e = on (selects_from s ks t z a) refl
    where
      on : (c : Bool) → selects_from s ks t z a ≡ c → c ≡ false
      on false h = refl
      on true h =
          let head = numbers.selects_head fs incs ts terms s typed ks t z a h in
          let w = some_found ks t b 0 ts (ap (λ o. speaks_there o ks t) e ∙ spoken_by a.head ks t (inl head)) in
          absurd (let bad : None ≡ Some w.0 = sym none ∙ w.1 in let no : ⊥ = cc in no)

  unfilled : (b : ℕ) (us : List Term) → ((j : ℕ) (a : Term) → slice_get us j ≡ Some a → selects_from s ks t z a ≡ false) → Default (default_for t) ≡ filled s ks t (built s n ts t) z b us
  unfilled b [] each = refl
  unfilled b (u ∷ us) each =
      unfilled (suc b) us (λ j. each (suc j))
      ∙ sym (ap (λ c. if c then update (filled s ks t (built s n ts t) z (suc b) us) (index_of s u.args) (built s n ts t (value_at s b)) else filled s ks t (built s n ts t) z (suc b) us) (each 0 u refl))

  as_many : (b : ℕ) (us : List Term) (qs : List RowOf) → AreRows values n ts b us qs → length us ≡ length qs
  as_many b [] [] h = refl
  as_many b [] (q ∷ qs) h = absurd h
  as_many b (u ∷ us) [] h = absurd h
  as_many b (u ∷ us) (q ∷ qs) h = let e = as_many (suc b) us qs h.1 in omega (arith, e)

  pub built_by_rows : put_all s n ts t rs (places_in ts ks t (scalar.Number z) rs) ≡ built s n ts (MapTy ks t) (Num z)
  built_by_rows = on (first_before ks t (length ts) 0 ts) refl
    where
      start : n + 0 ≡ n
      start = omega arith

      on : (o : Option ℕ) → first_before ks t (length ts) 0 ts ≡ o → put_all s n ts t rs (places_by o (scalar.Number z) rs) ≡ filled s ks t (built s n ts t) z n ts
      on None e = unfilled n ts (silent e)
      on (Some m) e =
          fill m e 0 ts rs (λ j a r f g. its_at j a r f g) (as_many 0 ts rs rows)
          ∙ ap (λ k. filled s ks t (built s n ts t) z k ts) start
        where
          its_at : (j : ℕ) (a : Term) (r : RowOf) → slice_get ts j ≡ Some a → slice_get rs j ≡ Some r → Its values n ts rs rows (0 + j) a r
          its_at j a r f g =
              let w = of_term values n ts rs rows j a f in
              let both : Some w.0 ≡ Some r = sym w.1.there ∙ g in
              let same : w.0 ≡ r = cc in
              let place : j ≡ 0 + j = omega arith in
              subst (λ k. Its values n ts rs rows k a r) place (subst (Its values n ts rs rows j a) same w.1)
