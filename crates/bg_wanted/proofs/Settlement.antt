-- Rows are settled exactly where the leaf's terms are.
use Rattle.std.proofs.Common.{◌≡◌, ℕ, zero, suc, ◌+◌, true, List, [], ◌∷◌, drop, Some, refl, sym, ap, ◌∙◌, subst, arith, inl, inr, ⊎_elim}
use Rattle.std.specs.Prelude.{slice_get, ◌⊎◌, pos}
use Rattle.bg_ast.specs.Values.{Val, Num, Ty, KeyType}
use Rattle.bg_ast.specs.Syntax.{Ex, Exs, NoMore, More}
use Rattle.bg_sense.specs.Eval.{value_at, ev, evs}
use Rattle.bg_terms.specs.Terms.{Head, Applies, Selects, Updates, Differs, Term, over}
use Rattle.bg_terms.proofs.Heads.{kinds_refl}
use Rattle.bg_scalar.specs.declared.scalar.Scalar.{Scalar}
use Rattle.bg_scalar.specs.declared.scalar.Scalar.TheVariants.{Truth, Number, Element}
use Rattle.bg_scalar.specs.Values.{val_of, MeanTables}
use Rattle.bg_wanted.specs.Scalars.{scalars_in}
use Rattle.bg_scalar.proofs.Listing.{worths_are}
use Rattle.bg_wanted.specs.declared.class.Class.{Class}
use Rattle.bg_wanted.specs.declared.class.Class.TheVariants as class
use Rattle.bg_wanted.specs.Classes.{speaks, speaks_there, place_of, class_in}
use Rattle.bg_wanted.specs.Rows.{RowOf, IsRow, AreRows, seen_at}
use Rattle.bg_wanted.specs.Firsts.{key_of, Agreeing}
use Rattle.bg_wanted.specs.Settled.{HasSelect, AreFunctions, IsUpdate, IsHere, IsElsewhere, IsSettled}
use Rattle.bg_wanted.specs.Updates.{HasRow, HereBy, AtOther, ElsewhereBy, AreSettled}
use Rattle.bg_wanted.proofs.ClassLaws.{one_class, places_same}
use Rattle.bg_wanted.proofs.Rowed.{its_row, its_term}

-- ---- scalars are known by their values

pub val_known : (y z : Scalar) → val_of y ≡ val_of z → y ≡ z
val_known (Truth a) (Truth c) e = let q : a ≡ c = cc in ap (λ u. Truth u) q
val_known (Truth a) (Number c) e = absurd (let bad : ⊥ = cc in bad)
val_known (Truth a) (Element u c) e = absurd (let bad : ⊥ = cc in bad)
val_known (Number a) (Truth c) e = absurd (let bad : ⊥ = cc in bad)
val_known (Number a) (Number c) e = let q : a ≡ c = cc in ap (λ u. Number u) q
val_known (Number a) (Element u c) e = absurd (let bad : ⊥ = cc in bad)
val_known (Element t a) (Truth c) e = absurd (let bad : ⊥ = cc in bad)
val_known (Element t a) (Number c) e = absurd (let bad : ⊥ = cc in bad)
val_known (Element t a) (Element u c) e =
    let q : t ≡ u = cc in let r : a ≡ c = cc in ap (λ k. Element k a) q ∙ ap (λ z. Element u z) r

pub vals_known : (xs ys : List Scalar) → scalars_in xs ≡ scalars_in ys → xs ≡ ys
vals_known [] [] e = refl
vals_known [] (y ∷ ys) e = absurd (let bad : ⊥ = cc in bad)
vals_known (x ∷ xs) [] e = absurd (let bad : ⊥ = cc in bad)
vals_known (x ∷ xs) (y ∷ ys) e =
    let first : val_of x ≡ val_of y = cc in
    let rest : scalars_in xs ≡ scalars_in ys = cc in
    ap (λ z. z ∷ xs) (val_known x y first) ∙ ap (λ l. y ∷ l) (vals_known xs ys rest)

-- a list of values by its first one
pub record Begins (xs : List Scalar) (v : Val) (vs : List Val) : Type 0 where
  pub first : Scalar
  pub rest : List Scalar
  pub is : xs ≡ first ∷ rest
  pub value : val_of first ≡ v
  pub values : scalars_in rest ≡ vs

pub begins : (xs : List Scalar) (v : Val) (vs : List Val) → scalars_in xs ≡ v ∷ vs → Begins xs v vs
begins [] v vs e = absurd (let bad : ⊥ = cc in bad)
begins (x ∷ xs) v vs e =
    let first : val_of x ≡ v = cc in
    let rest : scalars_in xs ≡ vs = cc in
    record { first = x; rest = xs; is = refl; value = first; values = rest }

-- expressions by their values
listed : (s : List Val) (xs : Exs) (x : Val) (k : List Val) → evs xs (over s) ≡ x ∷ k → (y : Ex) × ((ys : Exs) × ((xs ≡ More y ys) × ((ev y (over s) ≡ x) × (evs ys (over s) ≡ k))))
listed s NoMore x k e = absurd (let bad : ⊥ = cc in bad)
listed s (More y ys) x k e =
    let first : ev y (over s) ≡ x = cc in
    let rest : evs ys (over s) ≡ k = cc in
    (y, (ys, (refl, (first, rest))))

no_tables : MeanTables (λ f args. Num (pos 0)) []
no_tables f args = refl

value_there : (values : List Scalar) (a : ℕ) (x : Scalar) → slice_get values a ≡ Some x → value_at (scalars_in values) a ≡ val_of x
value_there [] a x e = absurd (let bad : ⊥ = cc in bad)
value_there (v ∷ vs) zero x e = let same : v ≡ x = cc in ap val_of same
value_there (v ∷ vs) (suc a) x e = value_there vs a x e

drop_there : (values : List Scalar) (n a : ℕ) (x : Scalar) → slice_get (drop n values) a ≡ Some x → slice_get values (n + a) ≡ Some x
drop_there values zero a x e = ap (slice_get values) (let q : 0 + a ≡ a = omega arith in q) ∙ e
drop_there [] (suc n) a x e = absurd (let bad : ⊥ = cc in bad)
drop_there (v ∷ vs) (suc n) a x e =
    ap (slice_get (v ∷ vs)) (let q : suc n + a ≡ suc (n + a) = omega arith in q) ∙ drop_there vs n a x e

-- ---- classes of selects and updates

pub select_class : (ts : List Term) (h : Head) (m : ℕ) → class_in ts h ≡ class.Select m → (ks : List KeyType) × ((t : Ty) × ((h ≡ Selects ks t) × (place_of ks t ts ≡ m)))
select_class ts (Applies f) m e = absurd (let bad : ⊥ = cc in bad)
select_class ts (Selects ks t) m e = let q : place_of ks t ts ≡ m = cc in (ks, (t, (refl, q)))
select_class ts (Updates ks t) m e = absurd (let bad : ⊥ = cc in bad)
select_class ts (Differs ks t j) m e = absurd (let bad : ⊥ = cc in bad)

update_class : (ts : List Term) (h : Head) (m : ℕ) → class_in ts h ≡ class.Update m → (ks : List KeyType) × ((t : Ty) × ((h ≡ Updates ks t) × (place_of ks t ts ≡ m)))
update_class ts (Applies f) m e = absurd (let bad : ⊥ = cc in bad)
update_class ts (Selects ks t) m e = absurd (let bad : ⊥ = cc in bad)
update_class ts (Updates ks t) m e = let q : place_of ks t ts ≡ m = cc in (ks, (t, (refl, q)))
update_class ts (Differs ks t j) m e = absurd (let bad : ⊥ = cc in bad)

pub spoken_by : (h : Head) (ks : List KeyType) (t : Ty) → (h ≡ Selects ks t) ⊎ (h ≡ Updates ks t) → speaks h ks t ≡ true
spoken_by h ks t (inl e) = ap (λ k. speaks k ks t) e ∙ kinds_refl ks t
spoken_by h ks t (inr e) = ap (λ k. speaks k ks t) e ∙ kinds_refl ks t

-- a select of the class of an update's maps selects from maps of its type
same_maps : (ts : List Term) (a b : ℕ) (x y : Term) (ks : List KeyType) (t : Ty) → slice_get ts a ≡ Some x → slice_get ts b ≡ Some y → y.head ≡ Updates ks t → class_in ts x.head ≡ class.Select (place_of ks t ts) → x.head ≡ Selects ks t
same_maps ts a b x y ks t e f h c =
    let w = select_class ts x.head (place_of ks t ts) c in
    let one = ap (λ o. speaks_there o w.0 w.1.0) e ∙ spoken_by x.head w.0 w.1.0 (inl w.1.1.0) in
    let two = ap (λ o. speaks_there o ks t) f ∙ spoken_by y.head ks t (inr h) in
    let same = places_same ts a b w.0 ks w.1.0 t one two w.1.1.1 in
    w.1.1.0 ∙ (ap (λ ls. Selects ls w.1.0) same.0 ∙ ap (Selects ks) same.1)

module _ (values : List Scalar) (n : ℕ) (ts : List Term) (rs : List RowOf) (rows : AreRows values n ts 0 ts rs) where
  abbrev s : List Val
  s = scalars_in values

  -- what is known of a term and its row
  pub record Its (a : ℕ) (t : Term) (r : RowOf) : Type 0 where
    pub term_there : slice_get ts a ≡ Some t
    pub there : slice_get rs a ≡ Some r
    pub its_class : r.class ≡ class_in ts t.head
    pub args : evs t.args (over s) ≡ scalars_in r.args
    pub value : value_at s (n + a) ≡ val_of r.value

  known : (a : ℕ) (t : Term) (r : RowOf) → slice_get ts a ≡ Some t → slice_get rs a ≡ Some r → IsRow values t (class_in ts t.head) (slice_get (drop n values) (0 + a)) r → Its a t r
  known a t r e f h =
      record {
        term_there = e;
        there = f;
        its_class = h.0;
        args = worths_are (λ f args. Num (pos 0)) [] t.args (seen_at s) (scalars_in r.args) no_tables h.1.0;
        value = value_there values (n + a) r.value (drop_there values n a r.value (ap (slice_get (drop n values)) (let q : a ≡ 0 + a = omega arith in q) ∙ h.1.1));
      }

  pub of_term : (a : ℕ) (t : Term) → slice_get ts a ≡ Some t → (r : RowOf) × Its a t r
  of_term a t e = let w = its_row values n ts 0 ts rs rows a t e in (w.0, known a t w.0 e w.1.0 w.1.1)

  pub of_row : (a : ℕ) (r : RowOf) → slice_get rs a ≡ Some r → (t : Term) × Its a t r
  of_row a r e = let w = its_term values n ts 0 ts rs rows a r e in (w.0, known a w.0 r w.1.0 e w.1.1)

  -- a row of the class of selects of an update's maps is such a select
  select_of : (u : ℕ) (y : Term) (ks : List KeyType) (t : Ty) (args : List Scalar) (value : Scalar) → slice_get ts u ≡ Some y → y.head ≡ Updates ks t → HasRow rs (class.Select (place_of ks t ts)) args value → HasSelect s n ts ks t (scalars_in args) (val_of value)
  select_of u y ks t args value e h w =
      let x = of_row w.number w.row w.is_there in
      record {
        number = w.number;
        term = x.0;
        is_there = x.1.term_there;
        selects = same_maps ts w.number u x.0 y ks t x.1.term_there e h (sym x.1.its_class ∙ w.its_class);
        arguments = x.1.args ∙ ap scalars_in w.its_args;
        worth = x.1.value ∙ ap val_of w.its_value;
      }

  row_of_select : (ks : List KeyType) (t : Ty) (args : List Scalar) (value : Val) → HasSelect s n ts ks t (scalars_in args) value → (x : Scalar) × ((val_of x ≡ value) × HasRow rs (class.Select (place_of ks t ts)) args x)
  row_of_select ks t args value w =
      let r = of_term w.number w.term w.is_there in (
        r.0.value,
        (
          sym r.1.value ∙ w.worth,
          record {
            number = w.number;
            row = r.0;
            is_there = r.1.there;
            its_class = r.1.its_class ∙ ap (class_in ts) w.selects;
            its_args = vals_known r.0.args args (sym r.1.args ∙ w.arguments);
            its_value = refl;
          },
        ),
      )

  -- a row of an update is that of one
  pub record UpdateAt (u p : ℕ) : Type 0 where
    pub term : Term
    pub keys : List KeyType
    pub gives : Ty
    pub is_there : slice_get ts u ≡ Some term
    pub head : term.head ≡ Updates keys gives
    pub place : place_of keys gives ts ≡ p

  pub update_at : (u p : ℕ) (r : RowOf) → slice_get rs u ≡ Some r → r.class ≡ class.Update p → UpdateAt u p
  update_at u p r e h =
      let x = of_row u r e in
      let c = update_class ts x.0.head p (sym x.1.its_class ∙ h) in
      record { term = x.0; keys = c.0; gives = c.1.0; is_there = x.1.term_there; head = c.1.1.0; place = c.1.1.1 }

  -- and that of a select from maps of its type is that of one
  pub select_at : (u p : ℕ) (w : UpdateAt u p) (a : ℕ) (r : RowOf) → slice_get rs a ≡ Some r → r.class ≡ class.Select p → (y : Term) × ((slice_get ts a ≡ Some y) × (y.head ≡ Selects w.keys w.gives))
  select_at u p w a r e h =
      let y = of_row a r e in
      (y.0, (y.1.term_there, same_maps ts a u y.0 w.term w.keys w.gives y.1.term_there w.is_there w.head (sym y.1.its_class ∙ (h ∙ ap (λ m. class.Select m) (sym w.place)))))

  -- ---- from rows to terms

  module _ (done : AreSettled rs) where
    pub functions : AreFunctions s n ts
    functions a b t u e f h args =
        let p = of_term a t e in
        let q = of_term b u f in
        let classes : p.0.class ≡ q.0.class = p.1.its_class ∙ (ap (class_in ts) h ∙ sym q.1.its_class) in
        let same : p.0.args ≡ q.0.args = vals_known p.0.args q.0.args (sym p.1.args ∙ (args ∙ q.1.args)) in
        let key : key_of p.0 ≡ key_of q.0 = ap (λ c. (c, p.0.args)) classes ∙ ap (λ l. (q.0.class, l)) same in
        p.1.value ∙ (ap val_of (done.agree a b p.0 q.0 p.1.there q.1.there key) ∙ sym q.1.value)

    module _ (u : ℕ) (ks : List KeyType) (t : Ty) (m v : Ex) (qs : Exs) (up : IsUpdate s n ts u ks t m v qs) where
      abbrev r : RowOf
      r = (of_term u up.term up.is_there).0

      its : Its u up.term (of_term u up.term up.is_there).0
      its = (of_term u up.term up.is_there).1

      its_update : (of_term u up.term up.is_there).0.class ≡ class.Update (place_of ks t ts)
      its_update = its.its_class ∙ ap (class_in ts) up.head

      arguments : scalars_in (of_term u up.term up.is_there).0.args ≡ ev m (over s) ∷ ev v (over s) ∷ evs qs (over s)
      arguments = sym its.args ∙ ap (λ xs. evs xs (over s)) up.args

      pub here : IsHere s n ts u ks t v qs
      here =
          let one = begins (of_term u up.term up.is_there).0.args (ev m (over s)) (ev v (over s) ∷ evs qs (over s)) arguments in
          let two = begins one.rest (ev v (over s)) (evs qs (over s)) one.values in
          let row = subst (HereBy rs (place_of ks t ts) r.value) (one.is ∙ ap (λ l. one.first ∷ l) two.is) (done.here u (place_of ks t ts) r its.there its_update) in
          let w = select_of u up.term ks t (r.value ∷ two.rest) two.first up.is_there up.head row in
          subst (λ args. HasSelect s n ts ks t args (ev v (over s))) (ap (λ x. x ∷ scalars_in two.rest) (sym its.value) ∙ ap (λ l. value_at s (n + u) ∷ l) two.values) (subst (HasSelect s n ts ks t (scalars_in (r.value ∷ two.rest))) two.value w)

      pub elsewhere : IsElsewhere s n ts u ks t m qs
      elsewhere a b x k e h args which off =
          let one = begins (of_term u up.term up.is_there).0.args (ev m (over s)) (ev v (over s) ∷ evs qs (over s)) arguments in
          let two = begins one.rest (ev v (over s)) (evs qs (over s)) one.values in
          let by = subst (ElsewhereBy rs (place_of ks t ts) r.value) (one.is ∙ ap (λ l. one.first ∷ l) two.is) (done.elsewhere u (place_of ks t ts) r its.there its_update) in
          let p = of_term a b e in
          let q = begins p.0.args x k (sym p.1.args ∙ args) in
          let from : (q.first ≡ r.value) ⊎ (q.first ≡ one.first) = ⊎_elim (λ i. inl (val_known q.first r.value (q.value ∙ (i ∙ its.value)))) (λ i. inr (val_known q.first one.first (q.value ∙ (i ∙ sym one.value)))) which in
          let far : q.rest ≡ two.rest → ⊥ = λ i. off (sym q.values ∙ (ap scalars_in i ∙ two.values)) in
          let w = by a p.0 p.1.there q.first q.rest (p.1.its_class ∙ ap (class_in ts) h) q.is from far in
          let new = select_of u up.term ks t (r.value ∷ q.rest) w.value up.is_there up.head w.new in
          let old = select_of u up.term ks t (one.first ∷ q.rest) w.value up.is_there up.head w.old in
          record {
            value = val_of w.value;
            new =
                subst (λ l. HasSelect s n ts ks t l (val_of w.value)) (ap (λ y. y ∷ scalars_in q.rest) (sym its.value) ∙ ap (λ l. value_at s (n + u) ∷ l) q.values) new;
            old =
                subst (λ l. HasSelect s n ts ks t l (val_of w.value)) (ap (λ y. y ∷ scalars_in q.rest) one.value ∙ ap (λ l. ev m (over s) ∷ l) q.values) old;
          }

  -- ---- from terms to rows

  module _ (tys : List Ty) (done : IsSettled s n ts tys) where
    agreeing : Agreeing rs
    agreeing a b r q e f key =
        let x = of_row a r e in
        let y = of_row b q f in
        let classes : r.class ≡ q.class = ap (λ (k : Class × List Scalar). k.0) key in
        let args : r.args ≡ q.args = ap (λ (k : Class × List Scalar). k.1) key in
        let heads = one_class ts a b x.0 y.0 x.1.term_there y.1.term_there (sym x.1.its_class ∙ (classes ∙ y.1.its_class)) in
        val_known r.value q.value (sym x.1.value ∙ (done.functions a b x.0 y.0 x.1.term_there y.1.term_there heads (x.1.args ∙ (ap scalars_in args ∙ sym y.1.args)) ∙ y.1.value))

    -- an update by its row
    record ItsUpdate (u : ℕ) (p : ℕ) (b v : Scalar) (q : List Scalar) : Type 0 where
      keys : List KeyType
      gives : Ty
      map_of : Ex
      new : Ex
      index : Exs
      is : IsUpdate s n ts u keys gives map_of new index
      place : place_of keys gives ts ≡ p
      its_map : ev map_of (over s) ≡ val_of b
      its_new : ev new (over s) ≡ val_of v
      its_index : evs index (over s) ≡ scalars_in q

    update_in : (u p : ℕ) (r : RowOf) (b v : Scalar) (q : List Scalar) → slice_get rs u ≡ Some r → r.class ≡ class.Update p → r.args ≡ b ∷ v ∷ q → ItsUpdate u p b v q
    update_in u p r b v q e h args =
        let x = of_row u r e in
        let c = update_class ts x.0.head p (sym x.1.its_class ∙ h) in
        let l = listed s x.0.args (val_of b) (val_of v ∷ scalars_in q) (x.1.args ∙ ap scalars_in args) in
        let k = listed s l.1.0 (val_of v) (scalars_in q) l.1.1.1.1 in
        record {
          keys = c.0;
          gives = c.1.0;
          map_of = l.0;
          new = k.0;
          index = k.1.0;
          is = record { term = x.0; is_there = x.1.term_there; head = c.1.1.0; args = l.1.1.0 ∙ ap (More l.0) k.1.1.0 };
          place = c.1.1.1;
          its_map = l.1.1.1.0;
          its_new = k.1.1.1.0;
          its_index = k.1.1.1.1;
        }

    here_of : (u p : ℕ) (r : RowOf) (args : List Scalar) → slice_get rs u ≡ Some r → r.class ≡ class.Update p → r.args ≡ args → HereBy rs p r.value args
    here_of u p r [] e h q = tt
    here_of u p r (b ∷ []) e h q = tt
    here_of u p r (b ∷ v ∷ i) e h q =
        let w = update_in u p r b v i e h q in
        let x = of_row u r e in
        let has = done.here u w.keys w.gives w.map_of w.new w.index w.is in
        let got = row_of_select w.keys w.gives (r.value ∷ i) (ev w.new (over s)) (subst (λ l. HasSelect s n ts w.keys w.gives l (ev w.new (over s))) (ap (λ y. y ∷ evs w.index (over s)) x.1.value ∙ ap (λ l. val_of r.value ∷ l) w.its_index) has) in
        let value : got.0 ≡ v = val_known got.0 v (got.1.0 ∙ w.its_new) in
        subst (λ m. HasRow rs (class.Select m) (r.value ∷ i) v) w.place (subst (HasRow rs (class.Select (place_of w.keys w.gives ts)) (r.value ∷ i)) value got.1.1)

    elsewhere_of : (u p : ℕ) (r : RowOf) (args : List Scalar) → slice_get rs u ≡ Some r → r.class ≡ class.Update p → r.args ≡ args → ElsewhereBy rs p r.value args
    elsewhere_of u p r [] e h q = tt
    elsewhere_of u p r (b ∷ []) e h q = tt
    elsewhere_of u p r (b ∷ v ∷ i) e h q = λ a c f. at a c f
      where
        at : (a : ℕ) (c : RowOf) → slice_get rs a ≡ Some c → AtOther rs p r.value b i c
        at a c f x k is args which off =
            let w = update_in u p r b v i e h q in
            let own = of_row u r e in
            let y = of_row a c f in
            let selects = same_maps ts a u y.0 w.is.term w.keys w.gives y.1.term_there w.is.is_there w.is.head (sym y.1.its_class ∙ (is ∙ ap (λ m. class.Select m) (sym w.place))) in
            let values : evs y.0.args (over s) ≡ val_of x ∷ scalars_in k = y.1.args ∙ ap scalars_in args in
            let from : (val_of x ≡ value_at s (n + u)) ⊎ (val_of x ≡ ev w.map_of (over s)) = ⊎_elim (λ j. inl (ap val_of j ∙ sym own.1.value)) (λ j. inr (ap val_of j ∙ sym w.its_map)) which in
            let far : scalars_in k ≡ evs w.index (over s) → ⊥ = λ j. off (vals_known k i (j ∙ w.its_index)) in
            let both = done.elsewhere u w.keys w.gives w.map_of w.new w.index w.is a y.0 (val_of x) (scalars_in k) y.1.term_there selects values from far in
            let new = row_of_select w.keys w.gives (r.value ∷ k) both.value (subst (λ z. HasSelect s n ts w.keys w.gives (z ∷ scalars_in k) both.value) own.1.value both.new) in
            let old = row_of_select w.keys w.gives (b ∷ k) both.value (subst (λ z. HasSelect s n ts w.keys w.gives (z ∷ scalars_in k) both.value) w.its_map both.old) in
            let one : old.0 ≡ new.0 = val_known old.0 new.0 (old.1.0 ∙ sym new.1.0) in
            record {
              value = new.0;
              new = subst (λ m. HasRow rs (class.Select m) (r.value ∷ k) new.0) w.place new.1.1;
              old =
                  subst (λ m. HasRow rs (class.Select m) (b ∷ k) new.0) w.place (subst (HasRow rs (class.Select (place_of w.keys w.gives ts)) (b ∷ k)) one old.1.1);
            }

    pub rows_settled : AreSettled rs
    rows_settled =
        record {
          agree = agreeing;
          here = λ u p r e h. here_of u p r r.args e h refl;
          elsewhere = λ u p r e h. elsewhere_of u p r r.args e h refl;
        }
