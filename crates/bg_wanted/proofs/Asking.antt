-- What updates want, by rows.
use Rattle.std.proofs.Common.{◌≡◌, ℕ, zero, suc, ◌+◌, Bool, true, false, List, [], ◌∷◌, length, Option, Some, None, refl, sym, ap, ◌∙◌, subst, arith, inl, ⊎_elim}
use Rattle.std.specs.Prelude.{slice_get, ◌⊎◌, if◌then◌else◌, MatchOption, not, is_some}
use Rattle.std.proofs.lemmas.Bool.{eq-eqb}
use Rattle.bg_ast.specs.Values.{val_eq}
use Rattle.bg_sense.proofs.MapLaws.{val_same}
use Rattle.bg_terms.proofs.True.{same_eq, false_unless}
use Rattle.bg_scalar.specs.declared.scalar.Scalar.{Scalar}
use Rattle.bg_scalar.specs.Values.{val_of}
use Rattle.bg_wanted.specs.declared.class.Class.{Class}
use Rattle.bg_wanted.specs.declared.class.Class.TheVariants as class
use Rattle.bg_wanted.specs.declared.looked.Looked.{Looked}
use Rattle.bg_wanted.specs.declared.looked.Update.{Update}
use Rattle.bg_wanted.specs.Rows.{RowOf}
use Rattle.bg_wanted.specs.Firsts.{KeyOf, key_of, first_row, Agreeing}
use Rattle.bg_wanted.specs.Selects.{MapOf, is_from, map_in, places_of}
use Rattle.bg_wanted.specs.Updates.{HasRow, AgreeAt, HereBy, ElsewhereBy, AreSettled}
use Rattle.bg_wanted.specs.Asked.{looked_rows, IsOf, IsHereOf, IsAgreed, IsAgreedAt, IsSelectOf, IsFirst, IsUnseen, is_place, has_scalar, are_alike, index_in, index_there, IsAtIndex, has_two, is_update_of, is_update, IsUpdateWith, IsUpdateOf, IsRight, IsRightRow, AreRight}
use Rattle.bg_wanted.proofs.Earliest.{first_is, first_none}
use Rattle.bg_wanted.proofs.Mapping.{map_same}
use Rattle.bg_wanted.proofs.Settlement.{val_known}

some_same : (v w : ℕ × Scalar) → Some v ≡ Some w → v ≡ w
some_same v w e = cc

second_of : (v w : ℕ × Scalar) → Some v ≡ Some w → v.1 ≡ w.1
second_of v w e = ap (λ (q : ℕ × Scalar). q.1) (some_same v w e)

-- nothing isn't something
none_some : (w : ℕ × Scalar) → None ≡ Some w → ⊥
none_some w e = let bad : ⊥ = cc in bad

module _ (rs : List RowOf) where
  abbrev first : Class → List Scalar → Option (ℕ × Scalar)
  first c args = first_row (c, args) 0 rs

  -- what is found is a row
  pub row_found : (c : Class) (args : List Scalar) (p : ℕ) (x : Scalar) → first_row (c, args) 0 rs ≡ Some (p, x) → HasRow rs c args x
  row_found c args p x e =
      let f = first_is (c, args) 0 rs p x e in
      record {
        number = f.number;
        row = f.row;
        is_there = f.there;
        its_class = ap (λ (k : KeyOf). k.0) f.key;
        its_args = ap (λ (k : KeyOf). k.1) f.key;
        its_value = f.value;
      }

  pub its_key : (c : Class) (args : List Scalar) (r : RowOf) → r.class ≡ c → r.args ≡ args → key_of r ≡ (c, args)
  its_key c args r e f = ap (λ z. (z, r.args)) e ∙ ap (λ z. (c, z)) f

  -- where there is one, it is found, with its scalar
  pub found_row : Agreeing rs → (c : Class) (args : List Scalar) (x : Scalar) → HasRow rs c args x → (p : ℕ) × (first_row (c, args) 0 rs ≡ Some (p, x))
  found_row agree c args x w = on (first_row (c, args) 0 rs) refl
    where
      on : (o : Option (ℕ × Scalar)) → first_row (c, args) 0 rs ≡ o → (p : ℕ) × (o ≡ Some (p, x))
      on None e =
          absurd (first_none (c, args) 0 rs e w.number w.row w.is_there (its_key c args w.row w.its_class w.its_args))
      on (Some q) e =
          let f = first_is (c, args) 0 rs q.0 q.1 e in
          let same : q.1 ≡ x = sym f.value ∙ (agree f.number w.number f.row w.row f.there w.is_there (f.key ∙ sym (its_key c args w.row w.its_class w.its_args)) ∙ w.its_value) in
          (q.0, ap (λ y. Some (q.0, y)) same)

  -- ---- at its index

  pub here_found : (u : Update) (p : ℕ) (x : Scalar) → first_row (class.Select u.maps, u.value ∷ u.index.now) 0 rs ≡ Some (p, x) → val_eq (val_of x) (val_of u.new) ≡ true → IsHereOf rs u
  here_found u p x e same =
      subst (HasRow rs (class.Select u.maps) (u.value ∷ u.index.now)) (val_known x u.new (val_same (val_of x) (val_of u.new) same)) (row_found (class.Select u.maps) (u.value ∷ u.index.now) p x e)

  here_of : AreSettled rs → (u : Update) → IsOf rs u → IsHereOf rs u
  here_of done u is =
      subst (λ z. HereBy rs u.maps z (u.before ∷ u.new ∷ u.index.now)) is.its_value (subst (HereBy rs u.maps is.row.value) is.its_args (done.here u.number u.maps is.row is.is_there is.its_class))

  pub here_missing : (u : Update) → IsOf rs u → first_row (class.Select u.maps, u.value ∷ u.index.now) 0 rs ≡ None → AreSettled rs → ⊥
  here_missing u is e done =
      let w = found_row done.agree (class.Select u.maps) (u.value ∷ u.index.now) u.new (here_of done u is) in
      none_some (w.0, u.new) (sym e ∙ w.1)

  pub here_other : (u : Update) (p : ℕ) (x : Scalar) → IsOf rs u → first_row (class.Select u.maps, u.value ∷ u.index.now) 0 rs ≡ Some (p, x) → val_eq (val_of x) (val_of u.new) ≡ false → AreSettled rs → ⊥
  here_other u p x is e off done =
      let w = found_row done.agree (class.Select u.maps) (u.value ∷ u.index.now) u.new (here_of done u is) in
      let same : x ≡ u.new = second_of (p, x) (w.0, u.new) (sym e ∙ w.1) in
      let yes = same_eq (val_of x) (val_of u.new) (ap val_of same) in
      let bad : false ≡ true = sym off ∙ yes in
      let no : ⊥ = cc in
      no

  pub here_by : (u : Update) (o : Option (ℕ × Scalar)) → first_row (class.Select u.maps, u.value ∷ u.index.now) 0 rs ≡ o → has_scalar o u.new ≡ true → IsHereOf rs u
  here_by u None e h = absurd (let bad : ⊥ = cc in bad)
  here_by u (Some p) e h = here_found u p.0 p.1 e h

  pub not_here : (u : Update) (o : Option (ℕ × Scalar)) → first_row (class.Select u.maps, u.value ∷ u.index.now) 0 rs ≡ o → has_scalar o u.new ≡ false → IsOf rs u → AreSettled rs → ⊥
  not_here u None e h is done = here_missing u is e done
  not_here u (Some p) e h is done = here_other u p.0 p.1 is e h done

  -- ---- elsewhere

  pub agree_found : (m : ℕ) (z b : Scalar) (k : List Scalar) (p q : ℕ) (x y : Scalar) → first_row (class.Select m, z ∷ k) 0 rs ≡ Some (p, x) → first_row (class.Select m, b ∷ k) 0 rs ≡ Some (q, y) → val_eq (val_of x) (val_of y) ≡ true → AgreeAt rs m z b k
  agree_found m z b k p q x y e f same =
      record {
        value = x;
        new = row_found (class.Select m) (z ∷ k) p x e;
        old =
            subst (HasRow rs (class.Select m) (b ∷ k)) (sym (val_known x y (val_same (val_of x) (val_of y) same))) (row_found (class.Select m) (b ∷ k) q y f);
      }

  pub agree_missing_new : Agreeing rs → (m : ℕ) (z b : Scalar) (k : List Scalar) → first_row (class.Select m, z ∷ k) 0 rs ≡ None → AgreeAt rs m z b k → ⊥
  agree_missing_new agree m z b k e w =
      let f = found_row agree (class.Select m) (z ∷ k) w.value w.new in
      none_some (f.0, w.value) (sym e ∙ f.1)

  pub agree_missing_old : Agreeing rs → (m : ℕ) (z b : Scalar) (k : List Scalar) → first_row (class.Select m, b ∷ k) 0 rs ≡ None → AgreeAt rs m z b k → ⊥
  agree_missing_old agree m z b k e w =
      let f = found_row agree (class.Select m) (b ∷ k) w.value w.old in
      none_some (f.0, w.value) (sym e ∙ f.1)

  pub agree_other : Agreeing rs → (m : ℕ) (z b : Scalar) (k : List Scalar) (p q : ℕ) (x y : Scalar) → first_row (class.Select m, z ∷ k) 0 rs ≡ Some (p, x) → first_row (class.Select m, b ∷ k) 0 rs ≡ Some (q, y) → val_eq (val_of x) (val_of y) ≡ false → AgreeAt rs m z b k → ⊥
  agree_other agree m z b k p q x y e f off w =
      let g = found_row agree (class.Select m) (z ∷ k) w.value w.new in
      let h = found_row agree (class.Select m) (b ∷ k) w.value w.old in
      let first : x ≡ w.value = second_of (p, x) (g.0, w.value) (sym e ∙ g.1) in
      let second : y ≡ w.value = second_of (q, y) (h.0, w.value) (sym f ∙ h.1) in
      let yes = same_eq (val_of x) (val_of y) (ap val_of (first ∙ sym second)) in
      let bad : false ≡ true = sym off ∙ yes in
      let no : ⊥ = cc in
      no

  -- two that are found
  pub agree_by : (m : ℕ) (z b : Scalar) (k : List Scalar) (o p : Option (ℕ × Scalar)) → first_row (class.Select m, z ∷ k) 0 rs ≡ o → first_row (class.Select m, b ∷ k) 0 rs ≡ p → are_alike o p ≡ true → AgreeAt rs m z b k
  agree_by m z b k None p e f h = absurd (let bad : ⊥ = cc in bad)
  agree_by m z b k (Some x) None e f h = absurd (let bad : ⊥ = cc in bad)
  agree_by m z b k (Some x) (Some y) e f h =
      agree_found m z b k x.0 y.0 x.1 y.1 e f (same_eq (val_of x.1) (val_of y.1) (sym (val_same (val_of y.1) (val_of x.1) h)))

  pub agree_not : Agreeing rs → (m : ℕ) (z b : Scalar) (k : List Scalar) (o p : Option (ℕ × Scalar)) → first_row (class.Select m, z ∷ k) 0 rs ≡ o → first_row (class.Select m, b ∷ k) 0 rs ≡ p → are_alike o p ≡ false → AgreeAt rs m z b k → ⊥
  agree_not agree m z b k None p e f h w = agree_missing_new agree m z b k e w
  agree_not agree m z b k (Some x) None e f h w = agree_missing_old agree m z b k f w
  agree_not agree m z b k (Some x) (Some y) e f h w =
      agree_other agree m z b k x.0 y.0 x.1 y.1 e f (false_unless (val_eq (val_of x.1) (val_of y.1)) turned) w
    where
      turned : val_eq (val_of x.1) (val_of y.1) ≡ true → ⊥
      turned q =
          let yes = same_eq (val_of y.1) (val_of x.1) (sym (val_same (val_of x.1) (val_of y.1) q)) in
          let bad : false ≡ true = sym h ∙ yes in
          let no : ⊥ = cc in
          no

  pub elsewhere_by : AreSettled rs → (u : Update) → IsOf rs u → (a : ℕ) (s : RowOf) → slice_get rs a ≡ Some s → IsAgreed rs u s
  elsewhere_by done u is =
      subst (λ z. ElsewhereBy rs u.maps z (u.before ∷ u.new ∷ u.index.now)) is.its_value (subst (ElsewhereBy rs u.maps is.row.value) is.its_args (done.elsewhere u.number u.maps is.row is.is_there is.its_class))

  pub select_parts : (c : Class) (args : List Scalar) (m : ℕ) (x : Scalar) → map_in c args ≡ Some (m, x) → (k : List Scalar) × ((c ≡ class.Select m) × (args ≡ x ∷ k))
  select_parts (class.Function f) args m x e = absurd (let bad : ⊥ = cc in bad)
  select_parts (class.Select j) [] m x e = absurd (let bad : ⊥ = cc in bad)
  select_parts (class.Select j) (y ∷ k) m x e =
      let both : (j, y) ≡ (m, x) = some_same (j, y) (m, x) e in
      (k, (ap (λ (p : ℕ × Scalar). class.Select p.0) both, ap (λ (p : ℕ × Scalar). p.1 ∷ k) both))
  select_parts (class.Update j) args m x e = absurd (let bad : ⊥ = cc in bad)
  select_parts (class.Part i j) args m x e = absurd (let bad : ⊥ = cc in bad)

  -- a row of the same class and arguments is agreed where another is
  pub agreed_alike : (u : Update) (r s : RowOf) → key_of r ≡ key_of s → IsAgreed rs u r → IsAgreed rs u s
  agreed_alike u r s e h x k c args from off =
      h x k (ap (λ (p : KeyOf). p.0) e ∙ c) (ap (λ (p : KeyOf). p.1) e ∙ args) from off

  -- the first row of a key
  record First (r : RowOf) : Type 0 where
    number : ℕ
    row : RowOf
    is_there : slice_get rs number ≡ Some row
    key : key_of row ≡ key_of r
    first : IsFirst rs number

  first_of : (a : ℕ) (r : RowOf) → slice_get rs a ≡ Some r → First r
  first_of a r e = on (first_row (key_of r) 0 rs) refl
    where
      on : (o : Option (ℕ × Scalar)) → first_row (key_of r) 0 rs ≡ o → First r
      on None f = absurd (first_none (key_of r) 0 rs f a r e refl)
      on (Some q) f =
          let w = first_is (key_of r) 0 rs q.0 q.1 f in
          let place : q.0 ≡ w.number = let h = w.is in omega (arith, h) in
          record {
            number = w.number;
            row = w.row;
            is_there = w.there;
            key = w.key;
            first =
                λ s g.
                let same : w.row ≡ s = let two : Some w.row ≡ Some s = sym w.there ∙ g in cc in
                ap (λ k. is_place w.number (first_row k 0 rs)) (ap key_of (sym same) ∙ w.key)
                ∙ (ap (is_place w.number) f ∙ eq-eqb w.number q.0 (sym place));
          }

  -- ---- each select from a map

  -- a place is one of these
  abbrev pub IsIn : ℕ → List ℕ → Type 0
  IsIn a ps = (j : ℕ) × (slice_get ps j ≡ Some a)

  placed : (k : MapOf) (b a : ℕ) (ss : List RowOf) (r : RowOf) → slice_get ss a ≡ Some r → is_from k (map_in r.class r.args) ≡ true → IsIn (b + a) (places_of k b ss)
  placed k b a [] r e h = absurd (let bad : ⊥ = cc in bad)
  placed k b zero (s ∷ ss) r e h =
      let same : s ≡ r = cc in
      (0, on (is_from k (map_in s.class s.args)) (ap (λ z. is_from k (map_in z.class z.args)) same ∙ h))
    where
      on : (c : Bool) → c ≡ true → slice_get (if c then b ∷ places_of k (suc b) ss else places_of k (suc b) ss) 0 ≡ Some (b + 0)
      on true q = ap (λ z. Some z) (let g : b ≡ b + 0 = omega arith in g)
      on false q = absurd (let bad : ⊥ = cc in bad)
  placed k b (suc a) (s ∷ ss) r e h =
      let w = placed k (suc b) a ss r e h in
      on (is_from k (map_in s.class s.args)) (subst (λ c. IsIn c (places_of k (suc b) ss)) (let g : suc b + a ≡ b + suc a = omega arith in g) w)
    where
      on : (c : Bool) → IsIn (b + suc a) (places_of k (suc b) ss) → IsIn (b + suc a) (if c then b ∷ places_of k (suc b) ss else places_of k (suc b) ss)
      on true w = (suc w.0, w.1)
      on false w = w

  -- where so it is at each first select from a map, it is at each
  pub agreed_all : (u : Update) (x : Scalar) → ((a : ℕ) → IsIn a (places_of (u.maps, x) 0 rs) → IsFirst rs a → IsAgreedAt rs u a) → (a : ℕ) (r : RowOf) → slice_get rs a ≡ Some r → map_in r.class r.args ≡ Some (u.maps, x) → IsAgreed rs u r
  agreed_all u x each a r e h =
      let w = first_of a r e in
      let same : map_in w.row.class w.row.args ≡ Some (u.maps, x) = ap (λ (k : KeyOf). map_in k.0 k.1) w.key ∙ h in
      let from : is_from (u.maps, x) (map_in w.row.class w.row.args) ≡ true = ap (is_from (u.maps, x)) same ∙ map_same (u.maps, x) in
      let at = placed (u.maps, x) 0 w.number rs w.row w.is_there from in
      let place : 0 + w.number ≡ w.number = omega arith in
      agreed_alike u w.row r w.key (each w.number (subst (λ b. IsIn b (places_of (u.maps, x) 0 rs)) place at) w.first w.row w.is_there)

  -- an index at which an update is selected from is agreed on already
  pub old_agreed : (u : Update) → ((a : ℕ) (r : RowOf) → slice_get rs a ≡ Some r → map_in r.class r.args ≡ Some (u.maps, u.value) → IsAgreed rs u r) → (r : RowOf) → (((x : Scalar) (k : List Scalar) → r.args ≡ x ∷ k → first_row (class.Select u.maps, u.value ∷ k) 0 rs ≡ None) → IsAgreed rs u r) → IsAgreed rs u r
  old_agreed u news r unseen x k c args which off = on (first_row (class.Select u.maps, u.value ∷ k) 0 rs) refl
    where
      on : (o : Option (ℕ × Scalar)) → first_row (class.Select u.maps, u.value ∷ k) 0 rs ≡ o → AgreeAt rs u.maps u.value u.before k
      on None e =
          unseen
          (λ y l f. let two : y ∷ l ≡ x ∷ k = sym f ∙ args in let same : l ≡ k = cc in ap (λ i. first_row (class.Select u.maps, u.value ∷ i) 0 rs) same ∙ e) x k c args which off
      on (Some q) e =
          let w = row_found (class.Select u.maps) (u.value ∷ k) q.0 q.1 e in
          news w.number w.row w.is_there (ap (λ d. map_in d w.row.args) w.its_class ∙ ap (map_in (class.Select u.maps)) w.its_args) u.value k w.its_class w.its_args (inl refl) off

  -- both kinds of selects are all that are asked for
  pub right_of : (u : Update) → IsHereOf rs u → ((a : ℕ) (r : RowOf) → slice_get rs a ≡ Some r → map_in r.class r.args ≡ Some (u.maps, u.value) → IsAgreed rs u r) → ((a : ℕ) (r : RowOf) → slice_get rs a ≡ Some r → map_in r.class r.args ≡ Some (u.maps, u.before) → IsAgreed rs u r) → IsRight rs u
  right_of u here news olds =
      (here, λ a r e x k c args which off. ⊎_elim (λ i. news a r e (from r x k u.value c args i) x k c args which off) (λ i. olds a r e (from r x k u.before c args i) x k c args which off) which)
    where
      from : (r : RowOf) (x : Scalar) (k : List Scalar) (y : Scalar) → r.class ≡ class.Select u.maps → r.args ≡ x ∷ k → x ≡ y → map_in r.class r.args ≡ Some (u.maps, y)
      from r x k y c args i =
          ap (λ d. map_in d r.args) c
          ∙ (ap (map_in (class.Select u.maps)) args ∙ ap (λ z. Some (u.maps, z)) i)

  pub settled_of : Agreeing rs → AreRight rs → AreSettled rs
  settled_of agree right =
      record {
        agree = agree;
        here = λ u m r e c. (right u m r e c).0;
        elsewhere = λ u m r e c. (right u m r e c).1;
      }

  -- ---- updates of rows

  pub right_none : (r : RowOf) → is_update r ≡ false → IsRightRow rs r
  right_none r h m e = on r.args (ap (λ c. is_update_of c r.args) (sym e) ∙ h)
    where
      on : (args : List Scalar) → is_update_of (class.Update m) args ≡ false → HereBy rs m r.value args × ElsewhereBy rs m r.value args
      on [] g = (tt, tt)
      on (b ∷ []) g = (tt, tt)
      on (b ∷ v ∷ q) g = absurd (let bad : ⊥ = cc in bad)

  pub right_some : (r : RowOf) (u : Update) (number : ℕ) → IsUpdateOf number r u → IsRight rs u → IsRightRow rs r
  right_some r u number is right m e =
      let same : class.Update u.maps ≡ class.Update m = sym is.its_class ∙ e in
      let maps : u.maps ≡ m = cc in
      let here : HereBy rs u.maps r.value r.args = subst (λ z. HereBy rs u.maps z r.args) (sym is.its_value) (subst (HereBy rs u.maps u.value) (sym is.its_args) right.0) in
      let other : ElsewhereBy rs u.maps r.value r.args = subst (λ z. ElsewhereBy rs u.maps z r.args) (sym is.its_value) (subst (ElsewhereBy rs u.maps u.value) (sym is.its_args) right.1) in
      (subst (λ k. HereBy rs k r.value r.args) maps here, subst (λ k. ElsewhereBy rs k r.value r.args) maps other)

  pub of_row : (r : RowOf) (u : Update) (number : ℕ) → slice_get rs number ≡ Some r → IsUpdateOf number r u → IsOf rs u
  of_row r u number e is =
      record {
        row = r;
        is_there = ap (slice_get rs) is.its_number ∙ e;
        its_class = is.its_class;
        its_value = is.its_value;
        its_args = is.its_args;
      }

-- ---- an index of a select

module _ (l : Looked) (u : Update) where
  abbrev rows : List RowOf
  rows = looked_rows l

  pub no_index : (x : Scalar) (a : ℕ) → IsSelectOf l u x a → index_there (slice_get (looked_rows l) a) ≡ None → ⊥
  no_index x a s e =
      let w = select_parts (looked_rows l) s.0.class s.0.args u.maps x s.1.1 in
      let bad : Some w.0 ≡ None = sym (ap index_there s.1.0 ∙ ap index_in w.1.1) ∙ e in
      let no : ⊥ = cc in
      no

  pub at_index : (x : Scalar) (a : ℕ) (k : List Scalar) → IsSelectOf l u x a → index_there (slice_get (looked_rows l) a) ≡ Some k → IsAtIndex l u x a k
  at_index x a k s e =
      let w = select_parts (looked_rows l) s.0.class s.0.args u.maps x s.1.1 in
      let both : Some w.0 ≡ Some k = sym (ap index_there s.1.0 ∙ ap index_in w.1.1) ∙ e in
      let same : w.0 ≡ k = cc in
      record { row = s.0; is_there = s.1.0; its_class = w.1.0; its_args = w.1.1 ∙ ap (λ i. x ∷ i) same }

  same_index : (x : Scalar) (a : ℕ) (k : List Scalar) → IsAtIndex l u x a k → (r : RowOf) → slice_get (looked_rows l) a ≡ Some r → (y : Scalar) (j : List Scalar) → r.args ≡ y ∷ j → j ≡ k
  same_index x a k at r e y j args =
      let two : Some at.row ≡ Some r = sym at.is_there ∙ e in
      let row : at.row ≡ r = cc in
      let both : x ∷ k ≡ y ∷ j = sym at.its_args ∙ (ap (λ (z : RowOf). z.args) row ∙ args) in
      let same : j ≡ k = cc in
      same

  pub unsettled : (x : Scalar) (a : ℕ) (k : List Scalar) → (x ≡ u.value) ⊎ (x ≡ u.before) → IsAtIndex l u x a k → IsOf (looked_rows l) u → (k ≡ u.index.now → ⊥) → (AgreeAt (looked_rows l) u.maps u.value u.before k → ⊥) → AreSettled (looked_rows l) → ⊥
  unsettled x a k which at is off apart done =
      apart (elsewhere_by (looked_rows l) done u is a at.row at.is_there x k at.its_class at.its_args which off)

  pub agreed_own : (x : Scalar) (a : ℕ) (k : List Scalar) → IsAtIndex l u x a k → k ≡ u.index.now → IsAgreedAt (looked_rows l) u a
  agreed_own x a k at same r e y j c args which off = absurd (off (same_index x a k at r e y j args ∙ same))

  pub agreed_unfirst : (x : Scalar) (a : ℕ) (k : List Scalar) → IsAtIndex l u x a k → is_place a (first_row (class.Select u.maps, x ∷ k) 0 (looked_rows l)) ≡ false → IsFirst (looked_rows l) a → IsAgreedAt (looked_rows l) u a
  agreed_unfirst x a k at e first =
      let yes = first at.row at.is_there in
      let key : key_of at.row ≡ (class.Select u.maps, x ∷ k) = its_key (looked_rows l) (class.Select u.maps) (x ∷ k) at.row at.its_class at.its_args in
      let bad : false ≡ true = sym e ∙ (ap (λ (q : KeyOf). is_place a (first_row q 0 (looked_rows l))) (sym key) ∙ yes) in
      absurd (let no : ⊥ = cc in no)

  pub agreed_both : (x : Scalar) (a : ℕ) (k : List Scalar) → IsAtIndex l u x a k → AgreeAt (looked_rows l) u.maps u.value u.before k → IsAgreedAt (looked_rows l) u a
  agreed_both x a k at w r e y j c args which off =
      subst (AgreeAt (looked_rows l) u.maps u.value u.before) (sym (same_index x a k at r e y j args)) w

  pub agreed_seen : (x : Scalar) (a : ℕ) (k : List Scalar) (o : Option (ℕ × Scalar)) → IsAtIndex l u x a k → first_row (class.Select u.maps, u.value ∷ k) 0 (looked_rows l) ≡ o → is_some o ≡ true → IsUnseen l u a → IsAgreedAt (looked_rows l) u a
  agreed_seen x a k o at e some unseen =
      let none = unseen at.row x k at.is_there at.its_args in
      let bad : false ≡ true = ap is_some (sym none ∙ e) ∙ some in
      absurd (let no : ⊥ = cc in no)

  pub unseen_at : (x : Scalar) (a : ℕ) (r : RowOf) → slice_get (looked_rows l) a ≡ Some r → ((y : Scalar) (k : List Scalar) → r.args ≡ y ∷ k → first_row (class.Select u.maps, u.value ∷ k) 0 (looked_rows l) ≡ None) → IsUnseen l u a
  unseen_at x a r e none s y k f args =
      let two : Some r ≡ Some s = sym e ∙ f in
      let row : r ≡ s = cc in
      none y k (ap (λ (z : RowOf). z.args) row ∙ args)

pub none_is : {A : Type 0} (o : Option A) (b : Bool) → is_some o ≡ not b → b ≡ true → o ≡ None
none_is None b e h = refl
none_is (Some x) b e h = absurd (let bad : true ≡ false = e ∙ ap not h in let no : ⊥ = cc in no)

pub some_is : {A : Type 0} (o : Option A) (b : Bool) → is_some o ≡ not b → b ≡ false → is_some o ≡ true
some_is o b e h = e ∙ ap not h

pub flipped : (b : Bool) → not b ≡ false → b ≡ true
flipped true h = refl
flipped false h = absurd (let bad : ⊥ = cc in bad)

pub none_in : (args : List Scalar) → length args ≡ 0 → index_in args ≡ None
none_in [] h = refl
none_in (x ∷ args) h = absurd (let bad : ⊥ = cc in bad)

-- ---- what a row is an update of

no_two : (args : List Scalar) → length args ≡ 0 → has_two args ≡ false
no_two [] h = refl
no_two (x ∷ args) h = absurd (let bad : ⊥ = cc in bad)

pub none_with : (args : List Scalar) → length args ≡ 0 → has_two args ≡ false
none_with args h = no_two args h

pub none_from : (b : Scalar) (behind : List Scalar) → length behind ≡ 0 → has_two (b ∷ behind) ≡ false
none_from b [] h = refl
none_from b (x ∷ xs) h = absurd (let bad : ⊥ = cc in bad)

update_two : (m : ℕ) (args : List Scalar) → is_update_of (class.Update m) args ≡ has_two args
update_two m [] = refl
update_two m (b ∷ []) = refl
update_two m (b ∷ v ∷ q) = refl

pub of_with : (r : RowOf) (m number : ℕ) (args : List Scalar) (o : Option Update) → r.class ≡ class.Update m → args ≡ r.args → MatchOption o (has_two args ≡ false) (λ u. IsUpdateWith number m r.value args u) → MatchOption o (is_update r ≡ false) (λ u. IsUpdateOf number r u)
of_with r m number args None e f h =
    ap (λ c. is_update_of c r.args) e ∙ (update_two m r.args ∙ (ap has_two (sym f) ∙ h))
of_with r m number args (Some u) e f w =
    record {
      its_number = w.its_number;
      its_class = e ∙ ap (λ k. class.Update k) (sym w.its_maps);
      its_value = sym w.its_value;
      its_args = sym f ∙ w.its_args;
    }
