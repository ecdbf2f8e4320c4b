-- Opened expressions are typed, and each product in them has a constant side.
use Rattle.std.proofs.Common.{◌≡◌, ℕ, zero, suc, ◌+◌, true, List, [], ◌∷◌, ◌++◌, length, map, Option, Some, None, refl, sym, ap, ◌∙◌, subst, inl, inr, ⊎_elim}
use Rattle.std.specs.Prelude.{◌&&◌, not, slice_get, option_map}
use Rattle.bg_ast.specs.Values.{Ty, IntTy, BoolTy, MapTy}
use Rattle.bg_ast.specs.Syntax.{Op, And, Or, Implies, Iff, Equal, Unequal, Less, AtMost, Greater, AtLeast, Plus, Minus, Times, Global, Local, Ex, Exs, Number, Fact, Constant, Read, Not, Negative, Binary, Apply, Select, Update, Old, NoMore, More, Fun}
use Rattle.bg_sense.specs.Tables.{has_body}
use Rattle.bg_sense.specs.Typing.{Sig, OpHasType, HasType, HaveTypes, key_ty}
use Rattle.bg_sense.specs.Typed.{IsConstant, HasConstantSide, IsLinear, AreLinear}
use Rattle.bg_sense.proofs.Bools.{and_left, and_right}
use Rattle.bg_opened.proofs.Plain.{is_plain, are_plain}
use Rattle.bg_opened.specs.Exprs.{ex_at, put_in, put_in_all, applied, opened, all_opened, opened_fun, opened_body, bodies_to, raw_bodies}
use Rattle.bg_opened.specs.Programs.{bodiless}
use Rattle.bg_opened.proofs.Places.{at_mapped}
use Rattle.bg_opened.proofs.Worths.{behind_at}

pub op_map : (op : Op) (P Q P' Q' : Ty → Type 0) (t : Ty) → ((u : Ty) → P u → P' u) → ((u : Ty) → Q u → Q' u) → OpHasType op P Q t → OpHasType op P' Q' t
op_map And P Q P' Q' t f g h = (h.0, f BoolTy h.1, g BoolTy h.2)
op_map Or P Q P' Q' t f g h = (h.0, f BoolTy h.1, g BoolTy h.2)
op_map Implies P Q P' Q' t f g h = (h.0, f BoolTy h.1, g BoolTy h.2)
op_map Iff P Q P' Q' t f g h = (h.0, f BoolTy h.1, g BoolTy h.2)
op_map Equal P Q P' Q' t f g h = (h.0, (h.1.0, f h.1.0 h.1.1, g h.1.0 h.1.2))
op_map Unequal P Q P' Q' t f g h = (h.0, (h.1.0, f h.1.0 h.1.1, g h.1.0 h.1.2))
op_map Less P Q P' Q' t f g h = (h.0, f IntTy h.1, g IntTy h.2)
op_map AtMost P Q P' Q' t f g h = (h.0, f IntTy h.1, g IntTy h.2)
op_map Greater P Q P' Q' t f g h = (h.0, f IntTy h.1, g IntTy h.2)
op_map AtLeast P Q P' Q' t f g h = (h.0, f IntTy h.1, g IntTy h.2)
op_map Plus P Q P' Q' t f g h = (h.0, f IntTy h.1, g IntTy h.2)
op_map Minus P Q P' Q' t f g h = (h.0, f IntTy h.1, g IntTy h.2)
op_map Times P Q P' Q' t f g h = (h.0, f IntTy h.1, g IntTy h.2)

-- the same names, with another frame
abbrev pub sig_framed : Sig → List Ty → Sig
sig_framed g r = record { constants = g.constants; functions = g.functions; globals = g.globals; frame = r }

none_at : (ps : List Ty) (j : ℕ) (t : Ty) → ps ≡ [] → slice_get ps j ≡ Some t → ⊥
none_at [] j t h e = let bad : ⊥ = cc in bad
none_at (p ∷ ps) j t h e = let bad : ⊥ = cc in bad

at_typed : (xs : Exs) (ps : List Ty) (g : Sig) (j : ℕ) (t : Ty) → HaveTypes xs g ps → slice_get ps j ≡ Some t → HasType (ex_at xs j) g t
at_typed NoMore ps g j t h e = absurd (none_at ps j t h e)
at_typed (More x xs) [] g j t h e = absurd h
at_typed (More x xs) (u ∷ ps) g zero t h e = let same : u ≡ t = cc in subst (HasType x g) same h.0
at_typed (More x xs) (u ∷ ps) g (suc j) t h e = at_typed xs ps g j t h.1 e

module _ (g : Sig) (ps : List Ty) (xs : Exs) (args : HaveTypes xs g ps) where
  mutual
    pub put_in_typed : (b : Ex) (t : Ty) → HasType b (sig_framed g ps) t → HasType (put_in b xs) g t
    put_in_typed (Number z) t h = h
    put_in_typed (Fact b) t h = h
    put_in_typed (Constant k) t h = h
    put_in_typed (Read (Global x)) t h = h
    put_in_typed (Read (Local j)) t h = at_typed xs ps g j t args h
    put_in_typed (Not e) t h = (h.0, put_in_typed e BoolTy h.1)
    put_in_typed (Negative e) t h = (h.0, put_in_typed e IntTy h.1)
    put_in_typed (Binary op a b) t h =
        op_map op (HasType a (sig_framed g ps)) (HasType b (sig_framed g ps)) (HasType (put_in a xs) g) (HasType (put_in b xs) g) t (put_in_typed a) (put_in_typed b) h
    put_in_typed (Apply f es) t h = (h.0, h.1, h.2, put_in_all_typed es h.0.params h.3)
    put_in_typed (Select m es) t h =
        (h.0, put_in_typed m (MapTy h.0 t) h.1, put_in_all_typed es (map key_ty h.0) h.2)
    put_in_typed (Update m es e) t h = (
      h.0,
      (h.1.0, h.1.1, put_in_typed m (MapTy h.0 h.1.0) h.1.2, put_in_all_typed es (map key_ty h.0) h.1.3, put_in_typed e h.1.0 h.1.4),
    )
    put_in_typed (Old e) t h = put_in_typed e t h

    put_in_all_typed : (es : Exs) (ts : List Ty) → HaveTypes es (sig_framed g ps) ts → HaveTypes (put_in_all es xs) g ts
    put_in_all_typed NoMore ts h = h
    put_in_all_typed (More e es) [] h = absurd h
    put_in_all_typed (More e es) (t ∷ ts) h = (put_in_typed e t h.0, put_in_all_typed es ts h.1)

-- what names mean once constants are globals
abbrev pub sig_opened : List Ty → Sig → Sig
sig_opened cts g = record { constants = []; functions = g.functions; globals = g.globals ++ cts; frame = g.frame }

module _ (gts cts : List Ty) (fs : List Fun) where
  abbrev pub Before : List Ty → Sig
  Before r = record { constants = cts; functions = fs; globals = gts; frame = r }

  abbrev pub After : List Ty → Sig
  After r = record { constants = []; functions = fs; globals = gts ++ cts; frame = r }

  abbrev pub BodiesTyped : (ℕ → Option Ex) → Type 0
  BodiesTyped bodies =
      (f : ℕ) (fn : Fun) (b : Ex) → slice_get fs f ≡ Some fn → bodies f ≡ Some b → HasType b (After fn.params) fn.result

  -- globals of these types are the first ones, or there is none
  abbrev pub Reads : List Ty → Type 0
  Reads known = (x : ℕ) (t : Ty) → slice_get known x ≡ Some t → slice_get (gts ++ cts) x ≡ Some t

  module _ (n : ℕ) (here : n ≡ length gts) (bodies : ℕ → Option Ex) (typed : BodiesTyped bodies) where
    applied_typed : (o : Option Ex) (f : ℕ) (fn : Fun) (xs : Exs) (r : List Ty) (t : Ty) → bodies f ≡ o → slice_get fs f ≡ Some fn → t ≡ fn.result → HaveTypes xs (After r) fn.params → HasType (applied o f xs) (After r) t
    applied_typed None f fn xs r t e there is h = (fn, there, is, h)
    applied_typed (Some b) f fn xs r t e there is h =
        subst (HasType (put_in b xs) (After r)) (sym is) (put_in_typed (After r) fn.params xs h b fn.result (typed f fn b there e))

    module _ (known : List Ty) (reads : Reads known) (r : List Ty) where
      abbrev G : Sig
      G = record { constants = cts; functions = fs; globals = known; frame = r }

      mutual
        pub opened_typed : (e : Ex) (t : Ty) → HasType e G t → HasType (opened n bodies e) (After r) t
        opened_typed (Number z) t h = h
        opened_typed (Fact b) t h = h
        opened_typed (Constant k) t h = ap (λ m. slice_get (gts ++ cts) (m + k)) here ∙ behind_at gts cts k ∙ h
        opened_typed (Read (Global x)) t h = reads x t h
        opened_typed (Read (Local x)) t h = h
        opened_typed (Not e) t h = (h.0, opened_typed e BoolTy h.1)
        opened_typed (Negative e) t h = (h.0, opened_typed e IntTy h.1)
        opened_typed (Binary op a b) t h =
            op_map op (HasType a G) (HasType b G) (HasType (opened n bodies a) (After r)) (HasType (opened n bodies b) (After r)) t (opened_typed a) (opened_typed b) h
        opened_typed (Apply f es) t h =
            applied_typed (bodies f) f h.0 (all_opened n bodies es) r t refl h.1 h.2 (all_opened_typed es h.0.params h.3)
        opened_typed (Select m es) t h =
            (h.0, opened_typed m (MapTy h.0 t) h.1, all_opened_typed es (map key_ty h.0) h.2)
        opened_typed (Update m es e) t h = (
          h.0,
          (h.1.0, h.1.1, opened_typed m (MapTy h.0 h.1.0) h.1.2, all_opened_typed es (map key_ty h.0) h.1.3, opened_typed e h.1.0 h.1.4),
        )
        opened_typed (Old e) t h = opened_typed e t h

        pub all_opened_typed : (es : Exs) (ts : List Ty) → HaveTypes es G ts → HaveTypes (all_opened n bodies es) (After r) ts
        all_opened_typed NoMore ts h = h
        all_opened_typed (More e es) [] h = absurd h
        all_opened_typed (More e es) (t ∷ ts) h = (opened_typed e t h.0, all_opened_typed es ts h.1)

  -- bodies, opened however deep, have their functions' types
  module _ (own : (f : ℕ) (fn : Fun) (e : Ex) → slice_get fs f ≡ Some fn → fn.body ≡ Some e → HasType e (record { constants = cts; functions = fs; globals = []; frame = fn.params }) fn.result) where
    no_reads : Reads []
    no_reads x t e = absurd (let bad : ⊥ = cc in bad)

    body_typed : (depth f : ℕ) (fn : Fun) (b : Ex) → BodiesTyped (bodies_to (length gts) fs depth) → slice_get fs f ≡ Some fn → (o : Option Ex) → fn.body ≡ o → opened_body (opened (length gts) (bodies_to (length gts) fs depth)) o ≡ Some b → HasType b (After fn.params) fn.result
    body_typed depth f fn b deeper there None e q = absurd (let bad : ⊥ = cc in bad)
    body_typed depth f fn b deeper there (Some x) e q =
        let same : opened (length gts) (bodies_to (length gts) fs depth) x ≡ b = cc in
        subst (λ y. HasType y (After fn.params) fn.result) same (opened_typed (length gts) refl (bodies_to (length gts) fs depth) deeper [] no_reads fn.params x fn.result (own f fn x there e))

    pub bodies_typed : (depth : ℕ) → BodiesTyped (bodies_to (length gts) fs depth)
    bodies_typed zero f fn b there e = absurd (let bad : ⊥ = cc in bad)
    bodies_typed (suc depth) f fn b there e =
        body_typed depth f fn b (bodies_typed depth) there fn.body refl (sym (ap (opened_fun (opened (length gts) (bodies_to (length gts) fs depth))) there) ∙ e)

-- ---- without constants and bodies

module _ (cs : List Ty) (fs : List Fun) (gts r : List Ty) where
  abbrev Whole : Sig
  Whole = record { constants = cs; functions = fs; globals = gts; frame = r }

  abbrev Bodiless : Sig
  Bodiless = record { constants = []; functions = map bodiless fs; globals = gts; frame = r }

  mutual
    pub plain_typed : (e : Ex) (t : Ty) → is_plain fs e ≡ true → HasType e Whole t → HasType e Bodiless t
    plain_typed (Number z) t s h = h
    plain_typed (Fact b) t s h = h
    plain_typed (Constant k) t s h = absurd (let bad : ⊥ = cc in bad)
    plain_typed (Read (Global x)) t s h = h
    plain_typed (Read (Local x)) t s h = h
    plain_typed (Not e) t s h = (h.0, plain_typed e BoolTy s h.1)
    plain_typed (Negative e) t s h = (h.0, plain_typed e IntTy s h.1)
    plain_typed (Binary op a b) t s h =
        op_map op (HasType a Whole) (HasType b Whole) (HasType a Bodiless) (HasType b Bodiless) t (λ u. plain_typed a u (and_left (is_plain fs a) (is_plain fs b) s)) (λ u. plain_typed b u (and_right (is_plain fs a) (is_plain fs b) s)) h
    plain_typed (Apply f es) t s h = (
      bodiless h.0,
      at_mapped bodiless fs f ∙ ap (option_map bodiless) h.1,
      h.2,
      all_plain_typed es h.0.params (and_right (not (has_body (raw_bodies fs f))) (are_plain fs es) s) h.3,
    )
    plain_typed (Select m es) t s h =
        (h.0, plain_typed m (MapTy h.0 t) (and_left (is_plain fs m) (are_plain fs es) s) h.1, all_plain_typed es (map key_ty h.0) (and_right (is_plain fs m) (are_plain fs es) s) h.2)
    plain_typed (Update m es e) t s h =
        let rest = and_right (is_plain fs m) (are_plain fs es && is_plain fs e) s in (
          h.0,
          (h.1.0, h.1.1, plain_typed m (MapTy h.0 h.1.0) (and_left (is_plain fs m) (are_plain fs es && is_plain fs e) s) h.1.2, all_plain_typed es (map key_ty h.0) (and_left (are_plain fs es) (is_plain fs e) rest) h.1.3, plain_typed e h.1.0 (and_right (are_plain fs es) (is_plain fs e) rest) h.1.4),
        )
    plain_typed (Old e) t s h = plain_typed e t s h

    all_plain_typed : (es : Exs) (ts : List Ty) → are_plain fs es ≡ true → HaveTypes es Whole ts → HaveTypes es Bodiless ts
    all_plain_typed NoMore ts s h = h
    all_plain_typed (More e es) [] s h = absurd h
    all_plain_typed (More e es) (t ∷ ts) s h =
        (plain_typed e t (and_left (is_plain fs e) (are_plain fs es) s) h.0, all_plain_typed es ts (and_right (is_plain fs e) (are_plain fs es) s) h.1)

-- ---- products

put_in_constant : (a : Ex) (xs : Exs) → IsConstant a → IsConstant (put_in a xs)
put_in_constant (Number z) xs h = tt
put_in_constant (Negative e) xs h = put_in_constant e xs h
put_in_constant (Binary Plus a b) xs h = (put_in_constant a xs h.0, put_in_constant b xs h.1)
put_in_constant (Binary Minus a b) xs h = (put_in_constant a xs h.0, put_in_constant b xs h.1)
put_in_constant (Binary Times a b) xs h = (put_in_constant a xs h.0, put_in_constant b xs h.1)
put_in_constant _ xs h = absurd h

opened_constant : (n : ℕ) (bodies : ℕ → Option Ex) (a : Ex) → IsConstant a → IsConstant (opened n bodies a)
opened_constant n bodies (Number z) h = tt
opened_constant n bodies (Negative e) h = opened_constant n bodies e h
opened_constant n bodies (Binary Plus a b) h = (opened_constant n bodies a h.0, opened_constant n bodies b h.1)
opened_constant n bodies (Binary Minus a b) h = (opened_constant n bodies a h.0, opened_constant n bodies b h.1)
opened_constant n bodies (Binary Times a b) h = (opened_constant n bodies a h.0, opened_constant n bodies b h.1)
opened_constant n bodies _ h = absurd h

side_map : (op : Op) (a b x y : Ex) → (IsConstant a → IsConstant x) → (IsConstant b → IsConstant y) → HasConstantSide op a b → HasConstantSide op x y
side_map Times a b x y f g h = ⊎_elim (λ i. inl (f i)) (λ i. inr (g i)) h
side_map And a b x y f g h = tt
side_map Or a b x y f g h = tt
side_map Implies a b x y f g h = tt
side_map Iff a b x y f g h = tt
side_map Equal a b x y f g h = tt
side_map Unequal a b x y f g h = tt
side_map Less a b x y f g h = tt
side_map AtMost a b x y f g h = tt
side_map Greater a b x y f g h = tt
side_map AtLeast a b x y f g h = tt
side_map Plus a b x y f g h = tt
side_map Minus a b x y f g h = tt

at_linear : (xs : Exs) (j : ℕ) → AreLinear xs → IsLinear (ex_at xs j)
at_linear NoMore j h = tt
at_linear (More e es) zero h = h.0
at_linear (More e es) (suc j) h = at_linear es j h.1

mutual
  put_in_linear : (b : Ex) (xs : Exs) → AreLinear xs → IsLinear b → IsLinear (put_in b xs)
  put_in_linear (Number z) xs k h = tt
  put_in_linear (Fact b) xs k h = tt
  put_in_linear (Constant c) xs k h = tt
  put_in_linear (Read (Global x)) xs k h = tt
  put_in_linear (Read (Local j)) xs k h = at_linear xs j k
  put_in_linear (Not e) xs k h = put_in_linear e xs k h
  put_in_linear (Negative e) xs k h = put_in_linear e xs k h
  put_in_linear (Binary op a b) xs k h = (
    side_map op a b (put_in a xs) (put_in b xs) (put_in_constant a xs) (put_in_constant b xs) h.0,
    put_in_linear a xs k h.1,
    put_in_linear b xs k h.2,
  )
  put_in_linear (Apply f es) xs k h = put_in_all_linear es xs k h
  put_in_linear (Select m es) xs k h = (put_in_linear m xs k h.0, put_in_all_linear es xs k h.1)
  put_in_linear (Update m es e) xs k h =
      (put_in_linear m xs k h.0, put_in_all_linear es xs k h.1, put_in_linear e xs k h.2)
  put_in_linear (Old e) xs k h = put_in_linear e xs k h

  put_in_all_linear : (es xs : Exs) → AreLinear xs → AreLinear es → AreLinear (put_in_all es xs)
  put_in_all_linear NoMore xs k h = tt
  put_in_all_linear (More e es) xs k h = (put_in_linear e xs k h.0, put_in_all_linear es xs k h.1)

module _ (n : ℕ) (bodies : ℕ → Option Ex) (plain : (f : ℕ) (b : Ex) → bodies f ≡ Some b → IsLinear b) where
  applied_linear : (o : Option Ex) (f : ℕ) (xs : Exs) → bodies f ≡ o → AreLinear xs → IsLinear (applied o f xs)
  applied_linear None f xs e k = k
  applied_linear (Some b) f xs e k = put_in_linear b xs k (plain f b e)

  mutual
    pub opened_linear : (e : Ex) → IsLinear e → IsLinear (opened n bodies e)
    opened_linear (Number z) h = tt
    opened_linear (Fact b) h = tt
    opened_linear (Constant c) h = tt
    opened_linear (Read x) h = tt
    opened_linear (Not e) h = opened_linear e h
    opened_linear (Negative e) h = opened_linear e h
    opened_linear (Binary op a b) h = (
      side_map op a b (opened n bodies a) (opened n bodies b) (opened_constant n bodies a) (opened_constant n bodies b) h.0,
      opened_linear a h.1,
      opened_linear b h.2,
    )
    opened_linear (Apply f es) h = applied_linear (bodies f) f (all_opened n bodies es) refl (all_opened_linear es h)
    opened_linear (Select m es) h = (opened_linear m h.0, all_opened_linear es h.1)
    opened_linear (Update m es e) h = (opened_linear m h.0, all_opened_linear es h.1, opened_linear e h.2)
    opened_linear (Old e) h = opened_linear e h

    pub all_opened_linear : (es : Exs) → AreLinear es → AreLinear (all_opened n bodies es)
    all_opened_linear NoMore h = tt
    all_opened_linear (More e es) h = (opened_linear e h.0, all_opened_linear es h.1)

module _ (n : ℕ) (fs : List Fun) (own : (f : ℕ) (fn : Fun) (e : Ex) → slice_get fs f ≡ Some fn → fn.body ≡ Some e → IsLinear e) where
  body_linear : (depth f : ℕ) (b : Ex) → ((h : ℕ) (x : Ex) → bodies_to n fs depth h ≡ Some x → IsLinear x) → (o : Option Fun) → slice_get fs f ≡ o → opened_fun (opened n (bodies_to n fs depth)) o ≡ Some b → IsLinear b
  body_linear depth f b deeper None e q = absurd (let bad : ⊥ = cc in bad)
  body_linear depth f b deeper (Some fn) e q = by_body fn.body refl q
    where
      by_body : (x : Option Ex) → fn.body ≡ x → opened_body (opened n (bodies_to n fs depth)) x ≡ Some b → IsLinear b
      by_body None r s = absurd (let bad : ⊥ = cc in bad)
      by_body (Some x) r s =
          let same : opened n (bodies_to n fs depth) x ≡ b = cc in
          subst IsLinear same (opened_linear n (bodies_to n fs depth) deeper x (own f fn x e r))

  pub bodies_linear : (depth f : ℕ) (b : Ex) → bodies_to n fs depth f ≡ Some b → IsLinear b
  bodies_linear zero f b e = absurd (let bad : ⊥ = cc in bad)
  bodies_linear (suc depth) f b e = body_linear depth f b (bodies_linear depth) (slice_get fs f) refl e
