-- A flat expression has the type of the expression.
use Rattle.std.proofs.Common.{◌≡◌, ℕ, zero, suc, ◌+◌, List, [], ◌∷◌, ◌++◌, length, map, Option, Some, sym, ap, ◌∙◌, subst, arith}
use Rattle.std.specs.Prelude.{slice_get}
use Rattle.bg_ast.specs.Values.{Ty, IntTy, BoolTy, MapTy, KeyType}
use Rattle.bg_ast.specs.Syntax.{Ex, Exs, Op, And, Or, Implies, Iff, Equal, Unequal, Less, AtMost, Greater, AtLeast, Plus, Minus, Times, Number, Fact, Constant, Read, Local, Global, Not, Negative, Binary, Apply, Select, Update, Old, More, Fun}
use Rattle.bg_sense.specs.Typing.{Sig, OpHasType, HasType}
use Rattle.bg_terms.specs.Terms.{Head, Applies, Selects, Updates, Term}
use Rattle.bg_terms.specs.Flat.{IsTerm, IsFlat}
use Rattle.bg_terms.specs.Alike.{HasFlatType}
use Rattle.bg_terms.specs.Typed.{HeadHasType, type_of, types_with, TermsTyped, sig_with}

pub op_map : (op : Op) (A B C D : Ty → Type 0) (t : Ty) → ((u : Ty) → A u → C u) → ((u : Ty) → B u → D u) → OpHasType op A B t → OpHasType op C D t
op_map And A B C D t f g h = (h.0, f BoolTy h.1, g BoolTy h.2)
op_map Or A B C D t f g h = (h.0, f BoolTy h.1, g BoolTy h.2)
op_map Implies A B C D t f g h = (h.0, f BoolTy h.1, g BoolTy h.2)
op_map Iff A B C D t f g h = (h.0, f BoolTy h.1, g BoolTy h.2)
op_map Equal A B C D t f g h = (h.0, (h.1.0, f h.1.0 h.1.1, g h.1.0 h.1.2))
op_map Unequal A B C D t f g h = (h.0, (h.1.0, f h.1.0 h.1.1, g h.1.0 h.1.2))
op_map Less A B C D t f g h = (h.0, f IntTy h.1, g IntTy h.2)
op_map AtMost A B C D t f g h = (h.0, f IntTy h.1, g IntTy h.2)
op_map Greater A B C D t f g h = (h.0, f IntTy h.1, g IntTy h.2)
op_map AtLeast A B C D t f g h = (h.0, f IntTy h.1, g IntTy h.2)
op_map Plus A B C D t f g h = (h.0, f IntTy h.1, g IntTy h.2)
op_map Minus A B C D t f g h = (h.0, f IntTy h.1, g IntTy h.2)
op_map Times A B C D t f g h = (h.0, f IntTy h.1, g IntTy h.2)

op_unique : (op : Op) (A B : Ty → Type 0) (t u : Ty) → OpHasType op A B t → OpHasType op A B u → t ≡ u
op_unique And A B t u h g = h.0 ∙ sym g.0
op_unique Or A B t u h g = h.0 ∙ sym g.0
op_unique Implies A B t u h g = h.0 ∙ sym g.0
op_unique Iff A B t u h g = h.0 ∙ sym g.0
op_unique Equal A B t u h g = h.0 ∙ sym g.0
op_unique Unequal A B t u h g = h.0 ∙ sym g.0
op_unique Less A B t u h g = h.0 ∙ sym g.0
op_unique AtMost A B t u h g = h.0 ∙ sym g.0
op_unique Greater A B t u h g = h.0 ∙ sym g.0
op_unique AtLeast A B t u h g = h.0 ∙ sym g.0
op_unique Plus A B t u h g = h.0 ∙ sym g.0
op_unique Minus A B t u h g = h.0 ∙ sym g.0
op_unique Times A B t u h g = h.0 ∙ sym g.0

some_one : {A : Type 0} → (o : Option A) (x y : A) → o ≡ Some x → o ≡ Some y → x ≡ y
some_one o x y e f = cc

-- a flat expression has one type
unique : (tys : List Ty) (x : Ex) (t u : Ty) → HasFlatType tys x t → HasFlatType tys x u → t ≡ u
unique tys (Number z) t u h g = h ∙ sym g
unique tys (Fact b) t u h g = h ∙ sym g
unique tys (Constant k) t u h g = absurd h
unique tys (Read (Local j)) t u h g = some_one (slice_get tys j) t u h g
unique tys (Read (Global j)) t u h g = absurd h
unique tys (Not x) t u h g = h.0 ∙ sym g.0
unique tys (Negative x) t u h g = h.0 ∙ sym g.0
unique tys (Binary op x y) t u h g = op_unique op (HasFlatType tys x) (HasFlatType tys y) t u h g
unique tys (Apply f es) t u h g = absurd h
unique tys (Select m es) t u h g = absurd h
unique tys (Update m es x) t u h g = absurd h
unique tys (Old x) t u h g = absurd h

result_same : (ks ls : List KeyType) (t u : Ty) → MapTy ks t ≡ MapTy ls u → t ≡ u
result_same ks ls t u e = cc

pub at_back : {A : Type 0} → (xs ys : List A) (a n : ℕ) → n ≡ length xs → slice_get (xs ++ ys) (n + a) ≡ slice_get ys a
at_back [] ys a n e = ap (slice_get ys) (let q : n + a ≡ a = omega arith in q)
at_back (x ∷ xs) ys a zero e = absurd (omega arith)
at_back (x ∷ xs) ys a (suc n) e =
    ap (slice_get (x ∷ (xs ++ ys))) (let q : suc n + a ≡ suc (n + a) = omega arith in q) ∙ at_back xs ys a n (omega arith)

pub at_map : {A B : Type 0} → (f : A → B) (xs : List A) (a : ℕ) (x : A) → slice_get xs a ≡ Some x → slice_get (map f xs) a ≡ Some (f x)
at_map f [] a x e = absurd (let bad : ⊥ = cc in bad)
at_map f (y ∷ xs) zero x e = let same : y ≡ x = cc in ap (λ z. Some (f z)) same
at_map f (y ∷ xs) (suc a) x e = at_map f xs a x e

pub at_front : {A : Type 0} → (xs ys : List A) (j : ℕ) (x : A) → slice_get xs j ≡ Some x → slice_get (xs ++ ys) j ≡ Some x
at_front [] ys j x e = absurd (let bad : ⊥ = cc in bad)
at_front (y ∷ xs) ys zero x e = e
at_front (y ∷ xs) ys (suc j) x e = at_front xs ys j x e

module _ (functions : List Fun) (incs : List Ty) (n : ℕ) (ts : List Term) (count : n ≡ length incs) (terms : TermsTyped functions incs ts) where
  abbrev tys : List Ty
  tys = types_with incs ts

  term_type : (h : Head) (xs : Exs) (x : Ex) → IsTerm n ts h xs x → (t : Ty) × (HasFlatType tys x t × HeadHasType functions tys h xs t)
  term_type h xs x is = (
    is.term.ty,
    (
      subst (λ y. HasFlatType tys y is.term.ty) (sym is.reads) (at_back incs (map type_of ts) is.number n count
          ∙ at_map type_of ts is.number is.term is.is_there),
      subst (λ ys. HeadHasType functions tys h ys is.term.ty) is.args (subst (λ k. HeadHasType functions tys k is.term.args is.term.ty) is.head (terms is.number is.term is.is_there)),
    ),
  )

  module _ (constants : List Ty) where
    abbrev g : Sig
    g = sig_with constants functions incs

    mutual
      pub flat_typed : (e x : Ex) (t : Ty) → HasType e g t → IsFlat n ts e x → HasFlatType tys x t
      flat_typed (Number z) x t ty h = subst (λ y. HasFlatType tys y t) (sym h) ty
      flat_typed (Fact b) x t ty h = subst (λ y. HasFlatType tys y t) (sym h) ty
      flat_typed (Constant k) x t ty h = absurd h
      flat_typed (Read (Local j)) x t ty h =
          subst (λ z. HasFlatType tys z t) (sym h.0) (at_front incs (map type_of ts) j t ty)
      flat_typed (Read (Global j)) x t ty h = absurd h
      flat_typed (Not e) x t ty h =
          subst (λ y. HasFlatType tys y t) (sym h.1.0) (ty.0, flat_typed e h.0 BoolTy ty.1 h.1.1)
      flat_typed (Negative e) x t ty h =
          subst (λ y. HasFlatType tys y t) (sym h.1.0) (ty.0, flat_typed e h.0 IntTy ty.1 h.1.1)
      flat_typed (Binary op a b) x t ty h =
          subst (λ y. HasFlatType tys y t) (sym h.1.1.0) (op_map op (HasType a g) (HasType b g) (HasFlatType tys h.0) (HasFlatType tys h.1.0) t (λ u k. flat_typed a h.0 u k h.1.1.1.0) (λ u k. flat_typed b h.1.0 u k h.1.1.1.1) ty)
      flat_typed (Apply f es) x t ty h =
          let r = term_type (Applies f) h.0 x h.1.1 in
          let same = some_one (slice_get functions f) r.1.1.0 ty.0 r.1.1.1.0 ty.1 in
          subst (λ u. HasFlatType tys x u) (r.1.1.1.1.0 ∙ ap (λ k. k.result) same ∙ sym ty.2) r.1.0
      flat_typed (Select m es) x t ty (ks, (u, (y, (ys, (hm, (hs, ht)))))) =
          let r = term_type (Selects ks u) (More y ys) x ht in
          let map_ty = unique tys y (MapTy ks u) (MapTy ty.0 t) r.1.1.1.0 (flat_typed m y (MapTy ty.0 t) ty.1 hm) in
          subst (λ v. HasFlatType tys x v) (r.1.1.0 ∙ result_same ks ty.0 u t map_ty) r.1.0
      flat_typed (Update m es e) x t ty (ks, (u, (y, (ys, (z, (hm, (hs, (he, ht)))))))) =
          let r = term_type (Updates ks u) (More y (More z ys)) x ht in
          let map_ty = unique tys y (MapTy ks u) (MapTy ty.0 ty.1.0) r.1.1.1.0 (flat_typed m y (MapTy ty.0 ty.1.0) ty.1.2 hm) in
          subst (λ v. HasFlatType tys x v) (r.1.1.0 ∙ map_ty ∙ sym ty.1.1) r.1.0
      flat_typed (Old e) x t ty h = flat_typed e x t ty h
