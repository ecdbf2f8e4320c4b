-- Each map among incarnations and terms has an index, where that is so of incarnations and of what functions give.
use Rattle.std.proofs.Common.{◌≡◌, ◌⊎◌, ℕ, zero, suc, ◌+◌, ◌<◌, true, List, [], ◌∷◌, ◌++◌, length, map, Some, refl, sym, ap, ◌∙◌, arith, inl, inr, ⊎_elim}
use Rattle.std.specs.Prelude.{slice_get, nat_lt}
use Rattle.std.proofs.lemmas.Bool.Decides.{nat_tests}
use Rattle.bg_ast.specs.Values.{Ty, IntTy, BoolTy, MapTy, KeyType, IntKey, UserKey}
use Rattle.bg_ast.specs.Syntax.{Ex, Exs, Number, Fact, Constant, Read, Local, Global, Not, Negative, Binary, Apply, Select, Update, Old, NoMore, More, Fun}
use Rattle.bg_sense.specs.Typing.{key_ty}
use Rattle.bg_sense.proofs.Bools.{and_left, and_right, both}
use Rattle.bg_terms.specs.Terms.{Head, Applies, Selects, Updates, Differs, Term, is_below, are_below, are_in_order}
use Rattle.bg_terms.specs.Alike.{HasFlatType, is_scalar}
use Rattle.bg_terms.specs.Typed.{HaveFlatTypes, HeadHasType, type_of, types_with}
use Rattle.bg_numbered.specs.Fair.{FairTerms}
use Rattle.bg_numbered.specs.Indexed.{is_indexed, are_indexed, GiveIndexed}
use Rattle.bg_finish.proofs.Ending.{op_scalar, map_back}

-- ---- lists

of_all : (tys : List Ty) (j : ℕ) (t : Ty) → are_indexed tys ≡ true → slice_get tys j ≡ Some t → is_indexed t ≡ true
of_all [] j t h e = absurd (let bad : ⊥ = cc in bad)
of_all (u ∷ tys) zero t h e =
    let same : u ≡ t = cc in
    ap is_indexed (sym same) ∙ and_left (is_indexed u) (are_indexed tys) h
of_all (u ∷ tys) (suc j) t h e = of_all tys j t (and_right (is_indexed u) (are_indexed tys) h) e

all_of : (tys : List Ty) → ((j : ℕ) (t : Ty) → slice_get tys j ≡ Some t → is_indexed t ≡ true) → are_indexed tys ≡ true
all_of [] each = refl
all_of (t ∷ tys) each = both (is_indexed t) (are_indexed tys) (each 0 t refl) (all_of tys (λ j u e. each (suc j) u e))

in_two : {A : Type 0} (xs ys : List A) (j : ℕ) (x : A) → slice_get (xs ++ ys) j ≡ Some x → (slice_get xs j ≡ Some x) ⊎ ((a : ℕ) × ((j ≡ length xs + a) × (slice_get ys a ≡ Some x)))
in_two [] ys j x e = inr (j, (let q : j ≡ 0 + j = omega arith in q, e))
in_two (y ∷ xs) ys zero x e = inl e
in_two (y ∷ xs) ys (suc j) x e =
    ⊎_elim (λ h. inl h) (λ h. inr (h.0, (let g = h.1.0 in omega (arith, g), h.1.1))) (in_two xs ys j x e)

order_at : (n : ℕ) (ts : List Term) (a : ℕ) (t : Term) → are_in_order n ts ≡ true → slice_get ts a ≡ Some t → are_below (n + a) t.args ≡ true
order_at n [] a t h e = absurd (let bad : ⊥ = cc in bad)
order_at n (u ∷ ts) zero t h e =
    let same : u ≡ t = cc in
    ap (λ m. are_below m t.args) (let q : n + 0 ≡ n = omega arith in q)
    ∙ (ap (λ x. are_below n x.args) (sym same) ∙ and_left (are_below n u.args) (are_in_order (suc n) ts) h)
order_at n (u ∷ ts) (suc a) t h e =
    ap (λ m. are_below m t.args) (let q : n + suc a ≡ suc n + a = omega arith in q)
    ∙ order_at (suc n) ts a t (and_right (are_below n u.args) (are_in_order (suc n) ts) h) e

less : (i j : ℕ) → nat_lt i j ≡ true → i < j
less i j h = grind (arith, nat_tests, h)

-- ---- types

inside : (ks : List KeyType) (t : Ty) → is_indexed (MapTy ks t) ≡ true → is_indexed t ≡ true
inside [] t h = absurd (let bad : ⊥ = cc in bad)
inside (k ∷ ks) t h = h

key_indexed : (k : KeyType) → is_indexed (key_ty k) ≡ true
key_indexed IntKey = refl
key_indexed (UserKey u) = refl

module _ (fs : List Fun) (incs : List Ty) (ts : List Term) (gives : GiveIndexed fs) (all : are_indexed incs ≡ true) (fair : FairTerms fs incs ts) where
  abbrev tys : List Ty
  tys = types_with incs ts

  abbrev Before : ℕ → Type 0
  Before j = (i : ℕ) (u : Ty) → i < j → slice_get tys i ≡ Some u → is_indexed u ≡ true

  -- a map is read
  map_indexed : (x : Ex) (ks : List KeyType) (t : Ty) (j : ℕ) → HasFlatType tys x (MapTy ks t) → is_below j x ≡ true → Before j → is_indexed (MapTy ks t) ≡ true
  map_indexed (Number z) ks t j h b so = absurd (let bad : ⊥ = cc in bad)
  map_indexed (Fact c) ks t j h b so = absurd (let bad : ⊥ = cc in bad)
  map_indexed (Constant k) ks t j h b so = absurd h
  map_indexed (Read (Local i)) ks t j h b so = so i (MapTy ks t) (less i j b) h
  map_indexed (Read (Global i)) ks t j h b so = absurd h
  map_indexed (Not x) ks t j h b so = let e : MapTy ks t ≡ BoolTy = h.0 in absurd (let bad : ⊥ = cc in bad)
  map_indexed (Negative x) ks t j h b so = let e : MapTy ks t ≡ IntTy = h.0 in absurd (let bad : ⊥ = cc in bad)
  map_indexed (Binary o x y) ks t j h b so =
      let e : is_scalar (MapTy ks t) ≡ true = op_scalar o (HasFlatType tys x) (HasFlatType tys y) (MapTy ks t) h in
      absurd (let bad : ⊥ = cc in bad)
  map_indexed (Apply k es) ks t j h b so = absurd h
  map_indexed (Select m es) ks t j h b so = absurd h
  map_indexed (Update m es x) ks t j h b so = absurd h
  map_indexed (Old x) ks t j h b so = absurd h

  first_indexed : (xs : Exs) (ks : List KeyType) (t : Ty) (ps : List Ty) (j : ℕ) → HaveFlatTypes tys xs (MapTy ks t ∷ ps) → are_below j xs ≡ true → Before j → is_indexed (MapTy ks t) ≡ true
  first_indexed NoMore ks t ps j h b so = absurd (let bad : ⊥ = cc in bad)
  first_indexed (More x xs) ks t ps j h b so = map_indexed x ks t j h.0 (and_left (is_below j x) (are_below j xs) b) so

  by_head : (h : Head) (xs : Exs) (t : Ty) (j : ℕ) → HeadHasType fs tys h xs t → are_below j xs ≡ true → Before j → is_indexed t ≡ true
  by_head (Applies f) xs t j h b so = ap is_indexed h.1.1.0 ∙ gives f h.0 h.1.0
  by_head (Selects ks u) xs t j h b so =
      ap is_indexed h.0 ∙ inside ks u (first_indexed xs ks u (map key_ty ks) j h.1 b so)
  by_head (Updates ks u) xs t j h b so =
      ap is_indexed h.0 ∙ first_indexed xs ks u (u ∷ map key_ty ks) j h.1 b so
  by_head (Differs ks u i) xs t j h b so = ap is_indexed h.1.1.0 ∙ key_indexed h.0

  at : (j : ℕ) (t : Ty) → Before j → slice_get tys j ≡ Some t → is_indexed t ≡ true
  at j t so e =
      ⊎_elim (λ h. of_all incs j t all h) (λ h. by_term h.0 h.1.0 (map_back type_of ts h.0 t h.1.1)) (in_two incs (map type_of ts) j t e)
    where
      by_term : (a : ℕ) → j ≡ length incs + a → (x : Term) × ((slice_get ts a ≡ Some x) × (x.ty ≡ t)) → is_indexed t ≡ true
      by_term a place w =
          ap is_indexed (sym w.1.1)
          ∙ by_head w.0.head w.0.args w.0.ty j (fair.typed a w.0 w.1.0) (ap (λ m. are_below m w.0.args) place ∙ order_at (length incs) ts a w.0 fair.order w.1.0) so

  up_to : (m : ℕ) → Before m
  up_to zero i u lt e = absurd (omega (arith, lt))
  up_to (suc m) i u lt e = at i u (λ k t less_k q. up_to m k t (omega (arith, lt, less_k)) q) e

  pub types_indexed : are_indexed (types_with incs ts) ≡ true
  types_indexed = all_of tys (λ j t e. up_to (suc j) j t (omega arith) e)
