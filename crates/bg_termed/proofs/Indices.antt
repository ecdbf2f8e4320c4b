-- Terms of which each map has an index that is selected from or updated, and types of terms.
use Rattle.std.proofs.Common.{◌≡◌, ℕ, zero, suc, ◌+◌, Bool, true, false, List, [], ◌∷◌, ◌++◌, length, map, Some, refl, sym, ap, ◌∙◌, subst, arith}
use Rattle.std.specs.Prelude.{◌<◌, nat_lt, slice_get}
use Rattle.std.proofs.lemmas.Bool.{ltb-true, ltb-false}
use Rattle.bg_ast.specs.Values.{Ty, IntTy, MapTy, KeyType, IntKey, UserKey}
use Rattle.bg_ast.specs.Syntax.{Ex, Exs, Number, Fact, Constant, Read, Local, Global, Not, Negative, Binary, Apply, Select, Update, Old, NoMore, More, Fun}
use Rattle.bg_sense.specs.Typing.{key_ty}
use Rattle.bg_sense.proofs.Bools.{and_left, and_right, both}
use Rattle.bg_terms.specs.Terms.{Head, Applies, Selects, Updates, Differs, Term, is_below, are_below, are_in_order}
use Rattle.bg_terms.specs.Alike.{HasFlatType}
use Rattle.bg_terms.specs.Typed.{HaveFlatTypes, HeadHasType, type_of, types_with}
use Rattle.bg_terms.proofs.Typed.{at_back, at_map}
use Rattle.bg_flat.specs.Fronts.{AreIndexed}
use Rattle.bg_numbered.specs.Fair.{FairTerms}
use Rattle.bg_numbered.specs.Indexed.{is_indexed, are_indexed, GiveIndexed}
use Rattle.bg_numbered.specs.Lines.{has_index, HaveIndices}
use Rattle.bg_numbered.proofs.Numbered.{type_found}

pub selects_indexed : (ts : List Term) → HaveIndices ts → AreIndexed ts
selects_indexed ts h a u t e q =
    let bad : false ≡ true = sym (ap has_index q) ∙ h a u e in
    let no : ⊥ = cc in
    no

pub updates_indexed : (ts : List Term) → HaveIndices ts → (a : ℕ) (u : Term) (t : Ty) → slice_get ts a ≡ Some u → u.head ≡ Updates [] t → ⊥
updates_indexed ts h a u t e q =
    let bad : false ≡ true = sym (ap has_index q) ∙ h a u e in
    let no : ⊥ = cc in
    no

-- ---- types of terms

key_indexed : (k : KeyType) → is_indexed (key_ty k) ≡ true
key_indexed IntKey = refl
key_indexed (UserKey u) = refl

inner_indexed : (ks : List KeyType) (t : Ty) → is_indexed (MapTy ks t) ≡ true → is_indexed t ≡ true
inner_indexed [] t h = absurd (let bad : ⊥ = cc in bad)
inner_indexed (k ∷ ks) t h = h

indexed_both : (ts us : List Ty) → are_indexed ts ≡ true → are_indexed us ≡ true → are_indexed (ts ++ us) ≡ true
indexed_both [] us h k = k
indexed_both (t ∷ ts) us h k =
    both (is_indexed t) (are_indexed (ts ++ us)) (and_left (is_indexed t) (are_indexed ts) h) (indexed_both ts us (and_right (is_indexed t) (are_indexed ts) h) k)

module _ (fs : List Fun) (gives : GiveIndexed fs) (tys : List Ty) where
  -- each map among the first so many types has an index
  abbrev AreBelow : ℕ → Type 0
  AreBelow n = (j : ℕ) (t : Ty) → j < n → slice_get tys j ≡ Some t → is_indexed t ≡ true

  module _ (n : ℕ) (below : AreBelow n) where
    map_indexed : (x : Ex) (ks : List KeyType) (t : Ty) → is_below n x ≡ true → HasFlatType tys x (MapTy ks t) → is_indexed (MapTy ks t) ≡ true
    map_indexed (Number z) ks t b h = absurd (let e : IntTy ≡ MapTy ks t = type_found tys (Number z) ks t h in let bad : ⊥ = cc in bad)
    map_indexed (Fact c) ks t b h = absurd (let e : IntTy ≡ MapTy ks t = type_found tys (Fact c) ks t h in let bad : ⊥ = cc in bad)
    map_indexed (Constant k) ks t b h = absurd h
    map_indexed (Read (Local j)) ks t b h = below j (MapTy ks t) (ltb-true j n b) h
    map_indexed (Read (Global j)) ks t b h = absurd h
    map_indexed (Not x) ks t b h = absurd (let e : IntTy ≡ MapTy ks t = type_found tys (Not x) ks t h in let bad : ⊥ = cc in bad)
    map_indexed (Negative x) ks t b h =
        absurd (let e : IntTy ≡ MapTy ks t = type_found tys (Negative x) ks t h in let bad : ⊥ = cc in bad)
    map_indexed (Binary op x y) ks t b h =
        absurd (let e : IntTy ≡ MapTy ks t = type_found tys (Binary op x y) ks t h in let bad : ⊥ = cc in bad)
    map_indexed (Apply f es) ks t b h = absurd h
    map_indexed (Select m es) ks t b h = absurd h
    map_indexed (Update m es x) ks t b h = absurd h
    map_indexed (Old x) ks t b h = absurd h

    first_indexed : (xs : Exs) (ks : List KeyType) (t : Ty) (us : List Ty) → are_below n xs ≡ true → HaveFlatTypes tys xs (MapTy ks t ∷ us) → is_indexed (MapTy ks t) ≡ true
    first_indexed NoMore ks t us b h = absurd (let bad : ⊥ = cc in bad)
    first_indexed (More x xs) ks t us b h = map_indexed x ks t (and_left (is_below n x) (are_below n xs) b) h.0

    head_indexed : (h : Head) (xs : Exs) (t : Ty) → are_below n xs ≡ true → HeadHasType fs tys h xs t → is_indexed t ≡ true
    head_indexed (Applies f) xs t b h = ap is_indexed h.1.1.0 ∙ gives f h.0 h.1.0
    head_indexed (Selects ks u) xs t b h =
        ap is_indexed h.0 ∙ inner_indexed ks u (first_indexed xs ks u (map key_ty ks) b h.1)
    head_indexed (Updates ks u) xs t b h = ap is_indexed h.0 ∙ first_indexed xs ks u (u ∷ map key_ty ks) b h.1
    head_indexed (Differs ks u j) xs t b h = ap is_indexed h.1.1.0 ∙ key_indexed h.0

  one_more : (n : ℕ) (v : Ty) → AreBelow n → slice_get tys n ≡ Some v → is_indexed v ≡ true → (j : ℕ) (u : Ty) → j < suc n → slice_get tys j ≡ Some u → is_indexed u ≡ true
  one_more n v below there here j u l e = on (nat_lt j n) refl
    where
      on : (c : Bool) → nat_lt j n ≡ c → is_indexed u ≡ true
      on true k = below j u (ltb-true j n k) e
      on false k =
          let not_less = ltb-false j n k in
          let at : j ≡ n = omega (arith, not_less, l) in
          let got : slice_get tys n ≡ Some u = subst (λ i. slice_get tys i ≡ Some u) at e in
          let same : v ≡ u = cc in
          subst (λ x. is_indexed x ≡ true) same here

  -- the terms from number n on
  rest_indexed : (us : List Term) (n : ℕ) → ((b : ℕ) (t : Term) → slice_get us b ≡ Some t → (slice_get tys (n + b) ≡ Some t.ty) × HeadHasType fs tys t.head t.args t.ty) → are_in_order n us ≡ true → AreBelow n → are_indexed (map type_of us) ≡ true
  rest_indexed [] n at o below = refl
  rest_indexed (t ∷ us) n at o below =
      let here = head_indexed n below t.head t.args t.ty (and_left (are_below n t.args) (are_in_order (suc n) us) o) (at 0 t refl).1 in
      let there : slice_get tys n ≡ Some t.ty = subst (λ k. slice_get tys k ≡ Some t.ty) (let q : n + 0 ≡ n = omega arith in q) (at 0 t refl).0 in
      both (is_indexed t.ty) (are_indexed (map type_of us)) here
      (rest_indexed us (suc n)
      (λ b u e. (subst (λ k. slice_get tys k ≡ Some u.ty) (let q : n + suc b ≡ suc n + b = omega arith in q) (at (suc b) u e).0, (at (suc b) u e).1))
      (and_right (are_below n t.args) (are_in_order (suc n) us) o)
      (one_more n t.ty below there here))

-- the types of incarnations and of fair terms
front_indexed : (incs us : List Ty) (j : ℕ) (t : Ty) → are_indexed incs ≡ true → j < length incs → slice_get (incs ++ us) j ≡ Some t → is_indexed t ≡ true
front_indexed [] us j t h l e = absurd (omega (arith, l))
front_indexed (u ∷ incs) us zero t h l e =
    let same : u ≡ t = cc in
    subst (λ x. is_indexed x ≡ true) same (and_left (is_indexed u) (are_indexed incs) h)
front_indexed (u ∷ incs) us (suc j) t h l e =
    front_indexed incs us j t (and_right (is_indexed u) (are_indexed incs) h) (omega (arith, l)) e

pub all_indexed : (fs : List Fun) (incs : List Ty) (ts : List Term) → GiveIndexed fs → are_indexed incs ≡ true → FairTerms fs incs ts → are_indexed (types_with incs ts) ≡ true
all_indexed fs incs ts gives h fair =
    let tys = types_with incs ts in
    indexed_both incs (map type_of ts) h
    (rest_indexed fs gives tys ts (length incs) (λ b t e. (at_back incs (map type_of ts) b (length incs) refl ∙ at_map type_of ts b t e, fair.typed b t e)) fair.order
    (λ j t l e. front_indexed incs (map type_of ts) j t h l e))
