-- The values of typed terms are typed, and their arguments are of their heads' types.
use Rattle.std.proofs.Common.{◌≡◌, ℕ, zero, suc, ◌+◌, ◌<◌, true, List, [], ◌∷◌, ◌++◌, length, map, Some, refl, sym, ap, ◌∙◌, subst, arith, inl, inr, ⊎_elim}
use Rattle.std.specs.Prelude.{slice_get, ℤ, ◌&&◌, ◌⊎◌}
use Rattle.std.proofs.lemmas.Bool.{eq-eqb}
use Rattle.bg_ast.specs.Values.{Val, Ty, MapTy, KeyType, IntKey, UserKey, is_of, is_int, is_bool, number_of}
use Rattle.bg_ast.specs.Syntax.{Ex, Exs, Op, And, Or, Implies, Iff, Equal, Unequal, Less, AtMost, Greater, AtLeast, Plus, Minus, Times, Number, Fact, Constant, Read, Local, Global, Not, Negative, Binary, Apply, Select, Update, Old, NoMore, More, Fun}
use Rattle.bg_ast.specs.Execution.{Interp}
use Rattle.bg_sense.specs.Eval.{value_at, ev, evs, operate, look_up}
use Rattle.bg_sense.specs.Types.{are_of}
use Rattle.bg_sense.specs.Typing.{OpHasType, key_ty}
use Rattle.bg_sense.proofs.Bools.{and_left, and_right, both}
use Rattle.bg_sense.proofs.TypedMaps.{update_typed, select_typed}
use Rattle.bg_terms.specs.Differing.{differ_at}
use Rattle.bg_terms.specs.Terms.{Head, Applies, Selects, Updates, Differs, Term, over, mean, part, key_value, selected, updated, differing, term_value, IsModel, args_fit, Fit, is_below, are_below, are_in_order}
use Rattle.bg_terms.specs.Alike.{HasFlatType}
use Rattle.bg_terms.specs.Typed.{HaveFlatTypes, HeadHasType, TermsTyped, types_with, type_of}
use Rattle.bg_terms.proofs.Differing.{differ_length}
use Rattle.bg_terms.proofs.Grown.{lt_true}
use Rattle.bg_terms.proofs.Models.{model_at}
use Rattle.bg_terms.proofs.Typed.{at_back}

pub operate_typed : (op : Op) (P Q : Ty → Type 0) (v w : Val) (t : Ty) → OpHasType op P Q t → is_of t (operate op v w) ≡ true
operate_typed And P Q v w t h = ap is_bool h.0
operate_typed Or P Q v w t h = ap is_bool h.0
operate_typed Implies P Q v w t h = ap is_bool h.0
operate_typed Iff P Q v w t h = ap is_bool h.0
operate_typed Equal P Q v w t h = ap is_bool h.0
operate_typed Unequal P Q v w t h = ap is_bool h.0
operate_typed Less P Q v w t h = ap is_bool h.0
operate_typed AtMost P Q v w t h = ap is_bool h.0
operate_typed Greater P Q v w t h = ap is_bool h.0
operate_typed AtLeast P Q v w t h = ap is_bool h.0
operate_typed Plus P Q v w t h = ap is_int h.0
operate_typed Minus P Q v w t h = ap is_int h.0
operate_typed Times P Q v w t h = ap is_int h.0

module _ (tys : List Ty) (w : List Val) (n : ℕ) (typed : (j : ℕ) (t : Ty) → j < n → slice_get tys j ≡ Some t → is_of t (value_at w j) ≡ true) where
  flat_typed : (x : Ex) (t : Ty) → is_below n x ≡ true → HasFlatType tys x t → is_of t (ev x (over w)) ≡ true
  flat_typed (Number z) t b h = ap is_int h
  flat_typed (Fact q) t b h = ap is_bool h
  flat_typed (Constant k) t b h = absurd h
  flat_typed (Read (Local j)) t b h = typed j t (lt_true j n b) h
  flat_typed (Read (Global j)) t b h = absurd h
  flat_typed (Not x) t b h = ap is_bool h.0
  flat_typed (Negative x) t b h = ap is_int h.0
  flat_typed (Binary op x y) t b h =
      operate_typed op (HasFlatType tys x) (HasFlatType tys y) (ev x (over w)) (ev y (over w)) t h
  flat_typed (Apply f es) t b h = absurd h
  flat_typed (Select m es) t b h = absurd h
  flat_typed (Update m es x) t b h = absurd h
  flat_typed (Old x) t b h = absurd h

  flats_typed : (xs : Exs) (ts : List Ty) → are_below n xs ≡ true → HaveFlatTypes tys xs ts → are_of ts (evs xs (over w)) ≡ true
  flats_typed NoMore ts b h = ap (λ x. are_of x []) h
  flats_typed (More x xs) [] b h = absurd h
  flats_typed (More x xs) (t ∷ ts) b h =
      both (is_of t (ev x (over w))) (are_of ts (evs xs (over w))) (flat_typed x t (and_left (is_below n x) (are_below n xs) b) h.0) (flats_typed xs ts (and_right (is_below n x) (are_below n xs) b) h.1)

differs_fit : (ks : List KeyType) (u : Ty) (j : ℕ) (vs : List Val) → are_of (MapTy ks u ∷ MapTy ks u ∷ []) vs ≡ true → args_fit (Differs ks u j) vs ≡ true
differs_fit ks u j [] h = absurd (let bad : ⊥ = cc in bad)
differs_fit ks u j (m ∷ []) h =
    absurd (let g = and_right (is_of (MapTy ks u) m) (are_of (MapTy ks u ∷ []) []) h in let bad : ⊥ = cc in bad)
differs_fit ks u j (m ∷ n ∷ []) h =
    let g = and_right (is_of (MapTy ks u) m) (are_of (MapTy ks u ∷ []) (n ∷ [])) h in
    both (is_of (MapTy ks u) m) (is_of (MapTy ks u) n) (and_left (is_of (MapTy ks u) m) (are_of (MapTy ks u ∷ []) (n ∷ [])) h) (and_left (is_of (MapTy ks u) n) (are_of [] []) g)
differs_fit ks u j (m ∷ n ∷ v ∷ vs) h =
    absurd (let g = and_right (is_of (MapTy ks u) n) (are_of [] (v ∷ vs)) (and_right (is_of (MapTy ks u) m) (are_of (MapTy ks u ∷ []) (n ∷ v ∷ vs)) h) in let bad : ⊥ = cc in bad)

selects_fit : (ks : List KeyType) (u : Ty) (vs : List Val) → are_of (MapTy ks u ∷ map key_ty ks) vs ≡ true → args_fit (Selects ks u) vs ≡ true
selects_fit ks u [] h = absurd (let bad : ⊥ = cc in bad)
selects_fit ks u (m ∷ qs) h = h

updates_fit : (ks : List KeyType) (u : Ty) (vs : List Val) → are_of (MapTy ks u ∷ u ∷ map key_ty ks) vs ≡ true → args_fit (Updates ks u) vs ≡ true
updates_fit ks u [] h = absurd (let bad : ⊥ = cc in bad)
updates_fit ks u (m ∷ []) h =
    absurd (let g = and_right (is_of (MapTy ks u) m) (are_of (u ∷ map key_ty ks) []) h in let bad : ⊥ = cc in bad)
updates_fit ks u (m ∷ v ∷ qs) h = h

lengths : (ks : List KeyType) (vs : List Val) → are_of (map key_ty ks) vs ≡ true → length ks ≡ length (map number_of vs)
lengths [] [] h = refl
lengths [] (v ∷ vs) h = absurd (let bad : ⊥ = cc in bad)
lengths (k ∷ ks) [] h = absurd (let bad : ⊥ = cc in bad)
lengths (k ∷ ks) (v ∷ vs) h =
    let e = lengths ks vs (and_right (is_of (key_ty k) v) (are_of (map key_ty ks) vs) h) in omega arith

key_typed : (k : KeyType) (z : ℤ) → is_of (key_ty k) (key_value k z) ≡ true
key_typed IntKey z = refl
key_typed (UserKey u) z = eq-eqb u u refl

part_typed : (ks : List KeyType) (zs : List ℤ) (j : ℕ) (k : KeyType) → slice_get ks j ≡ Some k → length zs ≡ length ks → is_of (key_ty k) (part ks zs j) ≡ true
part_typed [] zs j k e l = absurd (let bad : ⊥ = cc in bad)
part_typed (l ∷ ks) [] j k e q = absurd (omega arith)
part_typed (l ∷ ks) (z ∷ zs) zero k e q =
    let same : l ≡ k = cc in subst (λ x. is_of (key_ty x) (key_value l z) ≡ true) same (key_typed l z)
part_typed (l ∷ ks) (z ∷ zs) (suc j) k e q = part_typed ks zs j k e (omega (arith, q))

module _ (functions : List Fun) (i : Interp) (tables : (f : ℕ) (fn : Fun) (args : List Val) → slice_get functions f ≡ Some fn → is_of fn.result (look_up (slice_get i.tables f) args) ≡ true) (tys : List Ty) (w : List Val) (n : ℕ) (typed : (j : ℕ) (t : Ty) → j < n → slice_get tys j ≡ Some t → is_of t (value_at w j) ≡ true) where
  pub head_fits : (h : Head) (xs : Exs) (t : Ty) → are_below n xs ≡ true → HeadHasType functions tys h xs t → args_fit h (evs xs (over w)) ≡ true
  head_fits (Applies f) xs t b h = refl
  head_fits (Selects ks u) xs t b h =
      selects_fit ks u (evs xs (over w)) (flats_typed tys w n typed xs (MapTy ks u ∷ map key_ty ks) b h.1)
  head_fits (Updates ks u) xs t b h =
      updates_fit ks u (evs xs (over w)) (flats_typed tys w n typed xs (MapTy ks u ∷ u ∷ map key_ty ks) b h.1)
  head_fits (Differs ks u j) xs t b h =
      differs_fit ks u j (evs xs (over w)) (flats_typed tys w n typed xs (MapTy ks u ∷ MapTy ks u ∷ []) b h.1.1.1)

  select_of : (ks : List KeyType) (u : Ty) (vs : List Val) → args_fit (Selects ks u) vs ≡ true → is_of u (selected vs) ≡ true
  select_of ks u [] h = absurd (let bad : ⊥ = cc in bad)
  select_of ks u (m ∷ qs) h =
      select_typed ks u m (map number_of qs) (and_left (is_of (MapTy ks u) m) (are_of (map key_ty ks) qs) h)

  update_of : (ks : List KeyType) (u : Ty) (vs : List Val) → args_fit (Updates ks u) vs ≡ true → is_of (MapTy ks u) (updated vs) ≡ true
  update_of ks u [] h = absurd (let bad : ⊥ = cc in bad)
  update_of ks u (m ∷ []) h = absurd (let bad : ⊥ = cc in bad)
  update_of ks u (m ∷ v ∷ qs) h =
      let g = and_right (is_of (MapTy ks u) m) (is_of u v && are_of (map key_ty ks) qs) h in
      update_typed ks u m (map number_of qs) v (and_left (is_of (MapTy ks u) m) (is_of u v && are_of (map key_ty ks) qs) h) (eq-eqb (length ks) (length (map number_of qs)) (lengths ks qs (and_right (is_of u v) (are_of (map key_ty ks) qs) g))) (and_left (is_of u v) (are_of (map key_ty ks) qs) g)

  differ_of : (ks : List KeyType) (u : Ty) (j : ℕ) (k : KeyType) (vs : List Val) → slice_get ks j ≡ Some k → args_fit (Differs ks u j) vs ≡ true → is_of (key_ty k) (differing ks j vs) ≡ true
  differ_of ks u j k [] e h = absurd (let bad : ⊥ = cc in bad)
  differ_of ks u j k (m ∷ []) e h = absurd (let bad : ⊥ = cc in bad)
  differ_of ks u j k (m ∷ n ∷ []) e h =
      part_typed ks (differ_at ks m n) j k e (differ_length ks u m n (and_left (is_of (MapTy ks u) m) (is_of (MapTy ks u) n) h) (and_right (is_of (MapTy ks u) m) (is_of (MapTy ks u) n) h))
  differ_of ks u j k (m ∷ n ∷ v ∷ vs) e h = absurd (let bad : ⊥ = cc in bad)

  pub head_typed : (h : Head) (xs : Exs) (t : Ty) → are_below n xs ≡ true → HeadHasType functions tys h xs t → is_of t (mean i h (evs xs (over w))) ≡ true
  head_typed (Applies f) xs t b h =
      subst (λ u. is_of u (look_up (slice_get i.tables f) (evs xs (over w))) ≡ true) (sym h.1.1.0) (tables f h.0 (evs xs (over w)) h.1.0)
  head_typed (Selects ks u) xs t b h =
      subst (λ v. is_of v (selected (evs xs (over w))) ≡ true) (sym h.0) (select_of ks u (evs xs (over w)) (head_fits (Selects ks u) xs t b h))
  head_typed (Updates ks u) xs t b h =
      subst (λ v. is_of v (updated (evs xs (over w))) ≡ true) (sym h.0) (update_of ks u (evs xs (over w)) (head_fits (Updates ks u) xs t b h))
  head_typed (Differs ks u j) xs t b h =
      subst (λ v. is_of v (differing ks j (evs xs (over w))) ≡ true) (sym h.1.1.0) (differ_of ks u j h.0 (evs xs (over w)) h.1.0 (head_fits (Differs ks u j) xs t b h))

order_at : (n : ℕ) (ts : List Term) (a : ℕ) (t : Term) → are_in_order n ts ≡ true → slice_get ts a ≡ Some t → (m : ℕ) → m ≡ n + a → are_below m t.args ≡ true
order_at n [] a t o e m q = absurd (let bad : ⊥ = cc in bad)
order_at n (u ∷ ts) zero t o e m q =
    let same : u ≡ t = cc in
    let at : n ≡ m = omega arith in
    subst (λ k. are_below k t.args ≡ true) at (subst (λ x. are_below n x.args ≡ true) same (and_left (are_below n u.args) (are_in_order (suc n) ts) o))
order_at n (u ∷ ts) (suc a) t o e m q =
    order_at (suc n) ts a t (and_right (are_below n u.args) (are_in_order (suc n) ts) o) e m (omega arith)

unmapped : (ts : List Term) (a : ℕ) (t : Ty) → slice_get (map type_of ts) a ≡ Some t → (u : Term) × ((slice_get ts a ≡ Some u) × (u.ty ≡ t))
unmapped [] a t e = absurd (let bad : ⊥ = cc in bad)
unmapped (u ∷ ts) zero t e = let same : u.ty ≡ t = cc in (u, (refl, same))
unmapped (u ∷ ts) (suc a) t e = unmapped ts a t e

split_at : (incs : List Ty) (n j : ℕ) → n ≡ length incs → (j < n) ⊎ ((a : ℕ) × (j ≡ n + a))
split_at [] n j e = inr (j, omega arith)
split_at (t ∷ incs) zero j e = absurd (omega arith)
split_at (t ∷ incs) (suc n) zero e = inl (omega arith)
split_at (t ∷ incs) (suc n) (suc j) e =
    ⊎_elim (λ l. inl (omega arith)) (λ r. let q = r.1 in inr (r.0, omega arith)) (split_at incs n j (omega arith))

module _ (functions : List Fun) (i : Interp) (tables : (f : ℕ) (fn : Fun) (args : List Val) → slice_get functions f ≡ Some fn → is_of fn.result (look_up (slice_get i.tables f) args) ≡ true) (incs : List Ty) (n : ℕ) (count : n ≡ length incs) (ts : List Term) (terms : TermsTyped functions incs ts) (order : are_in_order n ts ≡ true) (w : List Val) (model : IsModel i w n ts) (first : (j : ℕ) (t : Ty) → j < n → slice_get incs j ≡ Some t → is_of t (value_at w j) ≡ true) where
  abbrev tys : List Ty
  tys = types_with incs ts

  front_only : (j : ℕ) (t : Ty) (xs : List Ty) (m : ℕ) → j < m → m ≡ length xs → slice_get (xs ++ map type_of ts) j ≡ Some t → slice_get xs j ≡ Some t
  front_only j t [] m l e q = absurd (omega arith)
  front_only zero t (x ∷ xs) m l e q = q
  front_only (suc j) t (x ∷ xs) zero l e q = absurd (omega arith)
  front_only (suc j) t (x ∷ xs) (suc m) l e q = front_only j t xs m (omega arith) (omega arith) q

  one_typed : (j : ℕ) (t : Ty) → ((k : ℕ) (u : Ty) → k < j → slice_get tys k ≡ Some u → is_of u (value_at w k) ≡ true) → slice_get tys j ≡ Some t → is_of t (value_at w j) ≡ true
  one_typed j t below e =
      ⊎_elim
      (λ l. first j t l (front_only j t incs n l count e))
      (λ r. on r.0 r.1)
      (split_at incs n j count)
    where
      on : (a : ℕ) → j ≡ n + a → is_of t (value_at w j) ≡ true
      on a q =
          let there = unmapped ts a t (sym (at_back incs (map type_of ts) a n count) ∙ ap (slice_get tys) (sym q) ∙ e) in
          let u = there.0 in
          let b = order_at n ts a u order there.1.0 j q in
          let here = head_typed functions i tables tys w j below u.head u.args u.ty b (terms a u there.1.0) in
          subst (λ v. is_of t v ≡ true) (sym (model_at i w n ts a j u model there.1.0 q)) (subst (λ k. is_of k (term_value i w u) ≡ true) there.1.1 here)

  all_typed : (b j : ℕ) (t : Ty) → j < b → slice_get tys j ≡ Some t → is_of t (value_at w j) ≡ true
  all_typed zero j t l e = absurd (omega arith)
  all_typed (suc b) j t l e = one_typed j t (λ k u m q. all_typed b k u (omega arith) q) e

  pub model_typed : (j : ℕ) (t : Ty) → slice_get tys j ≡ Some t → is_of t (value_at w j) ≡ true
  model_typed j t e = all_typed (suc j) j t (omega arith) e

  pub model_fits : Fit w ts
  model_fits a t e =
      head_fits functions i tables tys w (n + a) (λ k u l q. model_typed k u q) t.head t.args t.ty (order_at n ts a t order e (n + a) refl) (terms a t e)
