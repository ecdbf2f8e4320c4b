-- Instances of typed terms are truths.
use Rattle.std.proofs.Common.{◌≡◌, ℕ, zero, suc, Bool, true, false, if◌then◌else◌, List, [], ◌∷◌, length, map, Option, Some, None, refl, sym, ap, ◌∙◌, subst}
use Rattle.std.specs.Prelude.{slice_get, ◌&&◌}
use Rattle.bg_ast.specs.Values.{Ty, IntTy, BoolTy, MapTy, KeyType}
use Rattle.bg_ast.specs.Syntax.{Ex, Exs, Number, Fact, Constant, Read, Local, Global, Not, Negative, Binary, Apply, Select, Update, Old, NoMore, More, Fun}
use Rattle.bg_sense.specs.Typing.{key_ty}
use Rattle.bg_sense.proofs.Bools.{and_left, and_right}
use Rattle.bg_terms.specs.Terms.{Head, Applies, Selects, Updates, Differs, Term, head_eq}
use Rattle.bg_terms.specs.Alike.{HasFlatType}
use Rattle.bg_terms.specs.Typed.{HaveFlatTypes, HeadHasType, type_of, types_with, TermsTyped}
use Rattle.bg_terms.specs.Instances.{Instance, Congruent, AtIndex, Elsewhere, Apart, term, all_equal, congruent, at_index_of, elsewhere_of, accesses, at_index, elsewhere, term_at, is_part, read_at, are_parts, apart_of, apart_by, apart, instance_ex}
use Rattle.bg_terms.proofs.Heads.{head_same, accessing}
use Rattle.bg_terms.proofs.Typed.{at_back, at_map}

abbrev result_or : Option Fun → Ty
result_or None = IntTy
result_or (Some f) = f.result

abbrev params_or : Option Fun → List Ty
params_or None = []
params_or (Some f) = f.params

abbrev key_or : Option KeyType → Ty
key_or None = IntTy
key_or (Some k) = key_ty k

module _ (functions : List Fun) (incs : List Ty) (ts : List Term) (terms : TermsTyped functions incs ts) where
  abbrev tys : List Ty
  tys = types_with incs ts

  abbrev n : ℕ
  n = length incs

  abbrev Truth : Ex → Type 0
  Truth x = HasFlatType tys x BoolTy

  abbrev arg_types : Head → List Ty
  arg_types (Applies f) = params_or (slice_get functions f)
  arg_types (Selects ks u) = MapTy ks u ∷ map key_ty ks
  arg_types (Updates ks u) = MapTy ks u ∷ u ∷ map key_ty ks
  arg_types (Differs ks u j) = MapTy ks u ∷ MapTy ks u ∷ []

  abbrev its_type : Head → Ty
  its_type (Applies f) = result_or (slice_get functions f)
  its_type (Selects ks u) = u
  its_type (Updates ks u) = MapTy ks u
  its_type (Differs ks u j) = key_or (slice_get ks j)

  args_by : (h : Head) (xs : Exs) (t : Ty) → HeadHasType functions tys h xs t → HaveFlatTypes tys xs (arg_types h)
  args_by (Applies f) xs t h = subst (λ o. HaveFlatTypes tys xs (params_or o)) (sym h.1.0) h.1.1.1
  args_by (Selects ks u) xs t h = h.1
  args_by (Updates ks u) xs t h = h.1
  args_by (Differs ks u j) xs t h = h.1.1.1

  type_by : (h : Head) (xs : Exs) (t : Ty) → HeadHasType functions tys h xs t → t ≡ its_type h
  type_by (Applies f) xs t h = h.1.1.0 ∙ sym (ap result_or h.1.0)
  type_by (Selects ks u) xs t h = h.0
  type_by (Updates ks u) xs t h = h.0
  type_by (Differs ks u j) xs t h = h.1.1.0 ∙ sym (ap key_or h.1.0)

  -- what is known of a term with this head
  args_of : (a : ℕ) (t : Term) (h : Head) → slice_get ts a ≡ Some t → t.head ≡ h → HaveFlatTypes tys t.args (arg_types h)
  args_of a t h e is = subst (λ k. HaveFlatTypes tys t.args (arg_types k)) is (args_by t.head t.args t.ty (terms a t e))

  its : (a : ℕ) (t : Term) (h : Head) → slice_get ts a ≡ Some t → t.head ≡ h → HasFlatType tys (term n a) (its_type h)
  its a t h e is =
      subst (λ u. HasFlatType tys (term n a) u) (type_by t.head t.args t.ty (terms a t e) ∙ ap its_type is) (at_back incs (map type_of ts) a n refl ∙ at_map type_of ts a t e)

  alike : (xs ys : Exs) (us : List Ty) → HaveFlatTypes tys xs us → HaveFlatTypes tys ys us → Truth (all_equal xs ys)
  alike NoMore NoMore us h k = refl
  alike NoMore (More y ys) us h k = refl
  alike (More x xs) NoMore us h k = refl
  alike (More x xs) (More y ys) [] h k = absurd h
  alike (More x xs) (More y ys) (u ∷ us) h k = (refl, (refl, (u, h.0, k.0)), alike xs ys us h.1 k.1)

  if_truth : (b : Bool) (x : Ex) → (b ≡ true → Truth x) → Truth (if b then x else Fact true)
  if_truth true x h = h refl
  if_truth false x h = refl

  congruent_truth : (a b : ℕ) (s t : Option Term) → slice_get ts a ≡ s → slice_get ts b ≡ t → Truth (congruent n a b s t)
  congruent_truth a b None t e f = refl
  congruent_truth a b (Some s) None e f = refl
  congruent_truth a b (Some s) (Some t) e f =
      if_truth (head_eq s.head t.head) _ (λ same.
      let h = head_same s.head t.head same in
      (refl, alike s.args t.args (arg_types t.head) (args_of a s t.head e h) (args_of b t t.head f refl), (refl, (its_type t.head, its a s t.head e h, its b t t.head f refl))))

  at_index_truth_of : (u s : ℕ) (ks : List KeyType) (t : Ty) (xs ys : Exs) → HaveFlatTypes tys xs (arg_types (Updates ks t)) → HaveFlatTypes tys ys (arg_types (Selects ks t)) → HasFlatType tys (term n u) (MapTy ks t) → HasFlatType tys (term n s) t → Truth (at_index_of n u s xs ys)
  at_index_truth_of u s ks t NoMore ys h k tu us = refl
  at_index_truth_of u s ks t (More m NoMore) ys h k tu us = refl
  at_index_truth_of u s ks t (More m (More v xs)) NoMore h k tu us = refl
  at_index_truth_of u s ks t (More m (More v xs)) (More y ys) h k tu us =
      (refl, (refl, (refl, (MapTy ks t, k.0, tu)), alike xs ys (map key_ty ks) h.1.1 k.1), (refl, (t, us, h.1.0)))

  at_index_truth : (u s : ℕ) (o r : Option Term) → slice_get ts u ≡ o → slice_get ts s ≡ r → Truth (at_index n u s o r)
  at_index_truth u s None r e f = refl
  at_index_truth u s (Some t) None e f = refl
  at_index_truth u s (Some t) (Some a) e f =
      if_truth (accesses t.head a.head) _ (λ can.
      let w = accessing t.head a.head can in
      at_index_truth_of u s w.keys w.result t.args a.args (args_of u t _ e w.update) (args_of s a _ f w.select) (its u t _ e w.update) (its s a _ f w.select))

  elsewhere_truth_of : (u s r : ℕ) (ks : List KeyType) (t : Ty) (xs ys zs : Exs) → HaveFlatTypes tys xs (arg_types (Updates ks t)) → HaveFlatTypes tys ys (arg_types (Selects ks t)) → HaveFlatTypes tys zs (arg_types (Selects ks t)) → HasFlatType tys (term n u) (MapTy ks t) → HasFlatType tys (term n s) t → HasFlatType tys (term n r) t → Truth (elsewhere_of n u s r xs ys zs)
  elsewhere_truth_of u s r ks t NoMore ys zs h k l tu us ur = refl
  elsewhere_truth_of u s r ks t (More m NoMore) ys zs h k l tu us ur = refl
  elsewhere_truth_of u s r ks t (More m (More v xs)) NoMore zs h k l tu us ur = refl
  elsewhere_truth_of u s r ks t (More m (More v xs)) (More y ys) NoMore h k l tu us ur = refl
  elsewhere_truth_of u s r ks t (More m (More v xs)) (More y ys) (More z zs) h k l tu us ur =
      (refl, (refl, (refl, (refl, (MapTy ks t, k.0, tu)), (refl, (MapTy ks t, l.0, h.0))), (refl, alike ys zs (map key_ty ks) k.1 l.1, (refl, alike xs ys (map key_ty ks) h.1.1 k.1))), (refl, (t, us, ur)))

  elsewhere_truth : (u s r : ℕ) (o1 o2 o3 : Option Term) → slice_get ts u ≡ o1 → slice_get ts s ≡ o2 → slice_get ts r ≡ o3 → Truth (elsewhere n u s r o1 o2 o3)
  elsewhere_truth u s r None o2 o3 e f g = refl
  elsewhere_truth u s r (Some t) None o3 e f g = refl
  elsewhere_truth u s r (Some t) (Some a) None e f g = refl
  elsewhere_truth u s r (Some t) (Some a) (Some b) e f g =
      if_truth (accesses t.head a.head && accesses t.head b.head) _ (λ can.
      let w = accessing t.head a.head (and_left _ _ can) in
      let v = accessing t.head b.head (and_right _ _ can) in
      let same = sym v.update ∙ w.update in
      let other = v.select ∙ selects_same v.keys w.keys v.result w.result same in
      elsewhere_truth_of u s r w.keys w.result t.args a.args b.args (args_of u t _ e w.update) (args_of s a _ f w.select) (args_of r b _ g other) (its u t _ e w.update) (its s a _ f w.select) (its r b _ g other))
    where
      selects_same : (ks ls : List KeyType) (t u : Ty) → Updates ks t ≡ Updates ls u → Selects ks t ≡ Selects ls u
      selects_same ks ls t u e = let k : ks ≡ ls = cc in let h : t ≡ u = cc in rw (k, h) refl

  term_there : (m k : ℕ) (d : Term) → term_at m ts k ≡ Some d → (a : ℕ) × (slice_get ts a ≡ Some d)
  term_there zero k d e = (k, e)
  term_there (suc m) zero d e = absurd (let bad : ⊥ = cc in bad)
  term_there (suc m) (suc k) d e = term_there m k d e

  read_there : (q : Ex) (d : Term) → read_at n ts q ≡ Some d → (a : ℕ) × (slice_get ts a ≡ Some d)
  read_there (Read (Local k)) d e = term_there n k d e
  read_there (Read (Global k)) d e = absurd (let bad : ⊥ = cc in bad)
  read_there (Number z) d e = absurd (let bad : ⊥ = cc in bad)
  read_there (Fact b) d e = absurd (let bad : ⊥ = cc in bad)
  read_there (Constant k) d e = absurd (let bad : ⊥ = cc in bad)
  read_there (Not x) d e = absurd (let bad : ⊥ = cc in bad)
  read_there (Negative x) d e = absurd (let bad : ⊥ = cc in bad)
  read_there (Binary op x y) d e = absurd (let bad : ⊥ = cc in bad)
  read_there (Apply f xs) d e = absurd (let bad : ⊥ = cc in bad)
  read_there (Select m xs) d e = absurd (let bad : ⊥ = cc in bad)
  read_there (Update m xs x) d e = absurd (let bad : ⊥ = cc in bad)
  read_there (Old x) d e = absurd (let bad : ⊥ = cc in bad)

  module _ (ks : List KeyType) (t : Ty) (m o : Ex) (hm : HasFlatType tys m (MapTy ks t)) (ho : HasFlatType tys o (MapTy ks t)) where
    else_false : (b : Bool) (x : Ex) → (b ≡ true → Truth x) → Truth (if b then x else Fact false)
    else_false true x h = h refl
    else_false false x h = refl

    part_truth : (j : ℕ) (w : Option Term) → ((d : Term) → w ≡ Some d → (a : ℕ) × (slice_get ts a ≡ Some d)) → Truth (is_part ks t j m o w)
    part_truth j None there = refl
    part_truth j (Some d) there =
        else_false (head_eq d.head (Differs ks t j)) _ (λ same.
        let w = there d refl in
        alike d.args (More m (More o NoMore)) (MapTy ks t ∷ MapTy ks t ∷ []) (args_of w.0 d (Differs ks t j) w.1 (head_same d.head (Differs ks t j) same)) (hm, (ho, refl)))

    parts_truth : (j : ℕ) (ls : List KeyType) (qs : Exs) → Truth (are_parts n ts ks t j m o ls qs)
    parts_truth j [] NoMore = refl
    parts_truth j [] (More q qs) = refl
    parts_truth j (k ∷ ls) NoMore = refl
    parts_truth j (k ∷ ls) (More q qs) =
        (refl, part_truth j (read_at n ts q) (read_there q), parts_truth (suc j) ls qs)

  apart_truth_of : (s r : ℕ) (ks : List KeyType) (t : Ty) (xs ys : Exs) → HaveFlatTypes tys xs (arg_types (Selects ks t)) → HaveFlatTypes tys ys (arg_types (Selects ks t)) → HasFlatType tys (term n s) t → HasFlatType tys (term n r) t → Truth (apart_of n ts s r ks t xs ys)
  apart_truth_of s r ks t NoMore ys h k us ur = refl
  apart_truth_of s r ks t (More m xs) NoMore h k us ur = refl
  apart_truth_of s r ks t (More m xs) (More o ys) h k us ur =
      (refl, (refl, (refl, parts_truth ks t m o h.0 k.0 0 ks xs, alike xs ys (map key_ty ks) h.1 k.1), (refl, (t, us, ur))), (refl, (MapTy ks t, h.0, k.0)))

  apart_by_truth : (s r : ℕ) (h : Head) (xs ys : Exs) → HaveFlatTypes tys xs (arg_types h) → HaveFlatTypes tys ys (arg_types h) → HasFlatType tys (term n s) (its_type h) → HasFlatType tys (term n r) (its_type h) → Truth (apart_by n ts s r h xs ys)
  apart_by_truth s r (Selects ks t) xs ys h k us ur = apart_truth_of s r ks t xs ys h k us ur
  apart_by_truth s r (Applies f) xs ys h k us ur = refl
  apart_by_truth s r (Updates ks t) xs ys h k us ur = refl
  apart_by_truth s r (Differs ks t j) xs ys h k us ur = refl

  apart_truth : (s r : ℕ) (o w : Option Term) → slice_get ts s ≡ o → slice_get ts r ≡ w → Truth (apart n ts s r o w)
  apart_truth s r None w e f = refl
  apart_truth s r (Some a) None e f = refl
  apart_truth s r (Some a) (Some b) e f =
      if_truth (head_eq a.head b.head) _ (λ same.
      let h = sym (head_same a.head b.head same) in
      apart_by_truth s r a.head a.args b.args (args_of s a a.head e refl) (args_of r b a.head f h) (its s a a.head e refl) (its r b a.head f h))

  pub instance_truth : (e : Instance) → Truth (instance_ex n ts e)
  instance_truth (Congruent a b) = congruent_truth a b (slice_get ts a) (slice_get ts b) refl refl
  instance_truth (AtIndex u s) = at_index_truth u s (slice_get ts u) (slice_get ts s) refl refl
  instance_truth (Elsewhere u s r) =
      elsewhere_truth u s r (slice_get ts u) (slice_get ts s) (slice_get ts r) refl refl refl
  instance_truth (Apart s r) = apart_truth s r (slice_get ts s) (slice_get ts r) refl refl
