-- What lines bring behind fair terms is fair.
use Rattle.std.proofs.Common.{◌≡◌, ℕ, zero, suc, ◌+◌, ◌<◌, ◌≤◌, Bool, true, false, List, [], ◌∷◌, ◌++◌, length, map, Option, Some, None, refl, sym, ap, ◌∙◌, subst, arith, nat_lt}
use Rattle.std.specs.Prelude.{slice_get, ◌&&◌}
use Rattle.std.proofs.lemmas.List.{append-nil, append_assoc}
use Rattle.bg_ast.specs.Values.{KeyType, Ty, IntTy, BoolTy, UserTy, MapTy}
use Rattle.bg_ast.specs.Syntax.{Ex, Exs, Number, Fact, Constant, Read, Local, Global, Not, Negative, Binary, Apply, Select, Update, Old, NoMore, More, Fun}
use Rattle.bg_sense.specs.Types.{key_types_eq, ty_eq}
use Rattle.bg_sense.specs.Typing.{key_ty}
use Rattle.bg_sense.specs.Typed.{AreLinear}
use Rattle.bg_sense.proofs.Bools.{and_left, and_right, both}
use Rattle.bg_terms.specs.Terms.{Head, Applies, Selects, Updates, Differs, Term, is_below, are_below, are_in_order}
use Rattle.bg_terms.specs.Typed.{HaveFlatTypes, HeadHasType, type_of, types_with}
use Rattle.bg_terms.proofs.Grown.{lt_true}
use Rattle.bg_terms.proofs.Heads.{kinds_same}
use Rattle.bg_terms.proofs.Typed.{at_back, at_map}
use Rattle.bg_terms.proofs.Stays.{typed_stays, head_stays}
use Rattle.bg_numbered.specs.Fair.{FairTerms, Grows}
use Rattle.bg_numbered.specs.Lines.{Line, Pick, Names, Says, select_from, behind_map, behind_value, if_fits, pick_at, pick_term, pick_by, picked, parts_from, reads_from, names_at, if_fit, names_with, names_by, named, brought, after_line, after_lines, has_index, HaveIndices}
use Rattle.bg_numbered.proofs.Below.{and_both, inside}
use Rattle.bg_numbered.proofs.Below as below
use Rattle.bg_numbered.proofs.Growing.{stays, grows_on, fair_more}

-- ---- the table grows

pub lines_grow : (incs : List Ty) (ts : List Term) (ls : List Line) → Grows ts (after_lines incs ts ls)
lines_grow incs ts [] = stays ts
lines_grow incs ts (l ∷ ls) =
    let mid = after_line incs ts l in
    grows_on ts mid (after_lines incs mid ls) (brought incs ts l, refl) (lines_grow incs mid ls)

-- ---- numbers that are there

lt_more : (j m n : ℕ) → nat_lt j m ≡ true → m ≤ n → nat_lt j n ≡ true
lt_more j m n h le = let k = lt_true j m h in below.lt_true j n (omega (arith, k, le))

mutual
  below_more : (m n : ℕ) (e : Ex) → m ≤ n → is_below m e ≡ true → is_below n e ≡ true
  below_more m n (Number z) le h = refl
  below_more m n (Fact b) le h = refl
  below_more m n (Constant k) le h = absurd (let bad : ⊥ = cc in bad)
  below_more m n (Read (Local j)) le h = lt_more j m n h le
  below_more m n (Read (Global j)) le h = absurd (let bad : ⊥ = cc in bad)
  below_more m n (Not e) le h = below_more m n e le h
  below_more m n (Negative e) le h = below_more m n e le h
  below_more m n (Binary op a b) le h =
      and_both (below_more m n a le (and_left (is_below m a) (is_below m b) h)) (below_more m n b le (and_right (is_below m a) (is_below m b) h))
  below_more m n (Apply f es) le h = absurd (let bad : ⊥ = cc in bad)
  below_more m n (Select a es) le h = absurd (let bad : ⊥ = cc in bad)
  below_more m n (Update a es e) le h = absurd (let bad : ⊥ = cc in bad)
  below_more m n (Old e) le h = absurd (let bad : ⊥ = cc in bad)

  all_below_more : (m n : ℕ) (es : Exs) → m ≤ n → are_below m es ≡ true → are_below n es ≡ true
  all_below_more m n NoMore le h = refl
  all_below_more m n (More e es) le h =
      and_both (below_more m n e le (and_left (is_below m e) (are_below m es) h)) (all_below_more m n es le (and_right (is_below m e) (are_below m es) h))

-- the arguments of a term are over what stands before it
order_at : (n : ℕ) (ts : List Term) (a : ℕ) (b : Term) → are_in_order n ts ≡ true → slice_get ts a ≡ Some b → are_below (n + a) b.args ≡ true
order_at n [] a b h e = absurd (let bad : ⊥ = cc in bad)
order_at n (t ∷ ts) zero b h e =
    let same : t ≡ b = cc in
    subst (λ m. are_below m b.args ≡ true) (omega arith) (subst (λ u. are_below n u.args ≡ true) same (and_left (are_below n t.args) (are_in_order (suc n) ts) h))
order_at n (t ∷ ts) (suc a) b h e =
    subst (λ m. are_below m b.args ≡ true) (omega arith) (order_at (suc n) ts a b (and_right (are_below n t.args) (are_in_order (suc n) ts) h) e)

count_with : (incs : List Ty) (ts : List Term) → length (types_with incs ts) ≡ length incs + length ts
count_with [] [] = refl
count_with [] (t ∷ ts) = let h = count_with [] ts in omega (arith, h)
count_with (i ∷ incs) ts = let h = count_with incs ts in omega (arith, h)

count_join : {A : Type 0} (xs ys : List A) → length (xs ++ ys) ≡ length xs + length ys
count_join [] ys = omega arith
count_join (x ∷ xs) ys = let h = count_join xs ys in omega (arith, h)

types_joined : (incs : List Ty) (ts us : List Term) → types_with incs (ts ++ us) ≡ types_with incs ts ++ map type_of us
types_joined [] [] us = refl
types_joined [] (t ∷ ts) us = ap (λ xs. type_of t ∷ xs) (types_joined [] ts us)
types_joined (i ∷ incs) ts us = ap (λ xs. i ∷ xs) (types_joined incs ts us)

-- ---- the index of a term

index_typed : (tys : List Ty) (xs : Exs) (t : Ty) (us : List Ty) → HaveFlatTypes tys xs (t ∷ us) → HaveFlatTypes tys (behind_map xs) us
index_typed tys NoMore t us h = absurd (let bad : ⊥ = cc in bad)
index_typed tys (More x xs) t us h = h.1

value_typed : (tys : List Ty) (xs : Exs) (t u : Ty) (us : List Ty) → HaveFlatTypes tys xs (t ∷ u ∷ us) → HaveFlatTypes tys (behind_value xs) us
value_typed tys NoMore t u us h = absurd (let bad : ⊥ = cc in bad)
value_typed tys (More x xs) t u us h = index_typed tys xs u us h.1

index_below : (n : ℕ) (xs : Exs) → are_below n xs ≡ true → are_below n (behind_map xs) ≡ true
index_below n NoMore h = refl
index_below n (More x xs) h = and_right (is_below n x) (are_below n xs) h

value_below : (n : ℕ) (xs : Exs) → are_below n xs ≡ true → are_below n (behind_value xs) ≡ true
value_below n NoMore h = refl
value_below n (More x xs) h = index_below n xs (and_right (is_below n x) (are_below n xs) h)

index_linear : (xs : Exs) → AreLinear xs → AreLinear (behind_map xs)
index_linear NoMore h = tt
index_linear (More x xs) h = h.1

value_linear : (xs : Exs) → AreLinear xs → AreLinear (behind_value xs)
value_linear NoMore h = tt
value_linear (More x xs) h = index_linear xs h.1

keys_same : (ks ls : List KeyType) → key_types_eq ks ls ≡ true → ks ≡ ls
keys_same ks ls h = (kinds_same ks ls IntTy IntTy (both (key_types_eq ks ls) (ty_eq IntTy IntTy) h refl)).0

module _ (fs : List Fun) (incs : List Ty) where
  abbrev Are : List Term → Type 0
  Are ts = FairTerms fs incs ts

  nothing : (ts : List Term) → Are ts → Are (ts ++ [])
  nothing ts h = subst (λ us. Are us) (sym (append-nil ts)) h

  -- a map is one of the incarnations and terms that are there
  there : (ts : List Term) (m : ℕ) (t : Ty) → slice_get (types_with incs ts) m ≡ Some t → m < length incs + length ts
  there ts m t e = let h = inside (types_with incs ts) m t e in let k = count_with incs ts in omega (arith, h, k)

  -- ---- a pick

  -- one select more, at an index that is over what is there, linear and typed
  select_fair : (ts : List Term) (m : ℕ) (ks : List KeyType) (t : Ty) (qs : Exs) → Are ts → slice_get (types_with incs ts) m ≡ Some (MapTy ks t) → are_below (length incs + length ts) qs ≡ true → AreLinear qs → HaveFlatTypes (types_with incs ts) qs (map key_ty ks) → Are (ts ++ select_from ks t m qs ∷ [])
  select_fair ts m ks t qs h e b l k =
      fair_more fs incs ts (select_from ks t m qs) h (and_both (below.lt_true m (length incs + length ts) (there ts m (MapTy ks t) e)) b) (tt, l) (refl, (e, k))

  module _ (ts : List Term) (h : Are ts) (m : ℕ) (ks : List KeyType) (t : Ty) (e : slice_get (types_with incs ts) m ≡ Some (MapTy ks t)) where
    abbrev tys : List Ty
    tys = types_with incs ts

    if_fair : (c : Bool) (u : Term) → (c ≡ true → Are (ts ++ u ∷ [])) → Are (ts ++ if_fits c u)
    if_fair true u f = f refl
    if_fair false u f = nothing ts h

    module _ (a : ℕ) (b : Term) (is : slice_get ts a ≡ Some b) where
      args_below : are_below (length incs + length ts) b.args ≡ true
      args_below =
          let k = inside ts a b is in
          all_below_more (length incs + a) (length incs + length ts) b.args (omega (arith, k)) (order_at (length incs) ts a b h.order is)

      at_fair : (g : Head) → b.head ≡ g → Are (ts ++ pick_at ks t m g b.args)
      at_fair (Applies f) q = nothing ts h
      at_fair (Selects ls u) q =
          let typed = subst (λ g. HeadHasType fs tys g b.args b.ty) q (h.typed a b is) in
          if_fair (key_types_eq ks ls) (select_from ks t m (behind_map b.args)) (λ same.
          select_fair ts m ks t (behind_map b.args) h e (index_below (length incs + length ts) b.args args_below) (index_linear b.args (h.linear a b is)) (subst (λ ns. HaveFlatTypes tys (behind_map b.args) (map key_ty ns)) (sym (keys_same ks ls same)) (index_typed tys b.args (MapTy ls u) (map key_ty ls) typed.1)))
      at_fair (Updates ls u) q =
          let typed = subst (λ g. HeadHasType fs tys g b.args b.ty) q (h.typed a b is) in
          if_fair (key_types_eq ks ls) (select_from ks t m (behind_value b.args)) (λ same.
          select_fair ts m ks t (behind_value b.args) h e (value_below (length incs + length ts) b.args args_below) (value_linear b.args (h.linear a b is)) (subst (λ ns. HaveFlatTypes tys (behind_value b.args) (map key_ty ns)) (sym (keys_same ks ls same)) (value_typed tys b.args (MapTy ls u) u (map key_ty ls) typed.1)))
      at_fair (Differs ls u j) q = nothing ts h

    term_fair : (a : ℕ) (o : Option Term) → slice_get ts a ≡ o → Are (ts ++ pick_term ks t m o)
    term_fair a None q = nothing ts h
    term_fair a (Some b) q = at_fair a b q b.head refl

  pick_fair : (ts : List Term) → Are ts → (m a : ℕ) (o : Option Ty) → slice_get (types_with incs ts) m ≡ o → Are (ts ++ pick_by o m (slice_get ts a))
  pick_fair ts h m a None e = nothing ts h
  pick_fair ts h m a (Some IntTy) e = nothing ts h
  pick_fair ts h m a (Some BoolTy) e = nothing ts h
  pick_fair ts h m a (Some (UserTy u)) e = nothing ts h
  pick_fair ts h m a (Some (MapTy [] t)) e = nothing ts h
  pick_fair ts h m a (Some (MapTy (k ∷ ks) t)) e = term_fair ts h m (k ∷ ks) t e a (slice_get ts a) refl

  -- ---- names

  -- what has a type has it where terms come behind
  map_stays : (ts us : List Term) (m : ℕ) (t : Ty) → slice_get (types_with incs ts) m ≡ Some t → slice_get (types_with incs (ts ++ us)) m ≡ Some t
  map_stays ts us m t e = typed_stays incs ts us (Read (Local m)) t e

  module _ (ks : List KeyType) (t : Ty) (m o : ℕ) where
    parts_fair : (ls : List KeyType) (j : ℕ) (vs : List Term) → ((i : ℕ) (l : KeyType) → slice_get ls i ≡ Some l → slice_get ks (j + i) ≡ Some l) → slice_get (types_with incs vs) m ≡ Some (MapTy ks t) → slice_get (types_with incs vs) o ≡ Some (MapTy ks t) → Are vs → Are (vs ++ parts_from ks t m o j ls)
    parts_fair [] j vs keys em eo h = nothing vs h
    parts_fair (l ∷ ls) j vs keys em eo h =
        let n = length incs + length vs in
        let p : Term = record { head = Differs ks t j; args = More (Read (Local m)) (More (Read (Local o)) NoMore); ty = key_ty l } in
        let at : slice_get ks j ≡ Some l = subst (λ i. slice_get ks i ≡ Some l) (omega arith) (keys 0 l refl) in
        let one = fair_more fs incs vs p h (and_both (below.lt_true m n (there vs m (MapTy ks t) em)) (and_both (below.lt_true o n (there vs o (MapTy ks t) eo)) refl)) (tt, (tt, tt)) (l, (at, (refl, (em, (eo, refl))))) in
        subst (λ us. Are us) (append_assoc vs (p ∷ []) (parts_from ks t m o (suc j) ls)) (parts_fair ls (suc j) (vs ++ p ∷ []) (λ i k e. subst (λ x. slice_get ks x ≡ Some k) (omega arith) (keys (suc i) k e)) (map_stays vs (p ∷ []) m (MapTy ks t) em) (map_stays vs (p ∷ []) o (MapTy ks t) eo) one)

    parts_types : (ls : List KeyType) (j : ℕ) → map type_of (parts_from ks t m o j ls) ≡ map key_ty ls
    parts_types [] j = refl
    parts_types (l ∷ ls) j = ap (λ xs. key_ty l ∷ xs) (parts_types ls (suc j))

    parts_count : (ls : List KeyType) (j : ℕ) → length (parts_from ks t m o j ls) ≡ length ls
    parts_count [] j = refl
    parts_count (l ∷ ls) j = let h = parts_count ls (suc j) in omega (arith, h)

  reads_typed : (tys : List Ty) (ls : List KeyType) (n : ℕ) → ((i : ℕ) (l : KeyType) → slice_get ls i ≡ Some l → slice_get tys (n + i) ≡ Some (key_ty l)) → HaveFlatTypes tys (reads_from n ls) (map key_ty ls)
  reads_typed tys [] n f = refl
  reads_typed tys (l ∷ ls) n f = (
    subst (λ i. slice_get tys i ≡ Some (key_ty l)) (omega arith) (f 0 l refl),
    reads_typed tys ls (suc n) (λ i k e. subst (λ x. slice_get tys x ≡ Some (key_ty k)) (omega arith) (f (suc i) k e)),
  )

  reads_below : (ls : List KeyType) (n far : ℕ) → n + length ls ≤ far → are_below far (reads_from n ls) ≡ true
  reads_below [] n far le = refl
  reads_below (l ∷ ls) n far le =
      and_both (below.lt_true n far (omega (arith, le))) (reads_below ls (suc n) far (omega (arith, le)))

  reads_linear : (ls : List KeyType) (n : ℕ) → AreLinear (reads_from n ls)
  reads_linear [] n = tt
  reads_linear (l ∷ ls) n = (tt, reads_linear ls (suc n))

  module _ (ts : List Term) (h : Are ts) (ks : List KeyType) (t : Ty) (m o : ℕ) (em : slice_get (types_with incs ts) m ≡ Some (MapTy ks t)) (eo : slice_get (types_with incs ts) o ≡ Some (MapTy ks t)) where
    abbrev first : ℕ
    first = length incs + length ts

    abbrev parts : List Term
    parts = parts_from ks t m o 0 ks

    abbrev far : List Term
    far = ts ++ parts

    abbrev reads : Exs
    reads = reads_from first ks

    far_fair : Are far
    far_fair =
        parts_fair ks t m o ks 0 ts (λ i l e. subst (λ x. slice_get ks x ≡ Some l) (omega arith) e) em eo h

    part_type : (i : ℕ) (l : KeyType) → slice_get ks i ≡ Some l → slice_get (types_with incs far) (first + i) ≡ Some (key_ty l)
    part_type i l e =
        ap (λ tys. slice_get tys (first + i)) (types_joined incs ts parts)
        ∙ at_back (types_with incs ts) (map type_of parts) i first (sym (count_with incs ts))
        ∙ ap (λ tys. slice_get tys i) (parts_types ks t m o ks 0)
        ∙ at_map key_ty ks i l e

    index : HaveFlatTypes (types_with incs far) reads (map key_ty ks)
    index = reads_typed (types_with incs far) ks first part_type

    far_count : length far ≡ length ts + length ks
    far_count =
        let a = count_join ts parts in
        let b = parts_count ks t m o ks 0 in
        omega (arith, a, b)

    one_fair : Are (far ++ select_from ks t m reads ∷ [])
    one_fair =
        select_fair far m ks t reads far_fair (map_stays ts parts m (MapTy ks t) em) (reads_below ks first (length incs + length far) (let c = far_count in omega (arith, c))) (reads_linear ks first) index

    other_typed : HeadHasType fs (types_with incs far) (Selects ks t) (More (Read (Local o)) reads) t
    other_typed = (refl, (map_stays ts parts o (MapTy ks t) eo, index))

    both_fair : Are ((far ++ select_from ks t m reads ∷ []) ++ select_from ks t o reads ∷ [])
    both_fair =
        let mid = far ++ select_from ks t m reads ∷ [] in
        let c = far_count in
        let d = count_join far (select_from ks t m reads ∷ []) in
        let n = length incs + length mid in
        let o_there = there ts o (MapTy ks t) eo in
        fair_more fs incs mid (select_from ks t o reads) one_fair (and_both (below.lt_true o n (omega (arith, o_there, c, d))) (reads_below ks first n (omega (arith, c, d)))) (tt, reads_linear ks first) (head_stays fs incs far (select_from ks t m reads ∷ []) (Selects ks t) (More (Read (Local o)) reads) t other_typed)

    names_fair : Are (ts ++ names_at ks t first m o)
    names_fair =
        subst (λ us. Are us) (append_assoc far (select_from ks t m reads ∷ []) (select_from ks t o reads ∷ []) ∙ append_assoc ts parts (select_from ks t m reads ∷ select_from ks t o reads ∷ [])) both_fair

  fit_fair : (ts : List Term) → Are ts → (c : Bool) (us : List Term) → (c ≡ true → Are (ts ++ us)) → Are (ts ++ if_fit c us)
  fit_fair ts h true us f = f refl
  fit_fair ts h false us f = nothing ts h

  with_fair : (ts : List Term) → Are ts → (ks : List KeyType) (t : Ty) (m o : ℕ) → slice_get (types_with incs ts) m ≡ Some (MapTy ks t) → (u : Option Ty) → slice_get (types_with incs ts) o ≡ u → Are (ts ++ names_with ks t u (length incs + length ts) m o)
  with_fair ts h ks t m o em None e = nothing ts h
  with_fair ts h ks t m o em (Some IntTy) e = nothing ts h
  with_fair ts h ks t m o em (Some BoolTy) e = nothing ts h
  with_fair ts h ks t m o em (Some (UserTy u)) e = nothing ts h
  with_fair ts h ks t m o em (Some (MapTy ls u)) e =
      fit_fair ts h (key_types_eq ks ls && ty_eq t u) (names_at ks t (length incs + length ts) m o) (λ same.
      let q = kinds_same ks ls t u same in
      names_fair ts h ks t m o em (e ∙ ap (λ x. Some (MapTy x u)) (sym q.0) ∙ ap (λ x. Some (MapTy ks x)) (sym q.1)))

  names_by_fair : (ts : List Term) → Are ts → (m o : ℕ) (v : Option Ty) → slice_get (types_with incs ts) m ≡ v → Are (ts ++ names_by v (slice_get (types_with incs ts) o) (length incs + length ts) m o)
  names_by_fair ts h m o None e = nothing ts h
  names_by_fair ts h m o (Some IntTy) e = nothing ts h
  names_by_fair ts h m o (Some BoolTy) e = nothing ts h
  names_by_fair ts h m o (Some (UserTy u)) e = nothing ts h
  names_by_fair ts h m o (Some (MapTy [] t)) e = nothing ts h
  names_by_fair ts h m o (Some (MapTy (k ∷ ks) t)) e =
      with_fair ts h (k ∷ ks) t m o e (slice_get (types_with incs ts) o) refl

  -- ---- lines

  line_fair : (ts : List Term) (l : Line) → Are ts → Are (after_line incs ts l)
  line_fair ts (Pick m a) h = pick_fair ts h m a (slice_get (types_with incs ts) m) refl
  line_fair ts (Names m o) h = names_by_fair ts h m o (slice_get (types_with incs ts) m) refl
  line_fair ts (Says e) h = nothing ts h

  pub lines_fair : (ts : List Term) (ls : List Line) → Are ts → Are (after_lines incs ts ls)
  lines_fair ts [] h = h
  lines_fair ts (l ∷ ls) h = lines_fair (after_line incs ts l) ls (line_fair ts l h)

-- ---- indices

no_indices : HaveIndices []
no_indices a u e = absurd (let bad : ⊥ = cc in bad)

indices_join : (ts us : List Term) → HaveIndices ts → HaveIndices us → HaveIndices (ts ++ us)
indices_join [] us h k a u e = k a u e
indices_join (x ∷ ts) us h k zero u e = h zero u e
indices_join (x ∷ ts) us h k (suc a) u e = indices_join ts us (λ b v r. h (suc b) v r) k a u e

more_indices : (x : Term) (us : List Term) → has_index x.head ≡ true → HaveIndices us → HaveIndices (x ∷ us)
more_indices x us h k zero u e = let same : x ≡ u = cc in sym (ap (λ v. has_index v.head) same) ∙ h
more_indices x us h k (suc a) u e = k a u e

fits_indices : (c : Bool) (k : KeyType) (ks : List KeyType) (t : Ty) (m : ℕ) (qs : Exs) → HaveIndices (if_fits c (select_from (k ∷ ks) t m qs))
fits_indices true k ks t m qs = more_indices (select_from (k ∷ ks) t m qs) [] refl no_indices
fits_indices false k ks t m qs = no_indices

at_indices : (k : KeyType) (ks : List KeyType) (t : Ty) (m : ℕ) (g : Head) (xs : Exs) → HaveIndices (pick_at (k ∷ ks) t m g xs)
at_indices k ks t m (Applies f) xs = no_indices
at_indices k ks t m (Selects ls u) xs = fits_indices (key_types_eq (k ∷ ks) ls) k ks t m (behind_map xs)
at_indices k ks t m (Updates ls u) xs = fits_indices (key_types_eq (k ∷ ks) ls) k ks t m (behind_value xs)
at_indices k ks t m (Differs ls u j) xs = no_indices

pick_indices : (v : Option Ty) (m : ℕ) (o : Option Term) → HaveIndices (pick_by v m o)
pick_indices None m o = no_indices
pick_indices (Some IntTy) m o = no_indices
pick_indices (Some BoolTy) m o = no_indices
pick_indices (Some (UserTy u)) m o = no_indices
pick_indices (Some (MapTy [] t)) m o = no_indices
pick_indices (Some (MapTy (k ∷ ks) t)) m None = no_indices
pick_indices (Some (MapTy (k ∷ ks) t)) m (Some a) = at_indices k ks t m a.head a.args

parts_indices : (ks : List KeyType) (t : Ty) (m o j : ℕ) (ls : List KeyType) → HaveIndices (parts_from ks t m o j ls)
parts_indices ks t m o j [] = no_indices
parts_indices ks t m o j (l ∷ ls) =
    more_indices (record { head = Differs ks t j; args = More (Read (Local m)) (More (Read (Local o)) NoMore); ty = key_ty l }) (parts_from ks t m o (suc j) ls) refl (parts_indices ks t m o (suc j) ls)

at_names : (k : KeyType) (ks : List KeyType) (t : Ty) (n m o : ℕ) → HaveIndices (names_at (k ∷ ks) t n m o)
at_names k ks t n m o =
    let qs = reads_from n (k ∷ ks) in
    let one = select_from (k ∷ ks) t m qs in
    let other = select_from (k ∷ ks) t o qs in
    indices_join (parts_from (k ∷ ks) t m o 0 (k ∷ ks)) (one ∷ other ∷ []) (parts_indices (k ∷ ks) t m o 0 (k ∷ ks)) (more_indices one (other ∷ []) refl (more_indices other [] refl no_indices))

fit_names : (c : Bool) (us : List Term) → HaveIndices us → HaveIndices (if_fit c us)
fit_names true us h = h
fit_names false us h = no_indices

with_names : (k : KeyType) (ks : List KeyType) (t : Ty) (u : Option Ty) (n m o : ℕ) → HaveIndices (names_with (k ∷ ks) t u n m o)
with_names k ks t None n m o = no_indices
with_names k ks t (Some IntTy) n m o = no_indices
with_names k ks t (Some BoolTy) n m o = no_indices
with_names k ks t (Some (UserTy u)) n m o = no_indices
with_names k ks t (Some (MapTy ls u)) n m o =
    fit_names (key_types_eq (k ∷ ks) ls && ty_eq t u) (names_at (k ∷ ks) t n m o) (at_names k ks t n m o)

names_indices : (v u : Option Ty) (n m o : ℕ) → HaveIndices (names_by v u n m o)
names_indices None u n m o = no_indices
names_indices (Some IntTy) u n m o = no_indices
names_indices (Some BoolTy) u n m o = no_indices
names_indices (Some (UserTy k)) u n m o = no_indices
names_indices (Some (MapTy [] t)) u n m o = no_indices
names_indices (Some (MapTy (k ∷ ks) t)) u n m o = with_names k ks t u n m o

brought_indices : (incs : List Ty) (ts : List Term) (l : Line) → HaveIndices (brought incs ts l)
brought_indices incs ts (Pick m a) = pick_indices (slice_get (types_with incs ts) m) m (slice_get ts a)
brought_indices incs ts (Names m o) =
    names_indices (slice_get (types_with incs ts) m) (slice_get (types_with incs ts) o) (length incs + length ts) m o
brought_indices incs ts (Says e) = no_indices

pub lines_indexed : (incs : List Ty) (ts : List Term) (ls : List Line) → HaveIndices ts → HaveIndices (after_lines incs ts ls)
lines_indexed incs ts [] h = h
lines_indexed incs ts (l ∷ ls) h =
    lines_indexed incs (after_line incs ts l) ls (indices_join ts (brought incs ts l) h (brought_indices incs ts l))
