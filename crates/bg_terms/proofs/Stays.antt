-- What is flat and typed stays so when terms come behind.
use Rattle.std.proofs.Common.{◌≡◌, ℕ, List, [], ◌∷◌, ◌++◌, map, refl, sym, ap, subst}
use Rattle.bg_ast.specs.Values.{Ty, IntTy, BoolTy}
use Rattle.bg_ast.specs.Syntax.{Ex, Exs, Number, Fact, Constant, Read, Local, Global, Not, Negative, Binary, Apply, Select, Update, Old, NoMore, More, Fun}
use Rattle.bg_terms.specs.Terms.{Head, Applies, Selects, Updates, Differs, Term}
use Rattle.bg_terms.specs.Flat.{IsTerm, IsFlat, AreFlat}
use Rattle.bg_terms.specs.Alike.{HasFlatType}
use Rattle.bg_terms.specs.Typed.{HaveFlatTypes, HeadHasType, type_of, types_with}
use Rattle.bg_terms.proofs.Typed.{op_map, at_front}

module _ (n : ℕ) (ts us : List Term) where
  term_stays : (h : Head) (xs : Exs) (x : Ex) → IsTerm n ts h xs x → IsTerm n (ts ++ us) h xs x
  term_stays h xs x is =
      record {
        number = is.number;
        term = is.term;
        is_there = at_front ts us is.number is.term is.is_there;
        head = is.head;
        args = is.args;
        reads = is.reads;
      }

  mutual
    pub flat_stays : (e x : Ex) → IsFlat n ts e x → IsFlat n (ts ++ us) e x
    flat_stays (Number z) x h = h
    flat_stays (Fact b) x h = h
    flat_stays (Constant k) x h = h
    flat_stays (Read (Local j)) x h = h
    flat_stays (Read (Global j)) x h = h
    flat_stays (Not e) x h = (h.0, (h.1.0, flat_stays e h.0 h.1.1))
    flat_stays (Negative e) x h = (h.0, (h.1.0, flat_stays e h.0 h.1.1))
    flat_stays (Binary op a b) x h =
        (h.0, (h.1.0, (h.1.1.0, (flat_stays a h.0 h.1.1.1.0, flat_stays b h.1.0 h.1.1.1.1))))
    flat_stays (Apply f es) x h = (h.0, (flats_stay es h.0 h.1.0, term_stays (Applies f) h.0 x h.1.1))
    flat_stays (Select m es) x (ks, (u, (y, (ys, (hm, (hs, ht)))))) =
        (ks, (u, (y, (ys, (flat_stays m y hm, (flats_stay es ys hs, term_stays (Selects ks u) (More y ys) x ht))))))
    flat_stays (Update m es e) x (ks, (u, (y, (ys, (z, (hm, (hs, (he, ht)))))))) =
        (ks, (u, (y, (ys, (z, (flat_stays m y hm, (flats_stay es ys hs, (flat_stays e z he, term_stays (Updates ks u) (More y (More z ys)) x ht))))))))
    flat_stays (Old e) x h = flat_stays e x h

    pub flats_stay : (es xs : Exs) → AreFlat n ts es xs → AreFlat n (ts ++ us) es xs
    flats_stay NoMore xs h = h
    flats_stay (More e es) xs h =
        (h.0, (h.1.0, (h.1.1.0, (flat_stays e h.0 h.1.1.1.0, flats_stay es h.1.0 h.1.1.1.1))))

-- ---- types

types_join : (incs : List Ty) (ts us : List Term) → types_with incs (ts ++ us) ≡ types_with incs ts ++ map type_of us
types_join [] [] us = refl
types_join [] (t ∷ ts) us = ap (λ xs. type_of t ∷ xs) (types_join [] ts us)
types_join (i ∷ incs) ts us = ap (λ xs. i ∷ xs) (types_join incs ts us)

module _ (tys more : List Ty) where
  type_stays : (x : Ex) (t : Ty) → HasFlatType tys x t → HasFlatType (tys ++ more) x t
  type_stays (Number z) t h = h
  type_stays (Fact b) t h = h
  type_stays (Constant k) t h = h
  type_stays (Read (Local j)) t h = at_front tys more j t h
  type_stays (Read (Global j)) t h = h
  type_stays (Not x) t h = (h.0, type_stays x BoolTy h.1)
  type_stays (Negative x) t h = (h.0, type_stays x IntTy h.1)
  type_stays (Binary op x y) t h =
      op_map op (HasFlatType tys x) (HasFlatType tys y) (HasFlatType (tys ++ more) x) (HasFlatType (tys ++ more) y) t (type_stays x) (type_stays y) h
  type_stays (Apply f es) t h = h
  type_stays (Select m es) t h = h
  type_stays (Update m es x) t h = h
  type_stays (Old x) t h = h

  all_types_stay : (xs : Exs) (ts : List Ty) → HaveFlatTypes tys xs ts → HaveFlatTypes (tys ++ more) xs ts
  all_types_stay NoMore ts h = h
  all_types_stay (More x xs) [] h = h
  all_types_stay (More x xs) (t ∷ ts) h = (type_stays x t h.0, all_types_stay xs ts h.1)

  head_type_stays : (functions : List Fun) (h : Head) (xs : Exs) (t : Ty) → HeadHasType functions tys h xs t → HeadHasType functions (tys ++ more) h xs t
  head_type_stays functions (Applies f) xs t h =
      (h.0, (h.1.0, (h.1.1.0, all_types_stay xs h.0.params h.1.1.1)))
  head_type_stays functions (Selects ks u) xs t h = (h.0, all_types_stay xs _ h.1)
  head_type_stays functions (Updates ks u) xs t h = (h.0, all_types_stay xs _ h.1)
  head_type_stays functions (Differs ks u j) xs t h =
      (h.0, (h.1.0, (h.1.1.0, all_types_stay xs _ h.1.1.1)))

pub typed_stays : (incs : List Ty) (ts us : List Term) (x : Ex) (t : Ty) → HasFlatType (types_with incs ts) x t → HasFlatType (types_with incs (ts ++ us)) x t
typed_stays incs ts us x t h =
    subst (λ tys. HasFlatType tys x t) (sym (types_join incs ts us)) (type_stays (types_with incs ts) (map type_of us) x t h)

pub head_stays : (functions : List Fun) (incs : List Ty) (ts us : List Term) (h : Head) (xs : Exs) (t : Ty) → HeadHasType functions (types_with incs ts) h xs t → HeadHasType functions (types_with incs (ts ++ us)) h xs t
head_stays functions incs ts us h xs t k =
    subst (λ tys. HeadHasType functions tys h xs t) (sym (types_join incs ts us)) (head_type_stays (types_with incs ts) (map type_of us) functions h xs t k)
