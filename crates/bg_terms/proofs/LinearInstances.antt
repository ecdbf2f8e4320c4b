-- Instances of linear terms are linear.
use Rattle.std.proofs.Common.{◌≡◌, ℕ, zero, suc, Bool, true, false, if◌then◌else◌, List, [], ◌∷◌, Option, Some, None, refl}
use Rattle.std.specs.Prelude.{slice_get, ◌&&◌}
use Rattle.bg_ast.specs.Values.{Ty, KeyType}
use Rattle.bg_ast.specs.Syntax.{Ex, Exs, Number, Fact, Constant, Read, Local, Global, Not, Negative, Binary, Apply, Select, Update, Old, NoMore, More}
use Rattle.bg_sense.specs.Typed.{IsLinear, AreLinear}
use Rattle.bg_terms.specs.Terms.{Head, Applies, Selects, Updates, Differs, Term, head_eq}
use Rattle.bg_terms.specs.Instances.{Instance, Congruent, AtIndex, Elsewhere, Apart, all_equal, congruent, at_index_of, elsewhere_of, accesses, at_index, elsewhere, term_at, is_part, read_at, are_parts, apart_by, apart, instance_ex}

module _ (n : ℕ) (ts : List Term) (linear : (a : ℕ) (t : Term) → slice_get ts a ≡ Some t → AreLinear t.args) where
  alike : (xs ys : Exs) → AreLinear xs → AreLinear ys → IsLinear (all_equal xs ys)
  alike NoMore NoMore h k = tt
  alike NoMore (More y ys) h k = tt
  alike (More x xs) NoMore h k = tt
  alike (More x xs) (More y ys) h k = (tt, (tt, h.0, k.0), alike xs ys h.1 k.1)

  if_linear : (b : Bool) (x : Ex) → IsLinear x → IsLinear (if b then x else Fact true)
  if_linear true x h = h
  if_linear false x h = tt

  congruent_linear : (a b : ℕ) (s t : Option Term) → slice_get ts a ≡ s → slice_get ts b ≡ t → IsLinear (congruent n a b s t)
  congruent_linear a b None t e f = tt
  congruent_linear a b (Some s) None e f = tt
  congruent_linear a b (Some s) (Some t) e f =
      if_linear (head_eq s.head t.head) _ (tt, alike s.args t.args (linear a s e) (linear b t f), (tt, tt, tt))

  at_index_linear_of : (u s : ℕ) (xs ys : Exs) → AreLinear xs → AreLinear ys → IsLinear (at_index_of n u s xs ys)
  at_index_linear_of u s NoMore ys h k = tt
  at_index_linear_of u s (More m NoMore) ys h k = tt
  at_index_linear_of u s (More m (More v xs)) NoMore h k = tt
  at_index_linear_of u s (More m (More v xs)) (More y ys) h k =
      (tt, (tt, (tt, k.0, tt), alike xs ys h.1.1 k.1), (tt, tt, h.1.0))

  at_index_linear : (u s : ℕ) (o r : Option Term) → slice_get ts u ≡ o → slice_get ts s ≡ r → IsLinear (at_index n u s o r)
  at_index_linear u s None r e f = tt
  at_index_linear u s (Some t) None e f = tt
  at_index_linear u s (Some t) (Some a) e f =
      if_linear (accesses t.head a.head) _ (at_index_linear_of u s t.args a.args (linear u t e) (linear s a f))

  elsewhere_linear_of : (u s r : ℕ) (xs ys zs : Exs) → AreLinear xs → AreLinear ys → AreLinear zs → IsLinear (elsewhere_of n u s r xs ys zs)
  elsewhere_linear_of u s r NoMore ys zs h k l = tt
  elsewhere_linear_of u s r (More m NoMore) ys zs h k l = tt
  elsewhere_linear_of u s r (More m (More v xs)) NoMore zs h k l = tt
  elsewhere_linear_of u s r (More m (More v xs)) (More y ys) NoMore h k l = tt
  elsewhere_linear_of u s r (More m (More v xs)) (More y ys) (More z zs) h k l =
      (tt, (tt, (tt, (tt, k.0, tt), (tt, l.0, h.0)), (tt, alike ys zs k.1 l.1, alike xs ys h.1.1 k.1)), (tt, tt, tt))

  elsewhere_linear : (u s r : ℕ) (o1 o2 o3 : Option Term) → slice_get ts u ≡ o1 → slice_get ts s ≡ o2 → slice_get ts r ≡ o3 → IsLinear (elsewhere n u s r o1 o2 o3)
  elsewhere_linear u s r None o2 o3 e f g = tt
  elsewhere_linear u s r (Some t) None o3 e f g = tt
  elsewhere_linear u s r (Some t) (Some a) None e f g = tt
  elsewhere_linear u s r (Some t) (Some a) (Some b) e f g =
      if_linear (accesses t.head a.head && accesses t.head b.head) _ (elsewhere_linear_of u s r t.args a.args b.args (linear u t e) (linear s a f) (linear r b g))

  term_there : (m k : ℕ) (d : Term) → term_at m ts k ≡ Some d → (a : ℕ) × (slice_get ts a ≡ Some d)
  term_there zero k d e = (k, e)
  term_there (suc m) zero d e = absurd (let bad : ⊥ = cc in bad)
  term_there (suc m) (suc k) d e = term_there m k d e

  read_there : (q : Ex) (d : Term) → read_at n ts q ≡ Some d → (a : ℕ) × (slice_get ts a ≡ Some d)
  read_there (Read (Local k)) d e = term_there n k d e
  read_there (Read (Global k)) d e = absurd (let bad : ⊥ = cc in bad)
  read_there (Number z) d e = absurd (let bad : ⊥ = cc in bad)
  read_there (Fact b) d e = absurd (let bad : ⊥ = cc in bad)
  read_there (Constant k) d e = absurd (let bad : ⊥ = cc in bad)
  read_there (Not x) d e = absurd (let bad : ⊥ = cc in bad)
  read_there (Negative x) d e = absurd (let bad : ⊥ = cc in bad)
  read_there (Binary op x y) d e = absurd (let bad : ⊥ = cc in bad)
  read_there (Apply f xs) d e = absurd (let bad : ⊥ = cc in bad)
  read_there (Select m xs) d e = absurd (let bad : ⊥ = cc in bad)
  read_there (Update m xs x) d e = absurd (let bad : ⊥ = cc in bad)
  read_there (Old x) d e = absurd (let bad : ⊥ = cc in bad)

  module _ (ks : List KeyType) (t : Ty) (m o : Ex) (hm : IsLinear m) (ho : IsLinear o) where
    else_linear : (b : Bool) (x : Ex) → IsLinear x → IsLinear (if b then x else Fact false)
    else_linear true x h = h
    else_linear false x h = tt

    part_linear : (j : ℕ) (w : Option Term) → ((d : Term) → w ≡ Some d → (a : ℕ) × (slice_get ts a ≡ Some d)) → IsLinear (is_part ks t j m o w)
    part_linear j None there = tt
    part_linear j (Some d) there =
        let w = there d refl in
        else_linear (head_eq d.head (Differs ks t j)) _ (alike d.args (More m (More o NoMore)) (linear w.0 d w.1) (hm, (ho, tt)))

    parts_linear : (j : ℕ) (ls : List KeyType) (qs : Exs) → IsLinear (are_parts n ts ks t j m o ls qs)
    parts_linear j [] NoMore = tt
    parts_linear j [] (More q qs) = tt
    parts_linear j (k ∷ ls) NoMore = tt
    parts_linear j (k ∷ ls) (More q qs) =
        (tt, part_linear j (read_at n ts q) (read_there q), parts_linear (suc j) ls qs)

  apart_by_linear : (s r : ℕ) (h : Head) (xs ys : Exs) → AreLinear xs → AreLinear ys → IsLinear (apart_by n ts s r h xs ys)
  apart_by_linear s r (Selects ks t) NoMore ys h k = tt
  apart_by_linear s r (Selects ks t) (More m xs) NoMore h k = tt
  apart_by_linear s r (Selects ks t) (More m xs) (More o ys) h k =
      (tt, (tt, (tt, parts_linear ks t m o h.0 k.0 0 ks xs, alike xs ys h.1 k.1), (tt, tt, tt)), (tt, h.0, k.0))
  apart_by_linear s r (Applies f) xs ys h k = tt
  apart_by_linear s r (Updates ks t) xs ys h k = tt
  apart_by_linear s r (Differs ks t j) xs ys h k = tt

  apart_linear : (s r : ℕ) (o w : Option Term) → slice_get ts s ≡ o → slice_get ts r ≡ w → IsLinear (apart n ts s r o w)
  apart_linear s r None w e f = tt
  apart_linear s r (Some a) None e f = tt
  apart_linear s r (Some a) (Some b) e f =
      if_linear (head_eq a.head b.head) _ (apart_by_linear s r a.head a.args b.args (linear s a e) (linear r b f))

  pub instance_linear : (e : Instance) → IsLinear (instance_ex n ts e)
  instance_linear (Congruent a b) = congruent_linear a b (slice_get ts a) (slice_get ts b) refl refl
  instance_linear (AtIndex u s) = at_index_linear u s (slice_get ts u) (slice_get ts s) refl refl
  instance_linear (Elsewhere u s r) =
      elsewhere_linear u s r (slice_get ts u) (slice_get ts s) (slice_get ts r) refl refl refl
  instance_linear (Apart s r) = apart_linear s r (slice_get ts s) (slice_get ts r) refl refl
