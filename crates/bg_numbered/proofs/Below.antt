-- A flat expression is over the incarnations and terms that are there.
use Rattle.std.proofs.Common.{◌≡◌, ℕ, zero, suc, ◌+◌, ◌<◌, Bool, true, List, [], ◌∷◌, ◌++◌, length, Some, refl, ap, ◌∙◌, subst, arith, nat_lt}
use Rattle.std.specs.Prelude.{slice_get, ◌&&◌}
use Rattle.std.proofs.lemmas.Bool.{lt-ltb}
use Rattle.bg_ast.specs.Syntax.{Ex, Exs, Number, Fact, Constant, Read, Local, Global, Not, Negative, Binary, Apply, Select, Update, Old, NoMore, More}
use Rattle.bg_sense.proofs.Bools.{and_left, and_right}
use Rattle.bg_terms.specs.Terms.{Head, Term, is_below, are_below, are_in_order}
use Rattle.bg_terms.specs.Flat.{IsTerm, IsFlat, AreFlat}

pub and_both : {a b : Bool} → a ≡ true → b ≡ true → (a && b) ≡ true
and_both h k = rw (h, k) refl

pub lt_true : (j n : ℕ) → j < n → nat_lt j n ≡ true
lt_true j n h = lt-ltb j n h

pub inside : {A : Type 0} (xs : List A) (j : ℕ) (x : A) → slice_get xs j ≡ Some x → j < length xs
inside [] j x e = absurd (let bad : ⊥ = cc in bad)
inside (y ∷ xs) zero x e = omega arith
inside (y ∷ xs) (suc j) x e = let h = inside xs j x e in omega (arith, h)

module _ (n : ℕ) (ts : List Term) where
  abbrev many : ℕ
  many = n + length ts

  term_below : (h : Head) (xs : Exs) (x : Ex) → IsTerm n ts h xs x → is_below many x ≡ true
  term_below h xs x is =
      let k = inside ts is.number is.term is.is_there in
      ap (is_below many) is.reads ∙ lt_true (n + is.number) many (omega (arith, k))

  mutual
    flat_below : (e x : Ex) → IsFlat n ts e x → is_below many x ≡ true
    flat_below (Number z) x h = ap (is_below many) h
    flat_below (Fact b) x h = ap (is_below many) h
    flat_below (Constant k) x h = absurd h
    flat_below (Read (Local j)) x h =
        let l = h.1 in
        ap (is_below many) h.0 ∙ lt_true j many (omega (arith, l))
    flat_below (Read (Global j)) x h = absurd h
    flat_below (Not e) x h = ap (is_below many) h.1.0 ∙ flat_below e h.0 h.1.1
    flat_below (Negative e) x h = ap (is_below many) h.1.0 ∙ flat_below e h.0 h.1.1
    flat_below (Binary op a b) x h =
        ap (is_below many) h.1.1.0 ∙ and_both (flat_below a h.0 h.1.1.1.0) (flat_below b h.1.0 h.1.1.1.1)
    flat_below (Apply f es) x h = term_below _ _ x h.1.1
    flat_below (Select m es) x (ks, (u, (y, (ys, (hm, (hs, ht)))))) = term_below _ _ x ht
    flat_below (Update m es e) x (ks, (u, (y, (ys, (z, (hm, (hs, (he, ht)))))))) = term_below _ _ x ht
    flat_below (Old e) x h = flat_below e x h

    pub flats_below : (es xs : Exs) → AreFlat n ts es xs → are_below many xs ≡ true
    flats_below NoMore xs h = ap (are_below many) h
    flats_below (More e es) xs h =
        ap (are_below many) h.1.1.0 ∙ and_both (flat_below e h.0 h.1.1.1.0) (flats_below es h.1.0 h.1.1.1.1)

-- one more term behind, of which the arguments are over what is there
pub in_order_more : (n : ℕ) (ts : List Term) (t : Term) → are_in_order n ts ≡ true → are_below (n + length ts) t.args ≡ true → are_in_order n (ts ++ t ∷ []) ≡ true
in_order_more n [] t h k = and_both (subst (λ m. are_below m t.args ≡ true) (omega arith) k) refl
in_order_more n (u ∷ ts) t h k =
    and_both (and_left _ _ h) (in_order_more (suc n) ts t (and_right _ _ h) (subst (λ m. are_below m t.args ≡ true) (omega arith) k))
