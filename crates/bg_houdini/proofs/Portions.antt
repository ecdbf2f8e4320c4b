-- Implementations that were prepared in pieces are all prepared.
use Rattle.std.proofs.Common.{◌≡◌, ℕ, zero, suc, ◌+◌, ◌*◌, ◌-◌, ◌<◌, ◌≤◌, min, List, [], ◌∷◌, ◌++◌, length, get_or, Some, Ok, Err, IfOk, refl, sym, ap, ◌∙◌, subst, arith}
use Rattle.std.specs.Prelude.{slice_get}
use Rattle.std.proofs.lemmas.List.{length-append}
use Rattle.bg_ast.specs.Resolved as r
use Rattle.bg_task.specs.declared.prepared.Prepared.{Prepared}
use Rattle.bg_task.specs.Prepared.{IsPrepared}
use Rattle.bg_houdini.specs.Checkers.{IsPortion}
use Rattle.bg_houdini.specs.Pieces.{Piece, Joins}
use Rattle.bg_houdini.proofs.Once.{if_ok, last_or}

-- an item of two lists
either_or : {A : Type 0} (xs ys : List A) (k : ℕ) (x : A) (P : ℕ → A → Type 0) → ((j : ℕ) (z : A) → slice_get xs j ≡ Some z → P j z)
    → ((j : ℕ) (z : A) → slice_get ys j ≡ Some z → P (length xs + j) z) → slice_get (xs ++ ys) k ≡ Some x → P k x
either_or [] ys k x P f g e = let z : 0 + k ≡ k = omega arith in subst (λ (j : ℕ). P j x) z (g k x e)
either_or (y ∷ xs) ys zero x P f g e = f 0 x e
either_or (y ∷ xs) ys (suc k) x P f g e =
    either_or xs ys k x (λ j. P (suc j)) (λ j z h. f (suc j) z h)
    (λ j z h. let q : length (y ∷ xs) + j ≡ suc (length xs + j) = omega arith in subst (λ (i : ℕ). P i z) q (g j z h)) e

module _ (p : r.Program) where
  pub none_portion : (first : ℕ) → IsPortion p first 0 []
  none_portion first = record {
    count_is = refl;
    each = λ k w e. let bad : ⊥ = cc in absurd bad;
  }

  -- one more implementation
  pub one_portion : (first n : ℕ) (ws : List Prepared) (w : Prepared) → IsPortion p first n ws → IsPrepared p (first + n) w → IsPortion p first (n + 1) (ws ++ (w ∷ []))
  one_portion first n ws w h one = record {
    count_is = length-append ws (w ∷ []) ∙ ap (λ (k : ℕ). k + 1) h.count_is;
    each = λ k x e. last_or ws w k x (λ j. IsPrepared p (first + j)) h.each (subst (λ (j : ℕ). IsPrepared p (first + j) w) (sym h.count_is) one) e;
  }

  -- implementations, and those behind them
  both_portions : (first m n : ℕ) (ws vs : List Prepared) → IsPortion p first m ws → IsPortion p (first + m) n vs → IsPortion p first (m + n) (ws ++ vs)
  both_portions first m n ws vs h g = record {
    count_is = length-append ws vs ∙ (ap (λ (j : ℕ). j + length vs) h.count_is ∙ ap (λ (j : ℕ). m + j) g.count_is);
    each =
        λ k w e. either_or ws vs k w (λ j. IsPrepared p (first + j)) h.each
        (λ j z q. let s : first + m + j ≡ first + (length ws + j) = let c = h.count_is in omega (arith, c) in subst (λ (i : ℕ). IsPrepared p i z) s (g.each j z q)) e;
  }

  -- where there are none, their number is no matter
  moved : (i j n : ℕ) (ws : List Prepared) → (0 < n → i ≡ j) → IsPortion p i n ws → IsPortion p j n ws
  moved i j zero [] e h = none_portion j
  moved i j zero (w ∷ ws) e h = absurd (let c = h.count_is in omega (arith, c))
  moved i j (suc n) ws e h = subst (λ (q : ℕ). IsPortion p q (suc n) ws) (e (omega arith)) h

  -- what pieces of this size have is all
  pub all_portions : (size : ℕ) → 0 < size → (k count : ℕ) (rs : List (Piece Prepared)) (ys : List Prepared)
      → ((n : ℕ) (d : Piece Prepared) → n < length rs → IfOk (get_or rs n d) (λ v. IsPortion p (k + n * size) (min size (count - n * size)) v.items))
      → count ≤ length rs * size → Joins rs ys → IsPortion p k count ys
  all_portions size some k count [] ys each l h =
      let z : 0 * size ≡ 0 = omega arith in
      let none : 0 ≡ count = omega (arith, l, z) in
      subst (λ (us : List Prepared). IsPortion p k count us) (sym h) (subst (λ (j : ℕ). IsPortion p k j []) none (none_portion k))
  all_portions size some k count (Err e ∷ rs) ys each l h = absurd h
  all_portions size some k count (Ok v ∷ rs) ys each l h =
      let zs = h.0 in
      let z : 0 * size ≡ 0 = omega arith in
      let z' : k + 0 ≡ k = omega arith in
      let z'' : count - 0 ≡ count = omega arith in
      let here : IsPortion p k (min size count) v.items =
      subst (λ (q : ℕ). IsPortion p q (min size count) v.items) z'
      (subst (λ (q : ℕ). IsPortion p (k + 0) (min size q) v.items) z''
      (subst (λ (q : ℕ). IsPortion p (k + q) (min size (count - q)) v.items) z (each 0 (Ok v) (omega arith)))) in
      let t = length rs * size in
      let short : count - size ≤ t = let m : suc (length rs) * size ≡ size + t = one_time (length rs) size in omega (arith, l, m) in
      let rest : IsPortion p (k + size) (count - size) zs = all_portions size some (k + size) (count - size) rs zs (λ n d m. later n d (each (suc n) d (omega (arith, m)))) short h.2 in
      let put : IsPortion p (k + min size count) (count - size) zs = moved (k + size) (k + min size count) (count - size) zs (λ some'. omega (arith, some')) rest in
      let whole : min size count + (count - size) ≡ count = omega arith in
      subst (λ (us : List Prepared). IsPortion p k count us) (sym h.1)
      (subst (λ (q : ℕ). IsPortion p k q (v.items ++ zs)) whole (both_portions k (min size count) (count - size) v.items zs here put))
    where
      one_time : (n q : ℕ) → suc n * q ≡ q + n * q
      one_time n q = omega arith

      later : (n : ℕ) (d : Piece Prepared) → IfOk (get_or (Ok v ∷ rs) (suc n) d) (λ v. IsPortion p (k + suc n * size) (min size (count - suc n * size)) v.items)
          → IfOk (get_or rs n d) (λ v. IsPortion p (k + size + n * size) (min size (count - size - n * size)) v.items)
      later n d g =
          if_ok (get_or rs n d)
          (λ v h.
          let m : suc n * size ≡ size + n * size = one_time n size in
          let a : k + (size + n * size) ≡ k + size + n * size = omega arith in
          let b : count - (size + n * size) ≡ count - size - n * size = omega arith in
          subst (λ (q : ℕ). IsPortion p q (min size (count - size - n * size)) v.items) a
          (subst (λ (q : ℕ). IsPortion p (k + (size + n * size)) (min size q) v.items) b
          (subst (λ (q : ℕ). IsPortion p (k + q) (min size (count - q)) v.items) m h)))
          g
