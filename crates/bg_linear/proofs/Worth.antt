-- What operations on forms do to their worth.
use Rattle.std.proofs.Common.{◌≡◌, ℕ, zero, suc, ◌<◌, ◌==◌, Bool, true, false, List, [], ◌∷◌, ℤ, pos, negsuc, ◌+ℤ◌, ◌-ℤ◌, ◌*ℤ◌, neg_ℤ, refl, sym, ap, ◌∙◌, arith, cond, nat_lt}
use Rattle.std.specs.Prelude.{Result, Ok}
use Rattle.std.proofs.lemmas.Bool.Decides.{nat_tests}
use Rattle.std.proofs.lemmas.Int.{ints}
use Rattle.std.proofs.Math.IntN.{zero-*ℤ, *ℤ-zero, *ℤ_comm, pred_ℤ-*ℤ}
use Rattle.bg_base.specs.declared.exact.Op.TheVariants as op
use Rattle.bg_base.specs.declared.exact.OutOfRange.{OutOfRange}
use Rattle.bg_base.specs.Exact.{sum_of, difference_of, product_of, negation_of}
use Rattle.bg_base.proofs.Ring.{distributes, distributes_right, associates, negation_of_product}
use Rattle.bg_rows.specs.declared.entry.Entry.{Entry}
use Rattle.bg_rows.specs.Entries.{is_zero, total, coefficient}
use Rattle.bg_rows.specs.Rows.{entry, put, is_empty}
use Rattle.bg_rows.proofs.Meaning.{first_of_two, sum_is, difference_is, product_is, negation_is, total_put}
use Rattle.bg_rows.proofs.Normal.{Normal}
use Rattle.bg_linear.specs.Lins.{LinOf, worth, without, with_entry, with_coefficient, joined, together, each, throughout, negative, product}
use Rattle.bg_linear.proofs.Normal.{set_normal}

-- ---- one coefficient

none_below : (x low : ℕ) (ts : List Entry) → x < low → Normal low ts → coefficient x ts ≡ pos 0
none_below x low [] lt n = refl
none_below x low (t ∷ ts) lt n =
    let le = n.0 in
    let e : (t.variable == x) ≡ false = grind (arith, nat_tests) in
    rw e (none_below x (suc t.variable) ts (omega arith) n.2)

swap_eq : (x y : ℕ) → (x == y) ≡ (y == x)
swap_eq x y = grind (arith, nat_tests)

same_is : (x y : ℕ) → (x == y) ≡ true → x ≡ y
same_is x y h = grind (arith, nat_tests)

module _ (v : ℕ → ℤ) where
  total_without : (x : ℕ) (ts : List Entry) → total v (without x ts) +ℤ (coefficient x ts *ℤ v x) ≡ total v ts
  total_without x [] = omega (arith, ints, zero-*ℤ (v x))
  total_without x (t ∷ ts) =
      ap (λ b. total v (cond b ts (t ∷ without x ts)) +ℤ (cond (t.variable == x) t.by (coefficient x ts) *ℤ v x)) (swap_eq x t.variable)
      ∙ by_same (t.variable == x) refl (total_without x ts)
    where
      by_same : (b : Bool) → (t.variable == x) ≡ b → total v (without x ts) +ℤ (coefficient x ts *ℤ v x) ≡ total v ts → total v (cond b ts (t ∷ without x ts)) +ℤ (cond b t.by (coefficient x ts) *ℤ v x) ≡ (t.by *ℤ v t.variable) +ℤ total v ts
      by_same true e r = omega (arith, ints, ap (λ y. t.by *ℤ v y) (same_is t.variable x e))
      by_same false e r = omega (arith, ints, r)

  total_with : (x : ℕ) (c : ℤ) (low : ℕ) (ts : List Entry) → Normal low ts → total v (with_entry x c ts) +ℤ (coefficient x ts *ℤ v x) ≡ total v ts +ℤ (c *ℤ v x)
  total_with x c low [] n = omega (arith, ints, zero-*ℤ (v x))
  total_with x c low (t ∷ ts) n =
      ap (λ b. total v (cond (nat_lt x t.variable) (entry x c ∷ t ∷ ts) (cond b (entry x c ∷ ts) (t ∷ with_entry x c ts))) +ℤ (cond (t.variable == x) t.by (coefficient x ts) *ℤ v x)) (swap_eq x t.variable)
      ∙ by_less (nat_lt x t.variable) (t.variable == x) refl refl (total_with x c (suc t.variable) ts n.2)
    where
      by_less : (l b : Bool) → nat_lt x t.variable ≡ l → (t.variable == x) ≡ b → total v (with_entry x c ts) +ℤ (coefficient x ts *ℤ v x) ≡ total v ts +ℤ (c *ℤ v x) → total v (cond l (entry x c ∷ t ∷ ts) (cond b (entry x c ∷ ts) (t ∷ with_entry x c ts))) +ℤ (cond b t.by (coefficient x ts) *ℤ v x) ≡ ((t.by *ℤ v t.variable) +ℤ total v ts) +ℤ (c *ℤ v x)
      by_less true true p e r = absurd (let bad : ⊥ = grind (arith, nat_tests) in bad)
      by_less true false p e r =
          let lt : x < suc t.variable = grind (arith, nat_tests) in
          omega (arith, ints, ap (λ z. z *ℤ v x) (none_below x (suc t.variable) ts lt n.2), zero-*ℤ (v x))
      by_less false true p e r = omega (arith, ints, ap (λ y. t.by *ℤ v y) (same_is t.variable x e))
      by_less false false p e r = omega (arith, ints, r)

  zero_is : (c : ℤ) → is_zero c ≡ true → c ≡ pos 0
  zero_is (pos n) h = ap pos (grind (arith, nat_tests))
  zero_is (negsuc n) h = absurd (cc)

  total_set : (x : ℕ) (c : ℤ) (ts : List Entry) → Normal 0 ts → total v (with_coefficient x c ts) +ℤ (coefficient x ts *ℤ v x) ≡ total v ts +ℤ (c *ℤ v x)
  total_set x c ts n = by_zero (is_zero c) refl
    where
      by_zero : (b : Bool) → is_zero c ≡ b → total v (cond b (without x ts) (with_entry x c ts)) +ℤ (coefficient x ts *ℤ v x) ≡ total v ts +ℤ (c *ℤ v x)
      by_zero true e = omega (arith, ints, total_without x ts, ap (λ z. z *ℤ v x) (zero_is c e), zero-*ℤ (v x))
      by_zero false e = total_with x c 0 ts n

  -- ---- sums and differences

  total_plus : (ts us ws : List Entry) → Normal 0 ts → joined op.Plus ts us ≡ Ok ws → total v ws ≡ total v ts +ℤ total v us
  total_plus ts [] ws n h = ap (total v) {x = ws} {y = ts} (cc) ∙ omega (arith, ints)
  total_plus ts (u ∷ us) ws n h =
      let a = coefficient u.variable ts in
      let one = first_of_two (sum_of a u.by) _ ws h in
      let c = one.0 in
      let rest = total_plus (with_coefficient u.variable c ts) us ws (set_normal u.variable c ts n) one.2 in
      let set = total_set u.variable c ts n in
      let is : c *ℤ v u.variable ≡ (a *ℤ v u.variable) +ℤ (u.by *ℤ v u.variable) = ap (λ z. z *ℤ v u.variable) (sum_is a u.by c one.1) ∙ distributes_right a u.by (v u.variable) in
      omega (arith, ints, rest, set, is)

  total_minus : (ts us ws : List Entry) → Normal 0 ts → joined op.Minus ts us ≡ Ok ws → total v ws ≡ total v ts -ℤ total v us
  total_minus ts [] ws n h = ap (total v) {x = ws} {y = ts} (cc) ∙ omega (arith, ints)
  total_minus ts (u ∷ us) ws n h =
      let a = coefficient u.variable ts in
      let one = first_of_two (difference_of a u.by) _ ws h in
      let c = one.0 in
      let rest = total_minus (with_coefficient u.variable c ts) us ws (set_normal u.variable c ts n) one.2 in
      let set = total_set u.variable c ts n in
      let is : c *ℤ v u.variable ≡ (a *ℤ v u.variable) +ℤ (neg_ℤ u.by *ℤ v u.variable) = ap (λ z. z *ℤ v u.variable) {x = c} {y = a +ℤ neg_ℤ u.by} (omega (arith, ints, difference_is a u.by c one.1)) ∙ distributes_right a (neg_ℤ u.by) (v u.variable) in
      omega (arith, ints, rest, set, is, negation_of_product u.by (v u.variable))

  pub worth_plus : (f g h : LinOf) → Normal 0 f.entries → together op.Plus f g ≡ Ok h → worth v h ≡ worth v f +ℤ worth v g
  worth_plus f g h n e =
      let one = first_of_two (joined op.Plus f.entries g.entries) _ h e in
      let two = first_of_two (sum_of f.constant g.constant) _ h one.2 in
      let is : h ≡ record { entries = one.0; constant = two.0 } = cc in
      ap (worth v) is ∙ omega (arith, ints, total_plus f.entries g.entries one.0 n one.1, sum_is f.constant g.constant two.0 two.1)

  pub worth_minus : (f g h : LinOf) → Normal 0 f.entries → together op.Minus f g ≡ Ok h → worth v h ≡ worth v f -ℤ worth v g
  worth_minus f g h n e =
      let one = first_of_two (joined op.Minus f.entries g.entries) _ h e in
      let two = first_of_two (difference_of f.constant g.constant) _ h one.2 in
      let is : h ≡ record { entries = one.0; constant = two.0 } = cc in
      ap (worth v) is ∙ omega (arith, ints, total_minus f.entries g.entries one.0 n one.1, difference_is f.constant g.constant two.0 two.1)

  -- ---- products

  abbrev Scales : (ℤ → Result ℤ OutOfRange) → ℤ → Type 0
  Scales step k = (c d : ℤ) → step c ≡ Ok d → d ≡ k *ℤ c

  total_each : (step : ℤ → Result ℤ OutOfRange) (k : ℤ) → Scales step k → (ts us : List Entry) → each step ts ≡ Ok us → total v us ≡ k *ℤ total v ts
  total_each step k s [] us h = ap (total v) {x = us} {y = []} (cc) ∙ sym (*ℤ-zero k)
  total_each step k s (t ∷ ts) us h =
      let one = first_of_two (step t.by) _ us h in
      let two = first_of_two (each step ts) _ us one.2 in
      let is : us ≡ put t.variable one.0 two.0 = cc in
      let rest = total_each step k s ts two.0 two.1 in
      ap (total v) is
      ∙ total_put v t.variable one.0 two.0
      ∙ ap (λ c. (c *ℤ v t.variable) +ℤ total v two.0) (s t.by one.0 one.1)
      ∙ omega (arith, ints, associates k t.by (v t.variable), distributes k (t.by *ℤ v t.variable) (total v ts), rest)

  worth_throughout : (step : ℤ → Result ℤ OutOfRange) (k : ℤ) → Scales step k → (f h : LinOf) → throughout step f ≡ Ok h → worth v h ≡ k *ℤ worth v f
  worth_throughout step k s f h e =
      let one = first_of_two (each step f.entries) _ h e in
      let two = first_of_two (step f.constant) _ h one.2 in
      let is : h ≡ record { entries = one.0; constant = two.0 } = cc in
      ap (worth v) is
      ∙ omega (arith, ints, total_each step k s f.entries one.0 one.1, s f.constant two.0 two.1, distributes k (total v f.entries) f.constant)

  minus_one : (c : ℤ) → negsuc 0 *ℤ c ≡ neg_ℤ c
  minus_one c = omega (arith, ints, pred_ℤ-*ℤ (pos zero) c, zero-*ℤ c)

  pub worth_negative : (f h : LinOf) → negative f ≡ Ok h → worth v h ≡ neg_ℤ (worth v f)
  worth_negative f h e =
      worth_throughout negation_of (negsuc 0) (λ c d q. negation_is c d q ∙ sym (minus_one c)) f h e
      ∙ minus_one (worth v f)

  bare_worth : (f : LinOf) → is_empty f.entries ≡ true → worth v f ≡ f.constant
  bare_worth f e = by_entries f.entries e
    where
      by_entries : (ts : List Entry) → is_empty ts ≡ true → total v ts +ℤ f.constant ≡ f.constant
      by_entries [] e = omega (arith, ints)
      by_entries (t ∷ ts) e = absurd (let bad : ⊥ = cc in bad)

  -- one side of a product is a number
  pub worth_product : (f g h : LinOf) → (is_empty g.entries ≡ false → is_empty f.entries ≡ true) → product f g ≡ Ok h → worth v h ≡ worth v f *ℤ worth v g
  worth_product f g h one e = by_empty (is_empty g.entries) refl e
    where
      by_empty : (b : Bool) → is_empty g.entries ≡ b → cond b (throughout (λ c. product_of c g.constant) f) (throughout (λ c. product_of f.constant c) g) ≡ Ok h → worth v h ≡ worth v f *ℤ worth v g
      by_empty true q e =
          worth_throughout (λ c. product_of c g.constant) g.constant (λ c d q. product_is c g.constant d q ∙ *ℤ_comm c g.constant) f h e
          ∙ *ℤ_comm g.constant (worth v f)
          ∙ ap (λ z. worth v f *ℤ z) (sym (bare_worth g q))
      by_empty false q e =
          worth_throughout (λ c. product_of f.constant c) f.constant (λ c d q. product_is f.constant c d q) g h e
          ∙ ap (λ z. z *ℤ worth v g) (sym (bare_worth f (one q)))
