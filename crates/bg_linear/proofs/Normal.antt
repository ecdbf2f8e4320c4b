-- Entries rise, and none is zero, after every operation.
use Rattle.std.proofs.Common.{◌≡◌, ℕ, suc, ◌<◌, ◌≤◌, ◌==◌, Bool, true, false, List, [], ◌∷◌, ℤ, refl, arith, cond, nat_lt}
use Rattle.std.specs.Prelude.{Result, Ok}
use Rattle.std.proofs.lemmas.Bool.Decides.{nat_tests}
use Rattle.bg_base.specs.declared.exact.Op.{Op}
use Rattle.bg_base.specs.declared.exact.OutOfRange.{OutOfRange}
use Rattle.bg_rows.specs.declared.entry.Entry.{Entry}
use Rattle.bg_rows.specs.Entries.{is_zero, rising, coefficient}
use Rattle.bg_rows.specs.Rows.{entry, put}
use Rattle.bg_rows.proofs.Meaning.{first_of_two}
use Rattle.bg_rows.proofs.Normal.{Normal, from_rising, to_rising, normal_lower}
use Rattle.bg_linear.specs.declared.scaled.Change.{Change}
use Rattle.bg_linear.specs.Lins.{operate, without, with_entry, with_coefficient, joined, each}
use Rattle.bg_linear.specs.Views.{changing}

put_normal : (low x : ℕ) (c : ℤ) (ts : List Entry) → low ≤ x → Normal (suc x) ts → Normal low (put x c ts)
put_normal low x c ts le n = by_zero (is_zero c) refl
  where
    by_zero : (z : Bool) → is_zero c ≡ z → Normal low (cond z ts (entry x c ∷ ts))
    by_zero true e = normal_lower low (suc x) ts (omega arith) n
    by_zero false e = (le, e, n)

pub each_normal : (step : ℤ → Result ℤ OutOfRange) (low : ℕ) (ts us : List Entry) → Normal low ts → each step ts ≡ Ok us → Normal low us
each_normal step low [] us n h = let is : [] ≡ us = cc in rw (← is) tt
each_normal step low (t ∷ ts) us n h =
    let one = first_of_two (step t.by) _ us h in
    let two = first_of_two (each step ts) _ us one.2 in
    let is : put t.variable one.0 two.0 ≡ us = cc in
    rw (← is) (put_normal low t.variable one.0 two.0 n.0 (each_normal step (suc t.variable) ts two.0 n.2 two.1))

without_normal : (x low : ℕ) (ts : List Entry) → Normal low ts → Normal low (without x ts)
without_normal x low [] n = tt
without_normal x low (t ∷ ts) n = by_same (x == t.variable) (without_normal x (suc t.variable) ts n.2)
  where
    by_same : (b : Bool) → Normal (suc t.variable) (without x ts) → Normal low (cond b ts (t ∷ without x ts))
    by_same true r = normal_lower low (suc t.variable) ts (let h = n.0 in omega arith) n.2
    by_same false r = (n.0, n.1, r)

with_normal : (x : ℕ) (c : ℤ) (low : ℕ) (ts : List Entry) → low ≤ x → is_zero c ≡ false → Normal low ts → Normal low (with_entry x c ts)
with_normal x c low [] le z n = (le, z, tt)
with_normal x c low (t ∷ ts) le z n =
    by_less (nat_lt x t.variable) (x == t.variable) refl refl (λ h. with_normal x c (suc t.variable) ts h z n.2)
  where
    by_less : (l b : Bool) → nat_lt x t.variable ≡ l → (x == t.variable) ≡ b → (suc t.variable ≤ x → Normal (suc t.variable) (with_entry x c ts)) → Normal low (cond l (entry x c ∷ t ∷ ts) (cond b (entry x c ∷ ts) (t ∷ with_entry x c ts)))
    by_less true b p q r =
        let lt : x < t.variable = grind (arith, nat_tests) in
        (le, z, (lt, n.1, n.2))
    by_less false true p q r =
        let same : t.variable ≡ x = grind (arith, nat_tests) in
        let m : Normal (suc x) ts = rw (← same) n.2 in
        (le, z, m)
    by_less false false p q r =
        let lt : suc t.variable ≤ x = grind (arith, nat_tests) in
        (n.0, n.1, r lt)

pub set_normal : (x : ℕ) (c : ℤ) (ts : List Entry) → Normal 0 ts → Normal 0 (with_coefficient x c ts)
set_normal x c ts n = by_zero (is_zero c) refl
  where
    by_zero : (z : Bool) → is_zero c ≡ z → Normal 0 (cond z (without x ts) (with_entry x c ts))
    by_zero true e = without_normal x 0 ts n
    by_zero false e = with_normal x c 0 ts (omega arith) e n

pub joined_normal : (op : Op) (ts us ws : List Entry) → Normal 0 ts → joined op ts us ≡ Ok ws → Normal 0 ws
joined_normal op ts [] ws n h = let is : ts ≡ ws = cc in rw (← is) n
joined_normal op ts (u ∷ us) ws n h =
    let one = first_of_two (operate op (coefficient u.variable ts) u.by) _ ws h in
    joined_normal op (with_coefficient u.variable one.0 ts) us ws (set_normal u.variable one.0 ts n) one.2

-- ---- the same, by the test

pub each_stay : (how : Change) (ts us : List Entry) → rising 0 ts ≡ true → each (changing how) ts ≡ Ok us → rising 0 us ≡ true
each_stay how ts us n h = to_rising 0 us (each_normal (changing how) 0 ts us (from_rising 0 ts n) h)

pub joined_stay : (op : Op) (ts us ws : List Entry) → rising 0 ts ≡ true → joined op ts us ≡ Ok ws → rising 0 ws ≡ true
joined_stay op ts us ws n h = to_rising 0 ws (joined_normal op ts us ws (from_rising 0 ts n) h)
