-- The entries of every linear form rise, and those of a constant are none.
use Rattle.std.proofs.Common.{◌≡◌, Bool, true, false, List, [], ◌∷◌, ℤ, pos, refl, arith, cond}
use Rattle.std.specs.Prelude.{Result, Ok, slice_get}
use Rattle.bg_base.specs.declared.exact.Op.{Op}
use Rattle.bg_base.specs.declared.exact.Op.TheVariants as op
use Rattle.bg_base.specs.declared.exact.OutOfRange.{OutOfRange}
use Rattle.bg_base.specs.Exact.{product_of, negation_of}
use Rattle.bg_ast.specs.Syntax as s
use Rattle.bg_rows.specs.declared.entry.Entry.{Entry}
use Rattle.bg_rows.specs.Entries.{rising}
use Rattle.bg_rows.specs.Rows.{is_empty}
use Rattle.bg_rows.proofs.Meaning.{first_of_two}
use Rattle.bg_rows.proofs.Normal.{Normal, to_rising}
use Rattle.bg_linear.specs.declared.scalar.Sort.{Sort}
use Rattle.bg_linear.specs.Lins.{LinOf, operate, joined, together, each, throughout, product}
use Rattle.bg_linear.specs.Forms.{nothing, linear}
use Rattle.bg_linear.specs.Sorts.{kind_ex, is_constant}
use Rattle.bg_linear.proofs.Sides.{constant_number, no_constant_at, only_constant, no_truth, no_equal, sum_constants, product_constants}
use Rattle.bg_linear.proofs.Normal.{each_normal, joined_normal}

throughout_normal : (step : ℤ → Result ℤ OutOfRange) (f h : LinOf) → Normal 0 f.entries → throughout step f ≡ Ok h → Normal 0 h.entries
throughout_normal step f h n e =
    let one = first_of_two (each step f.entries) _ h e in
    let two = first_of_two (step f.constant) _ h one.2 in
    let is : record { entries = one.0; constant = two.0 } ≡ h = cc in
    rw (← is) (each_normal step 0 f.entries one.0 n one.1)

pub together_normal : (op : Op) (f g h : LinOf) → Normal 0 f.entries → together op f g ≡ Ok h → Normal 0 h.entries
together_normal op f g h n e =
    let one = first_of_two (joined op f.entries g.entries) _ h e in
    let two = first_of_two (operate op f.constant g.constant) _ h one.2 in
    let is : record { entries = one.0; constant = two.0 } ≡ h = cc in
    rw (← is) (joined_normal op f.entries g.entries one.0 n one.1)

product_normal : (f g h : LinOf) → Normal 0 f.entries → Normal 0 g.entries → product f g ≡ Ok h → Normal 0 h.entries
product_normal f g h n m e = by_empty (is_empty g.entries) e
  where
    by_empty : (b : Bool) → cond b (throughout (λ c. product_of c g.constant) f) (throughout (λ c. product_of f.constant c) g) ≡ Ok h → Normal 0 h.entries
    by_empty true e = throughout_normal (λ c. product_of c g.constant) f h n e
    by_empty false e = throughout_normal (λ c. product_of f.constant c) g h m e

bare : (r : Result LinOf OutOfRange) (f : LinOf) → r ≡ Ok nothing → r ≡ Ok f → Normal 0 f.entries
bare r f p h = let is : nothing ≡ f = cc in rw (← is) tt

pub forms_rise : (e : s.Ex) (f : LinOf) → linear e ≡ Ok f → Normal 0 f.entries
forms_rise (s.Number z) f h = let is : record { entries = []; constant = z } ≡ f = cc in rw (← is) tt
forms_rise (s.Read (s.Local j)) f h =
    let is : record { entries = record { variable = j; by = pos 1 } ∷ []; constant = pos 0 } ≡ f = cc in
    rw (← is) (omega arith, refl, tt)
forms_rise (s.Negative e) f h =
    let one = first_of_two (linear e) _ f h in
    throughout_normal negation_of one.0 f (forms_rise e one.0 one.1) one.2
forms_rise (s.Binary s.Plus a b) f h =
    let one = first_of_two (linear a) _ f h in
    let two = first_of_two (linear b) _ f one.2 in
    together_normal op.Plus one.0 two.0 f (forms_rise a one.0 one.1) two.2
forms_rise (s.Binary s.Minus a b) f h =
    let one = first_of_two (linear a) _ f h in
    let two = first_of_two (linear b) _ f one.2 in
    together_normal op.Minus one.0 two.0 f (forms_rise a one.0 one.1) two.2
forms_rise (s.Binary s.Times a b) f h =
    let one = first_of_two (linear a) _ f h in
    let two = first_of_two (linear b) _ f one.2 in
    product_normal one.0 two.0 f (forms_rise a one.0 one.1) (forms_rise b two.0 two.1) two.2
forms_rise (s.Binary s.And a b) f h = bare _ f refl h
forms_rise (s.Binary s.Or a b) f h = bare _ f refl h
forms_rise (s.Binary s.Implies a b) f h = bare _ f refl h
forms_rise (s.Binary s.Iff a b) f h = bare _ f refl h
forms_rise (s.Binary s.Equal a b) f h = bare _ f refl h
forms_rise (s.Binary s.Unequal a b) f h = bare _ f refl h
forms_rise (s.Binary s.Less a b) f h = bare _ f refl h
forms_rise (s.Binary s.AtMost a b) f h = bare _ f refl h
forms_rise (s.Binary s.Greater a b) f h = bare _ f refl h
forms_rise (s.Binary s.AtLeast a b) f h = bare _ f refl h
forms_rise (s.Fact b) f h = bare _ f refl h
forms_rise (s.Constant k) f h = bare _ f refl h
forms_rise (s.Read (s.Global x)) f h = bare _ f refl h
forms_rise (s.Not e) f h = bare _ f refl h
forms_rise (s.Apply k es) f h = bare _ f refl h
forms_rise (s.Select m es) f h = bare _ f refl h
forms_rise (s.Update m es e) f h = bare _ f refl h
forms_rise (s.Old e) f h = bare _ f refl h

pub forms_are_rising : (e : s.Ex) (f : LinOf) → linear e ≡ Ok f → rising 0 f.entries ≡ true
forms_are_rising e f h = to_rising 0 f.entries (forms_rise e f h)

-- ---- constants

each_bare : (step : ℤ → Result ℤ OutOfRange) (ts us : List Entry) → is_empty ts ≡ true → each step ts ≡ Ok us → is_empty us ≡ true
each_bare step [] us n h = let is : [] ≡ us = cc in rw (← is) refl
each_bare step (t ∷ ts) us n h = absurd (let bad : ⊥ = cc in bad)

throughout_bare : (step : ℤ → Result ℤ OutOfRange) (f h : LinOf) → is_empty f.entries ≡ true → throughout step f ≡ Ok h → is_empty h.entries ≡ true
throughout_bare step f h n e =
    let one = first_of_two (each step f.entries) _ h e in
    let two = first_of_two (step f.constant) _ h one.2 in
    let is : record { entries = one.0; constant = two.0 } ≡ h = cc in
    rw (← is) (each_bare step f.entries one.0 n one.1)

joined_bare : (op : Op) (ts us ws : List Entry) → is_empty ts ≡ true → is_empty us ≡ true → joined op ts us ≡ Ok ws → is_empty ws ≡ true
joined_bare op ts [] ws n m h = let is : ts ≡ ws = cc in rw (← is) n
joined_bare op ts (u ∷ us) ws n m h = absurd (let bad : ⊥ = cc in bad)

together_bare : (op : Op) (f g h : LinOf) → is_empty f.entries ≡ true → is_empty g.entries ≡ true → together op f g ≡ Ok h → is_empty h.entries ≡ true
together_bare op f g h n m e =
    let one = first_of_two (joined op f.entries g.entries) _ h e in
    let two = first_of_two (operate op f.constant g.constant) _ h one.2 in
    let is : record { entries = one.0; constant = two.0 } ≡ h = cc in
    rw (← is) (joined_bare op f.entries g.entries one.0 n m one.1)

product_bare : (f g h : LinOf) → is_empty f.entries ≡ true → is_empty g.entries ≡ true → product f g ≡ Ok h → is_empty h.entries ≡ true
product_bare f g h n m e = by_empty (is_empty g.entries) e
  where
    by_empty : (b : Bool) → cond b (throughout (λ c. product_of c g.constant) f) (throughout (λ c. product_of f.constant c) g) ≡ Ok h → is_empty h.entries ≡ true
    by_empty true e = throughout_bare (λ c. product_of c g.constant) f h n e
    by_empty false e = throughout_bare (λ c. product_of f.constant c) g h m e

module _ (sorts : List Sort) where
  pub constants_are_bare : (e : s.Ex) (f : LinOf) → is_constant (kind_ex sorts e) ≡ true → linear e ≡ Ok f → is_empty f.entries ≡ true
  constants_are_bare (s.Number z) f k h = let is : record { entries = []; constant = z } ≡ f = cc in rw (← is) refl
  constants_are_bare (s.Read (s.Local j)) f k h = absurd (no_constant_at (slice_get sorts j) k)
  constants_are_bare (s.Negative e) f k h =
      let one = first_of_two (linear e) _ f h in
      throughout_bare negation_of one.0 f (constants_are_bare e one.0 (only_constant (kind_ex sorts e) k) one.1) one.2
  constants_are_bare (s.Binary s.Plus a b) f k h =
      let one = first_of_two (linear a) _ f h in
      let two = first_of_two (linear b) _ f one.2 in
      let ks = sum_constants (kind_ex sorts a) (kind_ex sorts b) k in
      together_bare op.Plus one.0 two.0 f (constants_are_bare a one.0 ks.0 one.1) (constants_are_bare b two.0 ks.1 two.1) two.2
  constants_are_bare (s.Binary s.Minus a b) f k h =
      let one = first_of_two (linear a) _ f h in
      let two = first_of_two (linear b) _ f one.2 in
      let ks = sum_constants (kind_ex sorts a) (kind_ex sorts b) k in
      together_bare op.Minus one.0 two.0 f (constants_are_bare a one.0 ks.0 one.1) (constants_are_bare b two.0 ks.1 two.1) two.2
  constants_are_bare (s.Binary s.Times a b) f k h =
      let one = first_of_two (linear a) _ f h in
      let two = first_of_two (linear b) _ f one.2 in
      let ks = product_constants (kind_ex sorts a) (kind_ex sorts b) k in
      product_bare one.0 two.0 f (constants_are_bare a one.0 ks.0 one.1) (constants_are_bare b two.0 ks.1 two.1) two.2
  constants_are_bare (s.Binary s.And a b) f k h = absurd (no_truth _ (constant_number (kind_ex sorts (s.Binary s.And a b)) k))
  constants_are_bare (s.Binary s.Or a b) f k h = absurd (no_truth _ (constant_number (kind_ex sorts (s.Binary s.Or a b)) k))
  constants_are_bare (s.Binary s.Implies a b) f k h = absurd (no_truth _ (constant_number (kind_ex sorts (s.Binary s.Implies a b)) k))
  constants_are_bare (s.Binary s.Iff a b) f k h = absurd (no_truth _ (constant_number (kind_ex sorts (s.Binary s.Iff a b)) k))
  constants_are_bare (s.Binary s.Equal a b) f k h = absurd (no_equal (kind_ex sorts a) (kind_ex sorts b) (constant_number (kind_ex sorts (s.Binary s.Equal a b)) k))
  constants_are_bare (s.Binary s.Unequal a b) f k h = absurd (no_equal (kind_ex sorts a) (kind_ex sorts b) (constant_number (kind_ex sorts (s.Binary s.Equal a b)) k))
  constants_are_bare (s.Binary s.Less a b) f k h = absurd (no_truth _ (constant_number (kind_ex sorts (s.Binary s.Less a b)) k))
  constants_are_bare (s.Binary s.AtMost a b) f k h = absurd (no_truth _ (constant_number (kind_ex sorts (s.Binary s.AtMost a b)) k))
  constants_are_bare (s.Binary s.Greater a b) f k h = absurd (no_truth _ (constant_number (kind_ex sorts (s.Binary s.Greater a b)) k))
  constants_are_bare (s.Binary s.AtLeast a b) f k h = absurd (no_truth _ (constant_number (kind_ex sorts (s.Binary s.AtLeast a b)) k))
  constants_are_bare (s.Not e) f k h = absurd (no_truth _ (constant_number (kind_ex sorts (s.Not e)) k))
  constants_are_bare (s.Fact b) f k h = absurd (let bad : ⊥ = cc in bad)
  constants_are_bare (s.Constant j) f k h = absurd (let bad : ⊥ = cc in bad)
  constants_are_bare (s.Read (s.Global x)) f k h = absurd (let bad : ⊥ = cc in bad)
  constants_are_bare (s.Apply j es) f k h = absurd (let bad : ⊥ = cc in bad)
  constants_are_bare (s.Select m es) f k h = absurd (let bad : ⊥ = cc in bad)
  constants_are_bare (s.Update m es e) f k h = absurd (let bad : ⊥ = cc in bad)
  constants_are_bare (s.Old e) f k h = absurd (let bad : ⊥ = cc in bad)
