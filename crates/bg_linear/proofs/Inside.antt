-- The entries of forms, and of the rows of relations, name incarnations that are there.
use Rattle.std.proofs.Common.{◌≡◌, ℕ, zero, suc, Bool, true, false, List, [], ◌∷◌, length, ℤ, pos, negsuc, Some, refl, arith, cond}
use Rattle.std.specs.Prelude.{◌&&◌, ◌==◌, nat_lt, Result, Ok, slice_get}
use Rattle.std.proofs.lemmas.Bool.Decides.{nat_tests}
use Rattle.bg_base.specs.declared.exact.Op.{Op}
use Rattle.bg_base.specs.declared.exact.Op.TheVariants as op
use Rattle.bg_base.specs.declared.exact.OutOfRange.{OutOfRange}
use Rattle.bg_base.specs.Exact.{difference_of, product_of, negation_of}
use Rattle.bg_ast.specs.Syntax as s
use Rattle.bg_rows.specs.declared.entry.Entry.{Entry}
use Rattle.bg_rows.specs.Entries.{is_zero, coefficient}
use Rattle.bg_rows.specs.Rows.{entry, put, is_empty, denied}
use Rattle.bg_rows.proofs.Meaning.{first_of_two}
use Rattle.bg_formula.specs.Atoms.{AtomOf, IsRow, row_and_denial}
use Rattle.bg_formula.specs.Formulas.{entries_below, atom_below, rows_below}
use Rattle.bg_linear.specs.declared.scalar.Sort.{Sort}
use Rattle.bg_linear.specs.declared.scalar.Sort.TheVariants as sort
use Rattle.bg_linear.specs.Lins.{LinOf, operate, without, with_entry, with_coefficient, joined, together, each, throughout, product}
use Rattle.bg_linear.specs.Forms.{linear}
use Rattle.bg_linear.specs.Relations.{bounded, compared, alone, both_ways, related, relation}
use Rattle.bg_linear.specs.Sorts.{kind_ex, is_number, sort_ex}
use Rattle.bg_linear.proofs.Sides.{number_sort, number_at, only_number, no_truth, no_equal, sum_numbers, product_numbers}

and_left : (a b : Bool) → (a && b) ≡ true → a ≡ true
and_left true b h = refl
and_left false b h = absurd (let bad : ⊥ = cc in bad)

and_right : (a b : Bool) → (a && b) ≡ true → b ≡ true
and_right true b h = h
and_right false b h = absurd (let bad : ⊥ = cc in bad)

and_both : (a b : Bool) → a ≡ true → b ≡ true → (a && b) ≡ true
and_both true b h k = k
and_both false b h k = absurd (let bad : ⊥ = cc in bad)

module _ (n : ℕ) where
  abbrev Inside : List Entry → Type 0
  Inside ts = entries_below n ts ≡ true

  put_inside : (x : ℕ) (c : ℤ) (ts : List Entry) → nat_lt x n ≡ true → Inside ts → Inside (put x c ts)
  put_inside x c ts lt h = by_zero (is_zero c)
    where
      by_zero : (z : Bool) → Inside (cond z ts (entry x c ∷ ts))
      by_zero true = h
      by_zero false = and_both (nat_lt x n) (entries_below n ts) lt h

  each_inside : (step : ℤ → Result ℤ OutOfRange) (ts us : List Entry) → Inside ts → each step ts ≡ Ok us → Inside us
  each_inside step [] us h e = let is : [] ≡ us = cc in rw (← is) refl
  each_inside step (t ∷ ts) us h e =
      let one = first_of_two (step t.by) _ us e in
      let two = first_of_two (each step ts) _ us one.2 in
      let is : put t.variable one.0 two.0 ≡ us = cc in
      rw (← is) (put_inside t.variable one.0 two.0 (and_left (nat_lt t.variable n) (entries_below n ts) h) (each_inside step ts two.0 (and_right (nat_lt t.variable n) (entries_below n ts) h) two.1))

  without_inside : (x : ℕ) (ts : List Entry) → Inside ts → Inside (without x ts)
  without_inside x [] h = refl
  without_inside x (t ∷ ts) h =
      let rest = and_right (nat_lt t.variable n) (entries_below n ts) h in
      by_same (x == t.variable) rest (without_inside x ts rest)
    where
      by_same : (b : Bool) → Inside ts → Inside (without x ts) → Inside (cond b ts (t ∷ without x ts))
      by_same true k r = k
      by_same false k r = and_both (nat_lt t.variable n) (entries_below n (without x ts)) (and_left (nat_lt t.variable n) (entries_below n ts) h) r

  with_inside : (x : ℕ) (c : ℤ) (ts : List Entry) → nat_lt x n ≡ true → Inside ts → Inside (with_entry x c ts)
  with_inside x c [] lt h = and_both (nat_lt x n) true lt refl
  with_inside x c (t ∷ ts) lt h =
      let rest = and_right (nat_lt t.variable n) (entries_below n ts) h in
      by_place (nat_lt x t.variable) (x == t.variable) rest (with_inside x c ts lt rest)
    where
      by_place : (l b : Bool) → Inside ts → Inside (with_entry x c ts) → Inside (cond l (entry x c ∷ t ∷ ts) (cond b (entry x c ∷ ts) (t ∷ with_entry x c ts)))
      by_place true b k r = and_both (nat_lt x n) (entries_below n (t ∷ ts)) lt h
      by_place false true k r = and_both (nat_lt x n) (entries_below n ts) lt k
      by_place false false k r = and_both (nat_lt t.variable n) (entries_below n (with_entry x c ts)) (and_left (nat_lt t.variable n) (entries_below n ts) h) r

  set_inside : (x : ℕ) (c : ℤ) (ts : List Entry) → nat_lt x n ≡ true → Inside ts → Inside (with_coefficient x c ts)
  set_inside x c ts lt h = by_zero (is_zero c)
    where
      by_zero : (z : Bool) → Inside (cond z (without x ts) (with_entry x c ts))
      by_zero true = without_inside x ts h
      by_zero false = with_inside x c ts lt h

  joined_inside : (o : Op) (ts us ws : List Entry) → Inside ts → Inside us → joined o ts us ≡ Ok ws → Inside ws
  joined_inside o ts [] ws h k e = let is : ts ≡ ws = cc in rw (← is) h
  joined_inside o ts (u ∷ us) ws h k e =
      let one = first_of_two (operate o (coefficient u.variable ts) u.by) _ ws e in
      joined_inside o (with_coefficient u.variable one.0 ts) us ws (set_inside u.variable one.0 ts (and_left (nat_lt u.variable n) (entries_below n us) k) h) (and_right (nat_lt u.variable n) (entries_below n us) k) one.2

  together_inside : (o : Op) (f g h : LinOf) → Inside f.entries → Inside g.entries → together o f g ≡ Ok h → Inside h.entries
  together_inside o f g h k l e =
      let one = first_of_two (joined o f.entries g.entries) _ h e in
      let two = first_of_two (operate o f.constant g.constant) _ h one.2 in
      let is : record { entries = one.0; constant = two.0 } ≡ h = cc in
      rw (← is) (joined_inside o f.entries g.entries one.0 k l one.1)

  throughout_inside : (step : ℤ → Result ℤ OutOfRange) (f h : LinOf) → Inside f.entries → throughout step f ≡ Ok h → Inside h.entries
  throughout_inside step f h k e =
      let one = first_of_two (each step f.entries) _ h e in
      let two = first_of_two (step f.constant) _ h one.2 in
      let is : record { entries = one.0; constant = two.0 } ≡ h = cc in
      rw (← is) (each_inside step f.entries one.0 k one.1)

  product_inside : (f g h : LinOf) → Inside f.entries → Inside g.entries → product f g ≡ Ok h → Inside h.entries
  product_inside f g h k l e = by_empty (is_empty g.entries) e
    where
      by_empty : (b : Bool) → cond b (throughout (λ c. product_of c g.constant) f) (throughout (λ c. product_of f.constant c) g) ≡ Ok h → Inside h.entries
      by_empty true e = throughout_inside (λ c. product_of c g.constant) f h k e
      by_empty false e = throughout_inside (λ c. product_of f.constant c) g h l e

  compared_inside : (strict : Bool) (f g : LinOf) (a : AtomOf) → Inside f.entries → Inside g.entries → compared strict f g ≡ Ok a → atom_below n a ≡ true
  compared_inside strict f g a k l e =
      let one = first_of_two (together op.Minus f g) _ a e in
      let two = first_of_two (bounded strict one.0) _ a one.2 in
      let three = first_of_two (denied two.0) _ a two.2 in
      let four = first_of_two (difference_of (cond strict (negsuc 0) (pos 0)) one.0.constant) _ two.0 two.1 in
      let is : IsRow two.0 three.0 ≡ a = cc in
      let row : record { entries = one.0.entries; bound = four.0 } ≡ two.0 = cc in
      let same : one.0.entries ≡ two.0.entries = cc in
      rw (← is, ← same) (together_inside op.Minus f g one.0 k l one.1)

  alone_inside : (strict : Bool) (f g : LinOf) (rows : List AtomOf) → Inside f.entries → Inside g.entries → alone (compared strict f g) ≡ Ok rows → rows_below n rows ≡ true
  alone_inside strict f g rows k l e =
      let one = first_of_two (compared strict f g) _ rows e in
      let is : one.0 ∷ [] ≡ rows = cc in
      rw (← is) (and_both (atom_below n one.0) true (compared_inside strict f g one.0 k l one.1) refl)

  both_inside : (f g : LinOf) (rows : List AtomOf) → Inside f.entries → Inside g.entries → both_ways f g ≡ Ok rows → rows_below n rows ≡ true
  both_inside f g rows k l e =
      let one = first_of_two (compared false f g) _ rows e in
      let two = first_of_two (compared false g f) _ rows one.2 in
      let is : one.0 ∷ two.0 ∷ [] ≡ rows = cc in
      rw (← is) (and_both (atom_below n one.0) (atom_below n two.0 && true) (compared_inside false f g one.0 k l one.1) (and_both (atom_below n two.0) true (compared_inside false g f two.0 l k two.1) refl))

  bare : (r : Result (List AtomOf) OutOfRange) (rows : List AtomOf) → r ≡ Ok [] → r ≡ Ok rows → rows_below n rows ≡ true
  bare r rows p e = let is : [] ≡ rows = cc in rw (← is) refl

  related_inside : (o : s.Op) (f g : LinOf) (rows : List AtomOf) → Inside f.entries → Inside g.entries → related o f g ≡ Ok rows → rows_below n rows ≡ true
  related_inside s.AtMost f g rows k l e = alone_inside false f g rows k l e
  related_inside s.Less f g rows k l e = alone_inside true f g rows k l e
  related_inside s.AtLeast f g rows k l e = alone_inside false g f rows l k e
  related_inside s.Greater f g rows k l e = alone_inside true g f rows l k e
  related_inside s.Equal f g rows k l e = both_inside f g rows k l e
  related_inside s.Unequal f g rows k l e = both_inside f g rows k l e
  related_inside s.And f g rows k l e = bare _ rows refl e
  related_inside s.Or f g rows k l e = bare _ rows refl e
  related_inside s.Implies f g rows k l e = bare _ rows refl e
  related_inside s.Iff f g rows k l e = bare _ rows refl e
  related_inside s.Plus f g rows k l e = bare _ rows refl e
  related_inside s.Minus f g rows k l e = bare _ rows refl e
  related_inside s.Times f g rows k l e = bare _ rows refl e

number_below : (ss : List Sort) (j : ℕ) → slice_get ss j ≡ Some sort.Number → nat_lt j (length ss) ≡ true
number_below [] j h = absurd (let bad : ⊥ = cc in bad)
number_below (x ∷ ss) zero h = grind (arith, nat_tests)
number_below (x ∷ ss) (suc j) h = let lt = number_below ss j h in grind (arith, nat_tests, lt)

-- what has the kind of a number names numbers alone
module _ (sorts : List Sort) where
  abbrev Whole : LinOf → Type 0
  Whole f = entries_below (length sorts) f.entries ≡ true

  forms_inside : (e : s.Ex) (f : LinOf) → is_number (kind_ex sorts e) ≡ true → linear e ≡ Ok f → Whole f
  forms_inside (s.Number z) f k h = let is : record { entries = []; constant = z } ≡ f = cc in rw (← is) refl
  forms_inside (s.Read (s.Local j)) f k h =
      let is : record { entries = record { variable = j; by = pos 1 } ∷ []; constant = pos 0 } ≡ f = cc in
      rw (← is) (and_both (nat_lt j (length sorts)) true (number_below sorts j (number_at (slice_get sorts j) k)) refl)
  forms_inside (s.Negative e) f k h =
      let one = first_of_two (linear e) _ f h in
      throughout_inside (length sorts) negation_of one.0 f (forms_inside e one.0 (only_number (kind_ex sorts e) k) one.1) one.2
  forms_inside (s.Binary s.Plus a b) f k h =
      let one = first_of_two (linear a) _ f h in
      let two = first_of_two (linear b) _ f one.2 in
      let ks = sum_numbers (kind_ex sorts a) (kind_ex sorts b) k in
      together_inside (length sorts) op.Plus one.0 two.0 f (forms_inside a one.0 ks.0 one.1) (forms_inside b two.0 ks.1 two.1) two.2
  forms_inside (s.Binary s.Minus a b) f k h =
      let one = first_of_two (linear a) _ f h in
      let two = first_of_two (linear b) _ f one.2 in
      let ks = sum_numbers (kind_ex sorts a) (kind_ex sorts b) k in
      together_inside (length sorts) op.Minus one.0 two.0 f (forms_inside a one.0 ks.0 one.1) (forms_inside b two.0 ks.1 two.1) two.2
  forms_inside (s.Binary s.Times a b) f k h =
      let one = first_of_two (linear a) _ f h in
      let two = first_of_two (linear b) _ f one.2 in
      let ks = product_numbers (kind_ex sorts a) (kind_ex sorts b) k in
      product_inside (length sorts) one.0 two.0 f (forms_inside a one.0 ks.0 one.1) (forms_inside b two.0 ks.1 two.1) two.2
  forms_inside (s.Binary s.And a b) f k h = absurd (no_truth _ k)
  forms_inside (s.Binary s.Or a b) f k h = absurd (no_truth _ k)
  forms_inside (s.Binary s.Implies a b) f k h = absurd (no_truth _ k)
  forms_inside (s.Binary s.Iff a b) f k h = absurd (no_truth _ k)
  forms_inside (s.Binary s.Equal a b) f k h = absurd (no_equal (kind_ex sorts a) (kind_ex sorts b) k)
  forms_inside (s.Binary s.Unequal a b) f k h = absurd (no_equal (kind_ex sorts a) (kind_ex sorts b) k)
  forms_inside (s.Binary s.Less a b) f k h = absurd (no_truth _ k)
  forms_inside (s.Binary s.AtMost a b) f k h = absurd (no_truth _ k)
  forms_inside (s.Binary s.Greater a b) f k h = absurd (no_truth _ k)
  forms_inside (s.Binary s.AtLeast a b) f k h = absurd (no_truth _ k)
  forms_inside (s.Not e) f k h = absurd (no_truth _ k)
  forms_inside (s.Fact b) f k h = absurd (let bad : ⊥ = cc in bad)
  forms_inside (s.Constant j) f k h = absurd (let bad : ⊥ = cc in bad)
  forms_inside (s.Read (s.Global x)) f k h = absurd (let bad : ⊥ = cc in bad)
  forms_inside (s.Apply j es) f k h = absurd (let bad : ⊥ = cc in bad)
  forms_inside (s.Select m es) f k h = absurd (let bad : ⊥ = cc in bad)
  forms_inside (s.Update m es e) f k h = absurd (let bad : ⊥ = cc in bad)
  forms_inside (s.Old e) f k h = absurd (let bad : ⊥ = cc in bad)

  pub relation_inside : (o : s.Op) (a b : s.Ex) (rows : List AtomOf) → is_number (kind_ex sorts a) ≡ true → is_number (kind_ex sorts b) ≡ true → relation o a b ≡ Ok rows → rows_below (length sorts) rows ≡ true
  relation_inside o a b rows ka kb h =
      let one = first_of_two (linear a) _ rows h in
      let two = first_of_two (linear b) _ rows one.2 in
      related_inside (length sorts) o one.0 two.0 rows (forms_inside a one.0 ka one.1) (forms_inside b two.0 kb two.1) two.2

pub relations_inside : (sorts : List Sort) (o : s.Op) (a b : s.Ex) (rows : List AtomOf) → sort_ex sorts a ≡ Some sort.Number → sort_ex sorts b ≡ Some sort.Number → relation o a b ≡ Ok rows → rows_below (length sorts) rows ≡ true
relations_inside sorts o a b rows ka kb h =
    relation_inside sorts o a b rows (number_sort (kind_ex sorts a) ka) (number_sort (kind_ex sorts b) kb) h
