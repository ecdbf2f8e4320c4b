-- A linear form is worth what its expression is, and the rows of a relation hold exactly where the relation does.
use Rattle.std.proofs.Common.{◌≡◌, ℕ, zero, suc, Bool, true, false, not, ◌&&◌, List, [], ◌∷◌, ℤ, pos, negsuc, ◌+ℤ◌, ◌-ℤ◌, neg_ℤ, ◌≤ℤ◌, ◌<ℤ◌, refl, sym, ap, ◌∙◌, arith, cond, Some}
use Rattle.std.specs.Prelude.{Ok, slice_get, int_le, int_lt}
use Rattle.std.proofs.lemmas.Int.{ints}
use Rattle.std.proofs.lemmas.Bool.Decides.{same_from_decides}
use Rattle.std.proofs.Math.IntN.{suc_ℤ-*ℤ, zero-*ℤ}
use Rattle.bg_base.specs.declared.exact.Op.TheVariants as op
use Rattle.bg_base.specs.Exact.{difference_of}
use Rattle.bg_ast.specs.Values.{Num, Truth, val_eq, number_of}
use Rattle.bg_ast.specs.Syntax as s
use Rattle.bg_sense.specs.Eval.{Scope, value_at, operate, ev}
use Rattle.bg_rows.specs.Entries.{total}
use Rattle.bg_rows.specs.Rows.{denied, is_empty, holds}
use Rattle.bg_rows.proofs.Meaning.{first_of_two, difference_is}
use Rattle.bg_rows.proofs.Normal.{Normal}
use Rattle.bg_formula.specs.Atoms.{AtomOf, IsRow, row_and_denial}
use Rattle.bg_formula.specs.Meaning.{Valuation, atom_true}
use Rattle.bg_linear.specs.declared.scalar.Sort.{Sort}
use Rattle.bg_linear.specs.declared.scalar.Sort.TheVariants as sort
use Rattle.bg_linear.specs.Lins.{LinOf, worth, variable_form, together}
use Rattle.bg_linear.specs.Forms.{linear}
use Rattle.bg_linear.specs.Relations.{bounded, compared, related, relation, all_true, relates, says}
use Rattle.bg_linear.specs.Sorts.{kind_ex, is_number, is_constant, sort_ex, scalar_values, scalar_value, HoldScalars}
use Rattle.bg_linear.proofs.Sides.{number_sort, number_at, only_number, no_truth, no_equal, sum_numbers, product_numbers}
use Rattle.bg_linear.proofs.Rising.{forms_rise, constants_are_bare}
use Rattle.bg_linear.proofs.Worth.{worth_plus, worth_minus, worth_negative, worth_product}

variable_worth : (v : ℕ → ℤ) (j : ℕ) → v j ≡ worth v (variable_form j)
variable_worth v j = omega (arith, ints, suc_ℤ-*ℤ (pos zero) (v j), zero-*ℤ (v j))

some_entry : (b c : Bool) → (b ≡ true → c ≡ true) → c ≡ false → b ≡ false
some_entry true c f h = absurd (let t : c ≡ true = f refl in let bad : ⊥ = cc in bad)
some_entry false c f h = refl

module _ (sorts : List Sort) (numbers : ℕ → ℤ) (truths : ℕ → Bool) (c : Scope) (held : HoldScalars sorts numbers truths c.frame) where
  pub number_means : (e : s.Ex) (f : LinOf) → is_number (kind_ex sorts e) ≡ true → linear e ≡ Ok f → ev e c ≡ Num (worth numbers f)
  number_means (s.Number z) f k h =
      let is : f ≡ record { entries = []; constant = z } = cc in
      ap Num {x = z} {y = worth numbers (record { entries = []; constant = z })} (omega (arith, ints)) ∙ ap (λ g. Num (worth numbers g)) (sym is)
  number_means (s.Read (s.Local j)) f k h =
      let is : f ≡ variable_form j = cc in
      held.number j (number_at (slice_get sorts j) k) ∙ ap Num (variable_worth numbers j) ∙ ap (λ g. Num (worth numbers g)) (sym is)
  number_means (s.Negative e) f k h =
      let one = first_of_two (linear e) _ f h in
      let is = number_means e one.0 (only_number (kind_ex sorts e) k) one.1 in
      ap (λ v. Num (neg_ℤ (number_of v))) is ∙ ap Num (sym (worth_negative numbers one.0 f one.2))
  number_means (s.Binary s.Plus a b) f k h =
      let one = first_of_two (linear a) _ f h in
      let two = first_of_two (linear b) _ f one.2 in
      let ks = sum_numbers (kind_ex sorts a) (kind_ex sorts b) k in
      ap (λ v. operate s.Plus v (ev b c)) (number_means a one.0 ks.0 one.1)
      ∙ ap (λ v. operate s.Plus (Num (worth numbers one.0)) v) (number_means b two.0 ks.1 two.1)
      ∙ ap Num (sym (worth_plus numbers one.0 two.0 f (forms_rise a one.0 one.1) two.2))
  number_means (s.Binary s.Minus a b) f k h =
      let one = first_of_two (linear a) _ f h in
      let two = first_of_two (linear b) _ f one.2 in
      let ks = sum_numbers (kind_ex sorts a) (kind_ex sorts b) k in
      ap (λ v. operate s.Minus v (ev b c)) (number_means a one.0 ks.0 one.1)
      ∙ ap (λ v. operate s.Minus (Num (worth numbers one.0)) v) (number_means b two.0 ks.1 two.1)
      ∙ ap Num (sym (worth_minus numbers one.0 two.0 f (forms_rise a one.0 one.1) two.2))
  number_means (s.Binary s.Times a b) f k h =
      let one = first_of_two (linear a) _ f h in
      let two = first_of_two (linear b) _ f one.2 in
      let ks = product_numbers (kind_ex sorts a) (kind_ex sorts b) k in
      let sides = λ (n : is_empty two.0.entries ≡ false). constants_are_bare sorts a one.0 (ks.2 (some_entry (is_constant (kind_ex sorts b)) (is_empty two.0.entries) (λ q. constants_are_bare sorts b two.0 q two.1) n)) one.1 in
      ap (λ v. operate s.Times v (ev b c)) (number_means a one.0 ks.0 one.1)
      ∙ ap (λ v. operate s.Times (Num (worth numbers one.0)) v) (number_means b two.0 ks.1 two.1)
      ∙ ap Num (sym (worth_product numbers one.0 two.0 f sides two.2))
  number_means (s.Binary s.And a b) f k h = absurd (no_truth _ k)
  number_means (s.Binary s.Or a b) f k h = absurd (no_truth _ k)
  number_means (s.Binary s.Implies a b) f k h = absurd (no_truth _ k)
  number_means (s.Binary s.Iff a b) f k h = absurd (no_truth _ k)
  number_means (s.Binary s.Equal a b) f k h = absurd (no_equal (kind_ex sorts a) (kind_ex sorts b) k)
  number_means (s.Binary s.Unequal a b) f k h = absurd (no_equal (kind_ex sorts a) (kind_ex sorts b) k)
  number_means (s.Binary s.Less a b) f k h = absurd (no_truth _ k)
  number_means (s.Binary s.AtMost a b) f k h = absurd (no_truth _ k)
  number_means (s.Binary s.Greater a b) f k h = absurd (no_truth _ k)
  number_means (s.Binary s.AtLeast a b) f k h = absurd (no_truth _ k)
  number_means (s.Not e) f k h = absurd (no_truth _ k)
  number_means (s.Fact b) f k h = absurd (let bad : ⊥ = cc in bad)
  number_means (s.Constant j) f k h = absurd (let bad : ⊥ = cc in bad)
  number_means (s.Read (s.Global x)) f k h = absurd (let bad : ⊥ = cc in bad)
  number_means (s.Apply j es) f k h = absurd (let bad : ⊥ = cc in bad)
  number_means (s.Select m es) f k h = absurd (let bad : ⊥ = cc in bad)
  number_means (s.Update m es e) f k h = absurd (let bad : ⊥ = cc in bad)
  number_means (s.Old e) f k h = absurd (let bad : ⊥ = cc in bad)

-- ---- relations

le_yes : (a b : ℤ) → int_le a b ≡ true → a ≤ℤ b
le_yes a b h = grind (arith, ints)

le_from : (a b : ℤ) → a ≤ℤ b → int_le a b ≡ true
le_from a b h = grind (arith, ints)

lt_yes : (a b : ℤ) → int_lt a b ≡ true → a <ℤ b
lt_yes a b h = grind (arith, ints)

lt_from : (a b : ℤ) → a <ℤ b → int_lt a b ≡ true
lt_from a b h = grind (arith, ints)

row_at_most : (t k c a b : ℤ) → t +ℤ k ≡ a -ℤ b → c ≡ pos 0 -ℤ k → int_le t c ≡ int_le a b
row_at_most t k c a b e d =
    same_from_decides {P = a ≤ℤ b} (int_le t c) (int_le a b)
    ((λ h. let q = le_yes t c h in omega (arith, ints, q, e, d)), (λ h. le_from t c (omega (arith, ints, h, e, d))))
    (le_yes a b, le_from a b)

row_below : (t k c a b : ℤ) → t +ℤ k ≡ a -ℤ b → c ≡ negsuc 0 -ℤ k → int_le t c ≡ int_lt a b
row_below t k c a b e d =
    same_from_decides {P = a <ℤ b} (int_le t c) (int_lt a b)
    ((λ h. let q = le_yes t c h in omega (arith, ints, q, e, d)), (λ h. le_from t c (omega (arith, ints, h, e, d))))
    (lt_yes a b, lt_from a b)

abbrev order : Bool → ℤ → ℤ → Bool
order strict a b = cond strict (int_lt a b) (int_le a b)

row_order : (strict : Bool) (t k c a b : ℤ) → t +ℤ k ≡ a -ℤ b → c ≡ cond strict (negsuc 0) (pos 0) -ℤ k → int_le t c ≡ order strict a b
row_order true t k c a b e d = row_below t k c a b e d
row_order false t k c a b e d = row_at_most t k c a b e d

module _ (v : Valuation) where
  compared_means : (strict : Bool) (f g : LinOf) (a : AtomOf) → Normal 0 f.entries → compared strict f g ≡ Ok a → atom_true v a ≡ order strict (worth v.numbers f) (worth v.numbers g)
  compared_means strict f g a n h =
      let one = first_of_two (together op.Minus f g) _ a h in
      let two = first_of_two (bounded strict one.0) row_and_denial a one.2 in
      let three = first_of_two (difference_of (cond strict (negsuc 0) (pos 0)) one.0.constant) _ two.0 two.1 in
      let four = first_of_two (denied two.0) _ a two.2 in
      let row : two.0 ≡ record { entries = one.0.entries; bound = three.0 } = cc in
      let is : a ≡ IsRow two.0 four.0 = cc in
      ap (atom_true v) is
      ∙ ap (holds v.numbers) row
      ∙ row_order strict (total v.numbers one.0.entries) one.0.constant three.0 (worth v.numbers f) (worth v.numbers g)
      (worth_minus v.numbers f g one.0 n one.1)
      (difference_is (cond strict (negsuc 0) (pos 0)) one.0.constant three.0 three.1)

  and_true : (b : Bool) → (b && true) ≡ b
  and_true true = refl
  and_true false = refl

  alone_means : (strict : Bool) (f g : LinOf) (rows : List AtomOf) → Normal 0 f.entries → related (cond strict s.Less s.AtMost) f g ≡ Ok rows → all_true v rows ≡ order strict (worth v.numbers f) (worth v.numbers g)
  alone_means true f g rows n h =
      let one = first_of_two (compared true f g) _ rows h in
      let is : rows ≡ one.0 ∷ [] = cc in
      ap (all_true v) is ∙ and_true (atom_true v one.0) ∙ compared_means true f g one.0 n one.1
  alone_means false f g rows n h =
      let one = first_of_two (compared false f g) _ rows h in
      let is : rows ≡ one.0 ∷ [] = cc in
      ap (all_true v) is ∙ and_true (atom_true v one.0) ∙ compared_means false f g one.0 n one.1

  both_orders : (a b : ℤ) → (int_le a b && (int_le b a && true)) ≡ val_eq (Num a) (Num b)
  both_orders a b = grind (arith, ints)

  both_means : (f g : LinOf) (rows : List AtomOf) → Normal 0 f.entries → Normal 0 g.entries → related s.Equal f g ≡ Ok rows → all_true v rows ≡ val_eq (Num (worth v.numbers f)) (Num (worth v.numbers g))
  both_means f g rows n m h =
      let one = first_of_two (compared false f g) _ rows h in
      let two = first_of_two (compared false g f) _ rows one.2 in
      let is : rows ≡ one.0 ∷ two.0 ∷ [] = cc in
      ap (all_true v) is
      ∙ ap (λ x. x && (atom_true v two.0 && true)) (compared_means false f g one.0 n one.1)
      ∙ ap (λ x. int_le (worth v.numbers f) (worth v.numbers g) && (x && true)) (compared_means false g f two.0 m two.1)
      ∙ both_orders (worth v.numbers f) (worth v.numbers g)

  related_means : (o : s.Op) (f g : LinOf) (rows : List AtomOf) → relates o ≡ true → Normal 0 f.entries → Normal 0 g.entries → related o f g ≡ Ok rows → operate o (Num (worth v.numbers f)) (Num (worth v.numbers g)) ≡ Truth (says o (all_true v rows))
  related_means s.AtMost f g rows r n m h = ap Truth (sym (alone_means false f g rows n h))
  related_means s.Less f g rows r n m h = ap Truth (sym (alone_means true f g rows n h))
  related_means s.AtLeast f g rows r n m h = ap Truth (sym (alone_means false g f rows m h))
  related_means s.Greater f g rows r n m h = ap Truth (sym (alone_means true g f rows m h))
  related_means s.Equal f g rows r n m h = ap Truth (sym (both_means f g rows n m h))
  related_means s.Unequal f g rows r n m h = ap (λ b. Truth (not b)) (sym (both_means f g rows n m h))
  related_means s.And f g rows r n m h = absurd (let bad : ⊥ = cc in bad)
  related_means s.Or f g rows r n m h = absurd (let bad : ⊥ = cc in bad)
  related_means s.Implies f g rows r n m h = absurd (let bad : ⊥ = cc in bad)
  related_means s.Iff f g rows r n m h = absurd (let bad : ⊥ = cc in bad)
  related_means s.Plus f g rows r n m h = absurd (let bad : ⊥ = cc in bad)
  related_means s.Minus f g rows r n m h = absurd (let bad : ⊥ = cc in bad)
  related_means s.Times f g rows r n m h = absurd (let bad : ⊥ = cc in bad)

-- ---- the laws

pub forms_exact : (sorts : List Sort) (v : Valuation) (c : Scope) → HoldScalars sorts v.numbers v.truths c.frame → (e : s.Ex) (f : LinOf) → sort_ex sorts e ≡ Some sort.Number → linear e ≡ Ok f → ev e c ≡ Num (worth v.numbers f)
forms_exact sorts v c held e f k h = number_means sorts v.numbers v.truths c held e f (number_sort (kind_ex sorts e) k) h

pub relations_exact : (sorts : List Sort) (v : Valuation) (c : Scope) → HoldScalars sorts v.numbers v.truths c.frame → (o : s.Op) (a b : s.Ex) (rows : List AtomOf) → relates o ≡ true → sort_ex sorts a ≡ Some sort.Number → sort_ex sorts b ≡ Some sort.Number → relation o a b ≡ Ok rows → ev (s.Binary o a b) c ≡ Truth (says o (all_true v rows))
relations_exact sorts v c held o a b rows r ka kb h =
    let one = first_of_two (linear a) _ rows h in
    let two = first_of_two (linear b) _ rows one.2 in
    ap (λ x. operate o x (ev b c)) (forms_exact sorts v c held a one.0 ka one.1)
    ∙ ap (λ x. operate o (Num (worth v.numbers one.0)) x) (forms_exact sorts v c held b two.0 kb two.1)
    ∙ related_means v o one.0 two.0 rows r (forms_rise a one.0 one.1) (forms_rise b two.0 two.1) two.2

scalar_numbers : (sorts : List Sort) (numbers : ℕ → ℤ) (truths : ℕ → Bool) (j : ℕ) → slice_get sorts j ≡ Some sort.Number → value_at (scalar_values numbers truths sorts) j ≡ Num (numbers j)
scalar_numbers [] numbers truths j h = absurd (let bad : ⊥ = cc in bad)
scalar_numbers (s ∷ ss) numbers truths zero h =
    let is : s ≡ sort.Number = cc in
    ap (λ x. scalar_value x (numbers 0) (truths 0)) is
scalar_numbers (s ∷ ss) numbers truths (suc j) h = scalar_numbers ss (λ i. numbers (suc i)) (λ i. truths (suc i)) j h

scalar_truths : (sorts : List Sort) (numbers : ℕ → ℤ) (truths : ℕ → Bool) (j : ℕ) → slice_get sorts j ≡ Some sort.Truth → value_at (scalar_values numbers truths sorts) j ≡ Truth (truths j)
scalar_truths [] numbers truths j h = absurd (let bad : ⊥ = cc in bad)
scalar_truths (s ∷ ss) numbers truths zero h =
    let is : s ≡ sort.Truth = cc in
    ap (λ x. scalar_value x (numbers 0) (truths 0)) is
scalar_truths (s ∷ ss) numbers truths (suc j) h = scalar_truths ss (λ i. numbers (suc i)) (λ i. truths (suc i)) j h

pub scalars_held : (sorts : List Sort) (numbers : ℕ → ℤ) (truths : ℕ → Bool) → HoldScalars sorts numbers truths (scalar_values numbers truths sorts)
scalars_held sorts numbers truths =
    record { number = scalar_numbers sorts numbers truths; truth = scalar_truths sorts numbers truths }
