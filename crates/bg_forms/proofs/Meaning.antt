-- What forms are worth.
use Rattle.std.proofs.Common.{◌≡◌, ℕ, zero, suc, Bool, true, false, refl, sym, ap, ◌∙◌, arith}
use Rattle.std.specs.Prelude.{not, ◌&&◌, ◌||◌, if◌then◌else◌, nat_lt}
use Rattle.std.proofs.lemmas.Bool.Decides.{nat_tests}
use Rattle.bg_ast.specs.Values.{Truth, val_eq}
use Rattle.bg_ast.specs.Syntax.{Ex, Number, Fact, Constant, Read, Global, Local, Not, Negative, Binary, Apply, Select, Update, Old, Op, And, Or, Implies, Iff, Equal, Unequal, Less, AtMost, Greater, AtLeast, Plus, Minus, Times}
use Rattle.bg_sense.specs.Eval.{Scope, ev, value_at, operate}
use Rattle.bg_formula.specs.Meaning.{same}
use Rattle.bg_forms.specs.Forms.{Form, Plain, Is, NotSo, Both, Same, form_true, is_literal, both_beside, both_behind, both_of, any_of, denied, same_behind, same_of, joined_by, form_of}
use Rattle.bg_forms.specs.Fitting.{joins_truths, fits_ex}
use Rattle.bg_forms.specs.Worth.{truth_values}

pub same_not : (a s : Bool) → same a (not s) ≡ not (same a s)
same_not true true = refl
same_not true false = refl
same_not false true = refl
same_not false false = refl

pub same_true : (a : Bool) → same a true ≡ a
same_true true = refl
same_true false = refl

same_false : (a : Bool) → not a ≡ same a false
same_false true = refl
same_false false = refl

pub not_not : (a : Bool) → not (not a) ≡ a
not_not true = refl
not_not false = refl

not_nots : (a b : Bool) → not (not a && not b) ≡ (a || b)
not_nots true b = refl
not_nots false b = not_not b

and_true : (a : Bool) → a ≡ (a && true)
and_true true = refl
and_true false = refl

and_false : (a : Bool) → false ≡ (a && false)
and_false true = refl
and_false false = refl

and_swap : (a b : Bool) → (a && b) ≡ (b && a)
and_swap true true = refl
and_swap true false = refl
and_swap false true = refl
and_swap false false = refl

or_swap : (a b : Bool) → (a || b) ≡ (b || a)
or_swap true true = refl
or_swap true false = refl
or_swap false true = refl
or_swap false false = refl

pub denied_true : (t : ℕ → Bool) (f : Form) → form_true t (denied f) ≡ not (form_true t f)
denied_true t (Plain b) = refl
denied_true t (Is l) = same_not (t l.atom) l.sign
denied_true t (NotSo f) = sym (not_not (form_true t f))
denied_true t (Both f g) = refl
denied_true t (Same f g) = refl

beside_by : (t : ℕ → Bool) (x : Bool) (f g : Form) → form_true t (if x then Both g f else Both f g) ≡ (form_true t f && form_true t g)
beside_by t true f g = and_swap (form_true t g) (form_true t f)
beside_by t false f g = refl

beside_true : (t : ℕ → Bool) (f g : Form) → form_true t (both_beside f g) ≡ (form_true t f && form_true t g)
beside_true t f g = beside_by t (is_literal g && not (is_literal f)) f g

behind_true : (t : ℕ → Bool) (f g : Form) → form_true t (both_behind f g) ≡ (form_true t f && form_true t g)
behind_true t f (Plain true) = and_true (form_true t f)
behind_true t f (Plain false) = and_false (form_true t f)
behind_true t f (Is l) = beside_true t f (Is l)
behind_true t f (NotSo a) = beside_true t f (NotSo a)
behind_true t f (Both a b) = beside_true t f (Both a b)
behind_true t f (Same a b) = beside_true t f (Same a b)

pub both_true : (t : ℕ → Bool) (f g : Form) → form_true t (both_of f g) ≡ (form_true t f && form_true t g)
both_true t (Plain true) g = refl
both_true t (Plain false) g = refl
both_true t (Is l) g = behind_true t (Is l) g
both_true t (NotSo a) g = behind_true t (NotSo a) g
both_true t (Both a b) g = behind_true t (Both a b) g
both_true t (Same a b) g = behind_true t (Same a b) g

pub any_true : (t : ℕ → Bool) (f g : Form) → form_true t (any_of f g) ≡ (form_true t f || form_true t g)
any_true t f g =
    rw (denied_true t (both_of (denied f) (denied g)), both_true t (denied f) (denied g), denied_true t f, denied_true t g) (not_nots (form_true t f) (form_true t g))

same_behind_true : (t : ℕ → Bool) (f g : Form) → form_true t (same_behind f g) ≡ same (form_true t f) (form_true t g)
same_behind_true t f (Plain true) = sym (same_true (form_true t f))
same_behind_true t f (Plain false) = denied_true t f ∙ same_false (form_true t f)
same_behind_true t f (Is l) = refl
same_behind_true t f (NotSo a) = refl
same_behind_true t f (Both a b) = refl
same_behind_true t f (Same a b) = refl

not_same : (a : Bool) → not a ≡ same false a
not_same true = refl
not_same false = refl

pub same_of_true : (t : ℕ → Bool) (f g : Form) → form_true t (same_of f g) ≡ same (form_true t f) (form_true t g)
same_of_true t (Plain true) g = refl
same_of_true t (Plain false) g = denied_true t g ∙ not_same (form_true t g)
same_of_true t (Is l) g = same_behind_true t (Is l) g
same_of_true t (NotSo a) g = same_behind_true t (NotSo a) g
same_of_true t (Both a b) g = same_behind_true t (Both a b) g
same_of_true t (Same a b) g = same_behind_true t (Same a b) g

equal_bools : (a b : Bool) → val_eq (Truth a) (Truth b) ≡ same b a
equal_bools true true = refl
equal_bools true false = refl
equal_bools false true = refl
equal_bools false false = refl

equal_true : (t : ℕ → Bool) (f g : Form) → val_eq (Truth (form_true t f)) (Truth (form_true t g)) ≡ form_true t (same_of g f)
equal_true t f g = equal_bools (form_true t f) (form_true t g) ∙ sym (same_of_true t g f)

joined_true : (t : ℕ → Bool) (op : Op) (f g : Form) → joins_truths op ≡ true → operate op (Truth (form_true t f)) (Truth (form_true t g)) ≡ Truth (form_true t (joined_by op f g))
joined_true t And f g e =
    ap Truth (and_swap (form_true t f) (form_true t g) ∙ sym (both_true t g f))
joined_true t Or f g e =
    ap Truth (or_swap (form_true t f) (form_true t g) ∙ sym (any_true t g f))
joined_true t Implies f g e = ap Truth (rw (any_true t (denied f) g, denied_true t f) refl)
joined_true t Iff f g e = ap Truth (equal_true t f g)
joined_true t Equal f g e = ap Truth (equal_true t f g)
joined_true t Unequal f g e = ap Truth (ap not (equal_true t f g) ∙ sym (denied_true t (same_of g f)))
joined_true t Less f g e = absurd (let bad : ⊥ = cc in bad)
joined_true t AtMost f g e = absurd (let bad : ⊥ = cc in bad)
joined_true t Greater f g e = absurd (let bad : ⊥ = cc in bad)
joined_true t AtLeast f g e = absurd (let bad : ⊥ = cc in bad)
joined_true t Plus f g e = absurd (let bad : ⊥ = cc in bad)
joined_true t Minus f g e = absurd (let bad : ⊥ = cc in bad)
joined_true t Times f g e = absurd (let bad : ⊥ = cc in bad)

pub none_below : (j : ℕ) → nat_lt j 0 ≡ true → ⊥
none_below j e = grind (arith, nat_tests)

pub not_below : (j : ℕ) → nat_lt j 0 ≡ false
not_below j = grind (arith, nat_tests)

pub below_suc : (j n : ℕ) → nat_lt (suc j) (suc n) ≡ nat_lt j n
below_suc j n = grind (arith, nat_tests)

pub zero_below : (n : ℕ) → nat_lt 0 (suc n) ≡ true
zero_below n = grind (arith, nat_tests)

pub value_of_truth : (t : ℕ → Bool) (n j : ℕ) → nat_lt j n ≡ true → value_at (truth_values t n) j ≡ Truth (t j)
value_of_truth t zero j e = absurd (none_below j e)
value_of_truth t (suc n) zero e = refl
value_of_truth t (suc n) (suc j) e = value_of_truth (λ k. t (suc k)) n j (sym (below_suc j n) ∙ e)

pub and_left : (a b : Bool) → (a && b) ≡ true → a ≡ true
and_left true b e = refl
and_left false b e = e

pub and_right : (a b : Bool) → (a && b) ≡ true → b ≡ true
and_right true b e = e
and_right false b e = absurd (let bad : ⊥ = cc in bad)

module _ (t : ℕ → Bool) (n : ℕ) (c : Scope) (frame : c.frame ≡ truth_values t n) where
  -- an expression over truth values is worth what its form is worth
  pub form_means : (e : Ex) → fits_ex n e ≡ true → ev e c ≡ Truth (form_true t (form_of e))
  form_means (Fact b) fits = refl
  form_means (Read (Local j)) fits =
      rw (frame, same_true (t j)) (value_of_truth t n j fits)
  form_means (Not e) fits = rw (form_means e fits) (ap Truth (sym (denied_true t (form_of e))))
  form_means (Binary op a b) fits =
      let rest = and_right (joins_truths op) (fits_ex n a && fits_ex n b) fits in
      rw (form_means a (and_left (fits_ex n a) (fits_ex n b) rest), form_means b (and_right (fits_ex n a) (fits_ex n b) rest)) (joined_true t op (form_of a) (form_of b) (and_left (joins_truths op) (fits_ex n a && fits_ex n b) fits))
  form_means (Number z) fits = absurd (let bad : ⊥ = cc in bad)
  form_means (Constant k) fits = absurd (let bad : ⊥ = cc in bad)
  form_means (Read (Global j)) fits = absurd (let bad : ⊥ = cc in bad)
  form_means (Negative e) fits = absurd (let bad : ⊥ = cc in bad)
  form_means (Apply f es) fits = absurd (let bad : ⊥ = cc in bad)
  form_means (Select m es) fits = absurd (let bad : ⊥ = cc in bad)
  form_means (Update m es e) fits = absurd (let bad : ⊥ = cc in bad)
  form_means (Old e) fits = absurd (let bad : ⊥ = cc in bad)
