-- A term that is found is the one that is looked for.
use Rattle.std.proofs.Common.{◌≡◌, ℕ, suc, ◌+◌, Bool, true, false, List, [], ◌∷◌, Some, refl, ap, ◌∙◌, arith, ℤ}
use Rattle.std.specs.Prelude.{slice_get, if◌then◌else◌}
use Rattle.std.specs.Ordering.{int_eq}
use Rattle.std.proofs.lemmas.Bool.{eqb-true}
use Rattle.bg_ast.specs.Syntax.{Ex, Exs, Number, Fact, Constant, Read, Local, Global, Not, Negative, Binary, Apply, Select, Update, Old, NoMore, More}
use Rattle.bg_sense.proofs.Bools.{and_left, and_right}
use Rattle.bg_terms.specs.Terms.{Head, Term, head_eq}
use Rattle.bg_terms.proofs.Heads.{head_same}
use Rattle.bg_numbered.specs.Put.{bool_eq, is_one_leaf, are_one, is_that, found_from}

int_same : (x y : ℤ) → int_eq x y ≡ true → x ≡ y
int_same x y h = grind arith

bool_same : (x y : Bool) → bool_eq x y ≡ true → x ≡ y
bool_same true true h = refl
bool_same true false h = absurd (let bad : ⊥ = cc in bad)
bool_same false true h = absurd (let bad : ⊥ = cc in bad)
bool_same false false h = refl

leaf_same : (x y : Ex) → is_one_leaf x y ≡ true → x ≡ y
leaf_same (Number x) (Number y) h = ap Number (int_same x y h)
leaf_same (Number x) (Fact a) h = absurd (let bad : ⊥ = cc in bad)
leaf_same (Number x) (Constant k) h = absurd (let bad : ⊥ = cc in bad)
leaf_same (Number x) (Read v) h = absurd (let bad : ⊥ = cc in bad)
leaf_same (Number x) (Not e) h = absurd (let bad : ⊥ = cc in bad)
leaf_same (Number x) (Negative e) h = absurd (let bad : ⊥ = cc in bad)
leaf_same (Number x) (Binary op c d) h = absurd (let bad : ⊥ = cc in bad)
leaf_same (Number x) (Apply f es) h = absurd (let bad : ⊥ = cc in bad)
leaf_same (Number x) (Select m es) h = absurd (let bad : ⊥ = cc in bad)
leaf_same (Number x) (Update m es e) h = absurd (let bad : ⊥ = cc in bad)
leaf_same (Number x) (Old e) h = absurd (let bad : ⊥ = cc in bad)
leaf_same (Fact x) (Fact y) h = ap Fact (bool_same x y h)
leaf_same (Fact x) (Number y) h = absurd (let bad : ⊥ = cc in bad)
leaf_same (Fact x) (Constant k) h = absurd (let bad : ⊥ = cc in bad)
leaf_same (Fact x) (Read v) h = absurd (let bad : ⊥ = cc in bad)
leaf_same (Fact x) (Not e) h = absurd (let bad : ⊥ = cc in bad)
leaf_same (Fact x) (Negative e) h = absurd (let bad : ⊥ = cc in bad)
leaf_same (Fact x) (Binary op c d) h = absurd (let bad : ⊥ = cc in bad)
leaf_same (Fact x) (Apply f es) h = absurd (let bad : ⊥ = cc in bad)
leaf_same (Fact x) (Select m es) h = absurd (let bad : ⊥ = cc in bad)
leaf_same (Fact x) (Update m es e) h = absurd (let bad : ⊥ = cc in bad)
leaf_same (Fact x) (Old e) h = absurd (let bad : ⊥ = cc in bad)
leaf_same (Read (Local i)) (Read (Local j)) h = ap (λ k. Read (Local k)) (eqb-true i j h)
leaf_same (Read (Local i)) (Read (Global j)) h = absurd (let bad : ⊥ = cc in bad)
leaf_same (Read (Local i)) (Number y) h = absurd (let bad : ⊥ = cc in bad)
leaf_same (Read (Local i)) (Fact a) h = absurd (let bad : ⊥ = cc in bad)
leaf_same (Read (Local i)) (Constant k) h = absurd (let bad : ⊥ = cc in bad)
leaf_same (Read (Local i)) (Not e) h = absurd (let bad : ⊥ = cc in bad)
leaf_same (Read (Local i)) (Negative e) h = absurd (let bad : ⊥ = cc in bad)
leaf_same (Read (Local i)) (Binary op c d) h = absurd (let bad : ⊥ = cc in bad)
leaf_same (Read (Local i)) (Apply f es) h = absurd (let bad : ⊥ = cc in bad)
leaf_same (Read (Local i)) (Select m es) h = absurd (let bad : ⊥ = cc in bad)
leaf_same (Read (Local i)) (Update m es e) h = absurd (let bad : ⊥ = cc in bad)
leaf_same (Read (Local i)) (Old e) h = absurd (let bad : ⊥ = cc in bad)
leaf_same (Read (Global i)) y h = absurd (let bad : ⊥ = cc in bad)
leaf_same (Constant k) z h = absurd (let bad : ⊥ = cc in bad)
leaf_same (Not e) z h = absurd (let bad : ⊥ = cc in bad)
leaf_same (Negative e) z h = absurd (let bad : ⊥ = cc in bad)
leaf_same (Binary op c d) z h = absurd (let bad : ⊥ = cc in bad)
leaf_same (Apply f es) z h = absurd (let bad : ⊥ = cc in bad)
leaf_same (Select m es) z h = absurd (let bad : ⊥ = cc in bad)
leaf_same (Update m es e) z h = absurd (let bad : ⊥ = cc in bad)
leaf_same (Old e) z h = absurd (let bad : ⊥ = cc in bad)

leaves_same : (xs ys : Exs) → are_one xs ys ≡ true → xs ≡ ys
leaves_same NoMore NoMore h = refl
leaves_same NoMore (More y ys) h = absurd (let bad : ⊥ = cc in bad)
leaves_same (More x xs) NoMore h = absurd (let bad : ⊥ = cc in bad)
leaves_same (More x xs) (More y ys) h =
    ap (λ z. More z xs) (leaf_same x y (and_left (is_one_leaf x y) (are_one xs ys) h))
    ∙ ap (More y) (leaves_same xs ys (and_right (is_one_leaf x y) (are_one xs ys) h))

-- a term of this head and these arguments stands at this place, where the first of the list has place a
pub record FoundAt (a : ℕ) (h : Head) (xs : Exs) (ts : List Term) (b : ℕ) : Type 0 where
  pub number : ℕ
  pub term : Term
  pub is : b ≡ a + number
  pub there : slice_get ts number ≡ Some term
  pub head : term.head ≡ h
  pub args : term.args ≡ xs

some_same : (a b : ℕ) → Some a ≡ Some b → a ≡ b
some_same a b e = cc

pub found_at : (a : ℕ) (h : Head) (xs : Exs) (ts : List Term) (b : ℕ) → found_from a h xs ts ≡ Some b → FoundAt a h xs ts b
found_at a h xs [] b e = absurd (let bad : ⊥ = cc in bad)
found_at a h xs (t ∷ ts) b e = on (is_that h xs t) refl (found_at (suc a) h xs ts b) e
  where
    on : (c : Bool) → is_that h xs t ≡ c → (found_from (suc a) h xs ts ≡ Some b → FoundAt (suc a) h xs ts b) → (if c then Some a else found_from (suc a) h xs ts) ≡ Some b → FoundAt a h xs (t ∷ ts) b
    on true q later r =
        record {
          number = 0;
          term = t;
          is = let s = some_same a b r in omega (arith, s);
          there = refl;
          head = head_same t.head h (and_left (head_eq t.head h) (are_one t.args xs) q);
          args = leaves_same t.args xs (and_right (head_eq t.head h) (are_one t.args xs) q);
        }
    on false q later r =
        let f = later r in
        record {
          number = suc f.number;
          term = f.term;
          is = let s = f.is in omega (arith, s);
          there = f.there;
          head = f.head;
          args = f.args;
        }
