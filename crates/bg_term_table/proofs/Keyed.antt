-- Keys that compare equal are equal, and the leaves of expressions.
use Rattle.std.proofs.Common.{◌≡◌, ℕ, ℤ, arith, Bool, true, false, List, [], ◌∷◌, Option, Some, None, refl, sym, ap, ◌∙◌, subst}
use Rattle.std.specs.Prelude.{◌&&◌, ◌==◌}
use Rattle.std.specs.declared.cmp.Ordering.{Ordering}
use Rattle.std.specs.declared.cmp.Ordering.TheVariants.{Less, Equal, Greater}
use Rattle.std.specs.Ordering.{ordering_reverse, nat_cmp, int_cmp, ordering_then, is_eq, int_eq}
use Rattle.std.specs.Cmp.Lexicographic.{slice_cmp}
use Rattle.std.proofs.lemmas.Bool.{eqb-true}
use Rattle.std.proofs.lemmas.Bool.Decides.{nat_tests}
use Rattle.std.proofs.lemmas.Int.{ints}
use Rattle.std.proofs.lemmas.Cmp.{nat_cmp_total, int_cmp_total}
use Rattle.std.proofs.lemmas.Map.Lookups.{exact_unsigned, exact_signed}
use Rattle.bg_ast.specs.Syntax as s
use Rattle.bg_numbered.specs.Put.{bool_eq, is_one_leaf, are_one}
use Rattle.bg_term_table.specs.declared.leaf.Leaf.{Leaf}
use Rattle.bg_term_table.specs.declared.leaf.Leaf.TheVariants.{Number, Truth, Read}
use Rattle.bg_term_table.specs.declared.kind.Kind.{Kind}
use Rattle.bg_term_table.specs.declared.kind.Kind.TheVariants as kind
use Rattle.bg_term_table.specs.Kinds.{kind_cmp}
use Rattle.bg_term_table.specs.Views.{listed}
use Rattle.bg_term_table.specs.Keys.{leaf_in, with_leaf, leaves_in, KeyOf, leaf_cmp, key_cmp}

-- ---- keys that compare equal are equal

leaf_exact : (x y : Leaf) → leaf_cmp x y ≡ Equal → x ≡ y
leaf_exact (Number a) (Number b) h = ap (λ z. Number z) (exact_signed a b h)
leaf_exact (Number a) (Truth b) h = absurd (let bad : ⊥ = cc in bad)
leaf_exact (Number a) (Read b) h = absurd (let bad : ⊥ = cc in bad)
leaf_exact (Truth a) (Number b) h = absurd (let bad : ⊥ = cc in bad)
leaf_exact (Truth true) (Truth true) h = refl
leaf_exact (Truth false) (Truth false) h = refl
leaf_exact (Truth true) (Truth false) h = absurd (let bad : ⊥ = cc in bad)
leaf_exact (Truth false) (Truth true) h = absurd (let bad : ⊥ = cc in bad)
leaf_exact (Truth a) (Read b) h = absurd (let bad : ⊥ = cc in bad)
leaf_exact (Read a) (Number b) h = absurd (let bad : ⊥ = cc in bad)
leaf_exact (Read a) (Truth b) h = absurd (let bad : ⊥ = cc in bad)
leaf_exact (Read a) (Read b) h = ap (λ z. Read z) (exact_unsigned a b h)

kind_exact : (x y : Kind) → kind_cmp x y ≡ Equal → x ≡ y
kind_exact (kind.Function a) (kind.Function b) h = ap (λ z. kind.Function z) (exact_unsigned a b h)
kind_exact (kind.Function a) kind.Select h = absurd (let bad : ⊥ = cc in bad)
kind_exact (kind.Function a) kind.Update h = absurd (let bad : ⊥ = cc in bad)
kind_exact (kind.Function a) (kind.Part b) h = absurd (let bad : ⊥ = cc in bad)
kind_exact kind.Select (kind.Function b) h = absurd (let bad : ⊥ = cc in bad)
kind_exact kind.Select kind.Select h = refl
kind_exact kind.Select kind.Update h = absurd (let bad : ⊥ = cc in bad)
kind_exact kind.Select (kind.Part b) h = absurd (let bad : ⊥ = cc in bad)
kind_exact kind.Update (kind.Function b) h = absurd (let bad : ⊥ = cc in bad)
kind_exact kind.Update kind.Select h = absurd (let bad : ⊥ = cc in bad)
kind_exact kind.Update kind.Update h = refl
kind_exact kind.Update (kind.Part b) h = absurd (let bad : ⊥ = cc in bad)
kind_exact (kind.Part a) (kind.Function b) h = absurd (let bad : ⊥ = cc in bad)
kind_exact (kind.Part a) kind.Select h = absurd (let bad : ⊥ = cc in bad)
kind_exact (kind.Part a) kind.Update h = absurd (let bad : ⊥ = cc in bad)
kind_exact (kind.Part a) (kind.Part b) h = ap (λ z. kind.Part z) (exact_unsigned a b h)

first_equal : (o p : Ordering) → is_eq (ordering_then o p) ≡ true → (o ≡ Equal) × (is_eq p ≡ true)
first_equal Less p h = absurd (let bad : ⊥ = cc in bad)
first_equal Equal p h = (refl, h)
first_equal Greater p h = absurd (let bad : ⊥ = cc in bad)

list_is : (xs ys : List Leaf) → is_eq (slice_cmp leaf_cmp xs ys) ≡ true → xs ≡ ys
list_is [] [] h = refl
list_is [] (y ∷ ys) h = absurd (let bad : ⊥ = cc in bad)
list_is (x ∷ xs) [] h = absurd (let bad : ⊥ = cc in bad)
list_is (x ∷ xs) (y ∷ ys) h =
    let e = first_equal (leaf_cmp x y) (slice_cmp leaf_cmp xs ys) h in
    ap (λ z. z ∷ xs) (leaf_exact x y e.0) ∙ ap (λ l. y ∷ l) (list_is xs ys e.1)

pub key_is : (x y : KeyOf) → is_eq (key_cmp x y) ≡ true → x ≡ y
key_is x y h =
    let e = first_equal (kind_cmp x.0 y.0) (slice_cmp leaf_cmp x.1 y.1) h in
    ap (λ z. (z, x.1)) (kind_exact x.0 y.0 e.0) ∙ ap (λ z. (y.0, z)) (list_is x.1 y.1 e.1)

reversed : (o : Ordering) → o ≡ ordering_reverse o → o ≡ Equal
reversed Less h = absurd (let bad : ⊥ = cc in bad)
reversed Equal h = refl
reversed Greater h = absurd (let bad : ⊥ = cc in bad)

nat_same : (n : ℕ) → nat_cmp n n ≡ Equal
nat_same n = reversed (nat_cmp n n) (nat_cmp_total.antisymm n n)

int_same : (z : ℤ) → int_cmp z z ≡ Equal
int_same z = reversed (int_cmp z z) (int_cmp_total.antisymm z z)

leaf_equal : (x : Leaf) → leaf_cmp x x ≡ Equal
leaf_equal (Number a) = int_same a
leaf_equal (Truth true) = refl
leaf_equal (Truth false) = refl
leaf_equal (Read a) = nat_same a

leaves_equal : (xs : List Leaf) → slice_cmp leaf_cmp xs xs ≡ Equal
leaves_equal [] = refl
leaves_equal (x ∷ xs) = rw (leaf_equal x) (leaves_equal xs)

kind_equal : (x : Kind) → kind_cmp x x ≡ Equal
kind_equal (kind.Function f) = nat_same f
kind_equal kind.Select = refl
kind_equal kind.Update = refl
kind_equal (kind.Part j) = nat_same j

pub key_same : (x : KeyOf) → is_eq (key_cmp x x) ≡ true
key_same x = rw (kind_equal x.0) (rw (leaves_equal x.1) refl)

-- ---- kinds that are one

abbrev pub kind_eq : Kind → Kind → Bool
kind_eq (kind.Function f) (kind.Function g) = f == g
kind_eq kind.Select kind.Select = true
kind_eq kind.Update kind.Update = true
kind_eq (kind.Part i) (kind.Part j) = i == j
kind_eq _ _ = false

kind_is : (x y : Kind) → kind_eq x y ≡ true → x ≡ y
kind_is (kind.Function a) (kind.Function b) h = ap (λ z. kind.Function z) (eqb-true a b h)
kind_is (kind.Function a) kind.Select h = absurd (let bad : ⊥ = cc in bad)
kind_is (kind.Function a) kind.Update h = absurd (let bad : ⊥ = cc in bad)
kind_is (kind.Function a) (kind.Part b) h = absurd (let bad : ⊥ = cc in bad)
kind_is kind.Select (kind.Function b) h = absurd (let bad : ⊥ = cc in bad)
kind_is kind.Select kind.Select h = refl
kind_is kind.Select kind.Update h = absurd (let bad : ⊥ = cc in bad)
kind_is kind.Select (kind.Part b) h = absurd (let bad : ⊥ = cc in bad)
kind_is kind.Update (kind.Function b) h = absurd (let bad : ⊥ = cc in bad)
kind_is kind.Update kind.Select h = absurd (let bad : ⊥ = cc in bad)
kind_is kind.Update kind.Update h = refl
kind_is kind.Update (kind.Part b) h = absurd (let bad : ⊥ = cc in bad)
kind_is (kind.Part a) (kind.Function b) h = absurd (let bad : ⊥ = cc in bad)
kind_is (kind.Part a) kind.Select h = absurd (let bad : ⊥ = cc in bad)
kind_is (kind.Part a) kind.Update h = absurd (let bad : ⊥ = cc in bad)
kind_is (kind.Part a) (kind.Part b) h = ap (λ z. kind.Part z) (eqb-true a b h)

-- ---- leaves that are one

abbrev leaf_eq : Leaf → Leaf → Bool
leaf_eq (Number y) (Number z) = int_eq y z
leaf_eq (Truth a) (Truth b) = bool_eq a b
leaf_eq (Read i) (Read j) = i == j
leaf_eq _ _ = false

abbrev pub leaves_eq : List Leaf → List Leaf → Bool
leaves_eq [] [] = true
leaves_eq (x ∷ xs) (y ∷ ys) = leaf_eq x y && leaves_eq xs ys
leaves_eq _ _ = false

abbrev pub both_and : {A : Type 0} → (A → A → Bool) → Option A → Option A → Bool
both_and f None m = false
both_and f (Some x) None = false
both_and f (Some x) (Some y) = f x y

one_leaf : (x y : s.Ex) → is_one_leaf x y ≡ both_and leaf_eq (leaf_in x) (leaf_in y)
one_leaf (s.Number x) (s.Number y) = refl
one_leaf (s.Number x) (s.Fact a) = refl
one_leaf (s.Number x) (s.Constant k) = refl
one_leaf (s.Number x) (s.Read (s.Local j)) = refl
one_leaf (s.Number x) (s.Read (s.Global j)) = refl
one_leaf (s.Number x) (s.Not e) = refl
one_leaf (s.Number x) (s.Negative e) = refl
one_leaf (s.Number x) (s.Binary o a b) = refl
one_leaf (s.Number x) (s.Apply f es) = refl
one_leaf (s.Number x) (s.Select m es) = refl
one_leaf (s.Number x) (s.Update m es e) = refl
one_leaf (s.Number x) (s.Old e) = refl
one_leaf (s.Fact x) (s.Number y) = refl
one_leaf (s.Fact x) (s.Fact a) = refl
one_leaf (s.Fact x) (s.Constant k) = refl
one_leaf (s.Fact x) (s.Read (s.Local j)) = refl
one_leaf (s.Fact x) (s.Read (s.Global j)) = refl
one_leaf (s.Fact x) (s.Not e) = refl
one_leaf (s.Fact x) (s.Negative e) = refl
one_leaf (s.Fact x) (s.Binary o a b) = refl
one_leaf (s.Fact x) (s.Apply f es) = refl
one_leaf (s.Fact x) (s.Select m es) = refl
one_leaf (s.Fact x) (s.Update m es e) = refl
one_leaf (s.Fact x) (s.Old e) = refl
one_leaf (s.Read (s.Local i)) (s.Number y) = refl
one_leaf (s.Read (s.Local i)) (s.Fact a) = refl
one_leaf (s.Read (s.Local i)) (s.Constant k) = refl
one_leaf (s.Read (s.Local i)) (s.Read (s.Local j)) = refl
one_leaf (s.Read (s.Local i)) (s.Read (s.Global j)) = refl
one_leaf (s.Read (s.Local i)) (s.Not e) = refl
one_leaf (s.Read (s.Local i)) (s.Negative e) = refl
one_leaf (s.Read (s.Local i)) (s.Binary o a b) = refl
one_leaf (s.Read (s.Local i)) (s.Apply f es) = refl
one_leaf (s.Read (s.Local i)) (s.Select m es) = refl
one_leaf (s.Read (s.Local i)) (s.Update m es e) = refl
one_leaf (s.Read (s.Local i)) (s.Old e) = refl
one_leaf (s.Read (s.Global i)) y = refl
one_leaf (s.Constant k) y = refl
one_leaf (s.Not e) y = refl
one_leaf (s.Negative e) y = refl
one_leaf (s.Binary o a b) y = refl
one_leaf (s.Apply f es) y = refl
one_leaf (s.Select m es) y = refl
one_leaf (s.Update m es e) y = refl
one_leaf (s.Old e) y = refl

pub and_false : (b : Bool) → (b && false) ≡ false
and_false true = refl
and_false false = refl

heads_and : (x y : Option Leaf) (xs ys : Option (List Leaf)) → (both_and leaf_eq x y && both_and leaves_eq xs ys) ≡ both_and leaves_eq (with_leaf x xs) (with_leaf y ys)
heads_and None y xs ys = refl
heads_and (Some x) None None ys = refl
heads_and (Some x) None (Some xs) ys = refl
heads_and (Some x) (Some y) None ys = and_false (leaf_eq x y)
heads_and (Some x) (Some y) (Some xs) None = and_false (leaf_eq x y)
heads_and (Some x) (Some y) (Some xs) (Some ys) = refl

none_one : (y : Option Leaf) (ys : Option (List Leaf)) → false ≡ both_and leaves_eq (Some []) (with_leaf y ys)
none_one None ys = refl
none_one (Some y) None = refl
none_one (Some y) (Some ys) = refl

one_none : (x : Option Leaf) (xs : Option (List Leaf)) → false ≡ both_and leaves_eq (with_leaf x xs) (Some [])
one_none None xs = refl
one_none (Some x) None = refl
one_none (Some x) (Some xs) = refl

pub one_leaves : (xs ys : List s.Ex) → are_one (listed xs) (listed ys) ≡ both_and leaves_eq (leaves_in xs) (leaves_in ys)
one_leaves [] [] = refl
one_leaves [] (y ∷ ys) = none_one (leaf_in y) (leaves_in ys)
one_leaves (x ∷ xs) [] = one_none (leaf_in x) (leaves_in xs)
one_leaves (x ∷ xs) (y ∷ ys) =
    ap (λ b. b && are_one (listed xs) (listed ys)) (one_leaf x y)
    ∙ ap (λ b. both_and leaf_eq (leaf_in x) (leaf_in y) && b) (one_leaves xs ys)
    ∙ heads_and (leaf_in x) (leaf_in y) (leaves_in xs) (leaves_in ys)

-- ---- leaves that are one are equal

pub and_both : (a b : Bool) → a ≡ true → b ≡ true → (a && b) ≡ true
and_both a b h k = ap (λ x. x && b) h ∙ k

pub and_left : (a b : Bool) → (a && b) ≡ true → a ≡ true
and_left true b h = refl
and_left false b h = h

pub and_right : (a b : Bool) → (a && b) ≡ true → b ≡ true
and_right true b h = h
and_right false b h = absurd (let bad : ⊥ = cc in bad)

whole_is : (x y : ℤ) → int_eq x y ≡ true → x ≡ y
whole_is x y h = grind arith

truth_is : (x y : Bool) → bool_eq x y ≡ true → x ≡ y
truth_is true true h = refl
truth_is true false h = absurd (let bad : ⊥ = cc in bad)
truth_is false true h = absurd (let bad : ⊥ = cc in bad)
truth_is false false h = refl

leaf_is : (x y : Leaf) → leaf_eq x y ≡ true → x ≡ y
leaf_is (Number a) (Number b) h = ap (λ z. Number z) (whole_is a b h)
leaf_is (Number a) (Truth b) h = absurd (let bad : ⊥ = cc in bad)
leaf_is (Number a) (Read b) h = absurd (let bad : ⊥ = cc in bad)
leaf_is (Truth a) (Number b) h = absurd (let bad : ⊥ = cc in bad)
leaf_is (Truth a) (Truth b) h = ap (λ z. Truth z) (truth_is a b h)
leaf_is (Truth a) (Read b) h = absurd (let bad : ⊥ = cc in bad)
leaf_is (Read a) (Number b) h = absurd (let bad : ⊥ = cc in bad)
leaf_is (Read a) (Truth b) h = absurd (let bad : ⊥ = cc in bad)
leaf_is (Read a) (Read b) h = ap (λ z. Read z) (eqb-true a b h)

leaves_are : (xs ys : List Leaf) → leaves_eq xs ys ≡ true → xs ≡ ys
leaves_are [] [] h = refl
leaves_are [] (y ∷ ys) h = absurd (let bad : ⊥ = cc in bad)
leaves_are (x ∷ xs) [] h = absurd (let bad : ⊥ = cc in bad)
leaves_are (x ∷ xs) (y ∷ ys) h =
    ap (λ z. z ∷ xs) (leaf_is x y (and_left (leaf_eq x y) (leaves_eq xs ys) h)) ∙ ap (λ l. y ∷ l) (leaves_are xs ys (and_right (leaf_eq x y) (leaves_eq xs ys) h))

number_self : (n : ℕ) → (n == n) ≡ true
number_self n = grind (arith, nat_tests)

whole_self : (z : ℤ) → int_eq z z ≡ true
whole_self z = grind (arith, ints)

truth_self : (b : Bool) → bool_eq b b ≡ true
truth_self true = refl
truth_self false = refl

leaf_self : (x : Leaf) → leaf_eq x x ≡ true
leaf_self (Number a) = whole_self a
leaf_self (Truth a) = truth_self a
leaf_self (Read a) = number_self a

leaves_self : (xs : List Leaf) → leaves_eq xs xs ≡ true
leaves_self [] = refl
leaves_self (x ∷ xs) = and_both (leaf_eq x x) (leaves_eq xs xs) (leaf_self x) (leaves_self xs)

-- two tests that hold alike are equal
pub alike : (a b : Bool) → (a ≡ true → b ≡ true) → (b ≡ true → a ≡ true) → a ≡ b
alike true b f g = sym (f refl)
alike false true f g = g refl
alike false false f g = refl

kind_self : (x : Kind) → kind_eq x x ≡ true
kind_self (kind.Function f) = number_self f
kind_self kind.Select = refl
kind_self kind.Update = refl
kind_self (kind.Part j) = number_self j

pub key_tells : (q r : Kind) (ls ms : List Leaf) → is_eq (key_cmp (q, ls) (r, ms)) ≡ (kind_eq r q && leaves_eq ms ls)
key_tells q r ls ms = alike _ _ there back
  where
    there : is_eq (key_cmp (q, ls) (r, ms)) ≡ true → (kind_eq r q && leaves_eq ms ls) ≡ true
    there h =
        let same = key_is (q, ls) (r, ms) h in
        subst (λ (k : KeyOf). (kind_eq k.0 q && leaves_eq k.1 ls) ≡ true) same (and_both (kind_eq q q) (leaves_eq ls ls) (kind_self q) (leaves_self ls))

    back : (kind_eq r q && leaves_eq ms ls) ≡ true → is_eq (key_cmp (q, ls) (r, ms)) ≡ true
    back h =
        let a : r ≡ q = kind_is r q (and_left (kind_eq r q) (leaves_eq ms ls) h) in
        let b : ms ≡ ls = leaves_are ms ls (and_right (kind_eq r q) (leaves_eq ms ls) h) in
        subst (λ k. is_eq (key_cmp (q, ls) (k, ms)) ≡ true) (sym a) (subst (λ k. is_eq (key_cmp (q, ls) (q, k)) ≡ true) (sym b) (key_same (q, ls)))

-- what kinds and leaves that are one tell of a key
pub key_both : (q r : Kind) (ls ms : List Leaf) → r ≡ q → leaves_eq ms ls ≡ true → is_eq (key_cmp (q, ls) (r, ms)) ≡ true
key_both q r ls ms h k =
    key_tells q r ls ms ∙ and_both (kind_eq r q) (leaves_eq ms ls) (subst (λ x. kind_eq x q ≡ true) (sym h) (kind_self q)) k

pub key_leaves : (q r : Kind) (ls ms : List Leaf) → is_eq (key_cmp (q, ls) (r, ms)) ≡ true → leaves_eq ms ls ≡ true
key_leaves q r ls ms h = and_right (kind_eq r q) (leaves_eq ms ls) (sym (key_tells q r ls ms) ∙ h)
