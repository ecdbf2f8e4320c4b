-- The truth values of a path and the numbers of a point, xs lists.
use Rattle.std.proofs.Common.{◌≡◌, ℕ, zero, suc, ◌+◌, ◌<◌, ◌≤◌, ℤ, pos, Bool, true, false, if◌then◌else◌, List, [], ◌∷◌, length, map, None, refl, sym, ap, ◌∙◌, subst, replicate, arith}
use Rattle.std.specs.Prelude.{◌&&◌, ◌||◌, ◌==◌, nat_eq, slice_get, slice_set, unwrap_or}
use Rattle.std.proofs.lemmas.Bool.Decides.{nat_tests}
use Rattle.bg_rows.specs.declared.entry.Entry.{Entry}
use Rattle.bg_formula.specs.Atoms.{AtomOf, IsTruth, IsRow}
use Rattle.bg_cert.specs.declared.cert.Decision.{Decision}
use Rattle.bg_cert.specs.declared.cert.Decision.TheVariants.{Atom, AtMost}
use Rattle.bg_cert.specs.Paths.{decides}
use Rattle.bg_point.specs.declared.spot.Spot.{Spot}
use Rattle.bg_linear.specs.declared.scalar.Sort.{Sort}
use Rattle.bg_linear.specs.declared.scalar.Sort.TheVariants as sort
use Rattle.bg_linear.specs.Sorts.{scalar_value, scalar_values}
use Rattle.bg_atoms.specs.Ranks.{one_for, rank}
use Rattle.bg_forms.specs.Worth.{bools_at}
use Rattle.bg_scalar.specs.Values.{val_of}
use Rattle.bg_check.specs.Leaves.{marked, names, speaks_of, value_or, leaf_number, noted_by, noted_in, noted, numbered, unnamed, unnamed_by, scalar_for, scalars_from}

-- ---- lists with one item set

after_zero : (a : ℕ) → (suc a == 0) ≡ false
after_zero a = grind arith

before_one : (a : ℕ) → (0 == suc a) ≡ false
before_one a = grind arith

same_test : (x y : ℕ) → (x == y) ≡ (suc x == suc y)
same_test x y = grind arith

pub past_end : {A : Type 0} (xs : List A) (a : ℕ) → length xs ≤ a → slice_get xs a ≡ None
past_end [] a l = refl
past_end (x ∷ xs) zero l = absurd (omega (arith, l))
past_end (x ∷ xs) (suc a) l = past_end xs a (omega (arith, l))

pub set_length : {A : Type 0} (xs : List A) (b : ℕ) (y : A) → length (slice_set xs b y) ≡ length xs
set_length [] b y = refl
set_length (x ∷ xs) zero y = refl
set_length (x ∷ xs) (suc b) y = ap (λ n. suc n) (set_length xs b y)

long : {A : Type 0} (n : ℕ) (x : A) → length (replicate n x) ≡ n
long zero x = refl
long (suc n) x = ap (λ i. suc i) (long n x)

all_same : {A : Type 0} (n a : ℕ) (x : A) → unwrap_or (slice_get (replicate n x) a) x ≡ x
all_same zero a x = refl
all_same (suc n) zero x = refl
all_same (suc n) (suc a) x = all_same n a x

-- ---- truth values

get_set : (ts : List Bool) (b a : ℕ) → a < length ts → unwrap_or (slice_get (slice_set ts b true) a) false ≡ ((a == b) || unwrap_or (slice_get ts a) false)
get_set [] b a l = absurd (omega arith)
get_set (t ∷ ts) zero zero l = refl
get_set (t ∷ ts) zero (suc a) l = sym (ap (λ x. x || unwrap_or (slice_get ts a) false) (after_zero a))
get_set (t ∷ ts) (suc b) zero l = sym (ap (λ x. x || t) (before_one b))
get_set (t ∷ ts) (suc b) (suc a) l =
    get_set ts b a (omega arith) ∙ ap (λ x. x || unwrap_or (slice_get ts a) false) (same_test a b)

turned : (e t d : Bool) → ((e || t) || d) ≡ (t || ((e && true) || d))
turned true true d = refl
turned true false d = refl
turned false true d = refl
turned false false d = refl

kept : (e t d : Bool) → (t || d) ≡ (t || ((e && false) || d))
kept true true d = refl
kept true false d = refl
kept false true d = refl
kept false false d = refl

marked_at : (ds : List Decision) (ts : List Bool) (a : ℕ) → a < length ts → unwrap_or (slice_get (marked ds ts) a) false ≡ (unwrap_or (slice_get ts a) false || decides a true ds)
marked_at [] ts a l = last (unwrap_or (slice_get ts a) false)
  where
    last : (t : Bool) → t ≡ (t || false)
    last true = refl
    last false = refl
marked_at (Atom b true ∷ ds) ts a l =
    marked_at ds (slice_set ts b true) a (subst (λ n. a < n) (sym (set_length ts b true)) l)
    ∙ (ap (λ x. x || decides a true ds) (get_set ts b a l) ∙ turned (a == b) (unwrap_or (slice_get ts a) false) (decides a true ds))
marked_at (Atom b false ∷ ds) ts a l = marked_at ds ts a l ∙ kept (a == b) (unwrap_or (slice_get ts a) false) (decides a true ds)
marked_at (AtMost x k s ∷ ds) ts a l = marked_at ds ts a l

marked_length : (ds : List Decision) (ts : List Bool) → length (marked ds ts) ≡ length ts
marked_length [] ts = refl
marked_length (Atom b true ∷ ds) ts = marked_length ds (slice_set ts b true) ∙ set_length ts b true
marked_length (Atom b false ∷ ds) ts = marked_length ds ts
marked_length (AtMost x k s ∷ ds) ts = marked_length ds ts

-- an atom that is there is true exactly where the path makes it so
pub leaf_truth : (ds : List Decision) (n a : ℕ) → a < n → bools_at (marked ds (replicate n false)) a ≡ decides a true ds
leaf_truth ds n a l =
    marked_at ds (replicate n false) a (subst (λ k. a < k) (sym (long n false)) l)
    ∙ ap (λ b. b || decides a true ds) (all_same n a false)

pub no_truth : (ds : List Decision) (n a : ℕ) → n ≤ a → bools_at (marked ds (replicate n false)) a ≡ false
no_truth ds n a l =
    ap (λ o. unwrap_or o false) (past_end (marked ds (replicate n false)) a (subst (λ k. k ≤ a) (sym (marked_length ds (replicate n false) ∙ long n false)) l))

-- ---- numbers

not_zero : (j : ℕ) → nat_eq (suc j) 0 ≡ false
not_zero j = grind (arith, nat_tests)

not_later : (k : ℕ) → nat_eq 0 (suc k) ≡ false
not_later k = grind (arith, nat_tests)

same_later : (j k : ℕ) → nat_eq j k ≡ nat_eq (suc j) (suc k)
same_later j k = grind (arith, nat_tests)

set_at : {A : Type 0} (zs : List A) (k j : ℕ) (z d : A) → j < length zs → unwrap_or (slice_get (slice_set zs k z) j) d ≡ (if nat_eq j k then z else unwrap_or (slice_get zs j) d)
set_at [] k j z d l = absurd (omega arith)
set_at (y ∷ zs) zero zero z d l = refl
set_at (y ∷ zs) zero (suc j) z d l =
    sym (ap (λ b. if b then z else unwrap_or (slice_get zs j) d) (not_zero j))
set_at (y ∷ zs) (suc k) zero z d l = sym (ap (λ b. if b then z else y) (not_later k))
set_at (y ∷ zs) (suc k) (suc j) z d l =
    set_at zs k j z d (omega (arith, l))
    ∙ ap (λ b. if b then z else unwrap_or (slice_get zs j) d) (same_later j k)

pub numbered_length : (ss : List Spot) (zs : List ℤ) → length (numbered ss zs) ≡ length zs
numbered_length [] zs = refl
numbered_length (s ∷ ss) zs = set_length (numbered ss zs) s.variable s.value ∙ numbered_length ss zs

-- the number of what is in a list is that of its spot, or the one of the list
spotted : (ss : List Spot) (zs : List ℤ) (j : ℕ) → j < length zs → unwrap_or (slice_get (numbered ss zs) j) (pos 0) ≡ value_or (unwrap_or (slice_get zs j) (pos 0)) ss j
spotted [] zs j l = refl
spotted (s ∷ ss) zs j l =
    set_at (numbered ss zs) s.variable j s.value (pos 0) (subst (λ k. j < k) (sym (numbered_length ss zs)) l)
    ∙ ap (λ y. if nat_eq j s.variable then s.value else y) (spotted ss zs j l)

unnamed_length : (targets : ℕ → ℤ) (xs : List AtomOf) (k n : ℕ) → length (unnamed targets xs k n) ≡ n
unnamed_length targets xs k zero = refl
unnamed_length targets xs k (suc n) = ap (λ i. suc i) (unnamed_length targets xs (suc k) n)

without_point : (targets : ℕ → ℤ) (xs : List AtomOf) (k n j : ℕ) → j < n → unwrap_or (slice_get (unnamed targets xs k n) j) (pos 0) ≡ (if speaks_of (k + j) xs then pos 0 else targets (k + j))
without_point targets xs k zero j l = absurd (omega (arith, l))
without_point targets xs k (suc n) zero l =
    let here : k + 0 ≡ k = omega arith in
    ap (λ i. if speaks_of i xs then pos 0 else targets i) (sym here)
without_point targets xs k (suc n) (suc j) l =
    let there : suc k + j ≡ k + suc j = omega arith in
    without_point targets xs (suc k) n j (omega (arith, l))
    ∙ ap (λ i. if speaks_of i xs then pos 0 else targets i) there

-- the number of one of the first n
pub number_at : (targets : ℕ → ℤ) (xs : List AtomOf) (ss : List Spot) (n j : ℕ) → j < n → unwrap_or (slice_get (numbered ss (unnamed targets xs 0 n)) j) (pos 0) ≡ leaf_number targets xs ss j
number_at targets xs ss n j l =
    let none : 0 + j ≡ j = omega arith in
    spotted ss (unnamed targets xs 0 n) j (subst (λ k. j < k) (sym (unnamed_length targets xs 0 n)) l)
    ∙ ap (λ z. value_or z ss j) (without_point targets xs 0 n j l ∙ ap (λ i. if speaks_of i xs then pos 0 else targets i) none)

-- ---- marks of what rows name

note_one : (bs : List Bool) (k x : ℕ) → x < length bs → unwrap_or (slice_get (slice_set bs k true) x) false ≡ (nat_eq x k || unwrap_or (slice_get bs x) false)
note_one bs k x l = set_at bs k x true false l ∙ by (nat_eq x k) (unwrap_or (slice_get bs x) false)
  where
    by : (b c : Bool) → (if b then true else c) ≡ (b || c)
    by true c = refl
    by false c = refl

later : (e t d : Bool) → ((e || t) || d) ≡ (t || (e || d))
later true true d = refl
later true false d = refl
later false true d = refl
later false false d = refl

at_last : (t : Bool) → t ≡ (t || false)
at_last true = refl
at_last false = refl

either : (t d e : Bool) → ((t || d) || e) ≡ (t || (d || e))
either true d e = refl
either false d e = refl

by_length : (ts : List Entry) (bs : List Bool) → length (noted_by ts bs) ≡ length bs
by_length [] bs = refl
by_length (t ∷ ts) bs = by_length ts (slice_set bs t.variable true) ∙ set_length bs t.variable true

in_length : (a : AtomOf) (bs : List Bool) → length (noted_in a bs) ≡ length bs
in_length (IsTruth y) bs = refl
in_length (IsRow r d) bs = by_length r.entries bs

noted_length : (xs : List AtomOf) (bs : List Bool) → length (noted xs bs) ≡ length bs
noted_length [] bs = refl
noted_length (a ∷ xs) bs = noted_length xs (noted_in a bs) ∙ in_length a bs

by_at : (ts : List Entry) (bs : List Bool) (x : ℕ) → x < length bs → unwrap_or (slice_get (noted_by ts bs) x) false ≡ (unwrap_or (slice_get bs x) false || names x ts)
by_at [] bs x l = at_last (unwrap_or (slice_get bs x) false)
by_at (t ∷ ts) bs x l =
    by_at ts (slice_set bs t.variable true) x (subst (λ n. x < n) (sym (set_length bs t.variable true)) l)
    ∙ (ap (λ b. b || names x ts) (note_one bs t.variable x l) ∙ later (nat_eq x t.variable) (unwrap_or (slice_get bs x) false) (names x ts))

noted_at : (xs : List AtomOf) (bs : List Bool) (x : ℕ) → x < length bs → unwrap_or (slice_get (noted xs bs) x) false ≡ (unwrap_or (slice_get bs x) false || speaks_of x xs)
noted_at [] bs x l = at_last (unwrap_or (slice_get bs x) false)
noted_at (IsTruth y ∷ xs) bs x l = noted_at xs bs x l
noted_at (IsRow r d ∷ xs) bs x l =
    noted_at xs (noted_by r.entries bs) x (subst (λ n. x < n) (sym (by_length r.entries bs)) l)
    ∙ (ap (λ b. b || speaks_of x xs) (by_at r.entries bs x l) ∙ either (unwrap_or (slice_get bs x) false) (names x r.entries) (speaks_of x xs))

by_marks : (targets : ℕ → ℤ) (xs : List AtomOf) (bs : List Bool) (j : ℕ) → ((i : ℕ) → i < length bs → unwrap_or (slice_get bs i) false ≡ speaks_of (j + i) xs) → unnamed_by targets j bs ≡ unnamed targets xs j (length bs)
by_marks targets xs [] j h = refl
by_marks targets xs (b ∷ bs) j h =
    let here : j + 0 ≡ j = omega arith in
    let first = h 0 (omega arith) ∙ ap (λ i. speaks_of i xs) here in
    ap (λ c. (if c then pos 0 else targets j) ∷ unnamed_by targets (suc j) bs) first
    ∙ ap (λ zs. (if speaks_of j xs then pos 0 else targets j) ∷ zs) (by_marks targets xs bs (suc j) (λ i l. h (suc i) (omega (arith, l)) ∙ ap (λ k. speaks_of k xs) (moved i)))
  where
    moved : (i : ℕ) → j + suc i ≡ suc j + i
    moved i = omega arith

-- by marks of what the rows of atoms name
pub unnamed_are : (targets : ℕ → ℤ) (xs : List AtomOf) (n : ℕ) → unnamed_by targets 0 (noted xs (replicate n false)) ≡ unnamed targets xs 0 n
unnamed_are targets xs n =
    let size = noted_length xs (replicate n false) ∙ long n false in
    by_marks targets xs (noted xs (replicate n false)) 0 (λ i l. marked_so i (subst (λ k. i < k) size l))
    ∙ ap (unnamed targets xs 0) size
  where
    marked_so : (i : ℕ) → i < n → unwrap_or (slice_get (noted xs (replicate n false)) i) false ≡ speaks_of (0 + i) xs
    marked_so i l =
        let none : i ≡ 0 + i = omega arith in
        noted_at xs (replicate n false) i (subst (λ k. i < k) (sym (long n false)) l)
        ∙ (ap (λ b. b || speaks_of i xs) (all_same n i false) ∙ ap (λ k. speaks_of k xs) none)

-- ---- scalars

one_value : (s : Sort) (z : ℤ) (b : Bool) → val_of (scalar_for s z b) ≡ scalar_value s z b
one_value sort.Truth z b = refl
one_value sort.Number z b = refl
one_value sort.Other z b = refl

-- what stands for the values of incarnations and terms are these numbers and truth values
pub scalars_are : (ts : List Bool) (zs : List ℤ) (numbers : ℕ → ℤ) (truths : ℕ → Bool) (j n : ℕ) (ss : List Sort) → ((i : ℕ) → i < length ss → unwrap_or (slice_get zs (j + i)) (pos 0) ≡ numbers i) → ((i : ℕ) → i < length ss → bools_at ts (n + rank ss i) ≡ truths i) → map val_of (scalars_from ts zs j n ss) ≡ scalar_values numbers truths ss
scalars_are ts zs numbers truths j n [] h g = refl
scalars_are ts zs numbers truths j n (s ∷ ss) h g =
    let here : j + 0 ≡ j = omega arith in
    let first : n + 0 ≡ n = omega arith in
    let x = unwrap_or (slice_get zs j) (pos 0) in
    let z = ap (λ i. unwrap_or (slice_get zs i) (pos 0)) (sym here) ∙ h 0 (omega arith) in
    let b = ap (bools_at ts) (sym first) ∙ g 0 (omega arith) in
    let head = one_value s x (bools_at ts n) ∙ (ap (λ y. scalar_value s y (bools_at ts n)) z ∙ ap (scalar_value s (numbers 0)) b) in
    let tail = scalars_are ts zs (λ i. numbers (suc i)) (λ i. truths (suc i)) (suc j) (n + one_for s) ss (λ i l. ap (λ k. unwrap_or (slice_get zs k) (pos 0)) (moved i) ∙ h (suc i) (omega (arith, l))) (λ i l. ap (bools_at ts) (ranked i) ∙ g (suc i) (omega (arith, l))) in
    ap (λ y. y ∷ map val_of (scalars_from ts zs (suc j) (n + one_for s) ss)) head
    ∙ ap (λ l. scalar_value s (numbers 0) (truths 0) ∷ l) tail
  where
    moved : (i : ℕ) → suc j + i ≡ j + suc i
    moved i = omega arith

    ranked : (i : ℕ) → (n + one_for s) + rank ss i ≡ n + rank (s ∷ ss) (suc i)
    ranked i = omega arith
