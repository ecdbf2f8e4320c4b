-- Marks of atoms, and rows by their marks.
use Rattle.std.proofs.Common.{◌≡◌, ℕ, zero, suc, ◌+◌, ◌-◌, ◌<◌, ◌≤◌, Bool, true, false, List, [], ◌∷◌, length, drop, replicate, slice_set, refl, ap, sym, ◌∙◌, arith}
use Rattle.std.specs.Prelude.{◌==◌, ◌||◌, get_or}
use Rattle.std.proofs.lemmas.List.{drop_more}
use Rattle.std.proofs.Math.ListN.{drop_of_length-le}
use Rattle.std.proofs.lemmas.Bool.Decides.{nat_tests}
use Rattle.bg_formula.specs.Atoms.{AtomOf}
use Rattle.bg_formed.specs.Formed.{FormBlock}
use Rattle.bg_slice.specs.Slices.{names_blocks, row_if, sliced_rows}
use Rattle.bg_slice.specs.Marks.{marked, marked_rows}

or_none : (a : Bool) → (a || false) ≡ a
or_none true = refl
or_none false = refl

or_true : (a : Bool) → (a || true) ≡ true
or_true true = refl
or_true false = refl

or_assoc : (a b c : Bool) → ((a || b) || c) ≡ (a || (b || c))
or_assoc true b c = refl
or_assoc false b c = refl

other : (n a : ℕ) → a < n → (n == a) ≡ false
other n a h = grind (arith, nat_tests)

same_one : (n : ℕ) → (n == n) ≡ true
same_one n = grind (arith, nat_tests)

behind : (n i : ℕ) → (n == n + suc i) ≡ false
behind n i = grind (arith, nat_tests)

-- where no atom has the property no mark changes
pub marked_none : (n : ℕ) (ms : List Bool) → marked (λ k. false) n ms ≡ ms
marked_none n [] = refl
marked_none n (m ∷ ms) = rw (or_none m) (ap (λ l. m ∷ l) (marked_none (suc n) ms))

-- one property and then another
pub marked_both : (p q : ℕ → Bool) (n : ℕ) (ms : List Bool) → marked q n (marked p n ms) ≡ marked (λ k. p k || q k) n ms
marked_both p q n [] = refl
marked_both p q n (m ∷ ms) = rw (or_assoc m (p n) (q n)) (ap (λ l. (m || (p n || q n)) ∷ l) (marked_both p q (suc n) ms))

pub marked_under : (a n : ℕ) (ms : List Bool) → a < n → marked (λ k. k == a) n ms ≡ ms
marked_under a n [] h = refl
marked_under a n (m ∷ ms) h =
    rw (other n a h, or_none m) (ap (λ l. m ∷ l) (marked_under a (suc n) ms (search (h, arith))))

pub marked_over : (i n : ℕ) (ms : List Bool) → length ms ≤ i → marked (λ k. k == n + i) n ms ≡ ms
marked_over i n [] h = refl
marked_over zero n (m ∷ ms) h = absurd (search (h, arith))
marked_over (suc i) n (m ∷ ms) h =
    rw (behind n i, or_none m) (ap (λ l. m ∷ l) (ap (λ a. marked (λ k. k == a) (suc n) ms) (shift n i) ∙ marked_over i (suc n) ms (search (h, arith))))
  where
    shift : (n i : ℕ) → n + suc i ≡ suc n + i
    shift n i = search arith

pub marked_at : (i n : ℕ) (ms : List Bool) → i < length ms → marked (λ k. k == n + i) n ms ≡ slice_set ms i true
marked_at i n [] h = absurd (search (h, arith))
marked_at zero n (m ∷ ms) h =
    rw (first n, or_true m) (ap (λ l. true ∷ l) (ap (λ a. marked (λ k. k == a) (suc n) ms) (none n) ∙ marked_under n (suc n) ms (search arith)))
  where
    first : (n : ℕ) → (n == n + 0) ≡ true
    first n = grind (arith, nat_tests)

    none : (n : ℕ) → n + 0 ≡ n
    none n = search arith
marked_at (suc i) n (m ∷ ms) h =
    rw (behind n i, or_none m) (ap (λ l. m ∷ l) (ap (λ a. marked (λ k. k == a) (suc n) ms) (shift n i) ∙ marked_at i (suc n) ms (search (h, arith))))
  where
    shift : (n i : ℕ) → n + suc i ≡ suc n + i
    shift n i = search arith

-- the same, where the atom's number is given
pub one_under : (a n : ℕ) (ms : List Bool) → a < n → ms ≡ marked (λ k. k == a) n ms
one_under a n ms h = sym (marked_under a n ms h)

up_to : (a n : ℕ) → n ≤ a → n + (a - n) ≡ a
up_to a n h = search (h, arith)

pub one_at : (a n : ℕ) (ms : List Bool) → n ≤ a → a - n < length ms → slice_set ms (a - n) true ≡ marked (λ k. k == a) n ms
one_at a n ms h less =
    sym (marked_at (a - n) n ms less) ∙ ap (λ b. marked (λ k. k == b) n ms) (up_to a n h)

pub one_over : (a n : ℕ) (ms : List Bool) → n ≤ a → length ms ≤ a - n → ms ≡ marked (λ k. k == a) n ms
one_over a n ms h more =
    sym (marked_over (a - n) n ms more) ∙ ap (λ b. marked (λ k. k == b) n ms) (up_to a n h)

from_none : (a : ℕ) → 0 + a ≡ a
from_none a = search arith

-- the same from the first number on
pub first_at : (a : ℕ) (ms : List Bool) → a < length ms → slice_set ms a true ≡ marked (λ k. k == a) 0 ms
first_at a ms less = sym (marked_at a 0 ms less) ∙ ap (λ b. marked (λ k. k == b) 0 ms) (from_none a)

pub first_over : (a : ℕ) (ms : List Bool) → length ms ≤ a → ms ≡ marked (λ k. k == a) 0 ms
first_over a ms more = sym (marked_over a 0 ms more) ∙ ap (λ b. marked (λ k. k == b) 0 ms) (from_none a)

pub ruleset one_rules = (one_under, one_at, one_over)

-- rows by marks of the atoms that blocks name are those that are left
pub rows_are : (bs : List FormBlock) (n : ℕ) (rows : List AtomOf) → marked_rows (marked (λ k. names_blocks k bs) n (replicate (length rows) false)) rows ≡ sliced_rows n bs rows
rows_are bs n [] = refl
rows_are bs n (a ∷ rows) = ap (λ l. row_if (names_blocks n bs) a ∷ l) (rows_are bs (suc n) rows)

pub drop_item : {A : Type 0} (xs : List A) (i : ℕ) (x : A) → i < length xs → x ≡ get_or xs i x → drop i xs ≡ x ∷ drop (i + 1) xs
drop_item xs i x h is = drop_more xs i x h ∙ ap (λ y. y ∷ drop (i + 1) xs) (sym is)

pub drop_all : {A : Type 0} (xs : List A) (i : ℕ) → length xs ≤ i → drop i xs ≡ []
drop_all xs i h = drop_of_length-le xs h
