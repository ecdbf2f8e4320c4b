-- A table of first sections, filled from the last section to the first.
use Rattle.std.proofs.Common.{◌≡◌, ℕ, zero, suc, ◌+◌, ◌<◌, ◌≤◌, Bool, true, false, cond, ◌&&◌, ◌==◌, List, [], ◌∷◌, ◌++◌, length, drop, map, replicate, get_or, refl, sym, ap, ◌∙◌, subst, append_assoc, arith}
use Rattle.std.proofs.lemmas.List.{length-replicate, map-append}
use Rattle.std.specs.Prelude.{if◌then◌else◌, nat_lt, Option, Some, None, Vec, slice_get, slice_set}
use Rattle.std.specs.declared.alloc.Global.{Global}
use Rattle.std.proofs.lemmas.Bool.Decides.{nat_tests}
use Rattle.bg_places.specs.declared.place.Place.{Place}
use Rattle.bg_certtext.specs.declared.text.Section.{Section}
use Rattle.bg_certtext.specs.Views.{section_of}
use Rattle.bg_accept.specs.Sections.{is_at, section_at}
use Rattle.bg_accept.specs.Tables.{number_at, first_at, widths, counts, or_zero, is_there, section_of_number}

abbrev pub Row : Type 0
Row = Vec (Option ℕ) Global

same_suc : (n k : ℕ) → (suc n == suc k) ≡ (n == k)
same_suc n k = grind (arith, nat_tests)

-- ---- one section

pub widths_set : (t : List Row) (n : ℕ) (d w : Row) → n < length t → length w.items ≡ length (get_or t n d).items → widths (slice_set t n w) ≡ widths t
widths_set [] n d w l e = absurd (omega arith)
widths_set (x ∷ t) zero d w l e = ap (λ m. m ∷ widths t) e
widths_set (x ∷ t) (suc n) d w l e = ap (λ ms. length x.items ∷ ms) (widths_set t n d w (omega arith) e)

-- what a row has after its place has a section
abbrev pub PutIn : List (Option ℕ) → ℕ → ℕ → List (Option ℕ) → Type 0
PutIn old place number new =
    (i : ℕ) → number_at (slice_get new i) ≡ cond (place == i && nat_lt i (length old)) (Some number) (number_at (slice_get old i))

pub first_put : (t : List Row) (n : ℕ) (d w : Row) (place number : ℕ) → n < length t → PutIn (get_or t n d).items place number w.items → (k i : ℕ) → first_at (slice_set t n w) k i ≡ cond ((n == k && place == i) && is_there (widths t) k i) (Some number) (first_at t k i)
first_put [] n d w place number l h k i = absurd (omega arith)
first_put (x ∷ t) zero d w place number l h zero i = h i
first_put (x ∷ t) zero d w place number l h (suc k) i =
    let e : (0 == suc k) ≡ false = grind (arith, nat_tests) in
    sym (ap (λ b. cond ((b && place == i) && is_there (widths (x ∷ t)) (suc k) i) (Some number) (first_at t k i)) e)
first_put (x ∷ t) (suc n) d w place number l h zero i =
    let e : (suc n == 0) ≡ false = grind (arith, nat_tests) in
    sym (ap (λ b. cond ((b && place == i) && is_there (widths (x ∷ t)) 0 i) (Some number) (first_at (x ∷ t) 0 i)) e)
first_put (x ∷ t) (suc n) d w place number l h (suc k) i =
    first_put t n d w place number (omega arith) h k i
    ∙ ap (λ b. cond ((b && place == i) && is_there (widths t) k i) (Some number) (first_at t k i)) (sym (same_suc n k))

-- a section of an implementation that isn't there
pub first_past : (t : List Row) (n place number : ℕ) → length t ≤ n → (k i : ℕ) → first_at t k i ≡ cond ((n == k && place == i) && is_there (widths t) k i) (Some number) (first_at t k i)
first_past t n place number l k i = by (n == k) refl
  where
    gone : (xs : List Row) (m j : ℕ) → length xs ≤ m → nat_lt j (or_zero (slice_get (widths xs) m)) ≡ false
    gone [] m j h = grind (arith, nat_tests)
    gone (x ∷ xs) zero j h = absurd (omega arith)
    gone (x ∷ xs) (suc m) j h = gone xs m j (omega arith)

    no : (b : Bool) → (b && false) ≡ false
    no true = refl
    no false = refl

    by : (b : Bool) → (n == k) ≡ b → first_at t k i ≡ cond ((b && place == i) && is_there (widths t) k i) (Some number) (first_at t k i)
    by true e =
        let same : n ≡ k = grind (arith, nat_tests) in
        let g = gone t k i (subst (λ m. length t ≤ m) same l) in
        sym (ap (λ c. cond (place == i && c) (Some number) (first_at t k i)) g ∙ ap (λ c. cond c (Some number) (first_at t k i)) (no (place == i)))
    by false e = refl

-- ---- no section

pub none_more : (t : List Row) (w : Row) (n : ℕ) → ((k i : ℕ) → first_at t k i ≡ None) → w.items ≡ replicate n None → (k i : ℕ) → first_at (t ++ (w ∷ [])) k i ≡ None
none_more [] w n h e zero i = ap (λ xs. number_at (slice_get xs i)) e ∙ none n i
  where
    none : (m j : ℕ) → number_at (slice_get (replicate m None) j) ≡ None
    none zero j = refl
    none (suc m) zero = refl
    none (suc m) (suc j) = none m j
none_more [] w n h e (suc k) i = refl
none_more (x ∷ t) w n h e zero i = h 0 i
none_more (x ∷ t) w n h e (suc k) i = none_more t w n (λ j m. h (suc j) m) e k i

abbrev pub Places : Type 0
Places = Vec Place Global

pub widths_more : (made : List Row) (w : Row) (all : List Places) (i : ℕ) (d : Places) → i < length all → length w.items ≡ length (get_or all i d).items → widths made ++ counts (drop i all) ≡ counts all → widths (made ++ (w ∷ [])) ++ counts (drop (i + 1) all) ≡ counts all
widths_more made w all i d l e h =
    ap (λ ws. ws ++ counts (drop (i + 1) all)) (map-append (λ (v : Row). length v.items) made (w ∷ []))
    ∙ (append_assoc (widths made) (length w.items ∷ []) (counts (drop (i + 1) all))
    ∙ (ap (λ ns. widths made ++ ns) (ap (λ n. n ∷ counts (drop (i + 1) all)) e ∙ sym (at all i l)) ∙ h))
  where
    at : (xs : List Places) (n : ℕ) → n < length xs → counts (drop n xs) ≡ length (get_or xs n d).items ∷ counts (drop (n + 1) xs)
    at [] n k = absurd (omega arith)
    at (x ∷ xs) zero k = refl
    at (x ∷ xs) (suc n) k =
        let s : suc n + 1 ≡ suc (n + 1) = omega arith in
        at xs n (omega arith) ∙ ap (λ m. length (get_or xs n d).items ∷ counts (drop m (x ∷ xs))) (sym s)

pub long_row : (w : Row) (n : ℕ) → w.items ≡ replicate n None → length w.items ≡ n
long_row w n e = ap length e ∙ length-replicate n None

-- ---- one section more, in front

here : (ss : List Section) (n : ℕ) (d : Section) → n < length ss → slice_get (map section_of ss) n ≡ Some (section_of (get_or ss n d))
here [] n d l = absurd (omega arith)
here (s ∷ ss) zero d l = refl
here (s ∷ ss) (suc n) d l = here ss n d (omega arith)

pub from_here : (ss : List Section) (n : ℕ) (d : Section) → n < length ss → map section_of (drop n ss) ≡ section_of (get_or ss n d) ∷ map section_of (drop (n + 1) ss)
from_here [] n d l = absurd (omega arith)
from_here (s ∷ ss) zero d l = refl
from_here (s ∷ ss) (suc n) d l =
    let e : suc n + 1 ≡ suc (n + 1) = omega arith in
    from_here ss n d (omega arith) ∙ ap (λ k. section_of (get_or ss n d) ∷ map section_of (drop k (s ∷ ss))) (sym e)

pub firsts_more : (ss : List Section) (n : ℕ) (d : Section) (k i : ℕ) (there : Bool) (old new : Option ℕ) → n < length ss → there ≡ true → new ≡ cond (is_at k i (section_of (get_or ss n d)) && there) (Some n) old → section_of_number (map section_of ss) old ≡ section_at k i (map section_of (drop (n + 1) ss)) → section_of_number (map section_of ss) new ≡ section_at k i (map section_of (drop n ss))
firsts_more ss n d k i there old new l t e h =
    let s = section_of (get_or ss n d) in
    ap (section_of_number (map section_of ss)) (e ∙ ap (λ b. cond (is_at k i s && b) (Some n) old) t)
    ∙ (by (is_at k i s) ∙ ap (section_at k i) (sym (from_here ss n d l)))
  where
    by : (b : Bool) → section_of_number (map section_of ss) (cond (b && true) (Some n) old) ≡ (if b then Some (section_of (get_or ss n d)) else section_at k i (map section_of (drop (n + 1) ss)))
    by true = here ss n d l
    by false = h
