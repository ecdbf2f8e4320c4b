-- The sections of rows of certificates: which is where, and that they stand in order.
use Rattle.std.proofs.Common.{◌≡◌, ℕ, zero, suc, ◌+◌, ◌<◌, Bool, true, false, List, [], ◌∷◌, ◌++◌, Option, Some, None, refl, sym, ap, ◌∙◌, subst, inl, inr, arith, eq-eqb}
use Rattle.std.specs.Prelude.{◌⊎◌, ◌&&◌, ◌||◌, ◌==◌, nat_lt, if◌then◌else◌, slice_get}
use Rattle.std.proofs.lemmas.Bool.{lt-ltb, ne_eqb}
use Rattle.bg_text.specs.Trees.{Id}
use Rattle.bg_certify.specs.Found.{Shown}
use Rattle.bg_certtext.specs.Views.{SectionOf}
use Rattle.bg_accept.specs.Sections.{is_at, section_at, is_behind, extra_behind}
use Rattle.bg_certify.specs.Spelled.{spelled, row, rows}

-- ---- the certificate of a place

abbrev pub cert_or_none : Option (Option Shown) → Option Shown
cert_or_none None = None
cert_or_none (Some c) = c

abbrev pub cert_at : List (Option Shown) → ℕ → Option Shown
cert_at cs i = cert_or_none (slice_get cs i)

abbrev pub certs_or_none : Option (List (Option Shown)) → List (Option Shown)
certs_or_none None = []
certs_or_none (Some cs) = cs

abbrev pub certs_at : List (List (Option Shown)) → ℕ → List (Option Shown)
certs_at css k = certs_or_none (slice_get css k)

abbrev pub spelled_if : List Id → ℕ → ℕ → Option Shown → Option SectionOf
spelled_if names k i None = None
spelled_if names k i (Some c) = Some (spelled names k i c)

-- ---- tests

both_true : (a b : Bool) → a ≡ true → b ≡ true → a && b ≡ true
both_true a b e f = ap (λ (x : Bool). x && b) e ∙ f

first_false : (a b : Bool) → a ≡ false → a && b ≡ false
first_false a b e = ap (λ (x : Bool). x && b) e

second_false : (a b : Bool) → b ≡ false → a && b ≡ false
second_false true b e = e
second_false false b e = refl

-- ---- the section of a place

module _ (names : List Id) where
  here : (k i : ℕ) (c : Shown) (ss : List SectionOf) → section_at k i (spelled names k i c ∷ ss) ≡ Some (spelled names k i c)
  here k i c ss =
      ap (λ (t : Bool). if t then Some (spelled names k i c) else section_at k i ss) (both_true (k == k) (i == i) (eq-eqb k k refl) (eq-eqb i i refl))

  past_place : (k j i : ℕ) (c : Shown) (ss : List SectionOf) → (j ≡ i → ⊥) → section_at k i (spelled names k j c ∷ ss) ≡ section_at k i ss
  past_place k j i c ss n =
      ap (λ (t : Bool). if t then Some (spelled names k j c) else section_at k i ss) (second_false (k == k) (j == i) (ne_eqb j i n))

  past_impl : (h k j i : ℕ) (c : Shown) (ss : List SectionOf) → (h ≡ k → ⊥) → section_at k i (spelled names h j c ∷ ss) ≡ section_at k i ss
  past_impl h k j i c ss n =
      ap (λ (t : Bool). if t then Some (spelled names h j c) else section_at k i ss) (first_false (h == k) (j == i) (ne_eqb h k n))

  none_below : (k : ℕ) (cs : List (Option Shown)) (j i : ℕ) → i < j → section_at k i (row names k j cs) ≡ None
  none_below k [] j i h = refl
  none_below k (None ∷ cs) j i h = none_below k cs (suc j) i (omega arith)
  none_below k (Some c ∷ cs) j i h =
      past_place k j i c (row names k (suc j) cs) (λ x. omega arith) ∙ none_below k cs (suc j) i (omega arith)

  none_beside : (h k : ℕ) (cs : List (Option Shown)) (j i : ℕ) → (h ≡ k → ⊥) → section_at k i (row names h j cs) ≡ None
  none_beside h k [] j i n = refl
  none_beside h k (None ∷ cs) j i n = none_beside h k cs (suc j) i n
  none_beside h k (Some c ∷ cs) j i n = past_impl h k j i c (row names h (suc j) cs) n ∙ none_beside h k cs (suc j) i n

  row_at : (k : ℕ) (cs : List (Option Shown)) (j n i : ℕ) → i ≡ j + n → section_at k i (row names k j cs) ≡ spelled_if names k i (cert_at cs n)
  row_at k [] j n i e = refl
  row_at k (None ∷ cs) j zero i e = none_below k cs (suc j) i (omega arith)
  row_at k (None ∷ cs) j (suc n) i e = row_at k cs (suc j) n i (omega arith)
  row_at k (Some c ∷ cs) j zero i e =
      let same : j ≡ i = omega arith in
      subst (λ (x : ℕ). section_at k i (spelled names k x c ∷ row names k (suc x) cs) ≡ Some (spelled names k i c)) (sym same) (here k i c (row names k (suc i) cs))
  row_at k (Some c ∷ cs) j (suc n) i e =
      past_place k j i c (row names k (suc j) cs) (λ x. omega arith) ∙ row_at k cs (suc j) n i (omega arith)

none_left : (k i : ℕ) (xs ys : List SectionOf) → section_at k i xs ≡ None → section_at k i (xs ++ ys) ≡ section_at k i ys
none_left k i [] ys h = refl
none_left k i (s ∷ xs) ys h = by (is_at k i s) h (none_left k i xs ys)
  where
    by : (t : Bool) → (if t then Some s else section_at k i xs) ≡ None → (section_at k i xs ≡ None → section_at k i (xs ++ ys) ≡ section_at k i ys) → (if t then Some s else section_at k i (xs ++ ys)) ≡ section_at k i ys
    by true e f = absurd (cc)
    by false e f = f e

none_right : (k i : ℕ) (xs ys : List SectionOf) → section_at k i ys ≡ None → section_at k i (xs ++ ys) ≡ section_at k i xs
none_right k i [] ys h = h
none_right k i (s ∷ xs) ys h = ap (λ (r : Option SectionOf). if is_at k i s then Some s else r) (none_right k i xs ys h)

module _ (names : List Id) where
  none_before : (css : List (List (Option Shown))) (h k i : ℕ) → k < h → section_at k i (rows names h css) ≡ None
  none_before [] h k i l = refl
  none_before (cs ∷ css) h k i l =
      none_left k i (row names h 0 cs) (rows names (suc h) css) (none_beside names h k cs 0 i (λ x. omega arith)) ∙ none_before css (suc h) k i (omega arith)

  -- the section of a place is that of its certificate
  pub rows_at : (css : List (List (Option Shown))) (h n k i : ℕ) → k ≡ h + n → section_at k i (rows names h css) ≡ spelled_if names k i (cert_at (certs_at css n) i)
  rows_at [] h n k i e = refl
  rows_at (cs ∷ css) h zero k i e =
      let same : h ≡ k = omega arith in
      none_right k i (row names h 0 cs) (rows names (suc h) css) (none_before css (suc h) k i (omega arith))
      ∙ subst (λ (x : ℕ). section_at k i (row names x 0 cs) ≡ spelled_if names k i (cert_at cs i)) (sym same) (row_at names k cs 0 i i (omega arith))
  rows_at (cs ∷ css) h (suc n) k i e =
      none_left k i (row names h 0 cs) (rows names (suc h) css) (none_beside names h k cs 0 i (λ x. omega arith)) ∙ rows_at css (suc h) n k i (omega arith)

-- ---- their order

-- the section, if there is one, is before place i of implementation k
abbrev IsBefore : Option SectionOf → ℕ → ℕ → Type 0
IsBefore None k i = Unit {0}
IsBefore (Some s) k i = (s.implementation < k) ⊎ ((s.implementation ≡ k) × (s.place < i))

either_true : (a b : Bool) → (a ≡ true) ⊎ (b ≡ true) → a || b ≡ true
either_true a b (inl e) = ap (λ (x : Bool). x || b) e
either_true true b (inr e) = refl
either_true false b (inr e) = e

behind_it : (b : Option SectionOf) (s : SectionOf) → IsBefore b s.implementation s.place → is_behind b s ≡ true
behind_it None s h = refl
behind_it (Some r) s (inl l) =
    either_true (nat_lt r.implementation s.implementation) (r.implementation == s.implementation && nat_lt r.place s.place) (inl (lt-ltb r.implementation s.implementation l))
behind_it (Some r) s (inr e) =
    either_true (nat_lt r.implementation s.implementation) (r.implementation == s.implementation && nat_lt r.place s.place)
    (inr (both_true (r.implementation == s.implementation) (nat_lt r.place s.place) (eq-eqb r.implementation s.implementation e.0) (lt-ltb r.place s.place e.1)))

one_on : (b : Option SectionOf) (k i : ℕ) → IsBefore b k i → IsBefore b k (suc i)
one_on None k i h = tt
one_on (Some s) k i (inl l) = inl l
one_on (Some s) k i (inr e) = inr (e.0, omega (arith, e.1))

all_on : (b : Option SectionOf) (k i : ℕ) → IsBefore b k i → IsBefore b (suc k) 0
all_on None k i h = tt
all_on (Some s) k i (inl l) = inl (omega arith)
all_on (Some s) k i (inr e) = inl (omega (arith, e.0))

module _ (names : List Id) (required : ℕ → ℕ → Bool) where
  row_fine : (k : ℕ) (rest : List SectionOf) → ((b : Option SectionOf) → IsBefore b (suc k) 0 → extra_behind required b rest ≡ None) →
      (cs : List (Option Shown)) (i : ℕ) (b : Option SectionOf) → IsBefore b k i → ((n j : ℕ) (c : Shown) → j ≡ i + n → cert_at cs n ≡ Some c → required k j ≡ true) →
      extra_behind required b (row names k i cs ++ rest) ≡ None
  row_fine k rest f [] i b h r = f b (all_on b k i h)
  row_fine k rest f (None ∷ cs) i b h r =
      row_fine k rest f cs (suc i) b (one_on b k i h) (λ n j c e g. r (suc n) j c (omega arith) g)
  row_fine k rest f (Some c ∷ cs) i b h r =
      let s = spelled names k i c in
      ap (λ (t : Bool). if t then extra_behind required (Some s) (row names k (suc i) cs ++ rest) else Some s)
      (both_true (is_behind b s) (required k i) (behind_it b s h) (r 0 i c (omega arith) refl))
      ∙ row_fine k rest f cs (suc i) (Some s) (inr (refl, omega arith)) (λ n j d e g. r (suc n) j d (omega arith) g)

  -- they stand in order, each one of a required place
  pub rows_fine : (css : List (List (Option Shown))) (k : ℕ) (b : Option SectionOf) → IsBefore b k 0 →
      ((m n j : ℕ) (c : Shown) → m ≡ k + n → cert_at (certs_at css n) j ≡ Some c → required m j ≡ true) → extra_behind required b (rows names k css) ≡ None
  rows_fine [] k b h r = refl
  rows_fine (cs ∷ css) k b h r =
      row_fine k (rows names (suc k) css) (λ d l. rows_fine css (suc k) d l (λ m n j c e g. r m (suc n) j c (omega arith) g)) cs 0 b h
      (λ n j c e g. let same : j ≡ n = omega arith in r k 0 j c (omega arith) (ap (cert_at cs) same ∙ g))
