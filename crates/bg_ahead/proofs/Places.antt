-- Where atoms go: those in front of the rows stay, and rows go to their literals.
use Rattle.std.proofs.Common.{◌≡◌, ◌<◌, ◌+◌, ℕ, zero, suc, Bool, true, false, List, [], ◌∷◌, ◌++◌, length, Some, refl, sym, ap, ◌∙◌, arith, subst}
use Rattle.std.specs.Prelude.{◌||◌, if◌then◌else◌, Option, None, is_some, slice_get, unwrap_or, Ok}
use Rattle.bg_rows.specs.Rows.{RowOf, denied}
use Rattle.bg_formula.specs.declared.atom.Literal.{Literal}
use Rattle.bg_formula.specs.Atoms.{AtomOf, IsTruth, IsRow, row_eq}
use Rattle.bg_formula.specs.Meaning.{AtomsAgree}
use Rattle.bg_forms.specs.Forms.{opposite}
use Rattle.bg_atoms.specs.Literals.{literal_of}
use Rattle.bg_atoms.specs.Listed.{is_there}
use Rattle.bg_atoms.specs.Tables.{or_else}
use Rattle.bg_ahead.specs.Rows.{fresh, itself, placed, places, stays, goes}
use Rattle.bg_ahead.specs.Moved.{with_sign, moved_atom, moved}
use Rattle.bg_ahead.proofs.Denials.{same_rows, row_itself, denied_back, denied_one, denied_once, denied_other}

-- ---- literals that are found

-- the literal of atom n, where its row or its denial is the right one, or else another one
abbrev picked : Bool → Bool → ℕ → Option Literal → Option Literal
picked b c n rest = if b then Some (record { atom = n; sign = true }) else if c then Some (record { atom = n; sign = false }) else rest

picked_or : (b c : Bool) (n : ℕ) (o p : Option Literal) → picked b c n (or_else o p) ≡ or_else (picked b c n o) p
picked_or true c n o p = refl
picked_or false true n o p = refl
picked_or false false n o p = refl

-- behind others a row's literal is looked for last
pub literal_append : (r : RowOf) (m : ℕ) (xs ys : List AtomOf) → literal_of r m (xs ++ ys) ≡ or_else (literal_of r m xs) (literal_of r (m + length xs) ys)
literal_append r m [] ys = ap (λ n. literal_of r n ys) (let e : m ≡ m + 0 = omega arith in e)
literal_append r m (IsTruth x ∷ xs) ys =
    literal_append r (suc m) xs ys ∙ ap (λ n. or_else (literal_of r (suc m) xs) (literal_of r n ys)) (let e : suc m + length xs ≡ m + suc (length xs) = omega arith in e)
literal_append r m (IsRow a d ∷ xs) ys =
    ap (picked (row_eq a r) (row_eq d r) m) (literal_append r (suc m) xs ys ∙ ap (λ n. or_else (literal_of r (suc m) xs) (literal_of r n ys)) (let e : suc m + length xs ≡ m + suc (length xs) = omega arith in e))
    ∙ picked_or (row_eq a r) (row_eq d r) m (literal_of r (suc m) xs) (literal_of r (m + suc (length xs)) ys)

-- a row is there where it has a literal
pub there_literal : (r : RowOf) (n : ℕ) (rows : List AtomOf) → is_there r rows ≡ is_some (literal_of r n rows)
there_literal r n [] = refl
there_literal r n (IsTruth x ∷ rs) = there_literal r (suc n) rs
there_literal r n (IsRow a d ∷ rs) = by_tests (there_literal r (suc n) rs) (row_eq a r) (row_eq d r)
  where
    by_tests : is_there r rs ≡ is_some (literal_of r (suc n) rs) → (b c : Bool) → (b || (c || is_there r rs)) ≡ is_some (picked b c n (literal_of r (suc n) rs))
    by_tests on true c = refl
    by_tests on false true = refl
    by_tests on false false = on

-- ---- the literal of a denial

abbrev turned : Option Literal → Option Literal
turned None = None
turned (Some l) = Some (opposite l)

no_test : (b : Bool) → (b ≡ true → ⊥) → b ≡ false
no_test true f = absurd (f refl)
no_test false f = refl

no_row : (a r : RowOf) → (a ≡ r → ⊥) → row_eq a r ≡ false
no_row a r f = no_test (row_eq a r) (λ e. f (same_rows a r e))

yes_row : (a r : RowOf) → a ≡ r → row_eq a r ≡ true
yes_row a r h = subst (λ x. row_eq a x ≡ true) h (row_itself a)

other_row : (a r : RowOf) → row_eq a r ≡ false → a ≡ r → ⊥
other_row a r h e = let k = yes_row a r e in let bad : ⊥ = cc in bad

pub literal_denied : (r e : RowOf) (n : ℕ) (rows : List AtomOf) → AtomsAgree rows → denied r ≡ Ok e → literal_of e n rows ≡ turned (literal_of r n rows)
literal_denied r e n [] h k = refl
literal_denied r e n (IsTruth x ∷ rs) h k = literal_denied r e (suc n) rs h k
literal_denied r e n (IsRow a d ∷ rs) h k = by_tests (literal_denied r e (suc n) rs h.1 k) (row_eq a r) (row_eq d r) refl refl
  where
    tells : (b c p q : Bool) → row_eq a e ≡ p → row_eq d e ≡ q → row_eq a r ≡ b → row_eq d r ≡ c → picked p q n (literal_of e (suc n) rs) ≡ turned (picked b c n (literal_of r (suc n) rs)) → literal_of e n (IsRow a d ∷ rs) ≡ turned (literal_of r n (IsRow a d ∷ rs))
    tells b c p q w x y z is =
        ap (λ t. picked t (row_eq d e) n (literal_of e (suc n) rs)) w
        ∙ (ap (λ t. picked p t n (literal_of e (suc n) rs)) x
        ∙ (is
        ∙ (ap (λ t. turned (picked b t n (literal_of r (suc n) rs))) (sym z)
        ∙ ap (λ t. turned (picked t (row_eq d r) n (literal_of r (suc n) rs))) (sym y))))

    by_tests : literal_of e (suc n) rs ≡ turned (literal_of r (suc n) rs) → (b c : Bool) → row_eq a r ≡ b → row_eq d r ≡ c → literal_of e n (IsRow a d ∷ rs) ≡ turned (literal_of r n (IsRow a d ∷ rs))
    by_tests on true c f g =
        let is : a ≡ r = same_rows a r f in
        let other : d ≡ e = denied_once r d e (ap denied (sym is) ∙ h.0) k in
        tells true c false true (no_row a e (λ x. denied_other r (k ∙ ap Ok (sym x ∙ is)))) (yes_row d e other) f g refl
    by_tests on false true f g =
        let is : e ≡ a = denied_back a d e h.0 (ap denied (same_rows d r g) ∙ k) in
        tells false true true (row_eq d e) (yes_row a e (sym is)) refl f g refl
    by_tests on false false f g =
        tells false false false false (no_row a e (λ x. other_row d r g (denied_back r e d k (ap denied (sym x) ∙ h.0)))) (no_row d e (λ x. other_row a r f (denied_one a r e (h.0 ∙ ap Ok x) k))) f g on

-- ---- where a row's literal goes

module _ (m : ℕ) (front : List AtomOf) (agree : AtomsAgree front) where
  -- the place of the literal's atom holds what it becomes, where rows are the atoms from n on and fresh ones those from k on
  record Goes (n k : ℕ) (rows : List AtomOf) (r : RowOf) (l : Literal) : Type 0 where
    pub place : ℕ
    pub atom : l.atom ≡ n + place
    pub to : Literal
    pub there : slice_get (places m front rows k) place ≡ Some to
    pub is : or_else (literal_of r m front) (literal_of r k (fresh front rows)) ≡ Some (with_sign l.sign to)

  abbrev next_fresh : AtomOf → List AtomOf → Bool → List AtomOf
  next_fresh a rs t = if t then fresh front rs else a ∷ fresh front rs

  module _ (n k : ℕ) (a d : RowOf) (rs : List AtomOf) (denies : denied a ≡ Ok d) (r : RowOf) (l : Literal) where
    -- a fresh row that is the right one
    new_here : literal_of a m front ≡ None → (b c s : Bool) → row_eq a r ≡ b → row_eq d r ≡ c → literal_of r m front ≡ None → record { atom = n; sign = s } ≡ l → picked b c k (literal_of r (suc k) (fresh front rs)) ≡ Some (with_sign s (itself k)) → Goes n k (IsRow a d ∷ rs) r l
    new_here none b c s f g missing made is =
        record {
          place = 0;
          atom = sym (ap (λ x. x.atom) made) ∙ (let e : n ≡ n + 0 = omega arith in e);
          to = itself k;
          there = ap (λ o. slice_get (placed o k (places m front rs)) 0) none;
          is =
              ap (λ t. or_else (literal_of r m front) (literal_of r k (next_fresh (IsRow a d) rs t))) (there_literal a m front ∙ ap is_some none)
              ∙ (ap (λ o. or_else o (literal_of r k (IsRow a d ∷ fresh front rs))) missing
              ∙ (ap (λ t. picked t (row_eq d r) k (literal_of r (suc k) (fresh front rs))) f
              ∙ (ap (λ t. picked b t k (literal_of r (suc k) (fresh front rs))) g
              ∙ (is
              ∙ ap (λ x. Some (with_sign x.sign (itself k))) made))));
        }

    -- one that is in front
    old_here : (p : Literal) (s : Bool) → literal_of a m front ≡ Some p → literal_of r m front ≡ Some (with_sign s p) → record { atom = n; sign = s } ≡ l → Goes n k (IsRow a d ∷ rs) r l
    old_here p s some found made =
        record {
          place = 0;
          atom = sym (ap (λ x. x.atom) made) ∙ (let e : n ≡ n + 0 = omega arith in e);
          to = p;
          there = ap (λ o. slice_get (placed o k (places m front rs)) 0) some;
          is =
              ap (λ o. or_else o (literal_of r k (fresh front (IsRow a d ∷ rs)))) found
              ∙ ap (λ x. Some (with_sign x.sign p)) made;
        }

    -- one behind it
    new_on : literal_of a m front ≡ None → row_eq a r ≡ false → row_eq d r ≡ false → Goes (suc n) (suc k) rs r l → Goes n k (IsRow a d ∷ rs) r l
    new_on none f g h =
        record {
          place = suc h.place;
          atom = h.atom ∙ (let e : suc n + h.place ≡ n + suc h.place = omega arith in e);
          to = h.to;
          there = ap (λ o. slice_get (placed o k (places m front rs)) (suc h.place)) none ∙ h.there;
          is =
              ap (λ t. or_else (literal_of r m front) (literal_of r k (next_fresh (IsRow a d) rs t))) (there_literal a m front ∙ ap is_some none)
              ∙ (ap (λ t. or_else (literal_of r m front) (picked t (row_eq d r) k (literal_of r (suc k) (fresh front rs)))) f
              ∙ (ap (λ t. or_else (literal_of r m front) (picked false t k (literal_of r (suc k) (fresh front rs)))) g
              ∙ h.is));
        }

    old_on : (p : Literal) → literal_of a m front ≡ Some p → Goes (suc n) k rs r l → Goes n k (IsRow a d ∷ rs) r l
    old_on p some h =
        record {
          place = suc h.place;
          atom = h.atom ∙ (let e : suc n + h.place ≡ n + suc h.place = omega arith in e);
          to = h.to;
          there = ap (λ o. slice_get (placed o k (places m front rs)) (suc h.place)) some ∙ h.there;
          is =
              ap (λ t. or_else (literal_of r m front) (literal_of r k (next_fresh (IsRow a d) rs t))) (there_literal a m front ∙ ap is_some some)
              ∙ h.is;
        }

    by_tests : ((j : ℕ) → literal_of r (suc n) rs ≡ Some l → Goes (suc n) j rs r l) → (o : Option Literal) → literal_of a m front ≡ o → (b c : Bool) → row_eq a r ≡ b → row_eq d r ≡ c → picked b c n (literal_of r (suc n) rs) ≡ Some l → Goes n k (IsRow a d ∷ rs) r l
    by_tests on None e true c f g h =
        let made : record { atom = n; sign = true } ≡ l = cc in
        new_here e true c true f g (ap (λ x. literal_of x m front) (sym (same_rows a r f)) ∙ e) made refl
    by_tests on None e false true f g h =
        let made : record { atom = n; sign = false } ≡ l = cc in
        new_here e false true false f g (ap (λ x. literal_of x m front) (sym (same_rows d r g)) ∙ (literal_denied a d m front agree denies ∙ ap turned e)) made refl
    by_tests on None e false false f g h = new_on e f g (on (suc k) h)
    by_tests on (Some p) e true c f g h =
        let made : record { atom = n; sign = true } ≡ l = cc in
        old_here p true e (ap (λ x. literal_of x m front) (sym (same_rows a r f)) ∙ e) made
    by_tests on (Some p) e false true f g h =
        let made : record { atom = n; sign = false } ≡ l = cc in
        old_here p false e (ap (λ x. literal_of x m front) (sym (same_rows d r g)) ∙ (literal_denied a d m front agree denies ∙ ap turned e)) made
    by_tests on (Some p) e false false f g h = old_on p e (on k h)

  goes_by : (n k : ℕ) (rows : List AtomOf) → AtomsAgree rows → (r : RowOf) (l : Literal) → literal_of r n rows ≡ Some l → Goes n k rows r l
  goes_by n k [] h r l e = absurd (let bad : ⊥ = cc in bad)
  goes_by n k (IsTruth x ∷ rs) h r l e =
      let g = goes_by (suc n) k rs h r l e in
      record { place = suc g.place; atom = g.atom ∙ (let e : suc n + g.place ≡ n + suc g.place = omega arith in e); to = g.to; there = g.there; is = g.is }
  goes_by n k (IsRow a d ∷ rs) h r l e =
      by_tests n k a d rs h.0 r l (λ j. goes_by (suc n) j rs h.1 r l) (literal_of a m front) refl (row_eq a r) (row_eq d r) refl refl e

-- ---- atoms in front of the rows, and behind these

in_front : (s n a : ℕ) (ys : List Literal) → a < n → slice_get (stays s n ++ ys) a ≡ Some (itself (s + a))
in_front s zero a ys h = absurd (omega (arith, h))
in_front s (suc n) zero ys h = ap (λ x. Some (itself x)) (let e : s ≡ s + 0 = omega arith in e)
in_front s (suc n) (suc a) ys h =
    in_front (suc s) n a ys (omega (arith, h)) ∙ ap (λ x. Some (itself x)) (let e : suc s + a ≡ s + suc a = omega arith in e)

behind : (s n i : ℕ) (ys : List Literal) → slice_get (stays s n ++ ys) (n + i) ≡ slice_get ys i
behind s zero i ys = ap (slice_get ys) (let e : 0 + i ≡ i = omega arith in e)
behind s (suc n) i ys =
    ap (slice_get (stays s (suc n) ++ ys)) (let e : suc n + i ≡ suc (n + i) = omega arith in e) ∙ behind (suc s) n i ys

pub goes_stay : (n m : ℕ) (front rows : List AtomOf) (a : ℕ) → a < n → moved_atom (goes n m front rows) a ≡ itself a
goes_stay n m front rows a h =
    ap (λ o. unwrap_or o (itself a)) (in_front 0 n a (places m front rows (m + length front)) h) ∙ ap itself (let e : 0 + a ≡ a = omega arith in e)

pub literal_goes : (n m : ℕ) (front rows : List AtomOf) → AtomsAgree front → AtomsAgree rows → (r : RowOf) (l : Literal) → literal_of r n rows ≡ Some l → literal_of r m (front ++ fresh front rows) ≡ Some (moved (goes n m front rows) l)
literal_goes n m front rows h k r l e =
    let g = goes_by m front h n (m + length front) rows k r l e in
    let there : slice_get (goes n m front rows) l.atom ≡ Some g.to =
    ap (slice_get (goes n m front rows)) g.atom ∙ (behind 0 n g.place (places m front rows (m + length front)) ∙ g.there) in
    literal_append r m front (fresh front rows)
    ∙ (g.is
    ∙ ap (λ o. Some (with_sign l.sign (unwrap_or o (itself l.atom)))) (sym there))
