-- What literals of rows are worth that go to their places, and forms over them.
use Rattle.std.proofs.Common.{◌≡◌, ◌<◌, ◌≤◌, ◌+◌, ℕ, zero, suc, Bool, true, false, List, [], ◌∷◌, ◌++◌, length, Some, ℤ, ◌≤ℤ◌, refl, sym, ap, ◌∙◌, arith, subst}
use Rattle.std.specs.Prelude.{◌&&◌, if◌then◌else◌, nat_lt, int_le, not, Option, None, is_some, slice_get, unwrap_or, Ok}
use Rattle.std.proofs.lemmas.Int.{ints}
use Rattle.std.proofs.lemmas.Bool.Decides.{nat_tests}
use Rattle.bg_rows.specs.Rows.{RowOf, holds, denied}
use Rattle.bg_rows.proofs.Meaning.{denied_follows, denied_denies}
use Rattle.bg_formula.specs.declared.atom.Literal.{Literal}
use Rattle.bg_formula.specs.Atoms.{AtomOf, IsTruth, IsRow, row_eq}
use Rattle.bg_formula.specs.Formulas.{literals_below}
use Rattle.bg_formula.specs.Meaning.{AtomsAgree, same}
use Rattle.bg_forms.specs.Forms.{Form, Plain, Is, NotSo, Both, Same, literal_in, form_true}
use Rattle.bg_forms.proofs.Meaning.{same_not, same_true}
use Rattle.bg_formed.specs.Agree.{AreRows, RowsAgree}
use Rattle.bg_formed.specs.Formed.{form_below}
use Rattle.bg_formed.proofs.Below.{and_left, and_right, and_both, lower}
use Rattle.bg_atoms.specs.Literals.{literal_of}
use Rattle.bg_atoms.specs.Listed.{is_there}
use Rattle.bg_ahead.specs.Rows.{fresh, itself, placed, places, stays, goes}
use Rattle.bg_ahead.specs.Moved.{with_sign, moved_atom, moved_form}
use Rattle.bg_ahead.proofs.Denials.{same_rows}
use Rattle.bg_ahead.proofs.Places.{there_literal}

-- ---- denials

le_yes : (a b : ℤ) → int_le a b ≡ true → a ≤ℤ b
le_yes a b h = grind (arith, ints)

le_no : (a b : ℤ) → int_le a b ≡ false → (a ≤ℤ b) → ⊥
le_no a b h k = grind (arith, ints)

denies : (p q : Bool) → (p ≡ false → q ≡ true) → (p ≡ true → q ≡ false) → not p ≡ q
denies true q f g = sym (g refl)
denies false q f g = sym (f refl)

no_true : (q : Bool) → (q ≡ true → ⊥) → q ≡ false
no_true true f = absurd (f refl)
no_true false f = refl

no_false : (q : Bool) → (q ≡ false → ⊥) → q ≡ true
no_false true f = refl
no_false false f = absurd (f refl)

denial_holds : (z : ℕ → ℤ) (r d : RowOf) → denied r ≡ Ok d → not (holds z r) ≡ holds z d
denial_holds z r d h =
    denies (holds z r) (holds z d) (λ no. no_false (holds z d) (λ f. le_no _ _ f (denied_follows z r d h (le_no _ _ no)))) (λ yes. no_true (holds z d) (λ t. denied_denies z r d h (le_yes _ _ t) (le_yes _ _ yes)))

-- ---- what literals of rows are worth

same_false : (a : Bool) → same a false ≡ not a
same_false a = same_not a true ∙ ap not (same_true a)

-- a row's literal is worth what the row is
pub literal_holds : (z : ℕ → ℤ) (w : ℕ → Bool) (r : RowOf) (l : Literal) (n : ℕ) (rows : List AtomOf) → RowsAgree z w n rows → AtomsAgree rows → literal_of r n rows ≡ Some l → literal_in w l ≡ holds z r
literal_holds z w r l n [] h k e = absurd (let bad : ⊥ = cc in bad)
literal_holds z w r l n (IsTruth x ∷ rs) h k e = absurd h
literal_holds z w r l n (IsRow a d ∷ rs) h k e = by_tests (literal_holds z w r l (suc n) rs h.1 k.1) (row_eq a r) (row_eq d r) refl refl e
  where
    by_tests : (literal_of r (suc n) rs ≡ Some l → literal_in w l ≡ holds z r) → (b c : Bool) → row_eq a r ≡ b → row_eq d r ≡ c → (if b then Some (record { atom = n; sign = true }) else if c then Some (record { atom = n; sign = false }) else literal_of r (suc n) rs) ≡ Some l → literal_in w l ≡ holds z r
    by_tests on true c f g e =
        let is : record { atom = n; sign = true } ≡ l = cc in
        ap (literal_in w) (sym is) ∙ (same_true (w n) ∙ (h.0 ∙ ap (holds z) (same_rows a r f)))
    by_tests on false true f g e =
        let is : record { atom = n; sign = false } ≡ l = cc in
        ap (literal_in w) (sym is) ∙ (same_false (w n) ∙ (ap not h.0 ∙ (denial_holds z a d k.0 ∙ ap (holds z) (same_rows d r g))))
    by_tests on false false f g e = on e

-- literals are worth what these rows are, one by one
abbrev AreWorth : (ℕ → ℤ) → (ℕ → Bool) → List AtomOf → List Literal → Type 0
AreWorth z w [] ls = Unit {0}
AreWorth z w (IsTruth x ∷ rs) ls = ⊥
AreWorth z w (IsRow r d ∷ rs) [] = ⊥
AreWorth z w (IsRow r d ∷ rs) (l ∷ ls) = (literal_in w l ≡ holds z r) × AreWorth z w rs ls

module _ (z : ℕ → ℤ) (w : ℕ → Bool) (m : ℕ) (front : List AtomOf) (agree : RowsAgree z w m front) (denials : AtomsAgree front) where
  places_worth : (rows : List AtomOf) (k : ℕ) → AreRows rows → RowsAgree z w k (fresh front rows) → AreWorth z w rows (places m front rows k)
  places_worth [] k h f = tt
  places_worth (IsTruth x ∷ rs) k h f = absurd h
  places_worth (IsRow r d ∷ rs) k h f = by_test (λ j. places_worth rs j h) (literal_of r m front) refl (is_there r front) (there_literal r m front) f
    where
      by_test : ((j : ℕ) → RowsAgree z w j (fresh front rs) → AreWorth z w rs (places m front rs j)) → (o : Option Literal) → literal_of r m front ≡ o → (b : Bool) → b ≡ is_some o → RowsAgree z w k (if b then fresh front rs else IsRow r d ∷ fresh front rs) → AreWorth z w (IsRow r d ∷ rs) (placed o k (places m front rs))
      by_test on (Some l) e true g f = (literal_holds z w r l m front agree denials e, on k f)
      by_test on (Some l) e false g f = absurd (let bad : ⊥ = cc in bad)
      by_test on None e true g f = absurd (let bad : ⊥ = cc in bad)
      by_test on None e false g f = (same_true (w k) ∙ f.0, on (suc k) f.1)

-- atoms from n on that are worth what these literals are
agree_by : (z : ℕ → ℤ) (w t : ℕ → Bool) (n : ℕ) (rows : List AtomOf) (ls : List Literal) → ((i : ℕ) (l : Literal) → slice_get ls i ≡ Some l → t (n + i) ≡ literal_in w l) → AreWorth z w rows ls → RowsAgree z t n rows
agree_by z w t n [] ls f h = tt
agree_by z w t n (IsTruth x ∷ rs) ls f h = absurd h
agree_by z w t n (IsRow r d ∷ rs) [] f h = absurd h
agree_by z w t n (IsRow r d ∷ rs) (l ∷ ls) f h =
    (ap t (let e : n ≡ n + 0 = omega arith in e) ∙ (f 0 l refl ∙ h.0), agree_by z w t (suc n) rs ls (λ i q k. ap t (let e : suc n + i ≡ n + suc i = omega arith in e) ∙ f (suc i) q k) h.1)

-- ---- what atoms are worth that go elsewhere

-- an atom is worth what the literal is that it goes to
abbrev pub worth : (ℕ → Bool) → List Literal → ℕ → Bool
worth w to a = literal_in w (moved_atom to a)

behind : (s n i : ℕ) (ys : List Literal) → slice_get (stays s n ++ ys) (n + i) ≡ slice_get ys i
behind s zero i ys = ap (slice_get ys) (let e : 0 + i ≡ i = omega arith in e)
behind s (suc n) i ys =
    ap (slice_get (stays s (suc n) ++ ys)) (let e : suc n + i ≡ suc (n + i) = omega arith in e) ∙ behind (suc s) n i ys

agree_left : (z : ℕ → ℤ) (w : ℕ → Bool) (m : ℕ) (xs ys : List AtomOf) → RowsAgree z w m (xs ++ ys) → RowsAgree z w m xs
agree_left z w m [] ys h = tt
agree_left z w m (IsTruth x ∷ xs) ys h = absurd h
agree_left z w m (IsRow r d ∷ xs) ys h = (h.0, agree_left z w (suc m) xs ys h.1)

agree_right : (z : ℕ → ℤ) (w : ℕ → Bool) (m : ℕ) (xs ys : List AtomOf) → RowsAgree z w m (xs ++ ys) → RowsAgree z w (m + length xs) ys
agree_right z w m [] ys h = subst (λ n. RowsAgree z w n ys) (let e : m ≡ m + 0 = omega arith in e) h
agree_right z w m (IsTruth x ∷ xs) ys h = absurd h
agree_right z w m (IsRow r d ∷ xs) ys h =
    subst (λ n. RowsAgree z w n ys) (let e : suc m + length xs ≡ m + suc (length xs) = omega arith in e) (agree_right z w (suc m) xs ys h.1)

-- of rows in front of others
pub front_agree : (z : ℕ → ℤ) (w : ℕ → Bool) (m : ℕ) (front rows : List AtomOf) → RowsAgree z w m (front ++ fresh front rows) → RowsAgree z w m front
front_agree z w m front rows h = agree_left z w m front (fresh front rows) h

-- rows that go to their places are the atoms from n on
pub moved_agree : (z : ℕ → ℤ) (w : ℕ → Bool) (n m : ℕ) (front rows : List AtomOf) → AtomsAgree front → AreRows rows → RowsAgree z w m (front ++ fresh front rows) → RowsAgree z (worth w (goes n m front rows)) n rows
moved_agree z w n m front rows denials are h =
    let ls = places m front rows (m + length front) in
    let worths = places_worth z w m front (front_agree z w m front rows h) denials rows (m + length front) are (agree_right z w m front (fresh front rows) h) in
    agree_by z w (worth w (goes n m front rows)) n rows ls (λ i l e. ap (λ o. literal_in w (unwrap_or o (itself (n + i)))) (behind 0 n i ls ∙ e)) worths

module _ (to : List Literal) (w : ℕ → Bool) where
  signed_by : (s : Bool) (l : Literal) → literal_in w (with_sign s l) ≡ same (literal_in w l) s
  signed_by true l = sym (same_true (literal_in w l))
  signed_by false l = same_not (w l.atom) l.sign ∙ sym (same_false (literal_in w l))

  pub form_worth : (f : Form) → form_true w (moved_form to f) ≡ form_true (worth w to) f
  form_worth (Plain b) = refl
  form_worth (Is l) = signed_by l.sign (moved_atom to l.atom)
  form_worth (NotSo f) = ap not (form_worth f)
  form_worth (Both f g) = ap (λ b. b && form_true w (moved_form to g)) (form_worth f) ∙ ap (λ b. form_true (worth w to) f && b) (form_worth g)
  form_worth (Same f g) = ap (λ b. same b (form_true w (moved_form to g))) (form_worth f) ∙ ap (λ b. same (form_true (worth w to) f) b) (form_worth g)

-- ---- which atoms there are

is_below : (a n : ℕ) → a < n → nat_lt a n ≡ true
is_below a n h = grind (arith, nat_tests)

less : (a n : ℕ) → nat_lt a n ≡ true → a < n
less a n h = grind (arith, nat_tests)

literal_below : (r : RowOf) (l : Literal) (n : ℕ) (rows : List AtomOf) → literal_of r n rows ≡ Some l → l.atom < n + length rows
literal_below r l n [] e = absurd (let bad : ⊥ = cc in bad)
literal_below r l n (IsTruth x ∷ rs) e = let m = literal_below r l (suc n) rs e in omega (arith, m)
literal_below r l n (IsRow a d ∷ rs) e = by_tests (literal_below r l (suc n) rs) (row_eq a r) (row_eq d r) e
  where
    here : (s : Bool) → record { atom = n; sign = s } ≡ l → l.atom < n + suc (length rs)
    here s is = let m : n ≡ l.atom = ap (λ x. x.atom) is in omega (arith, m)

    by_tests : (literal_of r (suc n) rs ≡ Some l → l.atom < suc n + length rs) → (b c : Bool) → (if b then Some (record { atom = n; sign = true }) else if c then Some (record { atom = n; sign = false }) else literal_of r (suc n) rs) ≡ Some l → l.atom < n + suc (length rs)
    by_tests on true c e = here true (let is : record { atom = n; sign = true } ≡ l = cc in is)
    by_tests on false true e = here false (let is : record { atom = n; sign = false } ≡ l = cc in is)
    by_tests on false false e = let m = on e in omega (arith, m)

module _ (m : ℕ) (front : List AtomOf) where
  places_count : (rows : List AtomOf) (k : ℕ) → length (places m front rows k) ≡ length rows
  places_count [] k = refl
  places_count (IsTruth x ∷ rs) k = ap suc (places_count rs k)
  places_count (IsRow r d ∷ rs) k = by_literal (literal_of r m front) (places_count rs)
    where
      by_literal : (o : Option Literal) → ((j : ℕ) → length (places m front rs j) ≡ length rs) → length (placed o k (places m front rs)) ≡ suc (length rs)
      by_literal (Some l) on = ap suc (on k)
      by_literal None on = ap suc (on (suc k))

  module _ (top : ℕ) (room : m + length front ≤ top) where
    places_below : (rows : List AtomOf) (k : ℕ) → AreRows rows → k + length (fresh front rows) ≤ top → literals_below top (places m front rows k) ≡ true
    places_below [] k h f = refl
    places_below (IsTruth x ∷ rs) k h f = absurd h
    places_below (IsRow r d ∷ rs) k h f = by_test (λ j. places_below rs j h) (literal_of r m front) refl (is_there r front) (there_literal r m front) f
      where
        by_test : ((j : ℕ) → j + length (fresh front rs) ≤ top → literals_below top (places m front rs j) ≡ true) → (o : Option Literal) → literal_of r m front ≡ o → (b : Bool) → b ≡ is_some o → k + length (if b then fresh front rs else IsRow r d ∷ fresh front rs) ≤ top → literals_below top (placed o k (places m front rs)) ≡ true
        by_test on (Some l) e true g f =
            let m = literal_below r l m front e in
            and_both (nat_lt l.atom top) _ (is_below l.atom top (omega (arith, m, room))) (on k f)
        by_test on (Some l) e false g f = absurd (let bad : ⊥ = cc in bad)
        by_test on None e true g f = absurd (let bad : ⊥ = cc in bad)
        by_test on None e false g f = and_both (nat_lt k top) _ (is_below k top (omega (arith, f))) (on (suc k) (omega (arith, f)))

stays_count : (s n : ℕ) (ys : List Literal) → length (stays s n ++ ys) ≡ n + length ys
stays_count s zero ys = omega arith
stays_count s (suc n) ys = let m = stays_count (suc s) n ys in omega (arith, m)

stays_below : (top s n : ℕ) (ys : List Literal) → s + n ≤ top → literals_below top ys ≡ true → literals_below top (stays s n ++ ys) ≡ true
stays_below top s zero ys h k = k
stays_below top s (suc n) ys h k =
    and_both (nat_lt s top) _ (is_below s top (omega (arith, h))) (stays_below top (suc s) n ys (omega (arith, h)) k)

got_below : (top : ℕ) (d : Literal) (ls : List Literal) (a : ℕ) → a < length ls → literals_below top ls ≡ true → nat_lt (unwrap_or (slice_get ls a) d).atom top ≡ true
got_below top d [] a h k = absurd (omega (arith, h))
got_below top d (l ∷ ls) zero h k = and_left (nat_lt l.atom top) (literals_below top ls) k
got_below top d (l ∷ ls) (suc a) h k = got_below top d ls a (omega (arith, h)) (and_right (nat_lt l.atom top) (literals_below top ls) k)

-- atoms of the first n and those of the rows behind them go to atoms below this number
pub atom_goes_below : (n m top : ℕ) (front rows : List AtomOf) → AreRows rows → n ≤ m → (m + length front) + length (fresh front rows) ≤ top → (a : ℕ) → nat_lt a (n + length rows) ≡ true → nat_lt (moved_atom (goes n m front rows) a).atom top ≡ true
atom_goes_below n m top front rows are le room a h =
    let ls = places m front rows (m + length front) in
    let all = stays_below top 0 n ls (omega (arith, le, room)) (places_below m front top (omega (arith, room)) rows (m + length front) are room) in
    let few = less a (n + length rows) h in
    let many = stays_count 0 n ls in
    let count = places_count m front rows (m + length front) in
    got_below top (itself a) (goes n m front rows) a (omega (arith, few, many, count)) all

module _ (n top : ℕ) (to : List Literal) (down : (a : ℕ) → nat_lt a n ≡ true → nat_lt (moved_atom to a).atom top ≡ true) where
  sign_below : (s : Bool) (l : Literal) → nat_lt l.atom top ≡ true → nat_lt (with_sign s l).atom top ≡ true
  sign_below true l h = h
  sign_below false l h = h

  pub form_goes_below : (f : Form) → form_below n f ≡ true → form_below top (moved_form to f) ≡ true
  form_goes_below (Plain b) h = refl
  form_goes_below (Is l) h = sign_below l.sign (moved_atom to l.atom) (down l.atom h)
  form_goes_below (NotSo f) h = form_goes_below f h
  form_goes_below (Both f g) h =
      and_both (form_below top (moved_form to f)) _ (form_goes_below f (and_left (form_below n f) (form_below n g) h)) (form_goes_below g (and_right (form_below n f) (form_below n g) h))
  form_goes_below (Same f g) h =
      and_both (form_below top (moved_form to f)) _ (form_goes_below f (and_left (form_below n f) (form_below n g) h)) (form_goes_below g (and_right (form_below n f) (form_below n g) h))

-- forms over fewer atoms
pub form_raised : (n top : ℕ) → n ≤ top → (f : Form) → form_below n f ≡ true → form_below top f ≡ true
form_raised n top le (Plain b) h = refl
form_raised n top le (Is l) h = lower l.atom n top le h
form_raised n top le (NotSo f) h = form_raised n top le f h
form_raised n top le (Both f g) h =
    and_both (form_below top f) _ (form_raised n top le f (and_left (form_below n f) (form_below n g) h)) (form_raised n top le g (and_right (form_below n f) (form_below n g) h))
form_raised n top le (Same f g) h =
    and_both (form_below top f) _ (form_raised n top le f (and_left (form_below n f) (form_below n g) h)) (form_raised n top le g (and_right (form_below n f) (form_below n g) h))
