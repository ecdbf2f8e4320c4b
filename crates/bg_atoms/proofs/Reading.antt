-- Literals of rows.
use Rattle.std.proofs.Common.{◌≡◌, ◌<◌, ◌+◌, ℕ, zero, suc, Bool, true, false, not, List, [], ◌∷◌, length, Some, ℤ, pos, ◌≤ℤ◌, refl, sym, ap, ◌∙◌, arith, subst, inl, inr}
use Rattle.std.specs.Prelude.{Ok, int_le, nat_lt, if◌then◌else◌, ◌⊎◌}
use Rattle.std.proofs.lemmas.Int.{ints}
use Rattle.std.proofs.lemmas.Bool.Decides.{nat_tests}
use Rattle.bg_ast.specs.Values.{Truth, truth_of}
use Rattle.bg_ast.specs.Syntax.{Ex, Fact}
use Rattle.bg_sense.specs.Eval.{ev, value_at}
use Rattle.bg_rows.specs.declared.entry.Entry.{Entry}
use Rattle.bg_rows.specs.Entries.{total}
use Rattle.bg_rows.specs.Rows.{RowOf, holds, denied, is_empty}
use Rattle.bg_rows.proofs.Meaning.{denied_follows, denied_denies}
use Rattle.bg_formula.specs.declared.atom.Literal.{Literal}
use Rattle.bg_formula.specs.Atoms.{AtomOf, IsTruth, IsRow, at}
use Rattle.bg_formula.specs.Meaning.{AtomsAgree, same}
use Rattle.bg_forms.specs.Fitting.{fits_ex}
use Rattle.bg_forms.proofs.Meaning.{same_true}
use Rattle.bg_formed.specs.Agree.{RowsAgree}
use Rattle.bg_atoms.specs.Built.{literal_ex}
use Rattle.bg_atoms.specs.Literals.{literal_of}
use Rattle.bg_atoms.specs.Over.{read_literal}
use Rattle.bg_atoms.specs.Worlds.{World, IsLiteral, SaysRow}
use Rattle.bg_atoms.proofs.Tabled.{Stands, stands}

pub row_agrees : (z : ℕ → ℤ) (w : ℕ → Bool) (n : ℕ) (rows : List AtomOf) (i : ℕ) (r d : RowOf) → RowsAgree z w n rows → at rows i ≡ Some (IsRow r d) → w (n + i) ≡ holds z r
row_agrees z w n [] i r d h k = absurd (let bad : ⊥ = cc in bad)
row_agrees z w n (IsTruth x ∷ rs) i r d h k = absurd h
row_agrees z w n (IsRow q e ∷ rs) zero r d h k =
    let is : IsRow q e ≡ IsRow r d = cc in
    let row : q ≡ r = cc in
    let here : n + 0 ≡ n = omega arith in
    ap w here ∙ h.0 ∙ ap (holds z) row
row_agrees z w n (IsRow q e ∷ rs) (suc i) r d h k =
    let on : n + suc i ≡ suc n + i = omega arith in
    ap w on ∙ row_agrees z w (suc n) rs i r d h.1 k

pub denial_is : (rows : List AtomOf) (i : ℕ) (r d : RowOf) → AtomsAgree rows → at rows i ≡ Some (IsRow r d) → denied r ≡ Ok d
denial_is [] i r d h k = absurd (let bad : ⊥ = cc in bad)
denial_is (IsTruth x ∷ rs) zero r d h k = absurd (let bad : ⊥ = cc in bad)
denial_is (IsTruth x ∷ rs) (suc i) r d h k = denial_is rs i r d h k
denial_is (IsRow q e ∷ rs) zero r d h k =
    let row : q ≡ r = cc in
    let other : e ≡ d = cc in
    ap denied (sym row) ∙ h.0 ∙ ap Ok other
denial_is (IsRow q e ∷ rs) (suc i) r d h k = denial_is rs i r d h.1 k

pub there : (rows : List AtomOf) (i : ℕ) (a : AtomOf) → at rows i ≡ Some a → i < length rows
there [] i a k = absurd (let bad : ⊥ = cc in bad)
there (x ∷ rs) zero a k = omega arith
there (x ∷ rs) (suc i) a k = let m = there rs i a k in omega (arith, m)

le_yes : (a b : ℤ) → int_le a b ≡ true → a ≤ℤ b
le_yes a b h = grind (arith, ints)

le_no : (a b : ℤ) → int_le a b ≡ false → (a ≤ℤ b) → ⊥
le_no a b h k = grind (arith, ints)

denies : (p q : Bool) → (p ≡ false → q ≡ true) → (p ≡ true → q ≡ false) → not p ≡ q
denies true q f g = sym (g refl)
denies false q f g = sym (f refl)

no_true : (q : Bool) → (q ≡ true → ⊥) → q ≡ false
no_true true f = absurd (f refl)
no_true false f = refl

no_false : (q : Bool) → (q ≡ false → ⊥) → q ≡ true
no_false true f = refl
no_false false f = absurd (f refl)

pub denial_holds : (z : ℕ → ℤ) (r d : RowOf) → denied r ≡ Ok d → not (holds z r) ≡ holds z d
denial_holds z r d h =
    denies (holds z r) (holds z d) (λ no. no_false (holds z d) (λ f. le_no _ _ f (denied_follows z r d h (le_no _ _ no)))) (λ yes. no_true (holds z d) (λ t. denied_denies z r d h (le_yes _ _ t) (le_yes _ _ yes)))

same_not : (a : Bool) → same a false ≡ not a
same_not true = refl
same_not false = refl

-- the literal of a row says it
pub is_literal : (n : ℕ) (rows : List AtomOf) (r : RowOf) (l : Literal) → literal_of r n rows ≡ Some l → IsLiteral n rows r l
is_literal n rows r l h = let s = stands r n rows l h in by_sign s s.is
  where
    by_sign : (s : Stands r n rows l) → ((l.sign ≡ true) × (s.row ≡ r)) ⊎ ((l.sign ≡ false) × (s.denial ≡ r)) → IsLiteral n rows r l
    by_sign s (inl e) =
        record {
          below = let m = there rows s.place _ s.there in omega (arith, m, s.atom);
          found = h;
          same = λ k a. ap (λ x. same (k.truth l.atom) x) e.0 ∙ same_true (k.truth l.atom) ∙ ap k.truth s.atom ∙ row_agrees k.numbers k.truth n rows s.place s.row s.denial a.atoms s.there ∙ ap (holds k.numbers) e.1;
        }
    by_sign s (inr e) =
        record {
          below = let m = there rows s.place _ s.there in omega (arith, m, s.atom);
          found = h;
          same = λ k a. ap (λ x. same (k.truth l.atom) x) e.0 ∙ same_not (k.truth l.atom) ∙ ap not (ap k.truth s.atom ∙ row_agrees k.numbers k.truth n rows s.place s.row s.denial a.atoms s.there) ∙ denial_holds k.numbers s.row s.denial (denial_is rows s.place s.row s.denial a.denials s.there) ∙ ap (holds k.numbers) e.1;
        }

-- ---- expressions of literals

pub is_below : (a n : ℕ) → a < n → nat_lt a n ≡ true
is_below a n h = grind (arith, nat_tests)

by_sign : (k : World) (s : Bool) (a : ℕ) (b : Bool) → value_at k.atoms.frame a ≡ Truth (k.truth a) → same (k.truth a) s ≡ b → ev (literal_ex s a) k.atoms ≡ Truth b
by_sign k true a b reads is = reads ∙ ap Truth (sym (same_true (k.truth a)) ∙ is)
by_sign k false a b reads is = ap (λ v. Truth (not (truth_of v))) reads ∙ ap Truth (sym (same_not (k.truth a)) ∙ is)

fits_by_sign : (n : ℕ) (s : Bool) (a : ℕ) → a < n → fits_ex n (literal_ex s a) ≡ true
fits_by_sign n true a h = is_below a n h
fits_by_sign n false a h = is_below a n h

-- what says that a row holds, where it has entries or not
row_by : (n : ℕ) (rows : List AtomOf) (r : RowOf) (b c : Bool) → b ≡ c → (if b then Fact (int_le (pos 0) r.bound) else read_literal (literal_of r n rows)) ≡ (if c then Fact (int_le (pos 0) r.bound) else read_literal (literal_of r n rows))
row_by n rows r b c h = ap (λ d. if d then Fact (int_le (pos 0) r.bound) else read_literal (literal_of r n rows)) h

-- a row with entries
pub literal_says : (n : ℕ) (rows : List AtomOf) (r : RowOf) (l : Literal) → is_empty r.entries ≡ false → IsLiteral n rows r l → SaysRow n rows r (literal_ex l.sign l.atom)
literal_says n rows r l some h =
    record {
      fits = fits_by_sign (n + length rows) l.sign l.atom h.below;
      exact = sym (row_by n rows r (is_empty r.entries) false some ∙ ap read_literal h.found);
      same = λ k a. by_sign k l.sign l.atom (holds k.numbers r) (a.reads l.atom h.below) (h.same k a);
    }

no_entries : (z : ℕ → ℤ) (ts : List Entry) → is_empty ts ≡ true → total z ts ≡ pos 0
no_entries z [] h = refl
no_entries z (t ∷ ts) h = absurd (let bad : ⊥ = cc in bad)

pub empty_list : (ts : List Entry) → length ts ≡ 0 → is_empty ts ≡ true
empty_list [] h = refl
empty_list (t ∷ ts) h = absurd (omega (arith, h))

pub some_list : (ts : List Entry) → (length ts ≡ 0 → ⊥) → is_empty ts ≡ false
some_list [] h = absurd (h refl)
some_list (t ∷ ts) h = refl

-- a row without entries
pub plain_says : (n : ℕ) (rows : List AtomOf) (r : RowOf) (x : Ex) → is_empty r.entries ≡ true → x ≡ Fact (int_le (pos 0) r.bound) → SaysRow n rows r x
plain_says n rows r x h is =
    subst (SaysRow n rows r) (sym is) (record {
      fits = refl;
      exact = sym (row_by n rows r (is_empty r.entries) true h);
      same = λ k g. ap (λ t. Truth (int_le t r.bound)) (sym (no_entries k.numbers r.entries h));
    })
