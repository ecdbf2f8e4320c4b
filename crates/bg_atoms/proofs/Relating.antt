-- Relations of numbers over the atoms of their rows.
use Rattle.std.proofs.Common.{◌≡◌, ℕ, ◌+◌, Bool, true, false, not, List, [], ◌∷◌, ◌++◌, length, map, Some, None, refl, sym, ap, ◌∙◌, subst}
use Rattle.std.specs.Prelude.{◌&&◌, if◌then◌else◌, Result, Ok, Err}
use Rattle.bg_base.specs.declared.exact.OutOfRange.{OutOfRange}
use Rattle.bg_ast.specs.Values.{Truth, truth_of}
use Rattle.bg_ast.specs.Syntax.{Ex, Fact, Binary, Op, And, Or, Implies, Iff, Equal, Unequal, Less, AtMost, Greater, AtLeast, Plus, Minus, Times}
use Rattle.bg_ast.specs.Meaning as m
use Rattle.bg_ast.specs.Views.{ex_of}
use Rattle.bg_sense.specs.Eval.{ev, operate}
use Rattle.bg_rows.specs.declared.refused.Refused.{Refused}
use Rattle.bg_rows.specs.declared.refused.Refused.TheVariants.{Range, Memory}
use Rattle.bg_rows.specs.Rows.{row_of, holds, Told}
use Rattle.bg_formula.specs.declared.atom.Linear.{Linear}
use Rattle.bg_formula.specs.Atoms.{AtomOf, IsTruth, IsRow, view_linear}
use Rattle.bg_formula.specs.Meaning.{Valuation, atom_true}
use Rattle.bg_forms.specs.Fitting.{fits_ex}
use Rattle.bg_formed.specs.Used.{first_of}
use Rattle.bg_formed.proofs.Below.{and_both}
use Rattle.bg_linear.specs.declared.scalar.Sort.{Sort}
use Rattle.bg_linear.specs.declared.scalar.Sort.TheVariants as sort
use Rattle.bg_linear.specs.declared.scalar.Kind.TheVariants as kind
use Rattle.bg_linear.specs.Relations.{relation, relates, says, all_true}
use Rattle.bg_linear.specs.Sorts.{kind_ex, is_number, sort_of}
use Rattle.bg_linear.proofs.Exact.{relations_exact}
use Rattle.bg_atoms.specs.Built.{says_ex}
use Rattle.bg_atoms.specs.declared.made.Made.{Made}
use Rattle.bg_atoms.specs.Over.{relates_numbers, row_ex, rows_ex, relation_ex, over, refusal, first_refused}
use Rattle.bg_atoms.specs.Made.{Makes, IsRange}
use Rattle.bg_atoms.specs.Worlds.{World, Agrees, valuation_of, SaysRow, SaysAll, Means}

-- what says that these rows hold, and then what is said behind them
abbrev pub rows_then : ℕ → List AtomOf → List AtomOf → Ex → Ex
rows_then n rows [] x = x
rows_then n rows (IsTruth y ∷ rs) x = rows_then n rows rs x
rows_then n rows (IsRow r d ∷ rs) x = Binary And (row_ex n rows r) (rows_then n rows rs x)

rows_whole : (n : ℕ) (rows rs : List AtomOf) → rows_then n rows rs (Fact true) ≡ rows_ex n rows rs
rows_whole n rows [] = refl
rows_whole n rows (IsTruth y ∷ rs) = rows_whole n rows rs
rows_whole n rows (IsRow r d ∷ rs) = ap (λ x. Binary And (row_ex n rows r) x) (rows_whole n rows rs)

rows_end : (n : ℕ) (rows : List AtomOf) (xs : List Linear) (a : Linear) (x : Ex) → rows_then n rows (map view_linear (xs ++ a ∷ [])) x ≡ rows_then n rows (map view_linear xs) (Binary And (row_ex n rows (row_of a.row)) x)
rows_end n rows [] a x = refl
rows_end n rows (y ∷ xs) a x = ap (λ z. Binary And (row_ex n rows (row_of y.row)) z) (rows_end n rows xs a x)

-- what says that the rows behind those on the left hold, where all of them are these
pub record SaysRest (n : ℕ) (rows : List AtomOf) (left whole : List AtomOf) (x : Ex) : Type 0 where
  pub fits : fits_ex (n + length rows) x ≡ true
  pub exact : rows_then n rows left x ≡ rows_ex n rows whole
  pub same : (sorts : List Sort) (k : World) → Agrees n rows k → (b : Bool) × (ev x k.atoms ≡ Truth b) × ((all_true (valuation_of sorts k) left && b) ≡ all_true (valuation_of sorts k) whole)

and_true : (a : Bool) → (a && true) ≡ a
and_true true = refl
and_true false = refl

true_end : (v : Valuation) (xs : List Linear) (a : Linear) (b : Bool) → (all_true v (map view_linear (xs ++ a ∷ [])) && b) ≡ (all_true v (map view_linear xs) && (holds v.numbers (row_of a.row) && b))
true_end v [] a b = ap (λ x. x && b) (and_true (holds v.numbers (row_of a.row)))
true_end v (x ∷ xs) a b = by_first (atom_true v (view_linear x)) (true_end v xs a b)
  where
    by_first : (c : Bool) → (all_true v (map view_linear (xs ++ a ∷ [])) && b) ≡ (all_true v (map view_linear xs) && (holds v.numbers (row_of a.row) && b)) → ((c && all_true v (map view_linear (xs ++ a ∷ []))) && b) ≡ ((c && all_true v (map view_linear xs)) && (holds v.numbers (row_of a.row) && b))
    by_first true h = h
    by_first false h = refl

module _ (n : ℕ) (rows : List AtomOf) where
  pub none_yet : (whole : List AtomOf) (x : Ex) → x ≡ Fact true → SaysRest n rows whole whole x
  none_yet whole x h =
      subst (SaysRest n rows whole whole) (sym h) (record {
        fits = refl;
        exact = rows_whole n rows whole;
        same = λ sorts k a. (true, refl, and_true (all_true (valuation_of sorts k) whole));
      })

  pub one_more : (old left : List Linear) (a : Linear) (whole : List AtomOf) (x y z : Ex) → old ≡ left ++ a ∷ [] → z ≡ Binary And x y → SaysRow n rows (row_of a.row) x → SaysRest n rows (map view_linear old) whole y → SaysRest n rows (map view_linear left) whole z
  one_more old left a whole x y z split h r s =
      subst (SaysRest n rows (map view_linear left) whole) (sym h) (record {
        fits = and_both (fits_ex (n + length rows) x) (fits_ex (n + length rows) y) r.fits s.fits;
        exact = ap (λ e. rows_then n rows (map view_linear left) (Binary And e y)) r.exact ∙ sym (rows_end n rows left a y) ∙ ap (λ l. rows_then n rows (map view_linear l) y) (sym split) ∙ s.exact;
        same = with_it;
      })
    where
      with_it : (sorts : List Sort) (k : World) → Agrees n rows k → (b : Bool) × (ev (Binary And x y) k.atoms ≡ Truth b) × ((all_true (valuation_of sorts k) (map view_linear left) && b) ≡ all_true (valuation_of sorts k) whole)
      with_it sorts k g =
          let rest = s.same sorts k g in
          let v = valuation_of sorts k in (
            holds k.numbers (row_of a.row) && rest.0,
            ap (λ w. operate And w (ev y k.atoms)) (r.same k g) ∙ ap (λ w. operate And (Truth (holds k.numbers (row_of a.row))) w) rest.1,
            sym (true_end v left a rest.0) ∙ ap (λ l. all_true v (map view_linear l) && rest.0) (sym split) ∙ rest.2,
          )

  pub all_now : (whole : List AtomOf) (left : List Linear) (x : Ex) → left ≡ [] → SaysRest n rows (map view_linear left) whole x → SaysAll n rows whole x
  all_now whole left x none s =
      record {
        fits = s.fits;
        exact = ap (λ l. rows_then n rows (map view_linear l) x) (sym none) ∙ s.exact;
        same = λ sorts k g. let rest = s.same sorts k g in rest.1 ∙ ap Truth (ap (λ l. all_true (valuation_of sorts k) (map view_linear l) && rest.0) (sym none) ∙ rest.2);
      }

-- ---- the relation

sort_number : (k : _) → is_number k ≡ true → sort_of k ≡ Some sort.Number
sort_number None h = absurd (let bad : ⊥ = cc in bad)
sort_number (Some kind.Truth) h = absurd (let bad : ⊥ = cc in bad)
sort_number (Some kind.Constant) h = refl
sort_number (Some kind.Number) h = refl

says_fits : (n : ℕ) (op : Op) (x : Ex) → fits_ex n x ≡ true → fits_ex n (says_ex op x) ≡ true
says_fits n Unequal x h = h
says_fits n Equal x h = h
says_fits n Less x h = h
says_fits n AtMost x h = h
says_fits n Greater x h = h
says_fits n AtLeast x h = h
says_fits n And x h = h
says_fits n Or x h = h
says_fits n Implies x h = h
says_fits n Iff x h = h
says_fits n Plus x h = h
says_fits n Minus x h = h
says_fits n Times x h = h

says_same : (k : World) (op : Op) (x : Ex) (b : Bool) → ev x k.atoms ≡ Truth b → ev (says_ex op x) k.atoms ≡ Truth (says op b)
says_same k Unequal x b h = ap (λ v. Truth (not (truth_of v))) h
says_same k Equal x b h = h
says_same k Less x b h = h
says_same k AtMost x b h = h
says_same k Greater x b h = h
says_same k AtLeast x b h = h
says_same k And x b h = h
says_same k Or x b h = h
says_same k Implies x b h = h
says_same k Iff x b h = h
says_same k Plus x b h = h
says_same k Minus x b h = h
says_same k Times x b h = h

-- a relation of two numbers
module _ (sorts : List Sort) (n : ℕ) (rows : List AtomOf) (op : Op) (a b : Ex) (r : relates op ≡ true) (ka : is_number (kind_ex sorts a) ≡ true) (kb : is_number (kind_ex sorts b) ≡ true) where
  numbers : relates_numbers sorts op a b ≡ true
  numbers = and_both (relates op) (is_number (kind_ex sorts a) && is_number (kind_ex sorts b)) r (and_both (is_number (kind_ex sorts a)) (is_number (kind_ex sorts b)) ka kb)

  over_relation : over sorts n rows (Binary op a b) ≡ relation_ex n rows op (relation op a b)
  over_relation =
      ap (λ c. if c then relation_ex n rows op (relation op a b) else Binary op (over sorts n rows a) (over sorts n rows b)) numbers

  first_relation : first_refused sorts (Binary op a b) ≡ refusal (relation op a b)
  first_relation =
      ap (λ c. if c then refusal (relation op a b) else first_of (first_refused sorts a) (first_refused sorts b)) numbers

  relation_means : (x y : Ex) (rs : List AtomOf) → relation op a b ≡ Ok rs → SaysAll n rows rs x → y ≡ says_ex op x → Means sorts n rows (Binary op a b) y
  relation_means x y rs made s is =
      subst (Means sorts n rows (Binary op a b)) (sym is) (record {
        fits = says_fits (n + length rows) op x s.fits;
        exact = ap (says_ex op) s.exact ∙ sym (over_relation ∙ ap (relation_ex n rows op) made);
        same = λ fine k g held. says_same k op x (all_true (valuation_of sorts k) rs) (s.same sorts k g) ∙ sym (relations_exact sorts (valuation_of sorts k) k.scope held op a b rs r (sort_number (kind_ex sorts a) ka) (sort_number (kind_ex sorts b) kb) made);
      })

  pub relation_makes : (x : Ex) (y : Made) (rs : List AtomOf) → relation op a b ≡ Ok rs → SaysAll n rows rs x → m.ex_of (ex_of y.says) ≡ says_ex op x → y.refused ≡ None → Makes sorts n rows (Binary op a b) y
  relation_makes x y rs made s is fine =
      record {
        means = relation_means x (m.ex_of (ex_of y.says)) rs made s is;
        refused = first_relation ∙ ap refusal made ∙ sym fine;
      }

  refused_means : (o : OutOfRange) (y : Ex) → relation op a b ≡ Err o → y ≡ Fact false → Means sorts n rows (Binary op a b) y
  refused_means o y made is =
      subst (Means sorts n rows (Binary op a b)) (sym is) (record {
        fits = refl;
        exact = sym (over_relation ∙ ap (relation_ex n rows op) made);
        same = λ fine k g held. absurd (let some : Some o ≡ None = sym (first_relation ∙ ap refusal made) ∙ fine in let bad : ⊥ = cc in bad);
      })

  pub refused_makes : (q : Refused) (y : Made) → ((o : OutOfRange) → q ≡ Range o → relation op a b ≡ Err o) → IsRange q y → Makes sorts n rows (Binary op a b) y
  refused_makes (Range o) y on is =
      record {
        means = refused_means o (m.ex_of (ex_of y.says)) (on o refl) is.says;
        refused = first_relation ∙ ap refusal (on o refl) ∙ sym is.refused;
      }
  refused_makes Memory y on is = absurd is

pub range_of : (view : List Linear → List AtomOf) (q : Refused) (told : Result (List AtomOf) OutOfRange) → Told {A = List Linear} view (Err q) told → (o : OutOfRange) → q ≡ Range o → told ≡ Err o
range_of view q told t o is = subst (λ p. Told {A = List Linear} view (Err p) told) is t
