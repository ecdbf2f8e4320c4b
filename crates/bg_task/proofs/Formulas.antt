-- The atoms and candidates of clauses.
use Rattle.std.proofs.Common.{◌≡◌, ℕ, zero, suc, ◌+◌, ◌-◌, Bool, true, false, List, [], ◌∷◌, ◌++◌, length, map, Option, Some, None, Ok, refl, sym, ap, ◌∙◌, subst, arith}
use Rattle.std.specs.Prelude.{is_some}
use Rattle.bg_base.specs.declared.exact.OutOfRange.{OutOfRange}
use Rattle.bg_ast.specs.Execution.{Spot}
use Rattle.bg_sense.specs.Variables.{count_from}
use Rattle.bg_formula.specs.Atoms.{AtomOf, IsTruth, IsRow, at}
use Rattle.bg_formula.specs.Formulas.{Formula, unit_atom}
use Rattle.bg_formula.specs.Meaning.{Valuation, signed, same, unit_true, MeetsUnits, AtomsAgree}
use Rattle.bg_forms.specs.Worth.{bools_at}
use Rattle.bg_formed.specs.Agree.{AreRows}
use Rattle.bg_formed.specs.Formed.{FormBlock}
use Rattle.bg_formed.specs.Used.{refused}
use Rattle.bg_clause.specs.Tables.{table, marked, is_true_at, there_in}
use Rattle.bg_clause.specs.Told.{entry_told}
use Rattle.bg_clause.specs.Whole.{formula, clauses_by, clauses_of}

-- atoms are truth variables of their own numbers, but for the rows
pub record IsPlainFormula (n : ℕ) (rows : List AtomOf) (f : Formula) : Type 0 where
  pub names : ℕ
  pub atoms : f.atoms ≡ map IsTruth (count_from 0 n) ++ (rows ++ map IsTruth (count_from (n + length rows) names))

plain_by : (n terms : ℕ) (ms : List Bool) (rows : List AtomOf) (t : Spot) (bs : List FormBlock) (f : Formula) (o : Option OutOfRange) → clauses_by o (formula n ms terms rows t bs) ≡ Ok f → IsPlainFormula n rows f
plain_by n terms ms rows t bs f None e =
    let same : formula n ms terms rows t bs ≡ f = cc in
    subst (IsPlainFormula n rows) same (record { names = (entry_told (table (n + length rows) ms) t (n + length rows + marked ms) bs).next - (n + length rows); atoms = refl })
plain_by n terms ms rows t bs f (Some x) e = absurd (let bad : ⊥ = cc in bad)

pub plain_formula : (n terms : ℕ) (ms : List Bool) (rows : List AtomOf) (t : Spot) (bs : List FormBlock) (f : Formula) → clauses_of n ms terms rows t bs ≡ Ok f → IsPlainFormula n rows f
plain_formula n terms ms rows t bs f e = plain_by n terms ms rows t bs f (refused t bs) e

-- ---- rows agree with their denials

agree_behind : (xs : List ℕ) (rest : List AtomOf) → AtomsAgree rest → AtomsAgree (map IsTruth xs ++ rest)
agree_behind [] rest h = h
agree_behind (x ∷ xs) rest h = agree_behind xs rest h

agree_rows : (rows rest : List AtomOf) → AtomsAgree rows → AtomsAgree rest → AtomsAgree (rows ++ rest)
agree_rows [] rest h k = k
agree_rows (IsTruth x ∷ rows) rest h k = agree_rows rows rest h k
agree_rows (IsRow r d ∷ rows) rest h k = (h.0, agree_rows rows rest h.1 k)

agree_truths : (xs : List ℕ) → AtomsAgree (map IsTruth xs)
agree_truths [] = tt
agree_truths (x ∷ xs) = agree_truths xs

pub plain_agree : (n : ℕ) (rows : List AtomOf) (f : Formula) → AtomsAgree rows → IsPlainFormula n rows f → AtomsAgree f.atoms
plain_agree n rows f agree h =
    subst AtomsAgree (sym h.atoms) (agree_behind (count_from 0 n) (rows ++ map IsTruth (count_from (n + length rows) h.names)) (agree_rows rows (map IsTruth (count_from (n + length rows) h.names)) agree (agree_truths (count_from (n + length rows) h.names))))

-- ---- a truth variable has the number of its atom

-- each truth variable of the list has the number of its atom, where the first one's is k
abbrev Own : ℕ → List AtomOf → Type 0
Own k xs = (a x : ℕ) → at xs a ≡ Some (IsTruth x) → x ≡ k + a

own_none : (k : ℕ) → Own k []
own_none k a x e = absurd (let bad : ⊥ = cc in bad)

own_truths : (j n : ℕ) (rest : List AtomOf) → Own (j + n) rest → Own j (map IsTruth (count_from j n) ++ rest)
own_truths j zero rest h a x e = let k = h a x e in omega (arith, k)
own_truths j (suc n) rest h zero x e = let k : j ≡ x = cc in omega (arith, k)
own_truths j (suc n) rest h (suc a) x e =
    let k = own_truths (suc j) n rest (λ b y g. let z = h b y g in omega (arith, z)) a x e in omega (arith, k)

own_rows : (j : ℕ) (rows rest : List AtomOf) → AreRows rows → Own (j + length rows) rest → Own j (rows ++ rest)
own_rows j [] rest r h a x e = let k = h a x e in omega (arith, k)
own_rows j (IsTruth y ∷ rows) rest r h a x e = absurd r
own_rows j (IsRow q d ∷ rows) rest r h zero x e = absurd (let bad : ⊥ = cc in bad)
own_rows j (IsRow q d ∷ rows) rest r h (suc a) x e =
    let k = own_rows (suc j) rows rest r (λ b y g. let z = h b y g in omega (arith, z)) a x e in omega (arith, k)

own_last : (j n : ℕ) → Own j (map IsTruth (count_from j n))
own_last j zero a x e = own_none j a x e
own_last j (suc n) zero x e = let k : j ≡ x = cc in omega (arith, k)
own_last j (suc n) (suc a) x e = let k = own_last (suc j) n a x e in omega (arith, k)

pub own_number : (n : ℕ) (rows : List AtomOf) (f : Formula) → AreRows rows → IsPlainFormula n rows f → (a x : ℕ) → at f.atoms a ≡ Some (IsTruth x) → x ≡ a
own_number n rows f r h a x e =
    let k = own_truths 0 n (rows ++ map IsTruth (count_from (n + length rows) h.names)) (λ b y g. let z = own_rows n rows (map IsTruth (count_from (n + length rows) h.names)) r (own_last (n + length rows) h.names) b y g in omega (arith, z)) a x (ap (λ xs. at xs a) (sym h.atoms) ∙ e) in
    omega (arith, k)

-- ---- units

-- what the laws of clauses say of a formula: each unit is the truth variable of its number, and the named candidates have one
module _ (f : Formula) (named : List Bool) (units : (b a : ℕ) → unit_atom f b ≡ Some a → at f.atoms a ≡ Some (IsTruth a)) (have : (b : ℕ) → is_some (unit_atom f b) ≡ bools_at named b) (v : Valuation) (set : ℕ → Bool) where
  same_true : (b : Bool) → b ≡ true → same b true ≡ true
  same_true true e = refl
  same_true false e = e

  true_same : (b : Bool) → same b true ≡ true → b ≡ true
  true_same true e = refl
  true_same false e = e

  -- where the named candidates are there as they are in a set, the units are met
  pub meets_units : ((b : ℕ) → bools_at named b ≡ true → there_in f.candidates v.truths b ≡ set b) → MeetsUnits v f set
  meets_units agree c s = by (unit_atom f c) refl
    where
      by : (o : Option ℕ) → unit_atom f c ≡ o → unit_true v f (unit_atom f c) ≡ true
      by None e = ap (unit_true v f) e
      by (Some a) e =
          let is = sym (have c) ∙ ap is_some e in
          let there = sym (ap (is_true_at v.truths) e) ∙ (agree c is ∙ s) in
          ap (unit_true v f) e ∙ (ap (λ o. signed v o true) (units c a e) ∙ same_true (v.truths a) there)

  -- where the units are met, the named candidates of a set are there
  pub unit_met : MeetsUnits v f set → (b : ℕ) → bools_at named b ≡ true → set b ≡ true → there_in f.candidates v.truths b ≡ true
  unit_met met b is s = by (unit_atom f b) refl
    where
      by : (o : Option ℕ) → unit_atom f b ≡ o → there_in f.candidates v.truths b ≡ true
      by None e = absurd (let bad : false ≡ true = sym (ap is_some e) ∙ (have b ∙ is) in let worse : ⊥ = cc in worse)
      by (Some a) e =
          let m = sym (ap (λ o. signed v o true) (units b a e)) ∙ (sym (ap (unit_true v f) e) ∙ met b s) in
          ap (is_true_at v.truths) e ∙ true_same (v.truths a) m
