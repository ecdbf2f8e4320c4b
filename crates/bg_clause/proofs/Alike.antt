-- The clauses have a valuation exactly where the equations deny the entry.
use Rattle.std.proofs.Common.{◌≡◌, ℕ, zero, suc, ◌+◌, ◌-◌, ◌<◌, Bool, true, false, List, [], ◌∷◌, length, Option, refl, sym, ap, subst, ◌∙◌, arith}
use Rattle.std.specs.Prelude.{nat_lt, slice_get, Some, None, is_some, Ok, ℤ}
use Rattle.std.proofs.lemmas.Bool.Decides.{nat_tests}
use Rattle.bg_base.specs.declared.exact.OutOfRange.{OutOfRange}
use Rattle.bg_ast.specs.Execution.{Spot}
use Rattle.bg_rows.specs.Rows.{holds}
use Rattle.bg_passive.specs.Equations.{is_well}
use Rattle.bg_formula.specs.Atoms.{AtomOf, IsTruth, IsRow, at}
use Rattle.bg_formula.specs.Formulas.{Formula, unit_atom, rows_below, is_whole}
use Rattle.bg_formula.specs.Meaning.{Valuation, same, signed, clauses_true}
use Rattle.bg_forms.specs.Worth.{bools_at}
use Rattle.bg_formed.specs.Formed.{FormBlock, blocks_below}
use Rattle.bg_formed.specs.Wells.{form_equations}
use Rattle.bg_formed.specs.Used.{refused}
use Rattle.bg_clause.specs.Tables.{table, marked, atom_in, is_true_at, there_in}
use Rattle.bg_clause.specs.Told.{Told, entry_told}
use Rattle.bg_clause.specs.Whole.{formula, clauses_by, clauses_of}
use Rattle.bg_formed.specs.Agree.{AreRows, RowsAgree}
use Rattle.bg_clause.specs.Valued.{worth_in}
use Rattle.bg_clause.proofs.Backward.{entry_denied}
use Rattle.bg_clause.proofs.Below.{blocks_lower}
use Rattle.bg_clause.proofs.Valuing.{behind, behind_first, behind_past}
use Rattle.bg_clause.proofs.Locals.{Agree, local_clauses, there_local, blocks_local}
use Rattle.bg_clause.proofs.Forward.{entry_met}
use Rattle.bg_clause.proofs.Tables.{which, there_by, table_named}
use Rattle.bg_clause.proofs.Wholes.{entry_below, atoms_of, at_truth, at_row, at_name, at_unit, units_there, worth_clauses, formula_whole}

by_cases : (o : Option OutOfRange) (g f : Formula) → clauses_by o g ≡ Ok f → (o ≡ None) × (g ≡ f)
by_cases None g f e = (refl, cc)
by_cases (Some x) g f e = absurd (let bad : ⊥ = cc in bad)

is_below : (b m : ℕ) → b < m → nat_lt b m ≡ true
is_below b m lt = grind (arith, nat_tests)

as_less : (b m : ℕ) → nat_lt b m ≡ true → b < m
as_less b m p = grind (arith, nat_tests)

not_below : (b m : ℕ) → nat_lt b m ≡ false → m + (b - m) ≡ b
not_below b m p = grind (arith, nat_tests)

same_true : (b : Bool) → same b true ≡ b
same_true true = refl
same_true false = refl

-- a row that is there is worth what its atom is
row_worth : (z : ℕ → ℤ) (t : ℕ → Bool) (v : Valuation) (k : ℕ) (rows : List AtomOf) (j x : ℕ) → v.numbers ≡ z → x ≡ k + j → RowsAgree z t k rows → nat_lt j (length rows) ≡ true → signed v (at rows j) true ≡ t x
row_worth z t v k [] j x q e h p = absurd (let bad = as_less j 0 p in omega (arith, bad))
row_worth z t v k (IsTruth y ∷ rows) j x q e h p = absurd h
row_worth z t v k (IsRow r d ∷ rows) zero x q e h p =
    same_true (holds v.numbers r) ∙ ap (λ n. holds n r) q ∙ sym h.0 ∙ ap t (let same : k ≡ x = omega (arith, e) in same)
row_worth z t v k (IsRow r d ∷ rows) (suc j) x q e h p =
    row_worth z t v (suc k) rows j x q (omega (arith, e)) h.1 (is_below j (length rows) (let l = as_less (suc j) (suc (length rows)) p in omega (arith, l)))

rows_worth : (v : Valuation) (atoms rows : List AtomOf) (k : ℕ) → AreRows rows → ((j x : ℕ) → x ≡ k + j → nat_lt j (length rows) ≡ true → at atoms x ≡ at rows j) → RowsAgree v.numbers (worth_in v atoms) k rows
rows_worth v atoms [] k h f = tt
rows_worth v atoms (IsTruth y ∷ rows) k h f = absurd h
rows_worth v atoms (IsRow r d ∷ rows) k h f =
    (ap (λ o. signed v o true) (f 0 k (omega arith) (is_below 0 (suc (length rows)) (omega arith))) ∙ same_true (holds v.numbers r), rows_worth v atoms rows (suc k) h (λ j x e p. f (suc j) x (omega (arith, e)) (is_below (suc j) (suc (length rows)) (let l = as_less j (length rows) p in omega (arith, l)))))

module _ (n terms : ℕ) (ms : List Bool) (rows : List AtomOf) (target : Spot) (bs : List FormBlock) where
  abbrev k : ℕ
  k = n + length rows

  abbrev a : ℕ
  a = k + marked ms

  abbrev cs : List (Option ℕ)
  cs = table k ms

  abbrev s : Told
  s = entry_told cs target a bs

  abbrev atoms : List AtomOf
  atoms = atoms_of n terms ms rows target bs

  worth_truth : (v : Valuation) (j : ℕ) → nat_lt j n ≡ true → worth_in v atoms j ≡ v.truths j
  worth_truth v j p = ap (λ o. signed v o true) (at_truth n terms ms rows target bs j p) ∙ same_true (v.truths j)

  -- candidates are there under the atoms' values where they are under those of truth variables
  there_alike : (v : Valuation) (b : ℕ) → there_in cs (worth_in v atoms) b ≡ there_in cs v.truths b
  there_alike v b = on (atom_in cs b) refl
    where
      on : (o : Option ℕ) → atom_in cs b ≡ o → is_true_at (worth_in v atoms) o ≡ is_true_at v.truths o
      on None e = refl
      on (Some x) e = ap (λ q. signed v q true) (at_unit n terms ms rows target bs b x e) ∙ same_true (v.truths x)

  pub units_are : (b x : ℕ) → atom_in cs b ≡ Some x → at atoms x ≡ Some (IsTruth x)
  units_are b x e = at_unit n terms ms rows target bs b x e

  module _ (fits : blocks_below k (bools_at ms) bs ≡ true) where
    wide : blocks_below a (bools_at ms) bs ≡ true
    wide = blocks_lower k a (bools_at ms) (omega arith) bs fits

    pub denies : (v : Valuation) → clauses_true v atoms s.clauses ≡ true → is_well (slice_get (form_equations (there_in cs v.truths) target (worth_in v atoms) bs) 0) ≡ false
    denies v e =
        entry_denied cs (bools_at ms) target a (worth_in v atoms) (there_in cs v.truths) (λ b p. there_alike v b) bs wide (sym (worth_clauses n terms ms rows target bs v fits) ∙ e)

    -- the atoms are worth what the truth values say
    agrees : (z : ℕ → ℤ) (t u : ℕ → Bool) → Agree k u t → RowsAgree z t n rows → Agree s.next (worth_in (record { numbers = z; truths = u }) atoms) u
    agrees z t u ag h j p = on (nat_lt j n) (nat_lt j k) refl refl
      where
        v : Valuation
        v = record { numbers = z; truths = u }

        on : (x y : Bool) → nat_lt j n ≡ x → nat_lt j k ≡ y → worth_in v atoms j ≡ u j
        on true y e f = worth_truth v j e
        on false true e f =
            let i = j - n in
            let is : j ≡ n + i = sym (not_below j n e) in
            let l : nat_lt i (length rows) ≡ true = is_below i (length rows) (let lt = as_less j k f in omega (arith, lt, is)) in
            ap (λ o. signed v o true) (at_row n terms ms rows target bs i j is l) ∙ row_worth z t v n rows i j refl is h l ∙ sym (ag j f)
        on false false e f =
            let i = j - k in
            ap (λ o. signed v o true) (at_name n terms ms rows target bs i j (sym (not_below j k f)) p) ∙ same_true (u j)

    -- truth values of the first atoms, and behind them those of candidates
    abbrev with_set : (t set : ℕ → Bool) → ℕ → Bool
    with_set t set = behind k t (λ r. set (which ms r))

    same_first : (t set : ℕ → Bool) → Agree k (with_set t set) t
    same_first t set j p = behind_first k t (λ r. set (which ms r)) j p

    set_there : (t set : ℕ → Bool) (b : ℕ) → bools_at ms b ≡ true → there_in cs (with_set t set) b ≡ set b
    set_there t set = there_by k ms set (with_set t set) (λ r x e. behind_past k t (λ i. set (which ms i)) r x e)

    abbrev pub Valued : (ℕ → ℤ) → (t set : ℕ → Bool) → Type 0
    Valued z t set =
        (v : Valuation) × ((v.numbers ≡ z)
        × (((j : ℕ) → j < n → v.truths j ≡ t j)
        × (((b : ℕ) → bools_at ms b ≡ true → there_in cs v.truths b ≡ set b)
        × (clauses_true v atoms s.clauses ≡ true))))

    pub valued : (z : ℕ → ℤ) (t set : ℕ → Bool) → RowsAgree z t n rows → is_well (slice_get (form_equations set target t bs) 0) ≡ false → Valued z t set
    valued z t set h q =
        let w = with_set t set in
        let units = units_there n terms ms rows target bs in
        let here = ap (λ es. is_well (slice_get es 0)) (blocks_local k (bools_at ms) w t (same_first t set) set target bs fits) ∙ q in
        let met = entry_met cs (bools_at ms) target a units w set (set_there t set) bs wide here in
        let u = met.0 in
        let v : Valuation = record { numbers = z; truths = u } in
        let near : Agree k u t = λ j p. met.1.0 j (is_below j a (let lt = as_less j k p in omega (arith, lt))) ∙ same_first t set j p in
        let same = local_clauses s.next (worth_in v atoms) u (agrees z t u near h) s.clauses (entry_below cs target a (bools_at ms) units bs wide) in
        (v, (refl, ((λ j lt. near j (is_below j k (omega (arith, lt)))), ((λ b p. there_local a u w met.1.0 cs units b ∙ set_there t set b p), worth_clauses n terms ms rows target bs v fits ∙ same ∙ met.1.1))))

  pub truths_are : (v : Valuation) (j : ℕ) → j < n → worth_in v atoms j ≡ v.truths j
  truths_are v j lt = worth_truth v j (is_below j n lt)

  pub rows_are : (v : Valuation) → AreRows rows → RowsAgree v.numbers (worth_in v atoms) n rows
  rows_are v h = rows_worth v atoms rows n h (λ j x e p. at_row n terms ms rows target bs j x e p)

module _ (n terms : ℕ) (ms : List Bool) (rows : List AtomOf) (target : Spot) (bs : List FormBlock) (f : Formula) (is : clauses_of n ms terms rows target bs ≡ Ok f) where
  made : formula n ms terms rows target bs ≡ f
  made = (by_cases (refused target bs) (formula n ms terms rows target bs) f is).1

  pub inside : refused target bs ≡ None
  inside = (by_cases (refused target bs) (formula n ms terms rows target bs) f is).0

  pub all_units : (b x : ℕ) → unit_atom f b ≡ Some x → at f.atoms x ≡ Some (IsTruth x)
  all_units = subst (λ g. (b x : ℕ) → unit_atom g b ≡ Some x → at g.atoms x ≡ Some (IsTruth x)) made (units_are n terms ms rows target bs)

  pub all_named : (b : ℕ) → is_some (unit_atom f b) ≡ bools_at ms b
  all_named = subst (λ g. (b : ℕ) → is_some (unit_atom g b) ≡ bools_at ms b) made (table_named (n + length rows) ms)

  module _ (fits : blocks_below (n + length rows) (bools_at ms) bs ≡ true) where
    pub all_valued : (z : ℕ → ℤ) (t set : ℕ → Bool) → RowsAgree z t n rows → is_well (slice_get (form_equations set target t bs) 0) ≡ false → (v : Valuation) × ((v.numbers ≡ z) × (((j : ℕ) → j < n → v.truths j ≡ t j) × (((b : ℕ) → bools_at ms b ≡ true → there_in f.candidates v.truths b ≡ set b) × (clauses_true v f.atoms f.clauses ≡ true))))
    all_valued z t set h q =
        subst (λ g. (v : Valuation) × ((v.numbers ≡ z) × (((j : ℕ) → j < n → v.truths j ≡ t j) × (((b : ℕ) → bools_at ms b ≡ true → there_in g.candidates v.truths b ≡ set b) × (clauses_true v g.atoms g.clauses ≡ true))))) made (valued n terms ms rows target bs fits z t set h q)

    pub all_denied : (v : Valuation) → clauses_true v f.atoms f.clauses ≡ true → is_well (slice_get (form_equations (there_in f.candidates v.truths) target (worth_in v f.atoms) bs) 0) ≡ false
    all_denied v =
        subst (λ g. clauses_true v g.atoms g.clauses ≡ true → is_well (slice_get (form_equations (there_in g.candidates v.truths) target (worth_in v g.atoms) bs) 0) ≡ false) made (denies n terms ms rows target bs fits v)

    pub all_truths : (v : Valuation) (j : ℕ) → j < n → worth_in v f.atoms j ≡ v.truths j
    all_truths v = subst (λ g. (j : ℕ) → j < n → worth_in v g.atoms j ≡ v.truths j) made (truths_are n terms ms rows target bs v)

    pub all_rows : (v : Valuation) → AreRows rows → RowsAgree v.numbers (worth_in v f.atoms) n rows
    all_rows v = subst (λ g. AreRows rows → RowsAgree v.numbers (worth_in v g.atoms) n rows) made (rows_are n terms ms rows target bs v)

    pub all_whole : rows_below terms rows ≡ true → is_whole f ≡ true
    all_whole there = subst (λ g. is_whole g ≡ true) made (formula_whole n terms ms rows target bs fits there)
