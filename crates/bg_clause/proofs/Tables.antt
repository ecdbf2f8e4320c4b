-- Atoms of candidates: one for each that is marked, in order.
use Rattle.std.proofs.Common.{◌≡◌, ℕ, zero, suc, ◌+◌, ◌<◌, ◌≤◌, Bool, true, false, List, [], ◌∷◌, refl, arith}
use Rattle.std.specs.Prelude.{nat_lt, Some, is_some}
use Rattle.std.proofs.lemmas.Bool.Decides.{nat_tests}
use Rattle.bg_formula.specs.Formulas.{units_below}
use Rattle.bg_forms.specs.Worth.{bools_at}
use Rattle.bg_formed.proofs.Below.{and_both}
use Rattle.bg_clause.specs.Tables.{table, marked, atom_in, there_in}

-- which candidate has atom k + r, where the first one that is marked has atom k: the one that is marked behind r others
abbrev pub which : List Bool → ℕ → ℕ
which [] r = zero
which (true ∷ ms) zero = zero
which (true ∷ ms) (suc r) = suc (which ms r)
which (false ∷ ms) r = suc (which ms r)

-- where the atoms are worth whether their candidates are in the set, the marked candidates of the set are there
pub there_by : (k : ℕ) (ms : List Bool) (set t : ℕ → Bool) → ((r x : ℕ) → x ≡ k + r → t x ≡ set (which ms r)) → (b : ℕ) → bools_at ms b ≡ true → there_in (table k ms) t b ≡ set b
there_by k [] set t h b p = absurd (let bad : ⊥ = cc in bad)
there_by k (true ∷ ms) set t h zero p = h 0 k (omega arith)
there_by k (true ∷ ms) set t h (suc b) p =
    there_by (suc k) ms (λ c. set (suc c)) t (λ r x e. h (suc r) x (omega (arith, e))) b p
there_by k (false ∷ ms) set t h zero p = absurd (let bad : ⊥ = cc in bad)
there_by k (false ∷ ms) set t h (suc b) p = there_by k ms (λ c. set (suc c)) t h b p

is_below : (b m : ℕ) → b < m → nat_lt b m ≡ true
is_below b m lt = grind (arith, nat_tests)

-- the atoms are so many, from k on
pub table_below : (n k : ℕ) (ms : List Bool) → k + marked ms ≤ n → units_below n (table k ms) ≡ true
table_below n k [] le = refl
table_below n k (true ∷ ms) le =
    and_both (nat_lt k n) (units_below n (table (suc k) ms)) (is_below k n (omega (arith, le))) (table_below n (suc k) ms (omega (arith, le)))
table_below n k (false ∷ ms) le = table_below n k ms le

pub table_inside : (k : ℕ) (ms : List Bool) (b x : ℕ) → atom_in (table k ms) b ≡ Some x → (j : ℕ) × ((x ≡ k + j) × (j < marked ms))
table_inside k [] b x e = absurd (let bad : ⊥ = cc in bad)
table_inside k (true ∷ ms) zero x e = (0, ((let same : k ≡ x = cc in omega (arith, same)), omega arith))
table_inside k (true ∷ ms) (suc b) x e =
    let i = table_inside (suc k) ms b x e in
    let is = i.1.0 in
    let lt = i.1.1 in
    (suc i.0, (omega (arith, is), omega (arith, lt)))
table_inside k (false ∷ ms) zero x e = absurd (let bad : ⊥ = cc in bad)
table_inside k (false ∷ ms) (suc b) x e = table_inside k ms b x e

-- the candidates with an atom are those that are marked
pub table_named : (k : ℕ) (ms : List Bool) (b : ℕ) → is_some (atom_in (table k ms) b) ≡ bools_at ms b
table_named k [] b = refl
table_named k (true ∷ ms) zero = refl
table_named k (true ∷ ms) (suc b) = table_named (suc k) ms b
table_named k (false ∷ ms) zero = refl
table_named k (false ∷ ms) (suc b) = table_named k ms b
