-- A complete leaf is met whatever numbers those have that no row names.
use Rattle.std.proofs.Common.{◌≡◌, ℕ, zero, suc, ◌<◌, ℤ, pos, Bool, true, false, if◌then◌else◌, List, [], ◌∷◌, length, Option, Some, None, refl, ap, ◌∙◌, arith}
use Rattle.std.specs.Prelude.{nat_eq, ◌&&◌, ◌||◌, ◌+ℤ◌, ◌*ℤ◌, int_le}
use Rattle.std.proofs.lemmas.Bool.Decides.{nat_tests}
use Rattle.bg_rows.specs.declared.entry.Entry.{Entry}
use Rattle.bg_rows.specs.Entries.{total}
use Rattle.bg_formula.specs.declared.atom.Literal.{Literal}
use Rattle.bg_formula.specs.Atoms.{AtomOf, IsTruth, IsRow, at}
use Rattle.bg_formula.specs.Formulas.{Formula, is_whole, unit_atom}
use Rattle.bg_formula.specs.Meaning.{Valuation, same, signed, clause_true, clauses_true, unit_true, MeetsUnits, AtomsAgree}
use Rattle.bg_cert.specs.Paths.{decides}
use Rattle.bg_point.specs.declared.spot.Spot.{Spot}
use Rattle.bg_point.specs.Points.{value_of}
use Rattle.bg_tree.specs.declared.outcome.Leaf.{Leaf}
use Rattle.bg_tree.specs.Ends.{IsLeaf, TruthsAgree}
use Rattle.bg_check.specs.Leaves.{names, speaks_of, value_or, leaf_number}
use Rattle.bg_check.proofs.LawTypes.{LeafLaw, UnitLaw, SignLaw}

-- what is said of a valuation with the numbers of a complete leaf
abbrev pub LeavesMet : Type 0
LeavesMet =
    (targets : ℕ → ℤ) (f : Formula) (set : ℕ → Bool) (leaf : Leaf) (v : Valuation) → is_whole f ≡ true → AtomsAgree f.atoms → IsLeaf targets f set leaf →
    ((x : ℕ) → v.numbers x ≡ leaf_number targets f.atoms leaf.spots.items x) → TruthsAgree v f.atoms leaf.path.items → clauses_true v f.atoms f.clauses ≡ true

abbrev pub UnitsMet : Type 0
UnitsMet =
    (targets : ℕ → ℤ) (f : Formula) (set : ℕ → Bool) (leaf : Leaf) (v : Valuation) → is_whole f ≡ true → AtomsAgree f.atoms → IsLeaf targets f set leaf →
    ((x : ℕ) → v.numbers x ≡ leaf_number targets f.atoms leaf.spots.items x) → TruthsAgree v f.atoms leaf.path.items → MeetsUnits v f set

abbrev pub SignsMet : Type 0
SignsMet =
    (targets : ℕ → ℤ) (f : Formula) (set : ℕ → Bool) (leaf : Leaf) (v : Valuation) → AtomsAgree f.atoms → IsLeaf targets f set leaf →
    ((x : ℕ) → v.numbers x ≡ leaf_number targets f.atoms leaf.spots.items x) → TruthsAgree v f.atoms leaf.path.items →
    (a : ℕ) (s : Bool) → a < length f.atoms → decides a s leaf.path.items ≡ true → signed v (at f.atoms a) s ≡ true

-- ---- tests

itself : (x : ℕ) → nat_eq x x ≡ true
itself x = grind (arith, nat_tests)

or_first : (b c : Bool) → b ≡ true → (b || c) ≡ true
or_first true c h = refl
or_first false c h = absurd (let bad : ⊥ = cc in bad)

or_then : (b c : Bool) → c ≡ true → (b || c) ≡ true
or_then true c h = refl
or_then false c h = h

-- ---- numbers of what rows name

point_number : (ss : List Spot) (x : ℕ) → value_or (pos 0) ss x ≡ value_of ss x
point_number [] x = refl
point_number (s ∷ ss) x = ap (λ z. if nat_eq x s.variable then s.value else z) (point_number ss x)

-- what a row names has the number of the point
named_number : (targets : ℕ → ℤ) (xs : List AtomOf) (ss : List Spot) (x : ℕ) → speaks_of x xs ≡ true → leaf_number targets xs ss x ≡ value_of ss x
named_number targets xs ss x h = ap (λ b. value_or (if b then pos 0 else targets x) ss x) h ∙ point_number ss x

totals : (v w : ℕ → ℤ) (ts : List Entry) → ((x : ℕ) → names x ts ≡ true → v x ≡ w x) → total v ts ≡ total w ts
totals v w [] h = refl
totals v w (t ∷ ts) h =
    ap (λ z. (t.by *ℤ z) +ℤ total v ts) (h t.variable (or_first (nat_eq t.variable t.variable) (names t.variable ts) (itself t.variable)))
    ∙ ap (λ z. (t.by *ℤ w t.variable) +ℤ z) (totals v w ts (λ x n. h x (or_then (nat_eq x t.variable) (names x ts) n)))

-- ---- valuations with the same truth values, and the same numbers of what rows name

module _ (truths : ℕ → Bool) (m n : ℕ → ℤ) where
  abbrev v : Valuation
  v = record { numbers = m; truths = truths }

  abbrev w : Valuation
  w = record { numbers = n; truths = truths }

  abbrev Agree : List AtomOf → Type 0
  Agree xs = (x : ℕ) → speaks_of x xs ≡ true → m x ≡ n x

  atoms_alike : (xs : List AtomOf) → Agree xs → (a : ℕ) (s : Bool) → signed v (at xs a) s ≡ signed w (at xs a) s
  atoms_alike [] h a s = refl
  atoms_alike (IsTruth y ∷ xs) h zero s = refl
  atoms_alike (IsRow r d ∷ xs) h zero s =
      ap (λ z. same (int_le z r.bound) s) (totals m n r.entries (λ x k. h x (or_first (names x r.entries) (speaks_of x xs) k)))
  atoms_alike (IsTruth y ∷ xs) h (suc a) s = atoms_alike xs h a s
  atoms_alike (IsRow r d ∷ xs) h (suc a) s =
      atoms_alike xs (λ x k. h x (or_then (names x r.entries) (speaks_of x xs) k)) a s

  clause_alike : (xs : List AtomOf) → Agree xs → (c : List Literal) → clause_true v xs c ≡ clause_true w xs c
  clause_alike xs h [] = refl
  clause_alike xs h (l ∷ ls) =
      ap (λ b. b || clause_true v xs ls) (atoms_alike xs h l.atom l.sign)
      ∙ ap (λ b. signed w (at xs l.atom) l.sign || b) (clause_alike xs h ls)

  clauses_alike : (xs : List AtomOf) → Agree xs → (cs : List (List Literal)) → clauses_true v xs cs ≡ clauses_true w xs cs
  clauses_alike xs h [] = refl
  clauses_alike xs h (c ∷ cs) =
      ap (λ b. b && clauses_true v xs cs) (clause_alike xs h c)
      ∙ ap (λ b. clause_true w xs c && b) (clauses_alike xs h cs)

  units_alike : (f : Formula) → Agree f.atoms → (o : Option ℕ) → unit_true v f o ≡ unit_true w f o
  units_alike f h None = refl
  units_alike f h (Some a) = atoms_alike f.atoms h a true

-- ---- the laws of complete leaves for their numbers

-- the numbers are those of the point where a row names them
module _ (targets : ℕ → ℤ) (f : Formula) (leaf : Leaf) (v : Valuation) (h : (x : ℕ) → v.numbers x ≡ leaf_number targets f.atoms leaf.spots.items x) where
  abbrev P : ℕ → ℤ
  P = value_of leaf.spots.items

  abbrev at_point : Valuation
  at_point = record { numbers = P; truths = v.truths }

  by_point : (x : ℕ) → speaks_of x f.atoms ≡ true → v.numbers x ≡ P x
  by_point x k = h x ∙ named_number targets f.atoms leaf.spots.items x k

pub leaves_met : LeafLaw → LeavesMet
leaves_met law targets f set leaf v whole agree is h t =
    clauses_alike v.truths v.numbers (P targets f leaf v h) f.atoms (by_point targets f leaf v h) f.clauses
    ∙ law targets f set leaf (at_point targets f leaf v h) whole agree is (λ x. refl) t

pub units_met : UnitLaw → UnitsMet
units_met law targets f set leaf v whole agree is h t c s =
    units_alike v.truths v.numbers (P targets f leaf v h) f (by_point targets f leaf v h) (unit_atom f c)
    ∙ law targets f set leaf (at_point targets f leaf v h) whole agree is (λ x. refl) t c s

pub signs_met : SignLaw → SignsMet
signs_met law targets f set leaf v agree is h t a s l d =
    atoms_alike v.truths v.numbers (P targets f leaf v h) f.atoms (by_point targets f leaf v h) a s
    ∙ law targets f set leaf (at_point targets f leaf v h) agree is (λ x. refl) t a s l d
