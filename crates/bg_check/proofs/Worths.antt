-- The valuation of a complete leaf, and what it makes of the atoms.
use Rattle.std.proofs.Common.{◌≡◌, ℕ, zero, suc, ◌<◌, ◌≤◌, Bool, true, false, List, [], ◌∷◌, length, Option, Some, None, refl, sym, ap, ◌∙◌, inl, inr, ⊎_elim, arith, ℤ}
use Rattle.std.specs.Prelude.{◌⊎◌, ◌&&◌, ◌||◌}
use Rattle.bg_formula.specs.Atoms.{AtomOf, IsTruth, at}
use Rattle.bg_formula.specs.Formulas.{Formula}
use Rattle.bg_formula.specs.Meaning.{Valuation, atom_true, same, signed, AtomsAgree}
use Rattle.bg_cert.specs.declared.cert.Decision.{Decision}
use Rattle.bg_cert.specs.Paths.{decides}
use Rattle.bg_cert.specs.Causes.{is_decided, all_decided}
use Rattle.bg_point.proofs.Near.{funext}
use Rattle.bg_sense.proofs.Bools.{and_left, and_right}
use Rattle.bg_tree.specs.declared.outcome.Leaf.{Leaf}
use Rattle.bg_tree.specs.Ends.{IsLeaf, TruthsAgree}
use Rattle.bg_tree.specs.Once.{IsOnce}
use Rattle.bg_forms.specs.Worth.{bools_at}
use Rattle.bg_clause.specs.Valued.{worth_in}
use Rattle.bg_check.specs.Leaves.{leaf_number}
use Rattle.bg_check.specs.LeafRuns.{leaf_bools}
use Rattle.bg_check.proofs.Leaves.{leaf_truth, no_truth}
use Rattle.bg_check.proofs.Unnamed.{SignsMet}

-- its numbers, where what no row names has these targets, and the truth values of its path
abbrev pub leaf_valuation : (ℕ → ℤ) → Formula → Leaf → Valuation
leaf_valuation targets f leaf = record { numbers = leaf_number targets f.atoms leaf.spots.items; truths = bools_at (leaf_bools f leaf) }

at_below : (xs : List AtomOf) (a : ℕ) (x : AtomOf) → at xs a ≡ Some x → a < length xs
at_below [] a x e = absurd (let bad : ⊥ = cc in bad)
at_below (y ∷ xs) zero x e = omega arith
at_below (y ∷ xs) (suc a) x e = let k = at_below xs a x e in omega (arith, k)

at_past : (xs : List AtomOf) (a : ℕ) → length xs ≤ a → at xs a ≡ None
at_past [] a l = refl
at_past (y ∷ xs) zero l = absurd (omega (arith, l))
at_past (y ∷ xs) (suc a) l = at_past xs a (omega (arith, l))

either_side : (a n : ℕ) → (a < n) ⊎ (n ≤ a)
either_side a zero = inr (omega arith)
either_side zero (suc n) = inl (omega arith)
either_side (suc a) (suc n) = ⊎_elim (λ l. inl (omega (arith, l))) (λ l. inr (omega (arith, l))) (either_side a n)

decided_below : (n a : ℕ) (ds : List Decision) → all_decided n ds ≡ true → a < n → is_decided a ds ≡ true
decided_below zero a ds h l = absurd (omega arith)
decided_below (suc n) a ds h l =
    ⊎_elim (λ k. decided_below n a ds (and_right (is_decided n ds) (all_decided n ds) h) k)
    (λ k. let e : a ≡ n = omega (arith, l, k) in ap (λ x. is_decided x ds) e ∙ and_left (is_decided n ds) (all_decided n ds) h)
    (either_side a n)

-- the valuation agrees with the truth variables that the path decides
pub truths_agree : (targets : ℕ → ℤ) (f : Formula) (leaf : Leaf) → ((a x : ℕ) → at f.atoms a ≡ Some (IsTruth x) → x ≡ a) → IsOnce leaf.path.items → TruthsAgree (leaf_valuation targets f leaf) f.atoms leaf.path.items
truths_agree targets f leaf own once a x s e d =
    ap (bools_at (leaf_bools f leaf)) (own a x e)
    ∙ (leaf_truth leaf.path.items (length f.atoms) a (at_below f.atoms a (IsTruth x) e) ∙ by s d)
  where
    no_true : (t u : Bool) → (t && u) ≡ false → u ≡ true → t ≡ false
    no_true true u h k = absurd (let bad : ⊥ = cc in bad)
    no_true false u h k = refl

    by : (s : Bool) → decides a s leaf.path.items ≡ true → decides a true leaf.path.items ≡ s
    by true d = d
    by false d = no_true (decides a true leaf.path.items) (decides a false leaf.path.items) (once a) d

module _ (signs : SignsMet) (targets : ℕ → ℤ) (f : Formula) (set : ℕ → Bool) (leaf : Leaf) (agree : AtomsAgree f.atoms) (is_leaf : IsLeaf targets f set leaf) (own : (a x : ℕ) → at f.atoms a ≡ Some (IsTruth x) → x ≡ a) where
  abbrev v : Valuation
  v = leaf_valuation targets f leaf

  signed_at : (a : ℕ) (s : Bool) → a < length f.atoms → decides a s leaf.path.items ≡ true → signed v (at f.atoms a) s ≡ true
  signed_at = signs targets f set leaf v agree is_leaf (λ x. refl) (truths_agree targets f leaf own is_leaf.once)

  not_true : (o : Option AtomOf) → signed v o false ≡ true → signed v o true ≡ false
  not_true None h = refl
  not_true (Some x) h = by (atom_true v x) h
    where
      by : (b : Bool) → same b false ≡ true → same b true ≡ false
      by true h = absurd (let bad : ⊥ = cc in bad)
      by false h = refl

  here : (a : ℕ) → a < length f.atoms → worth_in v f.atoms a ≡ bools_at (leaf_bools f leaf) a
  here a l = by (decides a true leaf.path.items) refl ∙ sym (leaf_truth leaf.path.items (length f.atoms) a l)
    where
      or_so : (t u : Bool) → t ≡ false → (t || u) ≡ true → u ≡ true
      or_so t u e h = (rw e at h)

      by : (t : Bool) → decides a true leaf.path.items ≡ t → worth_in v f.atoms a ≡ decides a true leaf.path.items
      by true e = signed_at a true l e ∙ sym e
      by false e =
          not_true (at f.atoms a) (signed_at a false l (or_so (decides a true leaf.path.items) (decides a false leaf.path.items) e (decided_below (length f.atoms) a leaf.path.items is_leaf.complete.decided l)))
          ∙ sym e

  -- each atom is worth what the path makes of it; one that isn't there is false
  pub worths_are : worth_in v f.atoms ≡ bools_at (leaf_bools f leaf)
  worths_are =
      funext (worth_in v f.atoms) (bools_at (leaf_bools f leaf))
      (λ a. ⊎_elim (here a)
      (λ l. ap (λ o. signed v o true) (at_past f.atoms a l) ∙ sym (no_truth leaf.path.items (length f.atoms) a l))
      (either_side a (length f.atoms)))
