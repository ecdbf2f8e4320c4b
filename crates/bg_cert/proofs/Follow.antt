-- What holds under a valuation that agrees with a path.
use Rattle.std.proofs.Common.{◌≡◌, ℕ, zero, suc, Bool, true, false, not, ◌&&◌, ◌||◌, ◌==◌, List, [], ◌∷◌, ◌++◌, ℤ, ◌≤ℤ◌, refl, sym, arith, ◌⊎◌, inl, inr}
use Rattle.std.specs.Prelude.{Option, Some, None, int_le}
use Rattle.std.proofs.lemmas.Int.{ints}
use Rattle.std.proofs.lemmas.Bool.Decides.{nat_tests}
use Rattle.bg_rows.specs.Rows.{RowOf, holds, Meets}
use Rattle.bg_rows.proofs.Meaning.{denied_follows}
use Rattle.bg_formula.specs.declared.atom.Literal.{Literal}
use Rattle.bg_formula.specs.Atoms.{AtomOf, IsTruth, IsRow, at}
use Rattle.bg_formula.specs.Meaning.{Valuation, atom_true, same, signed, literal_true, clause_true, clauses_true, AtomsAgree}
use Rattle.bg_cert.specs.declared.cert.Decision.{Decision}
use Rattle.bg_cert.specs.declared.cert.Decision.TheVariants.{Atom, AtMost}
use Rattle.bg_cert.specs.Paths.{decision_true, decided_true, is_decision, decides, clause_false, row_of_atom}

pub both : (a b : Bool) → (a && b) ≡ true → (a ≡ true) × (b ≡ true)
both true b h = (refl, h)
both false b h = absurd (cc)

pub and_of : (a b : Bool) → a ≡ true → b ≡ true → (a && b) ≡ true
and_of a b h k = rw (h, k) refl

pub either : (a b : Bool) → (a || b) ≡ true → (a ≡ true) ⊎ (b ≡ true)
either true b h = inl refl
either false b h = inr h

pub or_left : (a b : Bool) → a ≡ true → (a || b) ≡ true
or_left a b h = rw h refl

pub or_right : (a b : Bool) → b ≡ true → (a || b) ≡ true
or_right true b h = refl
or_right false b h = h

-- ---- atoms behind others change nothing that was true

pub signed_more : (v : Valuation) (xs ys : List AtomOf) (n : ℕ) (s : Bool) → signed v (at xs n) s ≡ true → signed v (at (xs ++ ys) n) s ≡ true
signed_more v [] ys n s h = absurd (cc)
signed_more v (x ∷ xs) ys zero s h = h
signed_more v (x ∷ xs) ys (suc n) s h = signed_more v xs ys n s h

pub clause_more : (v : Valuation) (xs ys : List AtomOf) (c : List Literal) → clause_true v xs c ≡ true → clause_true v (xs ++ ys) c ≡ true
clause_more v xs ys [] h = absurd (cc)
clause_more v xs ys (l ∷ ls) h =
    elim (either (literal_true v xs l) (clause_true v xs ls) h) [
      | inl a ↦ or_left _ _ (signed_more v xs ys l.atom l.sign a)
      | inr b ↦ or_right _ _ (clause_more v xs ys ls b)
    ]

pub clauses_more : (v : Valuation) (xs ys : List AtomOf) (cs : List (List Literal)) → clauses_true v xs cs ≡ true → clauses_true v (xs ++ ys) cs ≡ true
clauses_more v xs ys [] h = refl
clauses_more v xs ys (c ∷ cs) h =
    let t = both (clause_true v xs c) (clauses_true v xs cs) h in
    and_of _ _ (clause_more v xs ys c t.0) (clauses_more v xs ys cs t.1)

pub decision_more : (v : Valuation) (xs ys : List AtomOf) (d : Decision) → decision_true v xs d ≡ true → decision_true v (xs ++ ys) d ≡ true
decision_more v xs ys (Atom a s) h = signed_more v xs ys a s h
decision_more v xs ys (AtMost x k s) h = h

pub decided_more : (v : Valuation) (xs ys : List AtomOf) (ds : List Decision) → decided_true v xs ds ≡ true → decided_true v (xs ++ ys) ds ≡ true
decided_more v xs ys [] h = refl
decided_more v xs ys (d ∷ ds) h =
    let t = both (decision_true v xs d) (decided_true v xs ds) h in
    and_of _ _ (decision_more v xs ys d t.0) (decided_more v xs ys ds t.1)

pub clauses_append : (v : Valuation) (xs : List AtomOf) (cs ds : List (List Literal)) → clauses_true v xs cs ≡ true → clauses_true v xs ds ≡ true → clauses_true v xs (cs ++ ds) ≡ true
clauses_append v xs [] ds h k = k
clauses_append v xs (c ∷ cs) ds h k =
    let t = both (clause_true v xs c) (clauses_true v xs cs) h in
    and_of _ _ t.0 (clauses_append v xs cs ds t.1 k)

pub decided_snoc : (v : Valuation) (xs : List AtomOf) (ds : List Decision) (d : Decision) → decided_true v xs ds ≡ true → decision_true v xs d ≡ true → decided_true v xs (ds ++ (d ∷ [])) ≡ true
decided_snoc v xs [] d h k = and_of _ _ k refl
decided_snoc v xs (e ∷ ds) d h k =
    let t = both (decision_true v xs e) (decided_true v xs ds) h in
    and_of _ _ t.0 (decided_snoc v xs ds d t.1 k)

pub decided_append : (v : Valuation) (xs : List AtomOf) (ds es : List Decision) → decided_true v xs ds ≡ true → decided_true v xs es ≡ true → decided_true v xs (ds ++ es) ≡ true
decided_append v xs [] es h k = k
decided_append v xs (d ∷ ds) es h k =
    let t = both (decision_true v xs d) (decided_true v xs ds) h in
    and_of _ _ t.0 (decided_append v xs ds es t.1 k)

-- ---- what a path decides

pub opposite_signs : (v : Valuation) (a : Option AtomOf) (s : Bool) → signed v a s ≡ true → signed v a (not s) ≡ true → ⊥
opposite_signs v None s h k = cc
opposite_signs v (Some a) s h k = clash (atom_true v a) s h k
  where
    clash : (b t : Bool) → same b t ≡ true → same b (not t) ≡ true → ⊥
    clash true true h k = cc
    clash true false h k = cc
    clash false true h k = cc
    clash false false h k = cc

same_is : (s t : Bool) → same s t ≡ true → s ≡ t
same_is true t h = sym h
same_is false true h = absurd (cc)
same_is false false h = refl

pub decided_signs : (v : Valuation) (xs : List AtomOf) (a : ℕ) (s : Bool) (ds : List Decision) → decides a s ds ≡ true → decided_true v xs ds ≡ true → signed v (at xs a) s ≡ true
decided_signs v xs a s [] h k = absurd (cc)
decided_signs v xs a s (Atom b t ∷ ds) h k =
    let u = both (signed v (at xs b) t) (decided_true v xs ds) k in
    elim (either (is_decision a s (Atom b t)) (decides a s ds) h) [
      | inl e ↦
          let w = both (a == b) (same s t) e in
          let p : a ≡ b = grind (arith, nat_tests) in
          let q : s ≡ t = same_is s t w.1 in
          rw (p, q) u.0
      | inr e ↦ decided_signs v xs a s ds e u.1
    ]
decided_signs v xs a s (AtMost x n t ∷ ds) h k =
    let u = both (decision_true v xs (AtMost x n t)) (decided_true v xs ds) k in
    decided_signs v xs a s ds h u.1

pub false_clause : (v : Valuation) (xs : List AtomOf) (ds : List Decision) (c : List Literal) → clause_false ds c ≡ true → decided_true v xs ds ≡ true → clause_true v xs c ≡ true → ⊥
false_clause v xs ds [] h k t = cc
false_clause v xs ds (l ∷ ls) h k t =
    let u = both (decides l.atom (not l.sign) ds) (clause_false ds ls) h in
    elim (either (literal_true v xs l) (clause_true v xs ls) t) [
      | inl a ↦ opposite_signs v (at xs l.atom) l.sign a (decided_signs v xs l.atom (not l.sign) ds u.0 k)
      | inr b ↦ false_clause v xs ds ls u.1 k b
    ]

-- ---- rows

pub le_yes : (a b : ℤ) → int_le a b ≡ true → a ≤ℤ b
le_yes a b h = grind (arith, ints)

pub le_no : (a b : ℤ) → int_le a b ≡ false → (a ≤ℤ b) → ⊥
le_no a b h k = grind (arith, ints)

pub agrees_at : (v : Valuation) (xs : List AtomOf) (n : ℕ) (s : Bool) (r : RowOf) → AtomsAgree xs → row_of_atom (at xs n) s ≡ Some r → signed v (at xs n) s ≡ true → Meets v.numbers r
agrees_at v [] n s r g e h = absurd (cc)
agrees_at v (IsTruth x ∷ xs) zero true r g e h = absurd (cc)
agrees_at v (IsTruth x ∷ xs) zero false r g e h = absurd (cc)
agrees_at v (IsRow q d ∷ xs) zero true r g e h =
    let is : q ≡ r = cc in
    rw (← is) (le_yes _ _ (same_is_true (holds v.numbers q) h))
  where
    same_is_true : (b : Bool) → same b true ≡ true → b ≡ true
    same_is_true true h = refl
    same_is_true false h = cc
agrees_at v (IsRow q d ∷ xs) zero false r g e h =
    let is : d ≡ r = cc in
    rw (← is) (denied_follows v.numbers q d g.0 (le_no _ _ (same_is_false (holds v.numbers q) h)))
  where
    same_is_false : (b : Bool) → same b false ≡ true → b ≡ false
    same_is_false true h = cc
    same_is_false false h = refl
agrees_at v (IsTruth x ∷ xs) (suc n) s r g e h = agrees_at v xs n s r g e h
agrees_at v (IsRow q d ∷ xs) (suc n) s r g e h = agrees_at v xs n s r g.1 e h
