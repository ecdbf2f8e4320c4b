-- Where a valuation agrees with a complete leaf, it meets the clauses and the units.
use Rattle.std.proofs.Common.{◌≡◌, ℕ, zero, suc, ◌<◌, Bool, true, false, not, ◌&&◌, ◌||◌, ◌==◌, cond, List, [], ◌∷◌, ℤ, length, map, refl, sym, ◌∙◌, arith, inl, inr, subst}
use Rattle.std.specs.Prelude.{Option, Some, None, Ok, nat_lt}
use Rattle.std.proofs.lemmas.Bool.Decides.{nat_tests}
use Rattle.bg_rows.specs.Rows.{RowOf, row_of, holds, Meets, AllMeet, denied}
use Rattle.bg_rows.proofs.Meaning.{denied_denies}
use Rattle.bg_point.specs.Points.{value_of}
use Rattle.bg_point.proofs.Near.{funext, holds_is, holds_not}
use Rattle.bg_point.proofs.Upto.{point_meets}
use Rattle.bg_formula.specs.declared.atom.Literal.{Literal}
use Rattle.bg_formula.specs.Atoms.{AtomOf, IsTruth, IsRow, at}
use Rattle.bg_formula.specs.Formulas.{Formula, unit_atom, literals_below, clauses_below, is_whole}
use Rattle.bg_formula.specs.Meaning.{Valuation, same, signed, clause_true, clauses_true, unit_true, MeetsUnits, AtomsAgree}
use Rattle.bg_cert.specs.declared.cert.Decision.{Decision}
use Rattle.bg_cert.specs.declared.cert.Decision.TheVariants.{Atom, AtMost}
use Rattle.bg_cert.specs.Paths.{is_decision, decides, clause_false, row_of_atom, row_of_decision, in_front, rows_on}
use Rattle.bg_cert.specs.Causes.{is_decided, all_decided, has_true, undecided, any_false, any_open, member_atom, unit_clause, unit_clauses, units_of}
use Rattle.bg_cert.proofs.Follow.{either, and_of, or_left, or_right}
use Rattle.bg_pick.specs.Picks.{IsComplete}
use Rattle.bg_pick.proofs.Falses.{false_parts}
use Rattle.bg_pick.proofs.Members.{atom_low, candidate_there}
use Rattle.bg_pick.proofs.Below.{split_and, whole_clauses, whole_units}
use Rattle.bg_pick.proofs.Opens.{split_or, none_left}
use Rattle.bg_tree.specs.declared.outcome.Leaf.{Leaf}
use Rattle.bg_tree.specs.Ends.{IsLeaf, TruthsAgree}

decided_below : (n a : ℕ) (ds : List Decision) → all_decided n ds ≡ true → a < n → is_decided a ds ≡ true
decided_below zero a ds h l = absurd (omega arith)
decided_below (suc n) a ds h l =
    let s = split_and (is_decided n ds) (all_decided n ds) h in by_last (λ k. decided_below n a ds s.1 k) (a == n) refl s.0
  where
    by_last : (a < n → is_decided a ds ≡ true) → (b : Bool) → (a == n) ≡ b → is_decided n ds ≡ true → is_decided a ds ≡ true
    by_last r true e g = let q : a ≡ n = grind (arith, nat_tests) in rw q g
    by_last r false e g = let k : a < n = grind (arith, nat_tests) in r k

nothing_undecided : (n : ℕ) (ds : List Decision) (c : List Literal) → all_decided n ds ≡ true → literals_below n c ≡ true → undecided ds c ≡ []
nothing_undecided n ds [] h b = refl
nothing_undecided n ds (l ∷ ls) h b =
    let s = split_and (nat_lt l.atom n) (literals_below n ls) b in
    let k : l.atom < n = let t = s.0 in grind (arith, nat_tests) in
    let d = decided_below n l.atom ds h k in
    first (is_decided l.atom ds) d (nothing_undecided n ds ls h s.1)
  where
    first : (x : Bool) → x ≡ true → undecided ds ls ≡ [] → cond x (undecided ds ls) (l ∷ undecided ds ls) ≡ []
    first true e r = r
    first false e r = absurd (cc)

clause_met : (ds : List Decision) (c : List Literal) → clause_false ds c ≡ false → undecided ds c ≡ [] → has_true ds c ≡ true
clause_met ds c f u = by_true (has_true ds c) refl
  where
    by_true : (t : Bool) → has_true ds c ≡ t → t ≡ true
    by_true true e = refl
    by_true false e = absurd (let z = none_left ds c e u in cc)

clauses_met : (n : ℕ) (ds : List Decision) (cs : List (List Literal)) → all_decided n ds ≡ true → clauses_below n cs ≡ true → any_false ds cs ≡ false → any_open ds cs ≡ false
clauses_met n ds [] h b f = refl
clauses_met n ds (c ∷ cs) h b f =
    let s = split_and (literals_below n c) (clauses_below n cs) b in
    let p = split_or (clause_false ds c) (any_false ds cs) f in
    rw (clause_met ds c p.0 (nothing_undecided n ds c h s.0), clauses_met n ds cs h s.1 p.1) refl

-- ---- what the leaf's decisions make true

-- atoms that are there are worth what the path decides
abbrev Signs : Valuation → List AtomOf → List Decision → Type 0
Signs v xs ds = (a : ℕ) (s : Bool) → a < length xs → decides a s ds ≡ true → signed v (at xs a) s ≡ true

true_clause : (v : Valuation) (xs : List AtomOf) (ds : List Decision) (c : List Literal) → Signs v xs ds → literals_below (length xs) c ≡ true → has_true ds c ≡ true → clause_true v xs c ≡ true
true_clause v xs ds [] d b h = absurd (cc)
true_clause v xs ds (l ∷ ls) d b h =
    let p = split_and (nat_lt l.atom (length xs)) (literals_below (length xs) ls) b in
    let k : l.atom < length xs = let t = p.0 in grind (arith, nat_tests) in
    elim (either (decides l.atom l.sign ds) (has_true ds ls) h) [
      | inl e ↦ or_left _ _ (d l.atom l.sign k e)
      | inr e ↦ or_right _ _ (true_clause v xs ds ls d p.1 e)
    ]

true_clauses : (v : Valuation) (xs : List AtomOf) (ds : List Decision) (cs : List (List Literal)) → Signs v xs ds → clauses_below (length xs) cs ≡ true → any_open ds cs ≡ false → clauses_true v xs cs ≡ true
true_clauses v xs ds [] d b h = refl
true_clauses v xs ds (c ∷ cs) d b h =
    let s = split_or (not (has_true ds c)) (any_open ds cs) h in
    let p = split_and (literals_below (length xs) c) (clauses_below (length xs) cs) b in
    and_of _ _ (true_clause v xs ds c d p.0 (is_so (has_true ds c) s.0)) (true_clauses v xs ds cs d p.1 s.1)
  where
    is_so : (b : Bool) → not b ≡ false → b ≡ true
    is_so true e = refl
    is_so false e = absurd (cc)

complete_clauses : (f : Formula) (set : ℕ → Bool) (ds : List Decision) (v : Valuation) → is_whole f ≡ true → IsComplete f set ds → Signs v f.atoms ds → clauses_true v f.atoms f.clauses ≡ true
complete_clauses f set ds v w l d =
    let p = false_parts ds f.clauses (units_of f set) l.fine in
    true_clauses v f.atoms ds f.clauses d (whole_clauses f w) (clauses_met (length f.atoms) ds f.clauses l.decided (whole_clauses f w) p.0)

-- ---- its units

unit_not_false : (b : Bool) → ((b && true) || false) ≡ false → b ≡ false
unit_not_false true h = absurd (cc)
unit_not_false false h = refl

member_not_false : (f : Formula) (set : ℕ → Bool) (ds : List Decision) (a c n : ℕ) → c < n → member_atom f set c ≡ Some a → any_false ds (unit_clauses f set n) ≡ false → decides a false ds ≡ false
member_not_false f set ds a c zero l e h = absurd (omega arith)
member_not_false f set ds a c (suc m) l e h =
    let p = false_parts ds (unit_clauses f set m) (unit_clause (member_atom f set m)) h in
    by_last (λ k. member_not_false f set ds a c m k e p.0) p.1 (c == m) refl
  where
    by_last : (c < m → decides a false ds ≡ false) → any_false ds (unit_clause (member_atom f set m)) ≡ false → (b : Bool) → (c == m) ≡ b → decides a false ds ≡ false
    by_last r x true g =
        let q : c ≡ m = grind (arith, nat_tests) in
        let w : member_atom f set m ≡ Some a = rw q at e in
        let y = rw w at x in
        unit_not_false (decides a false ds) y
    by_last r x false g = let k : c < m = grind (arith, nat_tests) in r k

decided_true_sign : (t f : Bool) → (t || f) ≡ true → f ≡ false → t ≡ true
decided_true_sign true f h k = refl
decided_true_sign false f h k = absurd (let z = k in cc)

complete_units : (f : Formula) (set : ℕ → Bool) (ds : List Decision) (v : Valuation) → is_whole f ≡ true → IsComplete f set ds → Signs v f.atoms ds → MeetsUnits v f set
complete_units f set ds v w l d c s = by_atom (unit_atom f c) refl
  where
    is_member : (b : Bool) (x : Option ℕ) → b ≡ true → cond b x None ≡ x
    is_member true x e = refl
    is_member false x e = absurd (cc)

    by_atom : (x : Option ℕ) → unit_atom f c ≡ x → unit_true v f x ≡ true
    by_atom None e = refl
    by_atom (Some a) e =
        let p = false_parts ds f.clauses (units_of f set) l.fine in
        let m : member_atom f set c ≡ Some a = is_member (set c) (unit_atom f c) s ∙ e in
        let n = member_not_false f set ds a c (length f.candidates) (candidate_there f.candidates c a e) m p.1 in
        let t = atom_low (length f.atoms) f.candidates c a (whole_units f w) e in
        let k : a < length f.atoms = grind (arith, nat_tests) in
        d a true k (decided_true_sign (decides a true ds) (decides a false ds) (decided_below (length f.atoms) a ds l.decided k) n)

-- ---- a point makes the path's rows true

denial_at : (xs : List AtomOf) (a : ℕ) (r d : RowOf) → AtomsAgree xs → at xs a ≡ Some (IsRow r d) → denied r ≡ Ok d
denial_at [] a r d g e = absurd (cc)
denial_at (IsTruth x ∷ xs) zero r d g e = absurd (cc)
denial_at (IsRow q c ∷ xs) zero r d g e =
    let p : q ≡ r = cc in
    let s : c ≡ d = cc in
    let t = g.0 in
    rw (p, s) at t
denial_at (IsTruth x ∷ xs) (suc a) r d g e = denial_at xs a r d g e
denial_at (IsRow q c ∷ xs) (suc a) r d g e = denial_at xs a r d g.1 e

same_sign : (b s : Bool) → b ≡ s → same b s ≡ true
same_sign true true e = refl
same_sign true false e = absurd (cc)
same_sign false true e = absurd (cc)
same_sign false false e = refl

there : (xs : List AtomOf) (a : ℕ) → a < length xs → at xs a ≡ None → ⊥
there [] a l e = omega (arith, l)
there (x ∷ xs) zero l e = cc
there (x ∷ xs) (suc a) l e = there xs a (omega (arith, l)) e

atom_signs : (v : Valuation) (xs : List AtomOf) (a : ℕ) (s : Bool) → AtomsAgree xs → a < length xs → ((x : ℕ) → at xs a ≡ Some (IsTruth x) → v.truths x ≡ s) → ((r : RowOf) → row_of_atom (at xs a) s ≡ Some r → Meets v.numbers r) → signed v (at xs a) s ≡ true
atom_signs v xs a s g l h m = by_atom (at xs a) refl s h m
  where
    by_atom : (o : Option AtomOf) → at xs a ≡ o → (t : Bool) → ((x : ℕ) → at xs a ≡ Some (IsTruth x) → v.truths x ≡ t) → ((r : RowOf) → row_of_atom (at xs a) t ≡ Some r → Meets v.numbers r) → signed v (at xs a) t ≡ true
    by_atom None e t k f = absurd (there xs a l e)
    by_atom (Some (IsTruth x)) e t k f = rw e (same_sign (v.truths x) t (k x e))
    by_atom (Some (IsRow r d)) e true k f =
        rw e (same_sign (holds v.numbers r) true (holds_is v.numbers r (f r (rw e refl))))
    by_atom (Some (IsRow r d)) e false k f =
        rw e (same_sign (holds v.numbers r) false (holds_not v.numbers r (λ n. denied_denies v.numbers r d (denial_at xs a r d g e) (f d (rw e refl)) n)))

same_is : (s t : Bool) → same s t ≡ true → s ≡ t
same_is true true e = refl
same_is true false e = absurd (cc)
same_is false true e = absurd (cc)
same_is false false e = refl

front_met : (v : ℕ → ℤ) (o : Option RowOf) (rs : List RowOf) → AllMeet v (in_front o rs) → ((r : RowOf) → o ≡ Some r → Meets v r) × AllMeet v rs
front_met v None rs m = ((λ r e. absurd (cc)), m)
front_met v (Some q) rs m = ((λ r e. let is : q ≡ r = cc in subst (Meets v) is m.0), m.1)

path_signs : (v : Valuation) (xs : List AtomOf) (ds : List Decision) → AtomsAgree xs → AllMeet v.numbers (rows_on xs ds) → TruthsAgree v xs ds → Signs v xs ds
path_signs v xs [] g m t a s l e = absurd (cc)
path_signs v xs (d ∷ ds) g m t a s l e =
    let f = front_met v.numbers (row_of_decision xs d) (rows_on xs ds) m in
    elim (either (is_decision a s d) (decides a s ds) e) [
      | inl i ↦ first d (λ x p. t a x s p (or_left (is_decision a s d) (decides a s ds) i)) f.0 i
      | inr r ↦ path_signs v xs ds g f.1 (λ b x u p q. t b x u p (or_right (is_decision b u d) (decides b u ds) q)) a s l r
    ]
  where
    first : (d : Decision) → ((x : ℕ) → at xs a ≡ Some (IsTruth x) → v.truths x ≡ s) → ((r : RowOf) → row_of_decision xs d ≡ Some r → Meets v.numbers r) → is_decision a s d ≡ true → signed v (at xs a) s ≡ true
    first (Atom b u) h k i =
        let p = split_and (a == b) (same s u) i in
        let q : a ≡ b = let z = p.0 in grind (arith, nat_tests) in
        let w = same_is s u p.1 in
        atom_signs v xs a s g l h (λ r n. k r (rw (sym q, sym w) n))
    first (AtMost x k u) h n i = absurd (cc)

leaf_signs : (targets : ℕ → ℤ) (f : Formula) (set : ℕ → Bool) (leaf : Leaf) (v : Valuation) → AtomsAgree f.atoms → IsLeaf targets f set leaf → ((x : ℕ) → v.numbers x ≡ value_of leaf.spots.items x) → TruthsAgree v f.atoms leaf.path.items → Signs v f.atoms leaf.path.items
leaf_signs targets f set leaf v g l n t =
    let m = point_meets targets (rows_on f.atoms leaf.path.items) leaf.order.variables.items (map row_of leaf.order.rows.items) leaf.spots.items l.solved.kept l.point in
    let e : value_of leaf.spots.items ≡ v.numbers = sym (funext v.numbers (value_of leaf.spots.items) n) in
    path_signs v f.atoms leaf.path.items g (subst (λ (w : ℕ → ℤ). AllMeet w (rows_on f.atoms leaf.path.items)) e m) t

pub leaf_clauses : (targets : ℕ → ℤ) (f : Formula) (set : ℕ → Bool) (leaf : Leaf) (v : Valuation) → is_whole f ≡ true → AtomsAgree f.atoms → IsLeaf targets f set leaf → ((x : ℕ) → v.numbers x ≡ value_of leaf.spots.items x) → TruthsAgree v f.atoms leaf.path.items → clauses_true v f.atoms f.clauses ≡ true
leaf_clauses targets f set leaf v w g l n t = complete_clauses f set leaf.path.items v w l.complete (leaf_signs targets f set leaf v g l n t)

pub leaf_units : (targets : ℕ → ℤ) (f : Formula) (set : ℕ → Bool) (leaf : Leaf) (v : Valuation) → is_whole f ≡ true → AtomsAgree f.atoms → IsLeaf targets f set leaf → ((x : ℕ) → v.numbers x ≡ value_of leaf.spots.items x) → TruthsAgree v f.atoms leaf.path.items → MeetsUnits v f set
leaf_units targets f set leaf v w g l n t = complete_units f set leaf.path.items v w l.complete (leaf_signs targets f set leaf v g l n t)

pub leaf_atoms : (targets : ℕ → ℤ) (f : Formula) (set : ℕ → Bool) (leaf : Leaf) (v : Valuation) → AtomsAgree f.atoms → IsLeaf targets f set leaf → ((x : ℕ) → v.numbers x ≡ value_of leaf.spots.items x) → TruthsAgree v f.atoms leaf.path.items → (a : ℕ) (s : Bool) → a < length f.atoms → decides a s leaf.path.items ≡ true → signed v (at f.atoms a) s ≡ true
leaf_atoms targets f set leaf v g l n t = leaf_signs targets f set leaf v g l n t
