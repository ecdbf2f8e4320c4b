-- Where a certificate is accepted, no valuation meets the clauses, the units and the instances.
use Rattle.std.proofs.Common.{◌≡◌, ℕ, zero, suc, Bool, true, false, not, ◌+◌, List, [], map, length, ◌∷◌, ◌++◌, ℤ, pos, negsuc, ◌*ℤ◌, neg_ℤ, ◌≤ℤ◌, ◌<ℤ◌, append_assoc, refl, ap, ◌∙◌, arith, ◌⊎◌, inl, inr}
use Rattle.std.specs.Prelude.{Option, Some, None, int_le, nat_lt}
use Rattle.std.proofs.lemmas.Int.{ints, by_lt_z}
use Rattle.std.proofs.Math.IntN.{zero-*ℤ, suc_ℤ-*ℤ, pred_ℤ-*ℤ}
use Rattle.bg_rows.specs.Rows.{RowOf, Meets, AllMeet}
use Rattle.bg_rows.proofs.Sound.{refutes}
use Rattle.bg_formula.specs.declared.atom.Literal.{Literal}
use Rattle.bg_formula.specs.declared.atom.Linear.{Linear}
use Rattle.bg_formula.specs.declared.clauses.Clauses.{Clauses}
use Rattle.bg_formula.specs.Atoms.{AtomOf, IsTruth, IsRow, at, view_linear}
use Rattle.bg_formula.specs.Formulas.{Formula, formula_of, unit_atom, rows_below}
use Rattle.bg_formula.specs.Meaning.{Valuation, same, signed, atom_true, literal_true, clause_true, clauses_true, unit_true, MeetsUnits, AtomsAgree}
use Rattle.bg_formula.specs.Instances.{Instance, SignedAtom, added_true, atoms_of, with_clauses, numbered}
use Rattle.bg_formula.proofs.Agree.{atoms_agree}
use Rattle.bg_cert.specs.declared.cert.Decision.{Decision}
use Rattle.bg_cert.specs.declared.cert.Decision.TheVariants.{Atom, AtMost}
use Rattle.bg_cert.specs.Paths.{PathOf, decision_true, decided_true, names_false, unit_false, at_most, above, row_of_decision, in_front, rows_on, with_decision, with_added, denials, with_denied, with_lemma}
use Rattle.bg_cert.specs.Certs.{NodeOf, CertOf, Splits, Bounds, Cuts, Learns, Adds, IsClause, IsUnit, IsKnown, Derives, is_there, all_there, lemma_of, closes, accepts, root_with, Accepts, HasNoValuation}
use Rattle.bg_cert.specs.Walks.{no_instance}
use Rattle.bg_cert.proofs.Follow.{both, and_of, or_left, or_right, decided_more, clauses_more, clauses_append, decided_append, decided_snoc, decided_signs, false_clause, agrees_at, le_yes, le_no, signed_more, opposite_signs}
use Rattle.bg_cert.proofs.Numbers.{grows_clauses, numbered_true, agree_clauses}

-- ---- the rows of a path are met

one_times : (z : ℤ) → pos 1 *ℤ z ≡ z
one_times z = omega (arith, ints, suc_ℤ-*ℤ (pos zero) z, zero-*ℤ z)

minus_one_times : (z : ℤ) → negsuc 0 *ℤ z ≡ neg_ℤ z
minus_one_times z = omega (arith, ints, pred_ℤ-*ℤ (pos zero) z, zero-*ℤ z)

pub at_most_met : (v : ℕ → ℤ) (x : ℕ) (k : ℤ) → v x ≤ℤ k → Meets v (at_most x k)
at_most_met v x k h = omega (arith, ints, one_times (v x))

pub above_met : (v : ℕ → ℤ) (x : ℕ) (k : ℤ) → (v x ≤ℤ k → ⊥) → Meets v (above x k)
above_met v x k h =
    by_lt_z k (v x) (λ (lt : k <ℤ v x). omega (arith, ints, minus_one_times (v x))) (λ (le : v x ≤ℤ k). absurd (h le))

decision_met : (v : Valuation) (xs : List AtomOf) (d : Decision) (r : RowOf) → AtomsAgree xs → row_of_decision xs d ≡ Some r → decision_true v xs d ≡ true → Meets v.numbers r
decision_met v xs (Atom a s) r g e h = agrees_at v xs a s r g e h
decision_met v xs (AtMost x k true) r g e h =
    let is : at_most x k ≡ r = cc in
    rw (← is) (at_most_met v.numbers x k (le_yes _ _ (is_true (int_le (v.numbers x) k) h)))
  where
    is_true : (b : Bool) → same b true ≡ true → b ≡ true
    is_true true h = refl
    is_true false h = cc
decision_met v xs (AtMost x k false) r g e h =
    let is : above x k ≡ r = cc in
    rw (← is) (above_met v.numbers x k (le_no _ _ (is_false' (int_le (v.numbers x) k) h)))
  where
    is_false' : (b : Bool) → same b false ≡ true → b ≡ false
    is_false' true h = cc
    is_false' false h = refl

in_front_met : (v : ℕ → ℤ) (x : Option RowOf) (rs : List RowOf) → ((r : RowOf) → x ≡ Some r → Meets v r) → AllMeet v rs → AllMeet v (in_front x rs)
in_front_met v None rs h k = k
in_front_met v (Some r) rs h k = (h r refl, k)

pub rows_met : (v : Valuation) (xs : List AtomOf) (ds : List Decision) → AtomsAgree xs → decided_true v xs ds ≡ true → AllMeet v.numbers (rows_on xs ds)
rows_met v xs [] g h = tt
rows_met v xs (d ∷ ds) g h =
    let t = both (decision_true v xs d) (decided_true v xs ds) h in
    in_front_met v.numbers (row_of_decision xs d) (rows_on xs ds) (λ r e. decision_met v xs d r g e t.0) (rows_met v xs ds g t.1)

-- ---- the table's rows are atoms

agree_append : (xs ys : List AtomOf) → AtomsAgree xs → AtomsAgree ys → AtomsAgree (xs ++ ys)
agree_append [] ys h k = k
agree_append (IsTruth x ∷ xs) ys h k = agree_append xs ys h k
agree_append (IsRow r d ∷ xs) ys h k = (h.0, agree_append xs ys h.1 k)

pub table_agrees : (table : List Linear) → AtomsAgree (map view_linear table)
table_agrees [] = tt
table_agrees (l ∷ rest) = (l.denies, table_agrees rest)

-- ---- leaves and trees

-- a valuation that agrees with a path
pub record Follows (v : Valuation) (p : PathOf) : Type 0 where
  pub agree : AtomsAgree p.atoms
  pub clauses : clauses_true v p.atoms p.clauses ≡ true
  pub decided : decided_true v p.atoms p.decided ≡ true
  pub lemmas : clauses_true v p.atoms p.lemmas ≡ true

false_name : (v : Valuation) (xs : List AtomOf) (ds : List Decision) (cs : List (List Literal)) (n : ℕ) → names_false ds (at cs n) ≡ true → decided_true v xs ds ≡ true → clauses_true v xs cs ≡ true → ⊥
false_name v xs ds [] n h d t = cc
false_name v xs ds (c ∷ cs) zero h d t = false_clause v xs ds c h d (both (clause_true v xs c) (clauses_true v xs cs) t).0
false_name v xs ds (c ∷ cs) (suc n) h d t = false_name v xs ds cs n h d (both (clause_true v xs c) (clauses_true v xs cs) t).1

-- the path's atoms begin with the formula's
pub record Extends (f : Formula) (p : PathOf) : Type 0 where
  pub more : List AtomOf
  pub is : p.atoms ≡ f.atoms ++ more

false_unit : (v : Valuation) (f : Formula) (p : PathOf) (a : Option ℕ) → Extends f p → unit_false p.decided a ≡ true → decided_true v p.atoms p.decided ≡ true → unit_true v f a ≡ true → ⊥
false_unit v f p None x h d t = cc
false_unit v f p (Some a) x h d t =
    let one = decided_signs v p.atoms a false p.decided h d in
    let two : signed v (at p.atoms a) true ≡ true = rw x.is (signed_more v f.atoms x.more a true t) in
    opposite_signs v (at p.atoms a) true two one

closes_refutes : (v : Valuation) (f : Formula) (set : ℕ → Bool) (p : PathOf) (n : NodeOf) → MeetsUnits v f set → Extends f p → Follows v p → closes f set p n ≡ true → ⊥
closes_refutes v f set p (IsClause c) u x w h = false_name v p.atoms p.decided p.clauses c h w.decided w.clauses
closes_refutes v f set p (IsUnit c) u x w h =
    let t = both (set c) (unit_false p.decided (unit_atom f c)) h in
    false_unit v f p (unit_atom f c) x t.1 w.decided (u c t.0)
closes_refutes v f set p (IsKnown i) u x w h = false_name v p.atoms p.decided p.lemmas i h w.decided w.lemmas
closes_refutes v f set p (Derives steps) u x w h =
    refutes v.numbers (rows_on p.atoms p.decided) steps h (rows_met v p.atoms p.decided w.agree w.decided)
closes_refutes v f set p (Splits a) u x w h = cc
closes_refutes v f set p (Bounds y k) u x w h = cc
closes_refutes v f set p (Cuts r) u x w h = cc
closes_refutes v f set p (Learns ls) u x w h = cc
closes_refutes v f set p (Adds i) u x w h = cc

-- no valuation follows one of the paths
abbrev pub NoneFollows : Valuation → List PathOf → Type 0
NoneFollows v [] = Unit {0}
NoneFollows v (p ∷ ps) = (Follows v p → ⊥) × NoneFollows v ps

abbrev pub AllExtend : Formula → List PathOf → Type 0
AllExtend f [] = Unit {0}
AllExtend f (p ∷ ps) = Extends f p × AllExtend f ps

with_true : (v : Valuation) (p : PathOf) (d : Decision) → Follows v p → decision_true v p.atoms d ≡ true → Follows v (with_decision p d)
with_true v p d w h =
    record { agree = w.agree; clauses = w.clauses; decided = decided_snoc v p.atoms p.decided d w.decided h; lemmas = w.lemmas }

-- where a lemma's literals are false the path that denies them is followed, else the one that knows the lemma
lemma_sides : (v : Valuation) (xs : List AtomOf) (ls : List Literal) → all_there xs ls ≡ true → (decided_true v xs (denials ls) ≡ true) ⊎ (clause_true v xs ls ≡ true)
lemma_sides v xs [] h = inl refl
lemma_sides v xs (l ∷ ls) h =
    let t = both (is_there (at xs l.atom)) (all_there xs ls) h in
    elim (either_sign v (at xs l.atom) l.sign t.0) [
      | inl a ↦ inr (or_left (literal_true v xs l) (clause_true v xs ls) a)
      | inr b ↦ elim (lemma_sides v xs ls t.1) [
        | inl c ↦ inl (and_of (decision_true v xs (Atom l.atom (not l.sign))) (decided_true v xs (denials ls)) b c)
        | inr c ↦ inr (or_right (literal_true v xs l) (clause_true v xs ls) c)
      ]
    ]
  where
    by_value : (b s : Bool) → (same b s ≡ true) ⊎ (same b (not s) ≡ true)
    by_value true true = inl refl
    by_value true false = inr refl
    by_value false true = inr refl
    by_value false false = inl refl

    either_sign : (v : Valuation) (a : Option AtomOf) (s : Bool) → is_there a ≡ true → (signed v a s ≡ true) ⊎ (signed v a (not s) ≡ true)
    either_sign v None s h = absurd (cc)
    either_sign v (Some a) s h = by_value (atom_true v a) s

follows_denied : (v : Valuation) (p : PathOf) (ls : List Literal) → Follows v p → decided_true v p.atoms (denials ls) ≡ true → Follows v (with_denied p ls)
follows_denied v p ls w h =
    record { agree = w.agree; clauses = w.clauses; decided = decided_append v p.atoms p.decided (denials ls) w.decided h; lemmas = w.lemmas }

follows_lemma : (v : Valuation) (p : PathOf) (ls : List Literal) → Follows v p → clause_true v p.atoms ls ≡ true → Follows v (with_lemma p ls)
follows_lemma v p ls w h =
    let one : clauses_true v p.atoms (ls ∷ []) ≡ true = and_of (clause_true v p.atoms ls) true h refl in
    record { agree = w.agree; clauses = w.clauses; decided = w.decided; lemmas = clauses_append v p.atoms p.lemmas (ls ∷ []) w.lemmas one }

extends_denied : (f : Formula) (p : PathOf) (ls : List Literal) → Extends f p → Extends f (with_denied p ls)
extends_denied f p ls x = record { more = x.more; is = x.is }

extends_lemma : (f : Formula) (p : PathOf) (ls : List Literal) → Extends f p → Extends f (with_lemma p ls)
extends_lemma f p ls x = record { more = x.more; is = x.is }

extends_with : (f : Formula) (p : PathOf) (d : Decision) → Extends f p → Extends f (with_decision p d)
extends_with f p d x = record { more = x.more; is = x.is }

follows_added : (v : Valuation) (p : PathOf) (cs : List (List SignedAtom)) → AtomsAgree (atoms_of cs) → added_true v cs ≡ true → Follows v p → Follows v (with_added p cs)
follows_added v p cs g t w =
    let m = grows_clauses p.atoms cs in
    let c : clauses_true v (with_clauses p.atoms cs) p.clauses ≡ true = rw m.1 (clauses_more v p.atoms m.0 p.clauses w.clauses) in
    let d : decided_true v (with_clauses p.atoms cs) p.decided ≡ true = rw m.1 (decided_more v p.atoms m.0 p.decided w.decided) in
    let l : clauses_true v (with_clauses p.atoms cs) p.lemmas ≡ true = rw m.1 (clauses_more v p.atoms m.0 p.lemmas w.lemmas) in
    record {
      agree = agree_clauses p.atoms cs w.agree g;
      clauses = clauses_append v (with_clauses p.atoms cs) p.clauses (numbered p.atoms cs) c (numbered_true v p.atoms cs t);
      decided = d;
      lemmas = l;
    }

extends_added : (f : Formula) (p : PathOf) (cs : List (List SignedAtom)) → Extends f p → Extends f (with_added p cs)
extends_added f p cs x =
    let m = grows_clauses p.atoms cs in
    record { more = x.more ++ m.0; is = m.1 ∙ ap (λ t. t ++ m.0) x.is ∙ append_assoc f.atoms x.more m.0 }

-- an atom that is there has one of the two signs
has_sign : (v : Valuation) (a : Option AtomOf) → is_there a ≡ true → (signed v a true ≡ true) ⊎ (signed v a false ≡ true)
has_sign v None h = absurd (cc)
has_sign v (Some a) h = by_value (atom_true v a)
  where
    by_value : (b : Bool) → (same b true ≡ true) ⊎ (same b false ≡ true)
    by_value true = inl refl
    by_value false = inr refl

bound_sign : (b : Bool) → (same b true ≡ true) ⊎ (same b false ≡ true)
bound_sign true = inl refl
bound_sign false = inr refl

pub accepted_none : (v : Valuation) (f : Formula) (set : ℕ → Bool) (adds : Instance → Option (List (List SignedAtom))) → MeetsUnits v f set → ((i : Instance) (cs : List (List SignedAtom)) → adds i ≡ Some cs → AtomsAgree (atoms_of cs)) → ((i : Instance) (cs : List (List SignedAtom)) → adds i ≡ Some cs → added_true v cs ≡ true) → (ps : List PathOf) (ns : List NodeOf) → AllExtend f ps → accepts f set adds ps ns ≡ true → NoneFollows v ps
accepted_none v f set adds u g t [] [] x h = tt
accepted_none v f set adds u g t [] (n ∷ ns) x h = tt
accepted_none v f set adds u g t (p ∷ ps) [] x h = absurd (cc)
accepted_none v f set adds u g t (p ∷ ps) (Splits a ∷ ns) x h =
    let s = both (is_there (at p.atoms a)) (accepts f set adds (with_decision p (Atom a true) ∷ with_decision p (Atom a false) ∷ ps) ns) h in
    let r = accepted_none v f set adds u g t (with_decision p (Atom a true) ∷ with_decision p (Atom a false) ∷ ps) ns (extends_with f p (Atom a true) x.0, (extends_with f p (Atom a false) x.0, x.1)) s.1 in
    ((λ (w : Follows v p). elim (has_sign v (at p.atoms a) s.0) [ inl e ↦ r.0 (with_true v p (Atom a true) w e) | inr e ↦ r.1.0 (with_true v p (Atom a false) w e) ]), r.1.1)
accepted_none v f set adds u g t (p ∷ ps) (Bounds y k ∷ ns) x h =
    let s = both (nat_lt y f.terms) (accepts f set adds (with_decision p (AtMost y k true) ∷ with_decision p (AtMost y k false) ∷ ps) ns) h in
    let r = accepted_none v f set adds u g t (with_decision p (AtMost y k true) ∷ with_decision p (AtMost y k false) ∷ ps) ns (extends_with f p (AtMost y k true) x.0, (extends_with f p (AtMost y k false) x.0, x.1)) s.1 in
    ((λ (w : Follows v p). elim (bound_sign (int_le (v.numbers y) k)) [ inl e ↦ r.0 (with_true v p (AtMost y k true) w e) | inr e ↦ r.1.0 (with_true v p (AtMost y k false) w e) ]), r.1.1)
accepted_none v f set adds u g t (p ∷ ps) (Cuts k ∷ ns) x h =
    let a = length f.atoms + k in
    let s = both (is_there (at p.atoms a)) (accepts f set adds (with_decision p (Atom a true) ∷ with_decision p (Atom a false) ∷ ps) ns) h in
    let r = accepted_none v f set adds u g t (with_decision p (Atom a true) ∷ with_decision p (Atom a false) ∷ ps) ns (extends_with f p (Atom a true) x.0, (extends_with f p (Atom a false) x.0, x.1)) s.1 in
    ((λ (w : Follows v p). elim (has_sign v (at p.atoms a) s.0) [ inl e ↦ r.0 (with_true v p (Atom a true) w e) | inr e ↦ r.1.0 (with_true v p (Atom a false) w e) ]), r.1.1)
accepted_none v f set adds u g t (p ∷ ps) (Learns named ∷ ns) x h =
    let ls = lemma_of (length f.atoms) named in
    let s = both (all_there p.atoms ls) (accepts f set adds (with_denied p ls ∷ with_lemma p ls ∷ ps) ns) h in
    let r = accepted_none v f set adds u g t (with_denied p ls ∷ with_lemma p ls ∷ ps) ns (extends_denied f p ls x.0, (extends_lemma f p ls x.0, x.1)) s.1 in
    ((λ (w : Follows v p). elim (lemma_sides v p.atoms ls s.0) [ inl e ↦ r.0 (follows_denied v p ls w e) | inr e ↦ r.1.0 (follows_lemma v p ls w e) ]), r.1.1)
accepted_none v f set adds u g t (p ∷ ps) (Adds i ∷ ns) x h =
    by_added (adds i) refl (λ cs k. accepted_none v f set adds u g t (with_added p cs ∷ ps) ns (extends_added f p cs x.0, x.1) k) h
  where
    by_added : (y : Option (List (List SignedAtom))) → adds i ≡ y → ((cs : List (List SignedAtom)) → accepts f set adds (with_added p cs ∷ ps) ns ≡ true → NoneFollows v (with_added p cs ∷ ps)) → (elim y [ None ↦ false | Some cs ↦ accepts f set adds (with_added p cs ∷ ps) ns ]) ≡ true → NoneFollows v (p ∷ ps)
    by_added None e r k = absurd (cc)
    by_added (Some cs) e r k = let m = r cs k in ((λ (w : Follows v p). m.0 (follows_added v p cs (g i cs e) (t i cs e) w)), m.1)
accepted_none v f set adds u g t (p ∷ ps) (IsClause c ∷ ns) x h =
    let s = both (closes f set p (IsClause c)) (accepts f set adds ps ns) h in
    ((λ (w : Follows v p). closes_refutes v f set p (IsClause c) u x.0 w s.0), accepted_none v f set adds u g t ps ns x.1 s.1)
accepted_none v f set adds u g t (p ∷ ps) (IsUnit c ∷ ns) x h =
    let s = both (closes f set p (IsUnit c)) (accepts f set adds ps ns) h in
    ((λ (w : Follows v p). closes_refutes v f set p (IsUnit c) u x.0 w s.0), accepted_none v f set adds u g t ps ns x.1 s.1)
accepted_none v f set adds u g t (p ∷ ps) (IsKnown i ∷ ns) x h =
    let s = both (closes f set p (IsKnown i)) (accepts f set adds ps ns) h in
    ((λ (w : Follows v p). closes_refutes v f set p (IsKnown i) u x.0 w s.0), accepted_none v f set adds u g t ps ns x.1 s.1)
accepted_none v f set adds u g t (p ∷ ps) (Derives steps ∷ ns) x h =
    let s = both (closes f set p (Derives steps)) (accepts f set adds ps ns) h in
    ((λ (w : Follows v p). closes_refutes v f set p (Derives steps) u x.0 w s.0), accepted_none v f set adds u g t ps ns x.1 s.1)

-- the checker is right
pub accepted_has_no_valuation : (f : Formula) (set : ℕ → Bool) (adds : Instance → Option (List (List SignedAtom))) (cert : CertOf) → AtomsAgree f.atoms → AtomsAgree cert.table → ((i : Instance) (cs : List (List SignedAtom)) → adds i ≡ Some cs → AtomsAgree (atoms_of cs)) → Accepts f set adds cert → HasNoValuation f set adds
accepted_has_no_valuation f set adds cert a b g h v c u t =
    let s = both (rows_below f.terms cert.table) (accepts f set adds (root_with f cert.table ∷ []) cert.nodes) h in
    (accepted_none v f set adds u g t (root_with f cert.table ∷ []) cert.nodes (record { more = cert.table; is = refl }, tt) s.1).0
    (record { agree = agree_append f.atoms cert.table a b; clauses = clauses_more v f.atoms cert.table f.clauses c; decided = refl; lemmas = refl })

-- and for a formula and a table of the code there is no premise else
pub accepted_code_has_no_valuation : (f : Clauses) (set : ℕ → Bool) (table : List Linear) (nodes : List NodeOf) → Accepts (formula_of f) set no_instance (record { table = map view_linear table; nodes = nodes }) → HasNoValuation (formula_of f) set no_instance
accepted_code_has_no_valuation f set table nodes h =
    accepted_has_no_valuation (formula_of f) set no_instance (record { table = map view_linear table; nodes = nodes }) (atoms_agree f.atoms.items) (table_agrees table) (λ i cs e. absurd (cc)) h
