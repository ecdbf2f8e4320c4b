-- An accepted certificate uses members of the set alone, and is accepted under each set that has what it uses.
use Rattle.std.proofs.Common.{◌≡◌, ℕ, zero, suc, ◌+◌, ◌<◌, Bool, true, false, ◌==◌, ◌&&◌, ◌||◌, List, [], ◌∷◌, length, refl, inl, inr, arith}
use Rattle.std.specs.Prelude.{Option, Some, None, nat_lt}
use Rattle.std.proofs.lemmas.Bool.Decides.{nat_tests}
use Rattle.bg_formula.specs.Formulas.{Formula, joined, unit_atom, rows_below}
use Rattle.bg_formula.specs.Atoms.{at}
use Rattle.bg_formula.specs.Instances.{Instance, SignedAtom}
use Rattle.bg_cert.specs.declared.cert.Decision.{Decision}
use Rattle.bg_cert.specs.declared.cert.Decision.TheVariants.{Atom, AtMost}
use Rattle.bg_cert.specs.Certs.{NodeOf, CertOf, Splits, Bounds, Cuts, Learns, Adds, IsClause, IsUnit, IsKnown, Derives, is_there, all_there, lemma_of, closes, accepts, root_with, Accepts, names_unit, uses}
use Rattle.bg_cert.specs.Paths.{PathOf, unit_false, with_decision, with_added, with_denied, with_lemma}
use Rattle.bg_cert.proofs.Follow.{both, and_of, either, or_left, or_right}

pub used_lies_in : (f : Formula) (set : ℕ → Bool) (adds : Instance → Option (List (List SignedAtom))) (ps : List PathOf) (ns : List NodeOf) → accepts f set adds ps ns ≡ true → (c : ℕ) → uses ns c ≡ true → set c ≡ true
used_lies_in f set adds ps [] h c u = absurd (cc)
used_lies_in f set adds [] (n ∷ ns) h c u = absurd (cc)
used_lies_in f set adds (p ∷ ps) (Splits a ∷ ns) h c u =
    let s = both (is_there (at p.atoms a)) (accepts f set adds (with_decision p (Atom a true) ∷ with_decision p (Atom a false) ∷ ps) ns) h in
    used_lies_in f set adds (with_decision p (Atom a true) ∷ with_decision p (Atom a false) ∷ ps) ns s.1 c u
used_lies_in f set adds (p ∷ ps) (Bounds y k ∷ ns) h c u =
    let s = both (nat_lt y f.terms) (accepts f set adds (with_decision p (AtMost y k true) ∷ with_decision p (AtMost y k false) ∷ ps) ns) h in
    used_lies_in f set adds (with_decision p (AtMost y k true) ∷ with_decision p (AtMost y k false) ∷ ps) ns s.1 c u
used_lies_in f set adds (p ∷ ps) (Cuts r ∷ ns) h c u =
    let a = length f.atoms + r in
    let s = both (is_there (at p.atoms a)) (accepts f set adds (with_decision p (Atom a true) ∷ with_decision p (Atom a false) ∷ ps) ns) h in
    used_lies_in f set adds (with_decision p (Atom a true) ∷ with_decision p (Atom a false) ∷ ps) ns s.1 c u
used_lies_in f set adds (p ∷ ps) (Learns named ∷ ns) h c u =
    let ls = lemma_of (length f.atoms) named in
    let s = both (all_there p.atoms ls) (accepts f set adds (with_denied p ls ∷ with_lemma p ls ∷ ps) ns) h in
    used_lies_in f set adds (with_denied p ls ∷ with_lemma p ls ∷ ps) ns s.1 c u
used_lies_in f set adds (p ∷ ps) (Adds i ∷ ns) h c u = by_added (adds i) (λ cs g. used_lies_in f set adds (with_added p cs ∷ ps) ns g c u) h
  where
    by_added : (x : Option (List (List SignedAtom))) → ((cs : List (List SignedAtom)) → accepts f set adds (with_added p cs ∷ ps) ns ≡ true → set c ≡ true) → (elim x [ None ↦ false | Some cs ↦ accepts f set adds (with_added p cs ∷ ps) ns ]) ≡ true → set c ≡ true
    by_added None r g = absurd (cc)
    by_added (Some cs) r g = r cs g
used_lies_in f set adds (p ∷ ps) (IsClause b ∷ ns) h c u =
    let s = both (closes f set p (IsClause b)) (accepts f set adds ps ns) h in used_lies_in f set adds ps ns s.1 c u
used_lies_in f set adds (p ∷ ps) (IsUnit b ∷ ns) h c u =
    let s = both (closes f set p (IsUnit b)) (accepts f set adds ps ns) h in
    let t = both (set b) (unit_false p.decided (unit_atom f b)) s.0 in
    elim (either (b == c) (uses ns c) u) [
      | inl e ↦ let q : b ≡ c = grind (arith, nat_tests) in rw (← q) t.0
      | inr e ↦ used_lies_in f set adds ps ns s.1 c e
    ]
used_lies_in f set adds (p ∷ ps) (IsKnown i ∷ ns) h c u =
    let s = both (closes f set p (IsKnown i)) (accepts f set adds ps ns) h in used_lies_in f set adds ps ns s.1 c u
used_lies_in f set adds (p ∷ ps) (Derives steps ∷ ns) h c u =
    let s = both (closes f set p (Derives steps)) (accepts f set adds ps ns) h in used_lies_in f set adds ps ns s.1 c u

-- a unit that an accepted certificate uses is the atom of a candidate
unit_there : (candidates : List (Option ℕ)) (ds : List Decision) (c : ℕ) → unit_false ds (joined (at candidates c)) ≡ true → c < length candidates
unit_there [] ds c h = absurd (cc)
unit_there (x ∷ xs) ds zero h = omega arith
unit_there (x ∷ xs) ds (suc c) h = let r = unit_there xs ds c h in omega arith

closed_there : (f : Formula) (set : ℕ → Bool) (p : PathOf) (n : NodeOf) (c : ℕ) → closes f set p n ≡ true → names_unit c n ≡ true → c < length f.candidates
closed_there f set p (IsUnit b) c h e =
    let q : b ≡ c = grind (arith, nat_tests) in
    rw (← q) (unit_there f.candidates p.decided b (both (set b) (unit_false p.decided (unit_atom f b)) h).1)
closed_there f set p (IsClause b) c h e = absurd (cc)
closed_there f set p (IsKnown i) c h e = absurd (cc)
closed_there f set p (Derives steps) c h e = absurd (cc)
closed_there f set p (Splits a) c h e = absurd (cc)
closed_there f set p (Bounds y k) c h e = absurd (cc)
closed_there f set p (Cuts r) c h e = absurd (cc)
closed_there f set p (Learns ls) c h e = absurd (cc)
closed_there f set p (Adds i) c h e = absurd (cc)

leaf_there : (f : Formula) (set : ℕ → Bool) (adds : Instance → Option (List (List SignedAtom))) (p : PathOf) (ps : List PathOf) (n : NodeOf) (ns : List NodeOf) (c : ℕ) → (accepts f set adds ps ns ≡ true → uses ns c ≡ true → c < length f.candidates) → (closes f set p n && accepts f set adds ps ns) ≡ true → (names_unit c n || uses ns c) ≡ true → c < length f.candidates
leaf_there f set adds p ps n ns c r h u =
    let s = both (closes f set p n) (accepts f set adds ps ns) h in
    elim (either (names_unit c n) (uses ns c) u) [
      | inl e ↦ closed_there f set p n c s.0 e
      | inr e ↦ r s.1 e
    ]

pub used_is_there : (f : Formula) (set : ℕ → Bool) (adds : Instance → Option (List (List SignedAtom))) (ps : List PathOf) (ns : List NodeOf) → accepts f set adds ps ns ≡ true → (c : ℕ) → uses ns c ≡ true → c < length f.candidates
used_is_there f set adds ps [] h c u = absurd (cc)
used_is_there f set adds [] (n ∷ ns) h c u = absurd (cc)
used_is_there f set adds (p ∷ ps) (Splits a ∷ ns) h c u =
    let s = both (is_there (at p.atoms a)) (accepts f set adds (with_decision p (Atom a true) ∷ with_decision p (Atom a false) ∷ ps) ns) h in
    used_is_there f set adds (with_decision p (Atom a true) ∷ with_decision p (Atom a false) ∷ ps) ns s.1 c u
used_is_there f set adds (p ∷ ps) (Bounds y k ∷ ns) h c u =
    let s = both (nat_lt y f.terms) (accepts f set adds (with_decision p (AtMost y k true) ∷ with_decision p (AtMost y k false) ∷ ps) ns) h in
    used_is_there f set adds (with_decision p (AtMost y k true) ∷ with_decision p (AtMost y k false) ∷ ps) ns s.1 c u
used_is_there f set adds (p ∷ ps) (Cuts r ∷ ns) h c u =
    let a = length f.atoms + r in
    let s = both (is_there (at p.atoms a)) (accepts f set adds (with_decision p (Atom a true) ∷ with_decision p (Atom a false) ∷ ps) ns) h in
    used_is_there f set adds (with_decision p (Atom a true) ∷ with_decision p (Atom a false) ∷ ps) ns s.1 c u
used_is_there f set adds (p ∷ ps) (Learns named ∷ ns) h c u =
    let ls = lemma_of (length f.atoms) named in
    let s = both (all_there p.atoms ls) (accepts f set adds (with_denied p ls ∷ with_lemma p ls ∷ ps) ns) h in
    used_is_there f set adds (with_denied p ls ∷ with_lemma p ls ∷ ps) ns s.1 c u
used_is_there f set adds (p ∷ ps) (Adds i ∷ ns) h c u = by_added (adds i) (λ cs g. used_is_there f set adds (with_added p cs ∷ ps) ns g c u) h
  where
    by_added : (x : Option (List (List SignedAtom))) → ((cs : List (List SignedAtom)) → accepts f set adds (with_added p cs ∷ ps) ns ≡ true → c < length f.candidates) → (elim x [ None ↦ false | Some cs ↦ accepts f set adds (with_added p cs ∷ ps) ns ]) ≡ true → c < length f.candidates
    by_added None r g = absurd (cc)
    by_added (Some cs) r g = r cs g
used_is_there f set adds (p ∷ ps) (IsClause b ∷ ns) h c u = leaf_there f set adds p ps (IsClause b) ns c (λ g k. used_is_there f set adds ps ns g c k) h u
used_is_there f set adds (p ∷ ps) (IsUnit b ∷ ns) h c u = leaf_there f set adds p ps (IsUnit b) ns c (λ g k. used_is_there f set adds ps ns g c k) h u
used_is_there f set adds (p ∷ ps) (IsKnown i ∷ ns) h c u = leaf_there f set adds p ps (IsKnown i) ns c (λ g k. used_is_there f set adds ps ns g c k) h u
used_is_there f set adds (p ∷ ps) (Derives steps ∷ ns) h c u = leaf_there f set adds p ps (Derives steps) ns c (λ g k. used_is_there f set adds ps ns g c k) h u

pub accepted_above : (f : Formula) (set other : ℕ → Bool) (adds : Instance → Option (List (List SignedAtom))) (ps : List PathOf) (ns : List NodeOf) → accepts f set adds ps ns ≡ true → ((c : ℕ) → uses ns c ≡ true → other c ≡ true) → accepts f other adds ps ns ≡ true
accepted_above f set other adds [] [] h k = refl
accepted_above f set other adds (p ∷ ps) [] h k = absurd (cc)
accepted_above f set other adds [] (n ∷ ns) h k = absurd (cc)
accepted_above f set other adds (p ∷ ps) (Splits a ∷ ns) h k =
    let s = both (is_there (at p.atoms a)) (accepts f set adds (with_decision p (Atom a true) ∷ with_decision p (Atom a false) ∷ ps) ns) h in
    and_of _ _ s.0 (accepted_above f set other adds (with_decision p (Atom a true) ∷ with_decision p (Atom a false) ∷ ps) ns s.1 k)
accepted_above f set other adds (p ∷ ps) (Bounds y z ∷ ns) h k =
    let s = both (nat_lt y f.terms) (accepts f set adds (with_decision p (AtMost y z true) ∷ with_decision p (AtMost y z false) ∷ ps) ns) h in
    and_of _ _ s.0 (accepted_above f set other adds (with_decision p (AtMost y z true) ∷ with_decision p (AtMost y z false) ∷ ps) ns s.1 k)
accepted_above f set other adds (p ∷ ps) (Cuts r ∷ ns) h k =
    let a = length f.atoms + r in
    let s = both (is_there (at p.atoms a)) (accepts f set adds (with_decision p (Atom a true) ∷ with_decision p (Atom a false) ∷ ps) ns) h in
    and_of _ _ s.0 (accepted_above f set other adds (with_decision p (Atom a true) ∷ with_decision p (Atom a false) ∷ ps) ns s.1 k)
accepted_above f set other adds (p ∷ ps) (Learns named ∷ ns) h k =
    let ls = lemma_of (length f.atoms) named in
    let s = both (all_there p.atoms ls) (accepts f set adds (with_denied p ls ∷ with_lemma p ls ∷ ps) ns) h in
    and_of _ _ s.0 (accepted_above f set other adds (with_denied p ls ∷ with_lemma p ls ∷ ps) ns s.1 k)
accepted_above f set other adds (p ∷ ps) (Adds i ∷ ns) h k = by_added (adds i) (λ cs g. accepted_above f set other adds (with_added p cs ∷ ps) ns g k) h
  where
    by_added : (x : Option (List (List SignedAtom))) → ((cs : List (List SignedAtom)) → accepts f set adds (with_added p cs ∷ ps) ns ≡ true → accepts f other adds (with_added p cs ∷ ps) ns ≡ true) → (elim x [ None ↦ false | Some cs ↦ accepts f set adds (with_added p cs ∷ ps) ns ]) ≡ true → (elim x [ None ↦ false | Some cs ↦ accepts f other adds (with_added p cs ∷ ps) ns ]) ≡ true
    by_added None r g = absurd (cc)
    by_added (Some cs) r g = r cs g
accepted_above f set other adds (p ∷ ps) (IsClause b ∷ ns) h k =
    let s = both (closes f set p (IsClause b)) (accepts f set adds ps ns) h in
    and_of _ _ s.0 (accepted_above f set other adds ps ns s.1 k)
accepted_above f set other adds (p ∷ ps) (IsUnit b ∷ ns) h k =
    let s = both (closes f set p (IsUnit b)) (accepts f set adds ps ns) h in
    let t = both (set b) (unit_false p.decided (unit_atom f b)) s.0 in
    let e : (b == b) ≡ true = grind (arith, nat_tests) in
    and_of _ _ (and_of _ _ (k b (or_left (b == b) (uses ns b) e)) t.1) (accepted_above f set other adds ps ns s.1 (λ c u. k c (or_right (b == c) (uses ns c) u)))
accepted_above f set other adds (p ∷ ps) (IsKnown i ∷ ns) h k =
    let s = both (closes f set p (IsKnown i)) (accepts f set adds ps ns) h in
    and_of _ _ s.0 (accepted_above f set other adds ps ns s.1 k)
accepted_above f set other adds (p ∷ ps) (Derives steps ∷ ns) h k =
    let s = both (closes f set p (Derives steps)) (accepts f set adds ps ns) h in
    and_of _ _ s.0 (accepted_above f set other adds ps ns s.1 k)

-- ---- certificates

tree_of : (f : Formula) (set : ℕ → Bool) (adds : Instance → Option (List (List SignedAtom))) (cert : CertOf) → Accepts f set adds cert → (rows_below f.terms cert.table ≡ true) × (accepts f set adds (root_with f cert.table ∷ []) cert.nodes ≡ true)
tree_of f set adds cert h = both (rows_below f.terms cert.table) (accepts f set adds (root_with f cert.table ∷ []) cert.nodes) h

pub certificate_lies_in : (f : Formula) (set : ℕ → Bool) (adds : Instance → Option (List (List SignedAtom))) (cert : CertOf) → Accepts f set adds cert → (c : ℕ) → uses cert.nodes c ≡ true → set c ≡ true
certificate_lies_in f set adds cert h = used_lies_in f set adds (root_with f cert.table ∷ []) cert.nodes (tree_of f set adds cert h).1

pub certificate_is_there : (f : Formula) (set : ℕ → Bool) (adds : Instance → Option (List (List SignedAtom))) (cert : CertOf) → Accepts f set adds cert → (c : ℕ) → uses cert.nodes c ≡ true → c < length f.candidates
certificate_is_there f set adds cert h = used_is_there f set adds (root_with f cert.table ∷ []) cert.nodes (tree_of f set adds cert h).1

pub certificate_above : (f : Formula) (set other : ℕ → Bool) (adds : Instance → Option (List (List SignedAtom))) (cert : CertOf) → Accepts f set adds cert → ((c : ℕ) → uses cert.nodes c ≡ true → other c ≡ true) → Accepts f other adds cert
certificate_above f set other adds cert h k =
    let s = tree_of f set adds cert h in
    and_of (rows_below f.terms cert.table) (accepts f other adds (root_with f cert.table ∷ []) cert.nodes) s.0 (accepted_above f set other adds (root_with f cert.table ∷ []) cert.nodes s.1 k)
