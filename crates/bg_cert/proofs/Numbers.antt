-- The atoms that an instance adds, and their numbers.
use Rattle.std.proofs.Common.{◌≡◌, ℕ, zero, suc, Bool, true, false, not, ◌&&◌, ◌==◌, cond, List, [], ◌∷◌, ◌++◌, ℤ, refl, sym, ap, ◌∙◌, arith, inl, inr, append-nil, append_assoc}
use Rattle.std.specs.Prelude.{Some}
use Rattle.std.specs.Ordering.{int_eq}
use Rattle.std.proofs.lemmas.Int.{ints}
use Rattle.std.proofs.lemmas.Bool.Decides.{nat_tests}
use Rattle.bg_rows.specs.declared.entry.Entry.{Entry}
use Rattle.bg_rows.specs.Entries.{total}
use Rattle.bg_formula.specs.Atoms.{entries_eq, AtomOf, IsTruth, IsRow, at, atom_eq}
use Rattle.bg_formula.specs.Meaning.{Valuation, atom_true, same, signed, clause_true, clauses_true, AtomsAgree}
use Rattle.bg_formula.specs.Instances.{SignedAtom, any_signed, added_true, atoms_in, atoms_of, number_of, with_atom, with_clause, with_clauses, numbered_clause, numbered, none_like, atoms_differ}
use Rattle.bg_cert.proofs.Follow.{both, and_of, either, or_left, or_right, signed_more}

-- ---- atoms that say the same are true together

int_same : (a b : ℤ) → int_eq a b ≡ true → a ≡ b
int_same a b h = grind (arith, ints)

entries_total : (v : ℕ → ℤ) (ts us : List Entry) → entries_eq ts us ≡ true → total v ts ≡ total v us
entries_total v [] [] h = refl
entries_total v [] (u ∷ us) h = absurd (cc)
entries_total v (t ∷ ts) [] h = absurd (cc)
entries_total v (t ∷ ts) (u ∷ us) h =
    let s = both (t.variable == u.variable) (int_eq t.by u.by && entries_eq ts us) h in
    let r = both (int_eq t.by u.by) (entries_eq ts us) s.1 in
    let p : t.variable ≡ u.variable = let e = s.0 in grind (arith, nat_tests) in
    let q = int_same t.by u.by r.0 in
    rw (p, q, entries_total v ts us r.1) refl

says_same : (v : Valuation) (a b : AtomOf) → atom_eq a b ≡ true → atom_true v a ≡ atom_true v b
says_same v (IsTruth x) (IsTruth y) h = let q : x ≡ y = grind (arith, nat_tests) in rw q refl
says_same v (IsTruth x) (IsRow s e) h = absurd (cc)
says_same v (IsRow r d) (IsTruth y) h = absurd (cc)
says_same v (IsRow r d) (IsRow s e) h =
    let t = both (entries_eq r.entries s.entries) (int_eq r.bound s.bound) h in
    rw (entries_total v.numbers r.entries s.entries t.0, int_same r.bound s.bound t.1) refl

-- ---- atoms are added behind those that are there

abbrev pub Grows : List AtomOf → List AtomOf → Type 0
Grows xs zs = (ys : List AtomOf) × (zs ≡ xs ++ ys)

grows_trans : (xs ys zs : List AtomOf) → Grows xs ys → Grows ys zs → Grows xs zs
grows_trans xs ys zs g h = (g.0 ++ h.0, h.1 ∙ ap (λ t. t ++ h.0) g.1 ∙ append_assoc xs g.0 h.0)

pub grows_atom : (xs : List AtomOf) (a : AtomOf) → Grows xs (with_atom xs a)
grows_atom [] a = (a ∷ [], refl)
grows_atom (x ∷ xs) a = by_same (grows_atom xs a) (atom_eq x a)
  where
    by_same : Grows xs (with_atom xs a) → (b : Bool) → Grows (x ∷ xs) (cond b (x ∷ xs) (x ∷ with_atom xs a))
    by_same r true = ([], sym (append-nil (x ∷ xs)))
    by_same r false = (r.0, ap (λ t. x ∷ t) r.1)

pub grows_clause : (xs : List AtomOf) (c : List SignedAtom) → Grows xs (with_clause xs c)
grows_clause xs [] = ([], sym (append-nil xs))
grows_clause xs (l ∷ ls) =
    grows_trans xs (with_atom xs l.atom) (with_clause (with_atom xs l.atom) ls) (grows_atom xs l.atom) (grows_clause (with_atom xs l.atom) ls)

pub grows_clauses : (xs : List AtomOf) (cs : List (List SignedAtom)) → Grows xs (with_clauses xs cs)
grows_clauses xs [] = ([], sym (append-nil xs))
grows_clauses xs (c ∷ cs) =
    grows_trans xs (with_clause xs c) (with_clauses (with_clause xs c) cs) (grows_clause xs c) (grows_clauses (with_clause xs c) cs)

at_more : (xs ys : List AtomOf) (n : ℕ) (a : AtomOf) → at xs n ≡ Some a → at (xs ++ ys) n ≡ Some a
at_more [] ys n a h = absurd (cc)
at_more (x ∷ xs) ys zero a h = h
at_more (x ∷ xs) ys (suc n) a h = at_more xs ys n a h

pub stays : (xs : List AtomOf) (cs : List (List SignedAtom)) (n : ℕ) (a : AtomOf) → at xs n ≡ Some a → at (with_clauses xs cs) n ≡ Some a
stays xs cs n a h = let m = grows_clauses xs cs in rw m.1 (at_more xs m.0 n a h)

-- ---- the numbered clauses are true

here : (v : Valuation) (xs : List AtomOf) (a : AtomOf) (s : Bool) → same (atom_true v a) s ≡ true → signed v (at (with_atom xs a) (number_of xs a)) s ≡ true
here v [] a s h = h
here v (x ∷ xs) a s h = by_same (here v xs a s h) (atom_eq x a) refl
  where
    by_same : signed v (at (with_atom xs a) (number_of xs a)) s ≡ true → (b : Bool) → atom_eq x a ≡ b → signed v (at (cond b (x ∷ xs) (x ∷ with_atom xs a)) (cond b zero (suc (number_of xs a)))) s ≡ true
    by_same r true e = rw (says_same v x a e) h
    by_same r false e = r

numbered_clause_true : (v : Valuation) (xs : List AtomOf) (c : List SignedAtom) (zs : List AtomOf) → Grows (with_clause xs c) zs → any_signed v c ≡ true → clause_true v zs (numbered_clause xs c) ≡ true
numbered_clause_true v xs [] zs g h = absurd (cc)
numbered_clause_true v xs (l ∷ ls) zs g h =
    elim (either (same (atom_true v l.atom) l.sign) (any_signed v ls) h) [
      | inl a ↦
          let k = grows_trans (with_atom xs l.atom) (with_clause (with_atom xs l.atom) ls) zs (grows_clause (with_atom xs l.atom) ls) g in
          let x : signed v (at zs (number_of xs l.atom)) l.sign ≡ true = rw k.1 (signed_more v (with_atom xs l.atom) k.0 (number_of xs l.atom) l.sign (here v xs l.atom l.sign a)) in
          or_left _ _ x
      | inr b ↦ or_right _ _ (numbered_clause_true v (with_atom xs l.atom) ls zs g b)
    ]

pub numbered_true : (v : Valuation) (xs : List AtomOf) (cs : List (List SignedAtom)) → added_true v cs ≡ true → clauses_true v (with_clauses xs cs) (numbered xs cs) ≡ true
numbered_true v xs [] h = refl
numbered_true v xs (c ∷ cs) h =
    let t = both (any_signed v c) (added_true v cs) h in
    and_of _ _ (numbered_clause_true v xs c (with_clauses (with_clause xs c) cs) (grows_clauses (with_clause xs c) cs) t.0) (numbered_true v (with_clause xs c) cs t.1)

-- ---- denials agree

agree_swap : (x : AtomOf) (xs ys : List AtomOf) → AtomsAgree (x ∷ xs) → (AtomsAgree xs → AtomsAgree ys) → AtomsAgree (x ∷ ys)
agree_swap (IsTruth x) xs ys h f = f h
agree_swap (IsRow r d) xs ys h f = (h.0, f h.1)

agree_first : (x : AtomOf) (xs : List AtomOf) → AtomsAgree (x ∷ xs) → AtomsAgree (x ∷ []) × AtomsAgree xs
agree_first (IsTruth x) xs h = (tt, h)
agree_first (IsRow r d) xs h = ((h.0, tt), h.1)

agree_split : (xs ys : List AtomOf) → AtomsAgree (xs ++ ys) → AtomsAgree xs × AtomsAgree ys
agree_split [] ys h = (tt, h)
agree_split (IsTruth x ∷ xs) ys h = agree_split xs ys h
agree_split (IsRow r d ∷ xs) ys h = let s = agree_split xs ys h.1 in ((h.0, s.0), s.1)

agree_atom : (xs : List AtomOf) (a : AtomOf) → AtomsAgree xs → AtomsAgree (a ∷ []) → AtomsAgree (with_atom xs a)
agree_atom [] a h g = g
agree_atom (x ∷ xs) a h g = by_same (λ k. agree_atom xs a k g) (atom_eq x a)
  where
    by_same : (AtomsAgree xs → AtomsAgree (with_atom xs a)) → (b : Bool) → AtomsAgree (cond b (x ∷ xs) (x ∷ with_atom xs a))
    by_same r true = h
    by_same r false = agree_swap x xs (with_atom xs a) h r

agree_clause : (xs : List AtomOf) (c : List SignedAtom) → AtomsAgree xs → AtomsAgree (atoms_in c) → AtomsAgree (with_clause xs c)
agree_clause xs [] h g = h
agree_clause xs (l ∷ ls) h g =
    let s = agree_first l.atom (atoms_in ls) g in agree_clause (with_atom xs l.atom) ls (agree_atom xs l.atom h s.0) s.1

pub agree_clauses : (xs : List AtomOf) (cs : List (List SignedAtom)) → AtomsAgree xs → AtomsAgree (atoms_of cs) → AtomsAgree (with_clauses xs cs)
agree_clauses xs [] h g = h
agree_clauses xs (c ∷ cs) h g =
    let s = agree_split (atoms_in c) (atoms_of cs) g in agree_clauses (with_clause xs c) cs (agree_clause xs c h s.0) s.1

-- ---- atoms stay different

none_like_more : (x : AtomOf) (ys : List AtomOf) (a : AtomOf) → none_like x ys ≡ true → atom_eq x a ≡ false → none_like x (with_atom ys a) ≡ true
none_like_more x [] a h e = rw e refl
none_like_more x (y ∷ ys) a h e = by_same (λ k. none_like_more x ys a k e) (atom_eq y a)
  where
    by_same : (none_like x ys ≡ true → none_like x (with_atom ys a) ≡ true) → (b : Bool) → none_like x (cond b (y ∷ ys) (y ∷ with_atom ys a)) ≡ true
    by_same r true = h
    by_same r false = let s = both (not (atom_eq x y)) (none_like x ys) h in and_of _ _ s.0 (r s.1)

differ_atom : (xs : List AtomOf) (a : AtomOf) → atoms_differ xs ≡ true → atoms_differ (with_atom xs a) ≡ true
differ_atom [] a h = refl
differ_atom (x ∷ xs) a h = by_same (λ k. differ_atom xs a k) (atom_eq x a) refl
  where
    by_same : (atoms_differ xs ≡ true → atoms_differ (with_atom xs a) ≡ true) → (b : Bool) → atom_eq x a ≡ b → atoms_differ (cond b (x ∷ xs) (x ∷ with_atom xs a)) ≡ true
    by_same r true e = h
    by_same r false e = let s = both (none_like x xs) (atoms_differ xs) h in and_of _ _ (none_like_more x xs a s.0 e) (r s.1)

differ_clause : (xs : List AtomOf) (c : List SignedAtom) → atoms_differ xs ≡ true → atoms_differ (with_clause xs c) ≡ true
differ_clause xs [] h = h
differ_clause xs (l ∷ ls) h = differ_clause (with_atom xs l.atom) ls (differ_atom xs l.atom h)

pub differ_clauses : (xs : List AtomOf) (cs : List (List SignedAtom)) → atoms_differ xs ≡ true → atoms_differ (with_clauses xs cs) ≡ true
differ_clauses xs [] h = h
differ_clauses xs (c ∷ cs) h = differ_clauses (with_clause xs c) cs (differ_clause xs c h)

-- ---- a truth variable has one number

not_like : (x : ℕ) (ys : List AtomOf) (n : ℕ) → none_like (IsTruth x) ys ≡ true → at ys n ≡ Some (IsTruth x) → ⊥
not_like x [] n h e = cc
not_like x (y ∷ ys) zero h e =
    let q : y ≡ IsTruth x = cc in
    let s = both (not (atom_eq (IsTruth x) y)) (none_like (IsTruth x) ys) h in
    let t : not (x == x) ≡ true = rw q at s.0 in
    let r : (x == x) ≡ true = grind (arith, nat_tests) in
    cc
not_like x (y ∷ ys) (suc n) h e = not_like x ys n (both (not (atom_eq (IsTruth x) y)) (none_like (IsTruth x) ys) h).1 e

pub truth_once : (xs : List AtomOf) (x m n : ℕ) → atoms_differ xs ≡ true → at xs m ≡ Some (IsTruth x) → at xs n ≡ Some (IsTruth x) → m ≡ n
truth_once [] x m n h a b = absurd (cc)
truth_once (y ∷ ys) x zero zero h a b = refl
truth_once (y ∷ ys) x zero (suc n) h a b =
    let q : y ≡ IsTruth x = cc in
    let s : none_like (IsTruth x) ys ≡ true = rw q at (both (none_like y ys) (atoms_differ ys) h).0 in
    absurd (not_like x ys n s b)
truth_once (y ∷ ys) x (suc m) zero h a b =
    let q : y ≡ IsTruth x = cc in
    let s : none_like (IsTruth x) ys ≡ true = rw q at (both (none_like y ys) (atoms_differ ys) h).0 in
    absurd (not_like x ys m s a)
truth_once (y ∷ ys) x (suc m) (suc n) h a b = ap suc (truth_once ys x m n (both (none_like y ys) (atoms_differ ys) h).1 a b)
