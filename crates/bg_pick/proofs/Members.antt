-- The clauses of the formula and the units of the set, as one list, and the hints that name them.
use Rattle.std.proofs.Common.{◌≡◌, ℕ, zero, suc, ◌<◌, Bool, true, false, ◌==◌, cond, List, [], ◌∷◌, ◌++◌, length, refl, sym, ap, ◌∙◌, arith, inl, inr}
use Rattle.std.specs.Prelude.{Option, Some, None, nat_lt}
use Rattle.std.proofs.lemmas.Bool.Decides.{nat_tests}
use Rattle.bg_formula.specs.declared.atom.Literal.{Literal}
use Rattle.bg_formula.specs.Atoms.{at}
use Rattle.bg_formula.specs.Formulas.{Formula, joined, unit_atom, literals_below, clauses_below, units_below, is_whole}
use Rattle.bg_cert.specs.Causes.{member_atom, unit_clause, unit_clauses, units_of}
use Rattle.bg_cert.proofs.Follow.{and_of}
use Rattle.bg_pick.specs.declared.hint.Hint.{Hint}
use Rattle.bg_pick.specs.declared.hint.Hint.TheVariants.{Nth, Member}
use Rattle.bg_pick.specs.Index.{unit_of, clause_at}
use Rattle.bg_pick.proofs.Below.{split_and, whole_clauses, whole_units}
use Rattle.bg_pick.proofs.Places.{Among, among_left, among_right, among_parts}

pub atom_low : (n : ℕ) (cs : List (Option ℕ)) (c a : ℕ) → units_below n cs ≡ true → joined (at cs c) ≡ Some a → nat_lt a n ≡ true
atom_low n [] c a h e = absurd (cc)
atom_low n (None ∷ cs) zero a h e = absurd (cc)
atom_low n (Some b ∷ cs) zero a h e = let q : b ≡ a = cc in rw (← q) ((split_and (nat_lt b n) (units_below n cs) h).0)
atom_low n (None ∷ cs) (suc c) a h e = atom_low n cs c a h e
atom_low n (Some b ∷ cs) (suc c) a h e = atom_low n cs c a (split_and (nat_lt b n) (units_below n cs) h).1 e

pub candidate_there : (cs : List (Option ℕ)) (c a : ℕ) → joined (at cs c) ≡ Some a → c < length cs
candidate_there [] c a e = absurd (cc)
candidate_there (x ∷ cs) zero a e = omega arith
candidate_there (x ∷ cs) (suc c) a e = let h = candidate_there cs c a e in omega arith

pub unit_atom_of : (f : Formula) (set : ℕ → Bool) (c a : ℕ) → member_atom f set c ≡ Some a → unit_atom f c ≡ Some a
unit_atom_of f set c a e = by_member (set c) e
  where
    by_member : (b : Bool) → cond b (unit_atom f c) None ≡ Some a → unit_atom f c ≡ Some a
    by_member true g = g
    by_member false g = absurd (cc)

abbrev pub one : ℕ → List Literal
one a = record { atom = a; sign = true } ∷ []

-- ---- from a hint to its clause

unit_among : (f : Formula) (set : ℕ → Bool) (c a n : ℕ) → c < n → member_atom f set c ≡ Some a → Among (unit_clauses f set n) (one a)
unit_among f set c a zero l e = absurd (omega arith)
unit_among f set c a (suc m) l e = by_last (λ k. unit_among f set c a m k e) (c == m) refl
  where
    by_last : (c < m → Among (unit_clauses f set m) (one a)) → (b : Bool) → (c == m) ≡ b → Among (unit_clauses f set (suc m)) (one a)
    by_last r true g =
        let q : c ≡ m = grind (arith, nat_tests) in
        let w : member_atom f set m ≡ Some a = rw q at e in
        among_right (unit_clauses f set m) (unit_clause (member_atom f set m)) (one a) (rw w (zero, refl))
    by_last r false g = let k : c < m = grind (arith, nat_tests) in among_left (unit_clauses f set m) (unit_clause (member_atom f set m)) (one a) (r k)

pub clause_among : (f : Formula) (set : ℕ → Bool) (x : Hint) (c : List Literal) → clause_at f set x ≡ Some c → Among (f.clauses ++ units_of f set) c
clause_among f set (Nth k) c e = among_left f.clauses (units_of f set) c (k, e)
clause_among f set (Member n) c e = by_atom (member_atom f set n) refl e
  where
    by_atom : (o : Option ℕ) → member_atom f set n ≡ o → unit_of o ≡ Some c → Among (f.clauses ++ units_of f set) c
    by_atom None g h = absurd (cc)
    by_atom (Some a) g h =
        let q : one a ≡ c = cc in
        let l = candidate_there f.candidates n a (unit_atom_of f set n a g) in
        rw (← q) (among_right f.clauses (units_of f set) (one a) (unit_among f set n a (length f.candidates) l g))

-- ---- from a clause to its hint

unit_hint : (f : Formula) (set : ℕ → Bool) (n : ℕ) (c : List Literal) → Among (unit_clauses f set n) c → (m a : ℕ) × (member_atom f set m ≡ Some a) × (c ≡ one a)
unit_hint f set zero c h = absurd (let e = h.1 in cc)
unit_hint f set (suc n) c h =
    elim (among_parts (unit_clauses f set n) (unit_clause (member_atom f set n)) c h) [
      | inl g ↦ unit_hint f set n c g
      | inr g ↦ by_atom (member_atom f set n) refl g
    ]
  where
    first : (a k : ℕ) → at (one a ∷ []) k ≡ Some c → c ≡ one a
    first a zero e = let q : one a ≡ c = cc in sym q
    first a (suc k) e = absurd (cc)

    by_atom : (o : Option ℕ) → member_atom f set n ≡ o → Among (unit_clause o) c → (m a : ℕ) × (member_atom f set m ≡ Some a) × (c ≡ one a)
    by_atom None e g = absurd (let z = g.1 in cc)
    by_atom (Some a) e g = (n, a, e, first a g.0 g.1)

pub unit_named : (f : Formula) (set : ℕ → Bool) (c : List Literal) → Among (units_of f set) c → (m a : ℕ) × (clause_at f set (Member m) ≡ Some c) × (c ≡ one a)
unit_named f set c h =
    let u = unit_hint f set (length f.candidates) c h in
    (u.0, u.1, ap unit_of u.2 ∙ ap Some (sym u.3), u.3)

pub clause_named : (f : Formula) (set : ℕ → Bool) (c : List Literal) → Among (f.clauses ++ units_of f set) c → (x : Hint) × (clause_at f set x ≡ Some c)
clause_named f set c h =
    elim (among_parts f.clauses (units_of f set) c h) [
      | inl g ↦ (Nth g.0, g.1)
      | inr g ↦ let u = unit_named f set c g in (Member u.0, u.2)
    ]

-- ---- the atoms of all of them are there

below_both : (n : ℕ) (xs ys : List (List Literal)) → clauses_below n xs ≡ true → clauses_below n ys ≡ true → clauses_below n (xs ++ ys) ≡ true
below_both n [] ys h k = k
below_both n (x ∷ xs) ys h k =
    let s = split_and (literals_below n x) (clauses_below n xs) h in and_of _ _ s.0 (below_both n xs ys s.1 k)

units_low : (f : Formula) (set : ℕ → Bool) (n m : ℕ) → units_below n f.candidates ≡ true → clauses_below n (unit_clauses f set m) ≡ true
units_low f set n zero h = refl
units_low f set n (suc m) h =
    below_both n (unit_clauses f set m) (unit_clause (member_atom f set m)) (units_low f set n m h) (by_atom (member_atom f set m) refl)
  where
    by_atom : (o : Option ℕ) → member_atom f set m ≡ o → clauses_below n (unit_clause o) ≡ true
    by_atom None e = refl
    by_atom (Some a) e = rw (atom_low n f.candidates m a h (unit_atom_of f set m a e)) refl

pub all_low : (f : Formula) (set : ℕ → Bool) → is_whole f ≡ true → clauses_below (length f.atoms) (f.clauses ++ units_of f set) ≡ true
all_low f set w =
    below_both (length f.atoms) f.clauses (units_of f set) (whole_clauses f w) (units_low f set (length f.atoms) (length f.candidates) (whole_units f w))

pub member_low : (f : Formula) (set : ℕ → Bool) (c a n : ℕ) → is_whole f ≡ true → n ≡ length f.atoms → member_atom f set c ≡ Some a → literals_below n (one a) ≡ true
member_low f set c a n w e h =
    rw e (and_of _ _ (atom_low (length f.atoms) f.candidates c a (whole_units f w) (unit_atom_of f set c a h)) refl)
