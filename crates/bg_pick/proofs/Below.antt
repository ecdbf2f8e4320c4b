-- The atoms of clauses that are chosen are there.
use Rattle.std.proofs.Common.{◌≡◌, ℕ, Bool, true, false, not, ◌&&◌, ◌||◌, ◌==◌, List, [], ◌∷◌, length, refl, arith}
use Rattle.std.specs.Prelude.{nat_lt}
use Rattle.std.proofs.lemmas.Bool.Decides.{nat_tests}
use Rattle.bg_formula.specs.declared.atom.Literal.{Literal}
use Rattle.bg_formula.specs.Formulas.{Formula, literals_below, clauses_below, units_below, rows_below, is_whole}
use Rattle.bg_cert.specs.declared.cert.Decision.{Decision}
use Rattle.bg_cert.specs.Causes.{has_true, undecided, all_of, is_one_of, is_among, is_unit_of, any_unit_of, any_open_of}
use Rattle.bg_pick.proofs.Units.{among_undecided}

pub split_and : (a b : Bool) → (a && b) ≡ true → (a ≡ true) × (b ≡ true)
split_and true b h = (refl, h)
split_and false b h = absurd (cc)

-- ---- what names an atom or a term names one that is there

pub whole_clauses : (f : Formula) → is_whole f ≡ true → clauses_below (length f.atoms) f.clauses ≡ true
whole_clauses f w = (split_and (clauses_below (length f.atoms) f.clauses) _ w).0

pub whole_units : (f : Formula) → is_whole f ≡ true → units_below (length f.atoms) f.candidates ≡ true
whole_units f w =
    (split_and (units_below (length f.atoms) f.candidates) _ (split_and (clauses_below (length f.atoms) f.clauses) _ w).1).0

pub whole_rows : (f : Formula) → is_whole f ≡ true → rows_below f.terms f.atoms ≡ true
whole_rows f w =
    (split_and (units_below (length f.atoms) f.candidates) _ (split_and (clauses_below (length f.atoms) f.clauses) _ w).1).1

among_below : (n a : ℕ) (c : List Literal) → is_among a c ≡ true → literals_below n c ≡ true → nat_lt a n ≡ true
among_below n a [] h b = absurd (cc)
among_below n a (l ∷ ls) h b =
    let s = split_and (nat_lt l.atom n) (literals_below n ls) b in
    by_same s.0 (λ g. among_below n a ls g s.1) (l.atom == a) refl h
  where
    by_same : nat_lt l.atom n ≡ true → (is_among a ls ≡ true → nat_lt a n ≡ true) → (b : Bool) → (l.atom == a) ≡ b → (b || is_among a ls) ≡ true → nat_lt a n ≡ true
    by_same s r true e g = let q : l.atom ≡ a = grind (arith, nat_tests) in rw (← q) s
    by_same s r false e g = r g

one_among : (a : ℕ) (us : List Literal) → is_one_of a us ≡ true → is_among a us ≡ true
one_among a [] h = absurd (cc)
one_among a (l ∷ ls) h = let s = split_and (l.atom == a) (all_of a ls) h in rw s.0 refl

pub unit_below : (n a : ℕ) (ds : List Decision) (cs : List (List Literal)) → any_unit_of a ds cs ≡ true → clauses_below n cs ≡ true → nat_lt a n ≡ true
unit_below n a ds [] h b = absurd (cc)
unit_below n a ds (c ∷ cs) h b =
    let s = split_and (literals_below n c) (clauses_below n cs) b in
    by_here s.0 (λ g. unit_below n a ds cs g s.1) (is_unit_of a ds c) refl h
  where
    by_here : literals_below n c ≡ true → (any_unit_of a ds cs ≡ true → nat_lt a n ≡ true) → (b : Bool) → is_unit_of a ds c ≡ b → (b || any_unit_of a ds cs) ≡ true → nat_lt a n ≡ true
    by_here s r true e g = among_below n a c (among_undecided a ds c (one_among a (undecided ds c) (split_and (not (has_true ds c)) (is_one_of a (undecided ds c)) e).1)).1 s
    by_here s r false e g = r g

pub open_below : (n a : ℕ) (ds : List Decision) (cs : List (List Literal)) → any_open_of a ds cs ≡ true → clauses_below n cs ≡ true → nat_lt a n ≡ true
open_below n a ds [] h b = absurd (cc)
open_below n a ds (c ∷ cs) h b =
    let s = split_and (literals_below n c) (clauses_below n cs) b in
    by_here s.0 (λ g. open_below n a ds cs g s.1) (not (has_true ds c) && is_among a c) refl h
  where
    by_here : literals_below n c ≡ true → (any_open_of a ds cs ≡ true → nat_lt a n ≡ true) → (b : Bool) → (not (has_true ds c) && is_among a c) ≡ b → (b || any_open_of a ds cs) ≡ true → nat_lt a n ≡ true
    by_here s r true e g = among_below n a c (split_and (not (has_true ds c)) (is_among a c) e).1 s
    by_here s r false e g = r g
