-- Each atom that the search chooses meets the rule of splitting.
use Rattle.std.proofs.Common.{◌≡◌, ℕ, ◌<◌, Bool, true, false, not, ◌&&◌, ◌||◌, cond, List, [], ◌∷◌, ◌++◌, length, refl, ◌∙◌, arith}
use Rattle.std.specs.Prelude.{Option, Some, None, nat_lt}
use Rattle.std.proofs.lemmas.Bool.Decides.{nat_tests}
use Rattle.bg_formula.specs.declared.atom.Literal.{Literal}
use Rattle.bg_formula.specs.Formulas.{Formula, is_whole}
use Rattle.bg_cert.specs.declared.cert.Decision.{Decision}
use Rattle.bg_cert.specs.Paths.{decides, clause_false}
use Rattle.bg_cert.specs.Causes.{is_decided, has_true, is_among, is_one, is_unit, any_unit, any_unit_of, any_open, any_open_of, any_false, may_split, units_of}
use Rattle.bg_pick.specs.declared.hint.Hint.TheVariants.{Member}
use Rattle.bg_pick.specs.Index.{clause_at}
use Rattle.bg_pick.specs.Marks.{one_at, AllPassed, IsUnitOf, IsOpenOf, IsOpenAt}
use Rattle.bg_pick.proofs.Places.{at_before}
use Rattle.bg_pick.proofs.Lists.{false_in, none_unit, none_open, unit_in, unit_of_in, open_in, open_of_in}
use Rattle.bg_pick.proofs.Units.{a_unit}
use Rattle.bg_pick.proofs.Opens.{is_open}
use Rattle.bg_pick.proofs.Falses.{false_parts}
use Rattle.bg_pick.proofs.Below.{unit_below, open_below}
use Rattle.bg_pick.proofs.Appends.{or_none, open_append}
use Rattle.bg_pick.proofs.Members.{one, clause_among, clause_named, unit_named, all_low}

-- ---- a unit

pub unit_may_split : (f : Formula) (set : ℕ → Bool) (ds : List Decision) (a : ℕ) → is_whole f ≡ true → IsUnitOf f set ds a → may_split (length f.atoms) a ds (f.clauses ++ units_of f set) ≡ true
unit_may_split f set ds a w u = by_clause (clause_at f set u.0) refl u.1
  where
    by_clause : (o : Option (List Literal)) → clause_at f set u.0 ≡ o → one_at ds o ≡ Some a → may_split (length f.atoms) a ds (f.clauses ++ units_of f set) ≡ true
    by_clause None e h = absurd (cc)
    by_clause (Some c) e h =
        let k = clause_among f set u.0 c e in
        let s = a_unit ds c a h in
        let v : any_unit_of a ds (f.clauses ++ units_of f set) ≡ true = unit_of_in a ds (f.clauses ++ units_of f set) k.0 c k.1 s.1 in
        rw (unit_below (length f.atoms) a ds (f.clauses ++ units_of f set) v (all_low f set w), s.2, unit_in ds (f.clauses ++ units_of f set) k.0 c k.1 s.0, v) refl

-- ---- none is a unit

no_units : (f : Formula) (set : ℕ → Bool) (ds : List Decision) → AllPassed f set ds → any_unit ds (f.clauses ++ units_of f set) ≡ false
no_units f set ds p =
    none_unit ds (f.clauses ++ units_of f set) (λ k c e. let n = clause_named f set c (k, e) in let q = n.1 in rw q at (p n.0))

pub open_may_split : (f : Formula) (set : ℕ → Bool) (ds : List Decision) (a : ℕ) → is_whole f ≡ true → AllPassed f set ds → IsOpenOf ds f.clauses a → may_split (length f.atoms) a ds (f.clauses ++ units_of f set) ≡ true
open_may_split f set ds a w p h =
    let cs = f.clauses ++ units_of f set in
    let k = at_before f.clauses (units_of f set) h.0 h.1 h.2 in
    let s = is_open ds h.1 a h.3 in
    let v : any_open_of a ds (f.clauses ++ units_of f set) ≡ true = open_of_in a ds (f.clauses ++ units_of f set) h.0 h.1 k s.0 s.1 in
    rw (open_below (length f.atoms) a ds (f.clauses ++ units_of f set) v (all_low f set w), s.2, no_units f set ds p, open_in ds (f.clauses ++ units_of f set) h.0 h.1 k s.0, v) refl

stands_parts : (t b : Bool) → (not t && b) ≡ true → (t ≡ false) × (b ≡ true)
stands_parts true b h = absurd (cc)
stands_parts false b h = (refl, h)

pub at_may_split : (f : Formula) (set : ℕ → Bool) (ds : List Decision) (a : ℕ) → is_whole f ≡ true → AllPassed f set ds → IsOpenAt ds f.clauses a → may_split (length f.atoms) a ds (f.clauses ++ units_of f set) ≡ true
at_may_split f set ds a w p h =
    let cs = f.clauses ++ units_of f set in
    let q = h.1 in
    let k = at_before f.clauses (units_of f set) q.0 q.1.0 q.1.1.0 in
    let s = stands_parts (has_true ds q.1.0) (is_among a q.1.0) q.1.1.1 in
    let v : any_open_of a ds (f.clauses ++ units_of f set) ≡ true = open_of_in a ds (f.clauses ++ units_of f set) q.0 q.1.0 k s.0 s.1 in
    rw (open_below (length f.atoms) a ds (f.clauses ++ units_of f set) v (all_low f set w), h.0, no_units f set ds p, open_in ds (f.clauses ++ units_of f set) q.0 q.1.0 k s.0, v) refl

-- ---- nor is one without a true literal

one_true : (t f : Bool) (l : Literal) → (not (t || false) && is_one (cond (t || f) [] (l ∷ []))) ≡ false → (f && true) ≡ false → (t || false) ≡ true
one_true true f l h k = refl
one_true false true l h k = absurd (cc)
one_true false false l h k = absurd (cc)

unit_true : (ds : List Decision) (a : ℕ) → is_unit ds (one a) ≡ false → clause_false ds (one a) ≡ false → has_true ds (one a) ≡ true
unit_true ds a h k = one_true (decides a true ds) (decides a false ds) (record { atom = a; sign = true }) h k

units_true : (f : Formula) (set : ℕ → Bool) (ds : List Decision) → any_false ds (units_of f set) ≡ false → AllPassed f set ds → any_open ds (units_of f set) ≡ false
units_true f set ds n p =
    none_open ds (units_of f set)
    (λ k c e.
    let u = unit_named f set c (k, e) in
    let q = u.2 in
    let r = u.3 in
    let x = rw q at (p (Member u.0)) in
    let y = false_in ds (units_of f set) k c e n in
    rw r (unit_true ds u.1 (rw r at x) (rw r at y)))

pub free_may_split : (f : Formula) (set : ℕ → Bool) (ds : List Decision) (a : ℕ) → any_false ds (f.clauses ++ units_of f set) ≡ false → AllPassed f set ds → any_open ds f.clauses ≡ false → is_decided a ds ≡ false → a < length f.atoms → may_split (length f.atoms) a ds (f.clauses ++ units_of f set) ≡ true
free_may_split f set ds a n p k d l =
    let t : nat_lt a (length f.atoms) ≡ true = grind (arith, nat_tests) in
    let s = false_parts ds f.clauses (units_of f set) n in
    let o : any_open ds (f.clauses ++ units_of f set) ≡ false = open_append ds f.clauses (units_of f set) ∙ or_none _ _ k (units_true f set ds s.1 p) in
    rw (t, d, no_units f set ds p, o) refl
