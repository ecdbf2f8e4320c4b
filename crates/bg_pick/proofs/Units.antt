-- A unit's atom, by what is left of the clause.
use Rattle.std.proofs.Common.{◌≡◌, ℕ, Bool, true, false, not, ◌&&◌, ◌||◌, ◌==◌, cond, List, [], ◌∷◌, refl, arith}
use Rattle.std.specs.Prelude.{Some, None}
use Rattle.std.proofs.lemmas.Bool.Decides.{nat_tests}
use Rattle.bg_formula.specs.declared.atom.Literal.{Literal}
use Rattle.bg_cert.specs.declared.cert.Decision.{Decision}
use Rattle.bg_cert.specs.Causes.{is_decided, has_true, undecided, is_one, is_one_of, is_among, is_unit, is_unit_of}
use Rattle.bg_pick.specs.Picks.{left_of, one_of, one_left}
use Rattle.bg_pick.proofs.Lefts.{unit_of_left, unit_at_left}

-- an undecided literal's atom is undecided
pub among_undecided : (a : ℕ) (ds : List Decision) (c : List Literal) → is_among a (undecided ds c) ≡ true → (is_decided a ds ≡ false) × (is_among a c ≡ true)
among_undecided a ds [] h = absurd (cc)
among_undecided a ds (l ∷ ls) h = by_state (λ g. among_undecided a ds ls g) (is_decided l.atom ds) refl h
  where
    by_same : (is_among a (undecided ds ls) ≡ true → (is_decided a ds ≡ false) × (is_among a ls ≡ true)) → is_decided l.atom ds ≡ false → (b : Bool) → (l.atom == a) ≡ b → (b || is_among a (undecided ds ls)) ≡ true → (is_decided a ds ≡ false) × ((b || is_among a ls) ≡ true)
    by_same r e true s g = let q : l.atom ≡ a = grind (arith, nat_tests) in (rw q at e, refl)
    by_same r e false s g = r g

    skip : (b : Bool) → (is_decided a ds ≡ false) × (is_among a ls ≡ true) → (is_decided a ds ≡ false) × ((b || is_among a ls) ≡ true)
    skip true x = (x.0, refl)
    skip false x = x

    by_state : (is_among a (undecided ds ls) ≡ true → (is_decided a ds ≡ false) × (is_among a ls ≡ true)) → (d : Bool) → is_decided l.atom ds ≡ d → is_among a (cond d (undecided ds ls) (l ∷ undecided ds ls)) ≡ true → (is_decided a ds ≡ false) × ((l.atom == a || is_among a ls) ≡ true)
    by_state r true e g = skip (l.atom == a) (r g)
    by_state r false e g = by_same r e (l.atom == a) refl g

pub no_unit : (ds : List Decision) (c : List Literal) → one_left ds c ≡ None → is_unit ds c ≡ false
no_unit ds c h = by_true (has_true ds c) h
  where
    by_true : (t : Bool) → cond t None (one_of (left_of (undecided ds c))) ≡ None → (not t && is_one (undecided ds c)) ≡ false
    by_true true g = refl
    by_true false g = unit_of_left (undecided ds c) g

pub a_unit : (ds : List Decision) (c : List Literal) (a : ℕ) → one_left ds c ≡ Some a → (is_unit ds c ≡ true) × (is_unit_of a ds c ≡ true) × (is_decided a ds ≡ false)
a_unit ds c a h = by_true (has_true ds c) h
  where
    by_true : (t : Bool) → cond t None (one_of (left_of (undecided ds c))) ≡ Some a → ((not t && is_one (undecided ds c)) ≡ true) × ((not t && is_one_of a (undecided ds c)) ≡ true) × (is_decided a ds ≡ false)
    by_true true g = absurd (cc)
    by_true false g = let u = unit_at_left (undecided ds c) a g in (u.0, u.1, (among_undecided a ds c u.2).0)
