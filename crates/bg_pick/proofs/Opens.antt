-- Clauses without a true literal.
use Rattle.std.proofs.Common.{◌≡◌, ℕ, Bool, true, false, not, ◌&&◌, ◌||◌, cond, List, [], ◌∷◌, refl}
use Rattle.std.specs.Prelude.{Some, None}
use Rattle.bg_formula.specs.declared.atom.Literal.{Literal}
use Rattle.bg_cert.specs.declared.cert.Decision.{Decision}
use Rattle.bg_cert.specs.Paths.{decides, clause_false}
use Rattle.bg_cert.specs.Causes.{is_decided, has_true, undecided, is_among}
use Rattle.bg_pick.specs.Picks.{left_of, some_of, some_left}
use Rattle.bg_pick.proofs.Lefts.{nothing_left, first_left}
use Rattle.bg_pick.proofs.Units.{among_undecided}

-- a clause without a true or an undecided literal is false
pub none_left : (ds : List Decision) (c : List Literal) → has_true ds c ≡ false → undecided ds c ≡ [] → clause_false ds c ≡ true
none_left ds [] h u = refl
none_left ds (l ∷ ls) h u = by_state (λ g k. none_left ds ls g k) (decides l.atom true ds) (decides l.atom false ds) l.sign refl refl refl h u
  where
    by_state : (has_true ds ls ≡ false → undecided ds ls ≡ [] → clause_false ds ls ≡ true) → (t f s : Bool) → decides l.atom true ds ≡ t → decides l.atom false ds ≡ f → l.sign ≡ s → (decides l.atom l.sign ds || has_true ds ls) ≡ false → cond (decides l.atom true ds || decides l.atom false ds) (undecided ds ls) (l ∷ undecided ds ls) ≡ [] → (decides l.atom (not l.sign) ds && clause_false ds ls) ≡ true
    by_state r true f true a b e g k = absurd (let z = rw (e, a) at g in cc)
    by_state r t true false a b e g k = absurd (let z = rw (e, b) at g in cc)
    by_state r true false false a b e g k = rw (e, a) (r (let z = rw (e, b) at g in z) (let z = rw a at k in z))
    by_state r false true true a b e g k = rw (e, b) (r (let z = rw (e, a) at g in z) (let z = rw (a, b) at k in z))
    by_state r false false s a b e g k = absurd (let z = rw (a, b) at k in cc)

pub not_open : (ds : List Decision) (c : List Literal) → clause_false ds c ≡ false → some_left ds c ≡ None → has_true ds c ≡ true
not_open ds c f h = by_true (has_true ds c) refl h
  where
    by_true : (t : Bool) → has_true ds c ≡ t → cond t None (some_of (left_of (undecided ds c))) ≡ None → t ≡ true
    by_true true e g = refl
    by_true false e g = absurd (let z = none_left ds c e (nothing_left (undecided ds c) g) in cc)

pub is_open : (ds : List Decision) (c : List Literal) (a : ℕ) → some_left ds c ≡ Some a → (has_true ds c ≡ false) × (is_among a c ≡ true) × (is_decided a ds ≡ false)
is_open ds c a h = by_true (has_true ds c) h
  where
    by_true : (t : Bool) → cond t None (some_of (left_of (undecided ds c))) ≡ Some a → (t ≡ false) × (is_among a c ≡ true) × (is_decided a ds ≡ false)
    by_true true g = absurd (cc)
    by_true false g = let u = among_undecided a ds c (first_left (undecided ds c) a g) in (refl, u.1, u.0)

pub split_or : (a b : Bool) → (a || b) ≡ false → (a ≡ false) × (b ≡ false)
split_or true b h = absurd (cc)
split_or false b h = (refl, h)
