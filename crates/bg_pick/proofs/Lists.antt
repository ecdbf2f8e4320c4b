-- What is said of a list of clauses, told of each.
use Rattle.std.proofs.Common.{◌≡◌, ℕ, zero, suc, Bool, true, false, not, ◌&&◌, List, [], ◌∷◌, refl}
use Rattle.std.specs.Prelude.{Some}
use Rattle.bg_formula.specs.declared.atom.Literal.{Literal}
use Rattle.bg_formula.specs.Atoms.{at}
use Rattle.bg_cert.specs.declared.cert.Decision.{Decision}
use Rattle.bg_cert.specs.Paths.{clause_false}
use Rattle.bg_cert.specs.Causes.{has_true, is_among, is_unit, is_unit_of, any_false, any_unit, any_unit_of, any_open, any_open_of}
use Rattle.bg_cert.proofs.Follow.{or_left, or_right, and_of}
use Rattle.bg_pick.proofs.Appends.{or_none}
use Rattle.bg_pick.proofs.Opens.{split_or}

pub false_in : (ds : List Decision) (cs : List (List Literal)) (k : ℕ) (c : List Literal) → at cs k ≡ Some c → any_false ds cs ≡ false → clause_false ds c ≡ false
false_in ds [] k c e f = absurd (cc)
false_in ds (d ∷ cs) zero c e f = let q : d ≡ c = cc in rw (← q) (split_or (clause_false ds d) (any_false ds cs) f).0
false_in ds (d ∷ cs) (suc k) c e f = false_in ds cs k c e (split_or (clause_false ds d) (any_false ds cs) f).1

pub none_false : (ds : List Decision) (cs : List (List Literal)) → ((k : ℕ) (c : List Literal) → at cs k ≡ Some c → clause_false ds c ≡ false) → any_false ds cs ≡ false
none_false ds [] h = refl
none_false ds (c ∷ cs) h = or_none _ _ (h zero c refl) (none_false ds cs (λ k d e. h (suc k) d e))

pub none_unit : (ds : List Decision) (cs : List (List Literal)) → ((k : ℕ) (c : List Literal) → at cs k ≡ Some c → is_unit ds c ≡ false) → any_unit ds cs ≡ false
none_unit ds [] h = refl
none_unit ds (c ∷ cs) h = or_none _ _ (h zero c refl) (none_unit ds cs (λ k d e. h (suc k) d e))

is_not : (b : Bool) → b ≡ true → not b ≡ false
is_not true h = refl
is_not false h = absurd (cc)

is_so : (b : Bool) → b ≡ false → not b ≡ true
is_so true h = absurd (cc)
is_so false h = refl

pub none_open : (ds : List Decision) (cs : List (List Literal)) → ((k : ℕ) (c : List Literal) → at cs k ≡ Some c → has_true ds c ≡ true) → any_open ds cs ≡ false
none_open ds [] h = refl
none_open ds (c ∷ cs) h = or_none _ _ (is_not _ (h zero c refl)) (none_open ds cs (λ k d e. h (suc k) d e))

pub unit_in : (ds : List Decision) (cs : List (List Literal)) (k : ℕ) (c : List Literal) → at cs k ≡ Some c → is_unit ds c ≡ true → any_unit ds cs ≡ true
unit_in ds [] k c e h = absurd (cc)
unit_in ds (d ∷ cs) zero c e h = let q : d ≡ c = cc in or_left (is_unit ds d) (any_unit ds cs) (rw q h)
unit_in ds (d ∷ cs) (suc k) c e h = or_right _ _ (unit_in ds cs k c e h)

pub unit_of_in : (a : ℕ) (ds : List Decision) (cs : List (List Literal)) (k : ℕ) (c : List Literal) → at cs k ≡ Some c → is_unit_of a ds c ≡ true → any_unit_of a ds cs ≡ true
unit_of_in a ds [] k c e h = absurd (cc)
unit_of_in a ds (d ∷ cs) zero c e h = let q : d ≡ c = cc in or_left (is_unit_of a ds d) (any_unit_of a ds cs) (rw q h)
unit_of_in a ds (d ∷ cs) (suc k) c e h = or_right _ _ (unit_of_in a ds cs k c e h)

pub open_in : (ds : List Decision) (cs : List (List Literal)) (k : ℕ) (c : List Literal) → at cs k ≡ Some c → has_true ds c ≡ false → any_open ds cs ≡ true
open_in ds [] k c e h = absurd (cc)
open_in ds (d ∷ cs) zero c e h = let q : d ≡ c = cc in or_left (not (has_true ds d)) (any_open ds cs) (is_so (has_true ds d) (rw q h))
open_in ds (d ∷ cs) (suc k) c e h = or_right _ _ (open_in ds cs k c e h)

pub open_of_in : (a : ℕ) (ds : List Decision) (cs : List (List Literal)) (k : ℕ) (c : List Literal) → at cs k ≡ Some c → has_true ds c ≡ false → is_among a c ≡ true → any_open_of a ds cs ≡ true
open_of_in a ds [] k c e h g = absurd (cc)
open_of_in a ds (d ∷ cs) zero c e h g = let q : d ≡ c = cc in or_left (not (has_true ds d) && is_among a d) (any_open_of a ds cs) (and_of (not (has_true ds d)) (is_among a d) (is_so (has_true ds d) (rw q h)) (rw q g))
open_of_in a ds (d ∷ cs) (suc k) c e h g = or_right _ _ (open_of_in a ds cs k c e h g)
