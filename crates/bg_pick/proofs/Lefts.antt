-- What is left undecided of a clause: nothing, one atom, or several.
use Rattle.std.proofs.Common.{◌≡◌, ℕ, Bool, true, false, ◌&&◌, ◌==◌, cond, List, [], ◌∷◌, refl, arith}
use Rattle.std.specs.Prelude.{Some, None}
use Rattle.std.proofs.lemmas.Bool.Decides.{nat_tests}
use Rattle.bg_formula.specs.declared.atom.Literal.{Literal}
use Rattle.bg_cert.specs.Causes.{all_of, is_one, is_one_of, is_among}
use Rattle.bg_pick.specs.declared.left.Left.{Left}
use Rattle.bg_pick.specs.declared.left.Left.TheVariants.{Nothing, One, Several}
use Rattle.bg_pick.specs.Picks.{left_of, join_left, one_of, some_of}

pub left_front : (l : Literal) (ls : List Literal) → join_left (One l.atom) (left_of ls) ≡ left_of (l ∷ ls)
left_front l ls = refl

pub then_then : (x y z : Left) → join_left (join_left x y) z ≡ join_left x (join_left y z)
then_then Nothing y z = refl
then_then (One a) Nothing z = refl
then_then (One a) (One b) Nothing = behind_none (a == b)
  where
    behind_none : (s : Bool) → join_left (cond s (One a) (Several a)) Nothing ≡ cond s (One a) (Several a)
    behind_none true = refl
    behind_none false = refl
then_then (One a) (One b) (One c) = by_same (a == b) (b == c) refl refl
  where
    by_same : (s t : Bool) → (a == b) ≡ s → (b == c) ≡ t → join_left (cond (a == b) (One a) (Several a)) (One c) ≡ join_left (One a) (cond (b == c) (One b) (Several b))
    by_same true true e g = let q : a ≡ b = grind (arith, nat_tests) in let h : (a == c) ≡ true = rw q g in rw (e, g, h) (rw e refl)
    by_same true false e g = let q : a ≡ b = grind (arith, nat_tests) in let h : (a == c) ≡ false = rw q g in rw (e, g, h) refl
    by_same false true e g = rw (e, g) (rw e refl)
    by_same false false e g = rw (e, g) refl
then_then (One a) (One b) (Several c) = behind_many (a == b)
  where
    behind_many : (s : Bool) → join_left (cond s (One a) (Several a)) (Several c) ≡ Several a
    behind_many true = refl
    behind_many false = refl
then_then (One a) (Several b) z = refl
then_then (Several a) y z = refl

-- what is left, told of the literals
abbrev LeftIs : List Literal → Left → Type 0
LeftIs us Nothing = us ≡ []
LeftIs us (One a) = (is_one us ≡ true) × (is_one_of a us ≡ true) × (is_among a us ≡ true) × (all_of a us ≡ true)
LeftIs us (Several a) = (is_one us ≡ false) × ((b : ℕ) → all_of b us ≡ false) × (is_among a us ≡ true)

same_atom : (a : ℕ) → (a == a) ≡ true
same_atom a = grind (arith, nat_tests)

and_false : (x y : Bool) → y ≡ false → (x && y) ≡ false
and_false true y h = h
and_false false y h = refl

other_all : (b c : ℕ) (us : List Literal) → is_one_of b us ≡ true → (c == b) ≡ false → all_of c us ≡ false
other_all b c [] h e = absurd (cc)
other_all b c (l ∷ ls) h e = first (l.atom == b) refl h
  where
    first : (s : Bool) → (l.atom == b) ≡ s → (s && all_of b ls) ≡ true → (l.atom == c && all_of c ls) ≡ false
    first true g k =
        let q : l.atom ≡ b = grind (arith, nat_tests) in
        let r : (l.atom == c) ≡ false = rw q (grind (arith, nat_tests)) in
        rw r refl
    first false g k = absurd (cc)

left_step : (l : Literal) (ls : List Literal) (x : Left) → LeftIs ls x → LeftIs (l ∷ ls) (join_left (One l.atom) x)
left_step l ls Nothing i =
    (rw i refl, rw (same_atom l.atom, i) refl, rw (same_atom l.atom) refl, rw (same_atom l.atom, i) refl)
left_step l ls (One b) i = by_same (l.atom == b) refl
  where
    by_other : ((l.atom == b) ≡ false) → (c : ℕ) (s : Bool) → (l.atom == c) ≡ s → (s && all_of c ls) ≡ false
    by_other e c true g = let q : l.atom ≡ c = grind (arith, nat_tests) in rw (← q) (other_all b l.atom ls i.1 e)
    by_other e c false g = refl

    by_same : (s : Bool) → (l.atom == b) ≡ s → LeftIs (l ∷ ls) (cond s (One l.atom) (Several l.atom))
    by_same true e =
        let q : l.atom ≡ b = grind (arith, nat_tests) in
        let r : all_of l.atom ls ≡ true = rw q i.3 in
        (r, rw (same_atom l.atom) r, rw (same_atom l.atom) refl, rw (same_atom l.atom) r)
    by_same false e =
        (other_all b l.atom ls i.1 e, (λ c. by_other e c (l.atom == c) refl), rw (same_atom l.atom) refl)
left_step l ls (Several b) i =
    (i.1 l.atom, (λ c. and_false (l.atom == c) (all_of c ls) (i.1 c)), rw (same_atom l.atom) refl)

left_is : (us : List Literal) → LeftIs us (left_of us)
left_is [] = refl
left_is (l ∷ ls) = left_step l ls (left_of ls) (left_is ls)

pub unit_of_left : (us : List Literal) → (one_of (left_of us) ≡ None → is_one us ≡ false)
unit_of_left us h = by_left (left_of us) (left_is us) h
  where
    by_left : (x : Left) → LeftIs us x → one_of x ≡ None → is_one us ≡ false
    by_left Nothing i g = rw i refl
    by_left (One a) i g = absurd (cc)
    by_left (Several a) i g = i.0

pub unit_at_left : (us : List Literal) (a : ℕ) → one_of (left_of us) ≡ Some a → (is_one us ≡ true) × (is_one_of a us ≡ true) × (is_among a us ≡ true)
unit_at_left us a h = by_left (left_of us) (left_is us) h
  where
    by_left : (x : Left) → LeftIs us x → one_of x ≡ Some a → (is_one us ≡ true) × (is_one_of a us ≡ true) × (is_among a us ≡ true)
    by_left Nothing i g = absurd (cc)
    by_left (One b) i g = let q : b ≡ a = cc in (i.0, rw (← q) i.1, rw (← q) i.2)
    by_left (Several b) i g = absurd (cc)

pub nothing_left : (us : List Literal) → some_of (left_of us) ≡ None → us ≡ []
nothing_left us h = by_left (left_of us) (left_is us) h
  where
    by_left : (x : Left) → LeftIs us x → some_of x ≡ None → us ≡ []
    by_left Nothing i g = i
    by_left (One a) i g = absurd (cc)
    by_left (Several a) i g = absurd (cc)

pub first_left : (us : List Literal) (a : ℕ) → some_of (left_of us) ≡ Some a → is_among a us ≡ true
first_left us a h = by_left (left_of us) (left_is us) h
  where
    by_left : (x : Left) → LeftIs us x → some_of x ≡ Some a → is_among a us ≡ true
    by_left Nothing i g = absurd (cc)
    by_left (One b) i g = let q : b ≡ a = cc in rw (← q) i.2
    by_left (Several b) i g = let q : b ≡ a = cc in rw (← q) i.2
