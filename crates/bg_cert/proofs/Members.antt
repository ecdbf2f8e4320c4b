-- The set of the candidates that a certificate names.
use Rattle.std.proofs.Common.{◌≡◌, ℕ, zero, suc, ◌+◌, ◌<◌, ◌≤◌, ◌==◌, ◌&&◌, ◌||◌, Bool, true, false, List, [], ◌∷◌, map, set, length, drop, get_or, replicate, refl, sym, ap, ◌∙◌, arith}
use Rattle.std.specs.Prelude.{nat_lt}
use Rattle.std.proofs.lemmas.Bool.Decides.{nat_tests}
use Rattle.bg_cert.specs.declared.cert.Node.{Node}
use Rattle.bg_cert.specs.Certs.{node_of, names_unit, uses}
use Rattle.bg_cert.specs.Walks.{has}
use Rattle.bg_cert.proofs.Tells.{nodes_from}

pub none_has : (n c : ℕ) → has (replicate n false) c ≡ false
none_has zero c = refl
none_has (suc n) zero = refl
none_has (suc n) (suc c) = none_has n c

or_false : (x y : Bool) → y ≡ false → x ≡ (x || y)
or_false true y h = refl
or_false false y h = sym h

and_false : (x y : Bool) → y ≡ false → (x && y) ≡ false
and_false true y h = h
and_false false y h = refl

zero_suc : (b : ℕ) → (zero == suc b) ≡ false
zero_suc b = grind (arith, nat_tests)

suc_zero : (b : ℕ) → (suc b == zero) ≡ false
suc_zero b = grind (arith, nat_tests)

suc_suc : (a b : ℕ) → (suc a == suc b) ≡ (a == b)
suc_suc a b = grind (arith, nat_tests)

lt_suc : (a b : ℕ) → nat_lt (suc a) (suc b) ≡ nat_lt a b
lt_suc a b = grind (arith, nat_tests)

or_true : (x : Bool) → true ≡ (x || true)
or_true true = refl
or_true false = refl

-- one more member
pub mark_there : (xs : List Bool) (b : ℕ) → b < length xs → (c : ℕ) → has (set xs b true) c ≡ (has xs c || (nat_lt c (length xs) && (b == c)))
mark_there [] b h c = absurd (omega arith)
mark_there (x ∷ xs) zero h zero = let l : nat_lt zero (suc (length xs)) ≡ true = grind (arith, nat_tests) in rw l (or_true x)
mark_there (x ∷ xs) zero h (suc c) = or_false (has xs c) (nat_lt (suc c) (suc (length xs)) && (zero == suc c)) (and_false (nat_lt (suc c) (suc (length xs))) (zero == suc c) (zero_suc c))
mark_there (x ∷ xs) (suc b) h zero = or_false x (nat_lt zero (suc (length xs)) && (suc b == zero)) (and_false (nat_lt zero (suc (length xs))) (suc b == zero) (suc_zero b))
mark_there (x ∷ xs) (suc b) h (suc c) = rw (suc_suc b c, lt_suc c (length xs)) (mark_there xs b (omega arith) c)

-- one that isn't there
pub mark_past : (xs : List Bool) (b : ℕ) → length xs ≤ b → (c : ℕ) → has xs c ≡ (has xs c || (nat_lt c (length xs) && (b == c)))
mark_past xs b h c = or_false (has xs c) (nat_lt c (length xs) && (b == c)) (not_both (b == c) refl)
  where
    not_both : (t : Bool) → (b == c) ≡ t → (nat_lt c (length xs) && (b == c)) ≡ false
    not_both true e =
        let q : b ≡ c = grind (arith, nat_tests) in
        let l : nat_lt c (length xs) ≡ false = rw (← q) (grind (arith, nat_tests)) in
        rw l refl
    not_both false e = and_false (nat_lt c (length xs)) (b == c) e

pub mark_none : (xs : List Bool) (c : ℕ) → has xs c ≡ (has xs c || (nat_lt c (length xs) && false))
mark_none xs c = or_false (has xs c) (nat_lt c (length xs) && false) (and_false (nat_lt c (length xs)) false refl)

shift : (h l n r : Bool) → ((h || (l && n)) || (l && r)) ≡ (h || (l && (n || r)))
shift true l n r = refl
shift false true n r = refl
shift false false n r = refl

abbrev pub Marks : List Bool → ℕ → List Node → List Node → Type 0
Marks xs n rest all = (c : ℕ) → (has xs c || (nat_lt c n && uses (map node_of rest) c)) ≡ (nat_lt c n && uses (map node_of all) c)

pub marks_first : (n : ℕ) (all : List Node) → Marks (replicate n false) n all all
marks_first n all c = rw (none_has n c) refl

pub marks_next : (xs ys : List Bool) (n : ℕ) (all : List Node) (i : ℕ) (d : Node) → i < length all → d ≡ get_or all i d → length xs ≡ n → ((c : ℕ) → has ys c ≡ (has xs c || (nat_lt c (length xs) && names_unit c (node_of d)))) → Marks xs n (drop i all) all → Marks ys n (drop (i + 1) all) all
marks_next xs ys n all i d h e l m k c =
    let t : map node_of (drop i all) ≡ node_of d ∷ map node_of (drop (i + 1) all) = nodes_from all i d h ∙ ap (λ x. node_of x ∷ map node_of (drop (i + 1) all)) (sym e) in
    rw (m c, l) (shift (has xs c) (nat_lt c n) (names_unit c (node_of d)) (uses (map node_of (drop (i + 1) all)) c) ∙ ap (λ ns. has xs c || (nat_lt c n && uses ns c)) (sym t) ∙ k c)

pub marks_last : (xs : List Bool) (n : ℕ) (all : List Node) → Marks xs n [] all → (c : ℕ) → has xs c ≡ (nat_lt c n && uses (map node_of all) c)
marks_last xs n all k c = or_false (has xs c) (nat_lt c n && false) (and_false (nat_lt c n) false refl) ∙ k c
