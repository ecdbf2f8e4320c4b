-- Where points lie behind a mark, and when it is taken back.
use Rattle.std.proofs.Common.{◌≡◌, ℕ, ◌+◌, ◌*◌, Bool, true, false, if◌then◌else◌, List, [], ◌∷◌, ◌++◌, length, Option, Some, unwrap_or, refl, ap, ◌∙◌, arith}
use Rattle.std.specs.Prelude.{◌==◌}
use Rattle.std.proofs.lemmas.Bool.{eqb-true}
use Rattle.std.proofs.lemmas.Bool.Decides.{nat_tests}
use Rattle.bg_sense.specs.Flow.{Point, ToLabel, Behind, ToEnd, point_eq}
use Rattle.bg_flow.specs.Blocks.{Places, lying}
use Rattle.bg_blocks.specs.Marks.{Marked, key, set_to, undone}
use Rattle.bg_blocks.specs.Emitted.{State, coded, marked_at}

pub same_places : (f g : Places) → ((q : Point) → f q ≡ g q) → f ≡ g
same_places f g h = λ i q. h q i

pub same_marks : (f g : Marked) → ((k : ℕ) → f k ≡ g k) → f ≡ g
same_marks f g h = λ i k. h k i

odd_apart : (l n : ℕ) → (2 * l + 1 == 2 * n + 2) ≡ false
odd_apart l n = grind (arith, nat_tests)

even_apart : (l n : ℕ) → (2 * n + 2 == 2 * l + 1) ≡ false
even_apart l n = grind (arith, nat_tests)

odd_same : (l n : ℕ) → (2 * l + 1 == 2 * n + 1) ≡ (l == n)
odd_same l n = grind (arith, nat_tests)

even_same : (l n : ℕ) → (2 * l + 2 == 2 * n + 2) ≡ (l == n)
even_same l n = grind (arith, nat_tests)

odd_more : (l : ℕ) → (0 == 2 * l + 1) ≡ false
odd_more l = grind (arith, nat_tests)

more_odd : (l : ℕ) → (2 * l + 1 == 0) ≡ false
more_odd l = grind (arith, nat_tests)

even_more : (l : ℕ) → (0 == 2 * l + 2) ≡ false
even_more l = grind (arith, nat_tests)

more_even : (l : ℕ) → (2 * l + 2 == 0) ≡ false
more_even l = grind (arith, nat_tests)

-- two points have one key exactly where they are one
pub key_eq : (p q : Point) → (key p == key q) ≡ point_eq p q
key_eq (ToLabel a) (ToLabel b) = odd_same a b
key_eq (ToLabel a) (Behind b) = odd_apart a b
key_eq (ToLabel a) ToEnd = more_odd a
key_eq (Behind a) (ToLabel b) = even_apart b a
key_eq (Behind a) (Behind b) = even_same a b
key_eq (Behind a) ToEnd = more_even a
key_eq ToEnd (ToLabel b) = odd_more b
key_eq ToEnd (Behind b) = even_more b
key_eq ToEnd ToEnd = refl

at_mark : (b : Bool) (n : ℕ) (o : Option ℕ) → unwrap_or (if b then Some n else o) 1 ≡ (if b then n else unwrap_or o 1)
at_mark true n o = refl
at_mark false n o = refl

-- a point that is marked lies there
pub coded_marked : (p : Point) (s : State) → coded (marked_at p s) ≡ lying p (coded s)
coded_marked p s =
    ap (λ (i : Places). record { blocks = s.blocks; from_end = i; takes_in = false })
    (same_places _ _ (λ q. at_mark (key p == key q) (length s.blocks) (s.marks (key q)) ∙ ap (λ b. if b then length s.blocks else unwrap_or (s.marks (key q)) 1) (key_eq p q)))

-- what is marked and taken back
back : (k j : ℕ) (o : Option ℕ) (marks : Marked) (b : Bool) → (k == j) ≡ b → (if b then marks k else (if b then o else marks j)) ≡ marks j
back k j o marks true e = ap marks (eqb-true k j e)
back k j o marks false e = refl

pub mark_undone : (k : ℕ) (o : Option ℕ) (marks : Marked) → set_to k (marks k) (set_to k o marks) ≡ marks
mark_undone k o marks = same_marks _ _ (λ j. back k j o marks (k == j) refl)

pub undone_append : (es fs : List (ℕ × Option ℕ)) (marks : Marked) → undone (es ++ fs) marks ≡ undone es (undone fs marks)
undone_append [] fs marks = refl
undone_append (e ∷ es) fs marks = ap (set_to e.0 e.1) (undone_append es fs marks)
