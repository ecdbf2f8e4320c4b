-- The literals of a lemma, and where their atoms stand.
use Rattle.std.proofs.Common.{◌≡◌, ℕ, zero, suc, ◌≤◌, ◌<◌, ◌&&◌, Bool, true, false, cond, List, [], ◌∷◌, map, length, get_or, refl, sym, ap, ◌∙◌, arith}
use Rattle.std.specs.Prelude.{nat_lt, Some, None}
use Rattle.std.proofs.lemmas.Bool.Decides.{nat_tests}
use Rattle.bg_formula.specs.declared.atom.Literal.{Literal}
use Rattle.bg_formula.specs.Atoms.{at}
use Rattle.bg_cert.specs.Certs.{is_there, all_there}
use Rattle.bg_formula.specs.Atoms.{AtomOf}
use Rattle.bg_cert.specs.declared.cert.Decision.{Decision}
use Rattle.bg_cert.specs.declared.cert.Node.{Node}
use Rattle.bg_cert.specs.Paths.{clause_false, names_false}
use Rattle.bg_cert.specs.Tours.{place_in, all_below, lemma_at}
use Rattle.bg_cert.proofs.Places.{at_map_there}

pub none_past : (m : ℕ) (l : Literal) → place_in m l ≡ None → m ≤ l.atom
none_past m l h = by_test (nat_lt l.atom m) refl h
  where
    by_test : (b : Bool) → nat_lt l.atom m ≡ b → cond b (Some l.atom) None ≡ None → m ≤ l.atom
    by_test true e k = absurd (cc)
    by_test false e k = grind (arith, nat_tests)

pub there_below : {A : Type 0} (xs : List A) (n : ℕ) → is_there (at xs n) ≡ nat_lt n (length xs)
there_below [] n = grind (arith, nat_tests)
there_below (x ∷ xs) zero = grind (arith, nat_tests)
there_below (x ∷ xs) (suc n) = there_below xs n ∙ lt_suc n (length xs)
  where
    lt_suc : (a b : ℕ) → nat_lt a b ≡ nat_lt (suc a) (suc b)
    lt_suc a b = grind (arith, nat_tests)

pub all_are_below : (xs : List AtomOf) (ls : List Literal) → all_there xs ls ≡ all_below (length xs) ls
all_are_below xs [] = refl
all_are_below xs (l ∷ ls) =
    ap (λ b. b && all_there xs ls) (there_below xs l.atom) ∙ ap (λ b. nat_lt l.atom (length xs) && b) (all_are_below xs ls)

pub length_map : {A B : Type 0} (f : A → B) (xs : List A) → length (map f xs) ≡ length xs
length_map f [] = refl
length_map f (x ∷ xs) = ap suc (length_map f xs)

-- the lemma of a number that a path knows
pub known_told : (ds : List Decision) (m n : ℕ) (ns nodes : List Node) (known : List ℕ) (i d : ℕ) (r : Bool) → i < length known → d ≡ get_or known i d → m ≡ n → ns ≡ nodes → r ≡ clause_false ds (lemma_at m ns d) → r ≡ names_false ds (at (map (lemma_at n nodes) known) i)
known_told ds m n ns nodes known i d r h e p q k =
    k ∙ ap (λ a. clause_false ds (lemma_at a ns d)) p ∙ ap (λ a. clause_false ds (lemma_at n a d)) q ∙ ap (λ a. clause_false ds (lemma_at n nodes a)) e ∙ sym (ap (names_false ds) (at_map_there (lemma_at n nodes) known i d h))
