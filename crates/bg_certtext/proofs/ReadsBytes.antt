-- Words in front of a byte that ends them.
use Rattle.std.proofs.Common.{◌≡◌, ℕ, suc, Bool, true, false, cond, List, [], ◌∷◌, ◌++◌, length, take, drop, refl, ap, ◌∙◌}
use Rattle.std.specs.List.{list_all, take_while}
use Rattle.std.proofs.lemmas.List.Sums.{take_while-cons}
use Rattle.bg_certtext.proofs.ReadsOptions.{both}

-- what stands behind ends a word: nothing, or a byte that isn't inside
abbrev pub Stops : (ℕ → Bool) → List ℕ → Type 0
Stops inside [] = Unit {0}
Stops inside (b ∷ bs) = inside b ≡ false

abbrev length_if : (ℕ → Bool) → ℕ → List ℕ → Bool → ℕ
length_if inside b bs t = length (cond t (b ∷ take_while inside bs) [])

at_end : (inside : ℕ → Bool) (rest : List ℕ) → Stops inside rest → length (take_while inside rest) ≡ 0
at_end inside [] h = refl
at_end inside (b ∷ bs) h = ap length (take_while-cons inside b bs) ∙ ap (length_if inside b bs) h

-- a word is as long as the bytes that are inside
pub front_length : (inside : ℕ → Bool) (w rest : List ℕ) → list_all inside w ≡ true → Stops inside rest → length (take_while inside (w ++ rest)) ≡ length w
front_length inside [] rest h k = at_end inside rest k
front_length inside (b ∷ bs) rest h k =
    let p = both (inside b) (list_all inside bs) h in
    ap length (take_while-cons inside b (bs ++ rest)) ∙ (ap (length_if inside b (bs ++ rest)) p.0 ∙ ap suc (front_length inside bs rest p.1 k))

pub take_front : (u ys : List ℕ) → take (length u) (u ++ ys) ≡ u
take_front [] ys = refl
take_front (x ∷ xs) ys = ap (λ (zs : List ℕ). x ∷ zs) (take_front xs ys)

pub drop_front : (u ys : List ℕ) → drop (length u) (u ++ ys) ≡ ys
drop_front [] ys = refl
drop_front (x ∷ xs) ys = drop_front xs ys

pub all_append : (p : ℕ → Bool) (xs ys : List ℕ) → list_all p xs ≡ true → list_all p ys ≡ true → list_all p (xs ++ ys) ≡ true
all_append p [] ys h k = k
all_append p (x ∷ xs) ys h k = let q = both (p x) (list_all p xs) h in rw (q.0, all_append p xs ys q.1 k) refl

-- what holds of each byte of one kind holds of each of another
pub all_weaker : (p q : ℕ → Bool) → ((b : ℕ) → p b ≡ true → q b ≡ true) → (xs : List ℕ) → list_all p xs ≡ true → list_all q xs ≡ true
all_weaker p q f [] h = refl
all_weaker p q f (x ∷ xs) h = let k = both (p x) (list_all p xs) h in rw (f x k.0, all_weaker p q f xs k.1) refl
