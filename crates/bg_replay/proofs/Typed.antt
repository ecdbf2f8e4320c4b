-- Values of the variables' types: after a write, behind others, and as they are chosen.
use Rattle.std.proofs.Common.{◌≡◌, ℕ, zero, suc, Bool, true, false, List, [], ◌∷◌, ◌++◌, Option, Some, None, refl, subst}
use Rattle.std.specs.Prelude.{if◌then◌else◌, slice_get, slice_set}
use Rattle.bg_ast.specs.Values.{Val, Ty, is_of}
use Rattle.bg_ast.specs.Execution.{Choice, Branch, Chosen}
use Rattle.bg_ast.specs.Syntax.{Decl}
use Rattle.bg_sense.specs.Types.{are_of, types_of}
use Rattle.bg_sense.specs.Variables.{type_in}
use Rattle.bg_sense.proofs.Bools.{and_left, and_right, both}
use Rattle.bg_replay.specs.Acts.{taken, behind_one, cons_o, chosen}

-- a value is written to a variable of its type
pub typed_set : (ds : List Decl) (xs : List Val) (k : ℕ) (y : Val) → are_of (types_of ds) xs ≡ true → is_of (type_in (slice_get ds k)) y ≡ true → are_of (types_of ds) (slice_set xs k y) ≡ true
typed_set [] [] k y h t = refl
typed_set [] (x ∷ xs) k y h t = absurd (let bad : ⊥ = cc in bad)
typed_set (d ∷ ds) [] k y h t = absurd (let bad : ⊥ = cc in bad)
typed_set (d ∷ ds) (x ∷ xs) zero y h t =
    both (is_of d.ty y) (are_of (types_of ds) xs) t (and_right (is_of d.ty x) (are_of (types_of ds) xs) h)
typed_set (d ∷ ds) (x ∷ xs) (suc k) y h t =
    both (is_of d.ty x) (are_of (types_of ds) (slice_set xs k y)) (and_left (is_of d.ty x) (are_of (types_of ds) xs) h)
    (typed_set ds xs k y (and_right (is_of d.ty x) (are_of (types_of ds) xs) h) t)

-- values behind values
pub typed_join : (ts us : List Ty) (xs ys : List Val) → are_of ts xs ≡ true → are_of us ys ≡ true → are_of (ts ++ us) (xs ++ ys) ≡ true
typed_join [] us [] ys h k = k
typed_join [] us (x ∷ xs) ys h k = absurd (let bad : ⊥ = cc in bad)
typed_join (t ∷ ts) us [] ys h k = absurd (let bad : ⊥ = cc in bad)
typed_join (t ∷ ts) us (x ∷ xs) ys h k =
    both (is_of t x) (are_of (ts ++ us) (xs ++ ys)) (and_left (is_of t x) (are_of ts xs) h)
    (typed_join ts us xs ys (and_right (is_of t x) (are_of ts xs) h) k)

taken_if : (b : Bool) (x y : Val) → (if b then Some x else None) ≡ Some y → (b ≡ true) × (x ≡ y)
taken_if true x y e = let same : x ≡ y = cc in (refl, same)
taken_if false x y e = absurd cc

-- what is chosen is of the variable's type
pub taken_typed : (t : Ty) (cs : List Choice) (y : Val) → taken t cs ≡ Some y → is_of t y ≡ true
taken_typed t [] y e = absurd cc
taken_typed t (Branch k ∷ cs) y e = absurd cc
taken_typed t (Chosen x ∷ cs) y e =
    let b = taken_if (is_of t x) x y e in
    subst (λ z. is_of t z ≡ true) b.1 b.0

cons_typed : (t : Ty) (ts : List Ty) (o : Option Val) (l : Option (List Val)) (ys : List Val) → ((y : Val) → o ≡ Some y → is_of t y ≡ true) → ((zs : List Val) → l ≡ Some zs → are_of ts zs ≡ true) → cons_o o l ≡ Some ys → are_of (t ∷ ts) ys ≡ true
cons_typed t ts None l ys h k e = absurd cc
cons_typed t ts (Some x) None ys h k e = absurd cc
cons_typed t ts (Some x) (Some xs) ys h k e =
    let same : x ∷ xs ≡ ys = cc in
    subst (λ zs. are_of (t ∷ ts) zs ≡ true) same (both (is_of t x) (are_of ts xs) (h x refl) (k xs refl))

pub chosen_typed : (ds : List Decl) (cs : List Choice) (ys : List Val) → chosen (types_of ds) cs ≡ Some ys → are_of (types_of ds) ys ≡ true
chosen_typed [] cs ys e = let same : [] ≡ ys = cc in subst (λ zs. are_of [] zs ≡ true) same refl
chosen_typed (d ∷ ds) cs ys e =
    cons_typed d.ty (types_of ds) (taken d.ty cs) (chosen (types_of ds) (behind_one cs)) ys (taken_typed d.ty cs) (chosen_typed ds (behind_one cs)) e
