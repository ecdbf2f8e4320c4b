-- Lists of which one ends before the other.
use Rattle.std.proofs.Common.{◌≡◌, ◌≤◌, ℕ, zero, suc, List, [], ◌∷◌, length, map, drop, refl, arith}
use Rattle.bg_ast.specs.Values.{Ty}
use Rattle.bg_flow.specs.Blocks.{Block}
use Rattle.bg_sorts.specs.Arrivals.{with_new, after_blocks}

pub no_types : (js : List ℕ) (made : List Ty) → with_new js [] made ≡ made
no_types [] made = refl
no_types (j ∷ js) made = refl

-- no type is left
pub new_past : {A : Type 0} (f : A → Ty) (js : List ℕ) (ss : List A) (made : List Ty) (i : ℕ) → length ss ≤ i → with_new js (map f (drop i ss)) made ≡ made
new_past f js [] made zero h = no_types js made
new_past f js [] made (suc i) h = no_types js made
new_past f js (s ∷ ss) made zero h = absurd (omega (arith, h))
new_past f js (s ∷ ss) made (suc i) h = new_past f js ss made i (omega (arith, h))

no_blocks : (gs fs : List Ty) (later : List (List ℕ × List ℕ)) (made : List Ty) → after_blocks gs fs later [] made ≡ made
no_blocks gs fs [] made = refl
no_blocks gs fs (at ∷ later) made = refl

-- no block is left
pub blocks_past : {A : Type 0} (f : A → Block) (gs fs : List Ty) (later : List (List ℕ × List ℕ)) (bs : List A) (made : List Ty) (i : ℕ) → length bs ≤ i → after_blocks gs fs later (map f (drop i bs)) made ≡ made
blocks_past f gs fs later [] made zero h = no_blocks gs fs later made
blocks_past f gs fs later [] made (suc i) h = no_blocks gs fs later made
blocks_past f gs fs later (b ∷ bs) made zero h = absurd (omega (arith, h))
blocks_past f gs fs later (b ∷ bs) made (suc i) h = blocks_past f gs fs later bs made i (omega (arith, h))
