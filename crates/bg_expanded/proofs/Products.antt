-- How often parameters are read, times what they have.
use Rattle.std.proofs.Common.{◌≡◌, ℕ, zero, suc, ◌+◌, ◌*◌, ◌^◌, ◌-◌, ◌<◌, min, List, [], ◌∷◌, ◌++◌, length, get_or, set, drop, replicate, refl, ap, arith, zero-mul, mul-one, add-mul, add-one}
use Rattle.bg_expanded.specs.Weights.{total}
use Rattle.bg_expanded.specs.Bodies.{IsAlike, product, paired}
use Rattle.bg_expanded.proofs.Alike.{alike_times, alike_saturated}

none : (n : ℕ) (ws : List ℕ) → product (replicate n 0) ws ≡ 0
none zero ws = refl
none (suc n) [] = let h = none n [] in omega arith
none (suc n) (w ∷ ws) = let h = none n ws in let z = zero-mul w in omega arith

pub product_room : (rs : List ℕ) (n : ℕ) (ws : List ℕ) → product (rs ++ replicate n 0) ws ≡ product rs ws
product_room [] n ws = none n ws
product_room (r ∷ rs) n [] = ap (λ (m : ℕ). r + m) (product_room rs n [])
product_room (r ∷ rs) n (w ∷ ws) = ap (λ (m : ℕ). r * w + m) (product_room rs n ws)

pub product_set : (rs : List ℕ) (j t : ℕ) (ws : List ℕ) → j < length rs → IsAlike (product (set rs j (min (get_or rs j 0 + t) (2 ^ 64 - 1))) ws) (product rs ws + t * get_or ws j 1)
product_set [] j t ws h = absurd (omega arith)
product_set (r ∷ rs) zero t [] h = let e = mul-one t in omega arith
product_set (r ∷ rs) zero t (w ∷ ws) h =
    let a = alike_times (min (r + t) (2 ^ 64 - 1)) (r + t) w (alike_saturated (r + t)) in
    let e = add-mul r t w in
    omega (arith, a)
product_set (r ∷ rs) (suc j) t [] h = let k = product_set rs j t [] (omega arith) in omega (arith, k)
product_set (r ∷ rs) (suc j) t (w ∷ ws) h = let k = product_set rs j t ws (omega arith) in omega (arith, k)

-- what is past the arguments is read once each time
pub past : (rs : List ℕ) → product rs [] ≡ total rs
past [] = refl
past (r ∷ rs) = ap (λ (m : ℕ). r + m) (past rs)

pub product_parts : (rs ws : List ℕ) → product rs ws ≡ total (drop (length ws) rs) + paired rs ws
product_parts [] [] = refl
product_parts [] (w ∷ ws) = refl
product_parts (r ∷ rs) [] = let e = past (r ∷ rs) in omega arith
product_parts (r ∷ rs) (w ∷ ws) = let h = product_parts rs ws in omega arith

pub paired_here : (rs : List ℕ) (k w : ℕ) (ws : List ℕ) → paired (drop k rs) (w ∷ ws) ≡ get_or rs k 0 * w + paired (drop (k + 1) rs) ws
paired_here rs k w ws = rw (add-one k) (here rs k)
  where
    here : (rs : List ℕ) (k : ℕ) → paired (drop k rs) (w ∷ ws) ≡ get_or rs k 0 * w + paired (drop (suc k) rs) ws
    here [] zero = let z = zero-mul w in omega arith
    here [] (suc k) = let z = zero-mul w in omega arith
    here (r ∷ rs) zero = refl
    here (r ∷ rs) (suc k) = here rs k

pub paired_none : (rs : List ℕ) → paired rs [] ≡ 0
paired_none [] = refl
paired_none (r ∷ rs) = refl
