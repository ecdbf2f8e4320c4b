-- The chunks of a list.
use Rattle.std.proofs.Common.{◌≡◌, ℕ, suc, ◌+◌, ◌*◌, ◌/◌, ◌%◌, ◌<◌, ◌≤◌, min, List, length, take, drop, refl, ap, ◌∙◌, subst, inl, inr, arith}
use Rattle.std.proofs.lemmas.List.{length-take, length-drop, get_or-take, get_or-drop}
use Rattle.std.proofs.lemmas.Nat.{div-add-mod', mod-mul-add, mod_below}
use Rattle.std.proofs.Math.Nat.{mul-le-mul_right, suc-mul}
use Rattle.std.proofs.lemmas.Bool.{cases_lt}
use Rattle.std.specs.Fork.{IsChunk}

-- a chunk ends where the next one begins
ends : (n h size : ℕ) → n < h → n * size + size ≤ h * size
ends n h size l =
    let up : suc n ≤ h = omega (arith, l) in
    let m : suc n * size ≤ h * size = mul-le-mul_right size up in
    let s : suc n * size ≡ n * size + size = suc-mul n size in
    omega (arith, m, s)

below : (n h size : ℕ) → n * size < h * size → n < h
below n h size l = elim (cases_lt n h) [ inl a ↦ a | inr b ↦ absurd (let m : h * size ≤ n * size = mul-le-mul_right size b in omega (arith, l, m)) ]

pub begins : (n count size len : ℕ) → n < count → count * size < len + size → n * size < len
begins n count size len l k = let e = ends n count size l in omega (arith, e, k)

-- so many chunks reach less than one chunk behind the end
pub spans : (count len size : ℕ) → 0 < size → count ≡ len / size + min 1 (len % size) → count * size < len + size
spans count len size p is =
    let a : len / size * size + len % size ≡ len = div-add-mod' len size in
    let b : len % size < size = mod_below len size p in
    elim (cases_lt 0 (len % size)) [
      | inl some ↦
          let e : count ≡ suc (len / size) = omega (arith, is, some) in
          let w : count * size ≡ len / size * size + size = ap (λ (n : ℕ). n * size) e ∙ suc-mul (len / size) size in
          omega (arith, a, some, w)
      | inr none ↦
          let e : count ≡ len / size = omega (arith, is, none) in
          let w : count * size ≡ len / size * size = ap (λ (n : ℕ). n * size) e in
          omega (arith, a, w, p)
    ]

pub is_chunk : {A : Type 0} (xs : List A) (size n : ℕ) → 0 < size → n * size < length xs → IsChunk xs size (n * size) (take size (drop (n * size) xs))
is_chunk xs size n p l =
    let a = length-take size (drop (n * size) xs) in
    let b = length-drop (n * size) xs in
    record {
      value = refl;
      start_is_multiple = let z : n * size + 0 ≡ n * size = omega arith in subst (λ (k : ℕ). k % size ≡ 0) z (mod-mul-add n size 0 p);
      len = omega (arith, a, b);
      full_size =
          λ z.
          let q = length xs / size in
          let d = div-add-mod' (length xs) size in
          let e : q * size ≡ length xs = omega (arith, d, z) in
          let m = ends n q size (below n q size (omega (arith, e, l))) in
          omega (arith, a, b, e, m);
      nonempty = omega (arith, a, b, p, l);
      at_most_size = omega (arith, a);
      in_bounds = omega (arith, a, b, l);
      elements = λ k d h. get_or-take size (drop (n * size) xs) k d (omega (arith, a, h)) ∙ get_or-drop (n * size) xs k d;
    }
