-- One part more.
use Rattle.std.proofs.Common.{◌≡◌, ◌+◌, ◌*◌, ◌/◌, ◌%◌, ℕ, zero, suc, List, [], ◌++◌, Some, Option, flat_map, refl, sym, ap, ap₂, ◌∙◌, append_assoc, append-nil, arith}
use Rattle.std.specs.List.{range_with_len}
use Rattle.bg_gen.specs.Generated.{next, state_after, before, start_of, guess_of, part, generated}

one_behind : (f : ℕ → List ℕ) (a n : ℕ) → flat_map f (range_with_len a (suc n)) ≡ flat_map f (range_with_len a n) ++ f (a + n)
one_behind f a zero =
    let e : a ≡ a + 0 = omega arith in
    append-nil (f a) ∙ ap f e
one_behind f a (suc n) =
    let e : a + 1 + n ≡ a + suc n = omega arith in
    ap (λ xs. f a ++ xs) (one_behind f (a + 1) n ∙ ap (λ m. flat_map f (range_with_len (a + 1) n) ++ f m) e) ∙ sym (append_assoc (f a) (flat_map f (range_with_len (a + 1) n)) (f (a + suc n)))

abbrev part_of : ℕ → ℕ → List ℕ
part_of seed k = part (before seed k) k (start_of seed k) (guess_of seed k)

one_more : (seed k : ℕ) → generated seed k ++ part_of seed k ≡ generated seed (suc k)
one_more seed k =
    let e : k ≡ 0 + k = omega arith in
    ap (λ m. generated seed k ++ part_of seed m) e ∙ sym (one_behind (part_of seed) 0 k)

-- what a turn of the loop leaves
pub record Turned (seed k last a : ℕ) (made : List ℕ) : Type 0 where
  pub made-is : made ≡ generated seed (k + 1)
  pub last-is : last ≡ state_after seed (2 * (k + 1))
  pub before-is : Some (k, a) ≡ before seed (k + 1)

pub turned : (seed k state low last a b : ℕ) (out made : List ℕ) (prev : Option (ℕ × ℕ)) → out ≡ generated seed k → state ≡ state_after seed (2 * k) → prev ≡ before seed k → low ≡ next state → last ≡ next low → a ≡ low / 65536 % 10 → b ≡ a + last / 65536 % 3 → made ≡ out ++ part prev k a b → Turned seed k last a made
turned seed k state low last a b out made prev o s p l m ha hb h =
    let e : low ≡ state_after seed (suc (2 * k)) = l ∙ ap next s in
    let f : last ≡ state_after seed (suc (suc (2 * k))) = m ∙ ap next e in
    let two : suc (suc (2 * k)) ≡ 2 * (k + 1) = omega arith in
    let one : suc k ≡ k + 1 = omega arith in
    let a-is : a ≡ start_of seed k = ha ∙ ap (λ x. x / 65536 % 10) e in
    let b-is : b ≡ guess_of seed k = hb ∙ ap₂ (λ x y. x + y / 65536 % 3) a-is f in
    record {
      made-is = h ∙ rw (o, p, a-is, b-is) (one_more seed k) ∙ ap (generated seed) one;
      last-is = f ∙ ap (state_after seed) two;
      before-is = ap (λ x. Some (k, x)) a-is ∙ ap (before seed) one;
    }
