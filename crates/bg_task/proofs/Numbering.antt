-- Targets, one after the other.
use Rattle.std.proofs.Common.{◌≡◌, ℕ, zero, suc, ◌+◌, ◌<◌, ◌≤◌, Bool, true, false, List, [], ◌∷◌, ◌++◌, ℤ, pos, ◌+ℤ◌, length, drop, refl, sym, ap, ◌∙◌, cond, append_assoc, append-nil, add-one, arith}
use Rattle.std.specs.Prelude.{slice_get, unwrap_or}
use Rattle.std.proofs.Math.ListN.{drop_of_length-le}
use Rattle.bg_ast.specs.Values.{Ty, BoolTy}
use Rattle.bg_slice.specs.Marks.{marked}
use Rattle.bg_task.specs.Targets.{spread_from}
use Rattle.bg_task.specs.Spread.{both, apart_at}

pub marked_length : (p : ℕ → Bool) (n : ℕ) (ms : List Bool) → length (marked p n ms) ≡ length ms
marked_length p n [] = refl
marked_length p n (b ∷ ms) = ap (λ k. suc k) (marked_length p (suc n) ms)

got : {A : Type 0} (xs : List A) (i : ℕ) (d : A) → i < length xs → drop i xs ≡ unwrap_or (slice_get xs i) d ∷ drop (suc i) xs
got [] i d l = absurd (omega (arith, l))
got (x ∷ xs) zero d l = refl
got (x ∷ xs) (suc i) d l = got xs i d (omega (arith, l))

both_next : (hs : List Ty) (ms : List Bool) (i : ℕ) → i < length hs → i < length ms → both (drop i hs) (drop i ms) ≡ apart_at hs ms i ∷ both (drop (i + 1) hs) (drop (i + 1) ms)
both_next hs ms i l k =
    ap (λ x. both x (drop i ms)) (got hs i BoolTy l)
    ∙ ap (both (unwrap_or (slice_get hs i) BoolTy ∷ drop (suc i) hs)) (got ms i false k)
    ∙ ap (λ n. apart_at hs ms i ∷ both (drop n hs) (drop n ms)) (sym (add-one i))

pub spread_more : (b : Bool) (z : ℤ) (bs : List Bool) → spread_from z (b ∷ bs) ≡ cond b z (pos 0) ∷ spread_from (cond b (z +ℤ pos 1) z) bs
spread_more true z bs = refl
spread_more false z bs = refl

pub one_spread : (hs : List Ty) (ms : List Bool) (i : ℕ) (made new : List ℤ) (z y t : ℤ) (b : Bool) (whole : List ℤ) → i < length hs → i < length ms → made ++ spread_from z (both (drop i hs) (drop i ms)) ≡ whole → b ≡ apart_at hs ms i → t ≡ cond b z (pos 0) → new ≡ made ++ t ∷ [] → y ≡ cond b (z +ℤ pos 1) z → new ++ spread_from y (both (drop (i + 1) hs) (drop (i + 1) ms)) ≡ whole
one_spread hs ms i made new z y t b whole l k known apart its is next =
    ap (λ x. x ++ spread_from y (both (drop (i + 1) hs) (drop (i + 1) ms))) is
    ∙ append_assoc made (t ∷ []) (spread_from y (both (drop (i + 1) hs) (drop (i + 1) ms)))
    ∙ ap (λ x. made ++ x ∷ spread_from y (both (drop (i + 1) hs) (drop (i + 1) ms))) its
    ∙ ap (λ x. made ++ cond b z (pos 0) ∷ spread_from x (both (drop (i + 1) hs) (drop (i + 1) ms))) next
    ∙ ap (λ x. made ++ x) (sym (spread_more b z (both (drop (i + 1) hs) (drop (i + 1) ms))))
    ∙ ap (λ x. made ++ spread_from z (x ∷ both (drop (i + 1) hs) (drop (i + 1) ms))) apart
    ∙ sym (ap (λ x. made ++ spread_from z x) (both_next hs ms i l k))
    ∙ known

pub none_spread : (hs : List Ty) (ms : List Bool) (i : ℕ) (made : List ℤ) (z : ℤ) (whole : List ℤ) → length hs ≤ i → made ++ spread_from z (both (drop i hs) (drop i ms)) ≡ whole → made ≡ whole
none_spread hs ms i made z whole l known =
    sym (append-nil made) ∙ ap (λ hs. made ++ spread_from z (both hs (drop i ms))) (sym (drop_of_length-le hs l)) ∙ known
