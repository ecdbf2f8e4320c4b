-- Numbers that are equal as far as one is too many.
use Rattle.std.proofs.Common.{◌≡◌, ℕ, zero, suc, ◌+◌, ◌*◌, ◌^◌, ◌-◌, ◌≤◌, min, ap, ◌∙◌, arith, mul-zero, mul-suc, mul-add, mul_assoc, mul_comm}
use mathlib.Core.Logic.{dite}
use native.Mathlib.Decide.{dec_le}
use Rattle.bg_expanded.specs.Bodies.{IsAlike}

pub alike_sum : (a b c d : ℕ) → IsAlike a c → IsAlike b d → IsAlike (a + b) (c + d)
alike_sum a b c d h k = omega (arith, h, k)

-- a product, of which both first numbers are too large
large : (a b n : ℕ) → 1000001 ≤ a → 1000001 ≤ b → IsAlike (a * n) (b * n)
large a b zero h k = let x = mul-zero a in let y = mul-zero b in omega arith
large a b (suc n) h k = let x = mul-suc a n in let y = mul-suc b n in omega arith

pub alike_times : (a b n : ℕ) → IsAlike a b → IsAlike (a * n) (b * n)
alike_times a b n h =
    dite (dec_le 1000001 a)
    (λ l. large a b n l (omega (arith, h)))
    (λ l. let same : a ≡ b = omega (arith, h) in ap (λ (m : ℕ). min 1000001 (m * n)) same)

pub alike_saturated : (a : ℕ) → IsAlike (min a (2 ^ 64 - 1)) a
alike_saturated a = omega arith

-- so many times, where each is so many times
pub alike_often : (t a n : ℕ) → IsAlike (min (t * a) (2 ^ 64 - 1) * n) (t * (a * n))
alike_often t a n = alike_times (min (t * a) (2 ^ 64 - 1)) (t * a) n (alike_saturated (t * a)) ∙ ap (λ (m : ℕ). min 1000001 m) (mul_assoc t a n)

-- one item more is added
pub added_more : (t x rest here now next whole : ℕ) → here ≡ x + rest → IsAlike (now + t * here) whole → IsAlike next (now + t * x) → IsAlike (next + t * rest) whole
added_more t x rest here now next whole s h k = let e = ap (λ (n : ℕ). t * n) s ∙ mul-add t x rest in omega (arith, h, k)

-- more are added to as many
pub as_many : (a b c : ℕ) → IsAlike b c → IsAlike (a + b) (a + c)
as_many a b c h = omega (arith, h)

-- two are added
pub added_two : (t a b old mid new : ℕ) → IsAlike mid (old + t * a) → IsAlike new (mid + t * b) → IsAlike new (old + t * (a + b))
added_two t a b old mid new h k = let e = mul-add t a b in omega (arith, h, k)

pub added_suc : (t a old mid new : ℕ) → IsAlike mid (old + t) → IsAlike new (mid + t * a) → IsAlike new (old + t * suc a)
added_suc t a old mid new h k = let e = mul-suc t a in omega (arith, h, k)

pub added_three : (t a b old own mid new : ℕ) → IsAlike own (old + t) → IsAlike mid (own + t * a) → IsAlike new (mid + t * b) → IsAlike new (old + t * suc (a + b))
added_three t a b old own mid new h k l = let e = mul-suc t (a + b) in let f = mul-add t a b in omega (arith, h, k, l)

pub as_form : (t m n old new : ℕ) → IsAlike new (old + t * m) → m ≡ n → IsAlike new (old + t * n)
as_form t m n old new h e = h ∙ ap (λ (x : ℕ). min 1000001 (old + t * x)) e

-- what a number of times is, where each is known as far as one is too many
pub times_alike : (t x y : ℕ) → IsAlike x y → IsAlike (min (t * x) (2 ^ 64 - 1)) (t * y)
times_alike t x y h =
    alike_saturated (t * x) ∙ (ap (min 1000001) (mul_comm t x) ∙ (alike_times x y t h ∙ ap (min 1000001) (mul_comm y t)))

pub added_body : (t own rest p old mid end new n m : ℕ) → IsAlike n (t * own) → IsAlike m (t * rest) → IsAlike mid (old + n) → IsAlike end (mid + m) → IsAlike new (end + t * p) → IsAlike new (old + t * (own + (rest + p)))
added_body t own rest p old mid end new n m a b c d e =
    let f = mul-add t own (rest + p) in let g = mul-add t rest p in omega (arith, a, b, c, d, e)
