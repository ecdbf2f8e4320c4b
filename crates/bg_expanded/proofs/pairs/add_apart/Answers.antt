use Rattle.std.proofs.Common.{◌≡◌, ℕ, ◌+◌, ◌*◌, ◌^◌, ◌-◌, min, ap, ◌∙◌, mul_comm}
use Rattle.bg_expanded.specs.Bodies.{worth}
use Rattle.bg_expanded.proofs.Alike.{alike_saturated, as_many}
use Rattle.bg_expanded.proofs.pairs.add_apart.Goals as goal

pub returns : goal.returns
returns c ws =
    let t = c.args.n in
    let old = worth c.args.count.now ws in
    let nodes : c.saturating_mul.result ≡ min (3 * t) (2 ^ 64 - 1) =
    c.saturating_mul.ensures ∙ ap (λ (n : ℕ). min n (2 ^ 64 - 1)) (mul_comm t 3) in
    c.add_own.ensures ws
    ∙ (ap (λ (n : ℕ). min 1000001 (old + n)) nodes ∙ as_many old (min (3 * t) (2 ^ 64 - 1)) (3 * t) (alike_saturated (3 * t)))
