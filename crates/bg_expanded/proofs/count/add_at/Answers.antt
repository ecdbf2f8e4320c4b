use Rattle.std.proofs.Common.{◌≡◌, ℕ, ◌+◌, ◌*◌, ◌^◌, ◌-◌, min, set, get_or, subst, sym, ap, ◌∙◌}
use Rattle.bg_expanded.specs.Bodies.{IsAlike, product}
use Rattle.bg_expanded.proofs.Products.{product_set}
use Rattle.bg_expanded.proofs.Within.{within_or}
use Rattle.bg_expanded.proofs.count.add_at.Goals as goal

pub returns : goal.returns
returns c ws =
    let rs = c.args.reads.now.items in
    let j = c.args.place in
    let t = c.args.times in
    let read : c.index.result.now ≡ get_or rs j 0 = c.index.ensures ∙ within_or rs j c.index.result.now 0 c.requires in
    let is : c.saturating_add.result ≡ min (get_or rs j 0 + t) (2 ^ 64 - 1) = c.saturating_add.ensures ∙ ap (λ (n : ℕ). min (n + t) (2 ^ 64 - 1)) read in
    let P : ℕ → Type 0 = λ n. IsAlike (product (set rs j n) ws) (product rs ws + t * get_or ws j 1) in
    subst P (sym is) (product_set rs j t ws c.requires)
