use Rattle.std.proofs.Common.{ℕ, List, ◌-◌, ◌++◌, ap, ◌∙◌, replicate, arith}
use Rattle.std.proofs.lemmas.List.{take_all}
use Rattle.bg_expanded.specs.Bodies.{product}
use Rattle.bg_expanded.proofs.Products.{product_room}
use Rattle.bg_expanded.proofs.count.widen.Goals as goal

pub returns-in_ok-resize-clause-same : goal.returns-in_ok-resize-clause-same
returns-in_ok-resize-clause-same c ws =
    let rs = c.args.reads.now.items in
    ap (λ (l : List ℕ). product l ws) c.in_ok-resize.ensures.items
    ∙ (ap (λ (l : List ℕ). product (l ++ replicate (c.args.n - c.args.reads.now.len) 0) ws) (take_all c.args.n rs (omega arith)) ∙ product_room rs (c.args.n - c.args.reads.now.len) ws)
