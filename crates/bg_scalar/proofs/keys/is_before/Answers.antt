use Rattle.std.proofs.Common.{◌∙◌, arith}
use Rattle.bg_scalar.proofs.KeyParts.{ends}
use Rattle.bg_scalar.proofs.keys.is_before.Goals as goal
use Rattle.bg_scalar.proofs.keys.is_before.Goals.{then-loop-i-test+else-i-b, else-loop-i-test}

pub returns : goal.returns
returns c =
    let a = c.args.a.now in
    let b = c.args.b.now in
    let i = c.loop-i.i in
    elim c.loop-i-test.branch [
      | then-loop-i-test+else-i-b w ↦ ends a b i (λ l m. omega (arith, m, w.if-i-b.false)) ∙ c.loop-i.invariant
      | else-loop-i-test w ↦ ends a b i (λ l m. omega (arith, l, w.loop-i-test.false)) ∙ c.loop-i.invariant
    ]
