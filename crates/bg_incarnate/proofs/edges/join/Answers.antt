use Rattle.std.proofs.Common.{◌++◌, drop, sym, ap, ◌∙◌, append-nil, arith}
use Rattle.bg_incarnate.specs.Views.{cmds_of}
use Rattle.bg_incarnate.proofs.Joins.{joins_past}
use Rattle.bg_incarnate.proofs.edges.join.Goals as goal

pub returns-then-k-there : goal.returns-then-k-there
returns-then-k-there c =
    let out = cmds_of c.loop-k.out.items in
    sym (append-nil out)
    ∙ ap (λ l. out ++ l) (sym (joins_past (drop c.loop-k.k c.args.here.now) c.args.there.now c.loop-k.k (omega (arith, c.if-k-there.true))))
    ∙ c.loop-k.invariant
