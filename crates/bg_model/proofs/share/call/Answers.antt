use Rattle.std.proofs.Common.{rules}
use Rattle.bg_ast.specs.Execution.{AtCall}
use Rattle.bg_model.proofs.Sharing.{call_is}
use Rattle.bg_model.proofs.share.call.Goals as goal

pub returns : goal.returns
returns c =
    λ p. call_is p c.args.k.now c.args.q.now c.args.xs.now _ c.checks.result (rw (← c.deref.ensures.value) (c.checks.ensures (AtCall c.args.k.now.site))) (search rules) (search rules) (search rules)
