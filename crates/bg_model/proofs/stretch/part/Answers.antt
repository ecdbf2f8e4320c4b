use Rattle.std.proofs.Common.{drop, ap, ◌∙◌}
use Rattle.bg_model.proofs.Stretches.{without}
use Rattle.bg_model.proofs.stretch.part.Goals as goal

pub returns : goal.returns
returns c =
    without c.args.many c.args.b.now c.behind.result.now c.deref-2.result.now (c.behind.ensures ∙ ap (drop c.args.many) c.deref.ensures.value) c.deref-2.ensures.value
