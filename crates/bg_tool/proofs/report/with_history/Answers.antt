use Rattle.std.proofs.Common.{◌++◌, List, ℕ, ap, ◌∙◌}
use Rattle.bg_tool.proofs.report.with_history.Goals as goal

pub returns : goal.returns
returns c =
    (c.in_ok-history.history.items, c.in_ok-extend_from_slice.ensures.items ∙ ap (λ (x : List ℕ). c.args.text.items ++ x) c.deref.ensures.value, c.in_ok-history.ensures)
