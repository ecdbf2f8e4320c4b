-- What is told of a cause.
use Rattle.std.specs.Prelude.{ℕ, ◌+◌, length}
use Rattle.bg_base.specs.declared.exact.OutOfRange.{OutOfRange}
use Rattle.bg_tree.specs.declared.outcome.Beyond.{Beyond}
use Rattle.bg_tree.specs.declared.outcome.Beyond.TheVariants.{Elimination, Value}
use Rattle.bg_tree.specs.declared.outcome.Why as tree
use Rattle.bg_tree.specs.declared.outcome.Why.TheVariants.{Nodes, Rows, Range}
use Rattle.bg_sound.specs.Told as t
use Rattle.bg_check.specs.declared.verdict.Cause.{Cause}
use Rattle.bg_check.specs.declared.verdict.Cause.TheVariants.{Search, Rounds, Form, Argument, Replay}
use Rattle.bg_check.specs.declared.kept.Kept.{Kept}
use Rattle.bg_check.specs.declared.kept.Kept.TheVariants as kept

-- the operation of an elimination, or of a value
abbrev pub operation_of : Beyond → OutOfRange
operation_of (Elimination o further) = further.operation
operation_of (Value o spots far) = far.operation

-- where a search ends behind so many rounds, each of which counts as a node: the budget of nodes, the number of rows that are kept, or
-- the operation
abbrev pub end_of : ℕ → tree.Why → t.Why
end_of n (Nodes parts budget) = t.Nodes (budget + n)
end_of n (Rows path o) = t.Rows (length o.reasons.items)
end_of n (Range path beyond) = t.Range (operation_of beyond)

-- the words of a cause behind so many rounds: where its search ends, how many rounds there are, or its operation
abbrev pub why_of : ℕ → Cause → t.Why
why_of n (Search why) = end_of n why
why_of n Rounds = t.Nodes n
why_of n (Form o) = t.Range o
why_of n (Argument leaf o) = t.Range o
why_of n (Replay cex o) = t.Range o

abbrev pub told_kept : Kept → t.Why
told_kept (kept.Nodes n) = t.Nodes n
told_kept (kept.Rows n) = t.Rows n
told_kept (kept.Range o) = t.Range o
