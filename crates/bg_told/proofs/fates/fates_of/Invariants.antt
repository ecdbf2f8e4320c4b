use Rattle.std.proofs.Common.{◌≡◌, map}
use Rattle.bg_ast.specs.Meaning.{meaning_of}
use Rattle.bg_ast.specs.Views.{program_of}
use Rattle.bg_check.specs.Kept.{why_of}
use Rattle.bg_houdini.specs.Told.{fate, each_below}
use Rattle.bg_told.specs.Fates.{told_fate}
use Rattle.bg_told.proofs.fates.fates_of.Given as goal

abbrev pub invariant-loop-b : goal.invariant-loop-b
invariant-loop-b l = map told_fate l.made.items ≡ each_below l.b (fate why_of (meaning_of (program_of l.program)) l.outcome)
