use Rattle.std.proofs.Common.{◌≡◌, drop, map}
use Rattle.bg_ast.specs.Views.{target_of, exs_in}
use Rattle.bg_ast.specs.Meaning.{values_of}
use Rattle.bg_scalar.specs.Lists.{onto, worths}
use Rattle.bg_scalar.specs.Views.{seen_of, vals_in}
use Rattle.bg_replay.proofs.values.values_for.Given as goal

abbrev pub invariant-loop-i : goal.invariant-loop-i
invariant-loop-i l =
    onto (vals_in l.made.items) (worths (values_of (map target_of (drop l.i l.targets)) (exs_in (drop l.i l.es))) (seen_of l.sight)) ≡ worths (values_of (map target_of l.targets) (exs_in l.es)) (seen_of l.sight)
