use Rattle.std.proofs.Common.{◌≡◌, ◌++◌, drop, map}
use Rattle.bg_ast.specs.Views as view
use Rattle.bg_ast.specs.Views.{bracket_of}
use Rattle.bg_ast.specs.Syntax.{Read}
use Rattle.bg_scalar.specs.Worths.{worth}
use Rattle.bg_scalar.specs.Views.{seen_of, found_in}
use Rattle.bg_replay.specs.Levels.{level_of, levels}
use Rattle.bg_replay.proofs.values.levels.Given as goal

abbrev pub invariant-loop-b : goal.invariant-loop-b
invariant-loop-b l =
    map level_of l.made.items ++ levels (found_in l.map) (map bracket_of (drop l.b-index l.target.brackets.items)) (seen_of l.sight) ≡ levels (worth (Read (view.var_of l.target.placed.variable)) (seen_of l.sight)) (map bracket_of l.target.brackets.items) (seen_of l.sight)
