use Rattle.std.proofs.Common.{◌≡◌, map, take}
use Rattle.bg_ast.specs.Views.{bracket_view, bracket_of}
use Rattle.bg_renamed.specs.Views.{env_of}
use Rattle.bg_renamed.specs.Written.{renamed_select}
use Rattle.bg_renamed.proofs.targets.selects.Given as goal

abbrev pub invariant-loop-b : goal.invariant-loop-b
invariant-loop-b l = map bracket_view l.made.items ≡ map (renamed_select (env_of l.env)) (map bracket_of (take l.b-index l.brackets))
