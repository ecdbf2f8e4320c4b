use Rattle.std.proofs.Common.{◌≡◌, ◌++◌, drop, map}
use Rattle.bg_ast.specs.Views.{proc_of}
use Rattle.bg_places.specs.Checks.{required}
use Rattle.bg_places.proofs.crowded.required.Given as goal

abbrev pub invariant-loop-q : goal.invariant-loop-q
invariant-loop-q l = l.made.items ++ map required (map proc_of (drop l.q-index l.procedures)) ≡ map required (map proc_of l.procedures)
