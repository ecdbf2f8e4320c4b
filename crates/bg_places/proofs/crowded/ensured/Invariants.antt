use Rattle.std.proofs.Common.{◌≡◌, ◌++◌, drop, map}
use Rattle.bg_ast.specs.Views.{proc_of}
use Rattle.bg_places.specs.Checks.{ensured}
use Rattle.bg_places.proofs.crowded.ensured.Given as goal

abbrev pub invariant-loop-q : goal.invariant-loop-q
invariant-loop-q l = l.made.items ++ map ensured (map proc_of (drop l.q-index l.procedures)) ≡ map ensured (map proc_of l.procedures)
