use Rattle.std.proofs.Common.{◌≡◌, drop, map}
use Rattle.bg_ast.specs.Views.{declared_of}
use Rattle.bg_guess.specs.Lists.{has_name}
use Rattle.bg_guess.proofs.frame.has_name.Given as goal

abbrev pub invariant-loop-d : goal.invariant-loop-d
invariant-loop-d l = has_name l.name (map declared_of (drop l.d-index l.declared)) ≡ has_name l.name (map declared_of l.declared)
