use Rattle.std.proofs.Common.{◌≡◌, ◌++◌, drop, map}
use Rattle.bg_ast.specs.Views.{fun_of}
use Rattle.bg_inference.specs.Outcomes.{has_body}
use Rattle.bg_inference.proofs.inference.bodies_of.Given as goal

abbrev pub invariant-loop-function : goal.invariant-loop-function
invariant-loop-function l = l.made.items ++ map has_body (map fun_of (drop l.function-index l.functions)) ≡ map has_body (map fun_of l.functions)
