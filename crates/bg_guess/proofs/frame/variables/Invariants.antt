use Rattle.std.proofs.Common.{◌≡◌, ◌++◌, drop, map}
use Rattle.bg_ast.specs.declared.resolved.Variable.TheVariants as variable
use Rattle.bg_guess.proofs.frame.variables.Given as goal

abbrev pub invariant-loop-g : goal.invariant-loop-g
invariant-loop-g l = l.made.items ++ map variable.Global (drop l.g-index l.globals) ≡ map variable.Global l.globals

abbrev pub invariant-loop-x : goal.invariant-loop-x
invariant-loop-x l = l.made.items ++ map variable.Local (drop l.x-index l.locals) ≡ map variable.Global l.globals ++ map variable.Local l.locals
