use Rattle.std.proofs.Common.{◌≡◌, take, map}
use Rattle.bg_ast.specs.Views.{type_name_of}
use Rattle.bg_opening.proofs.declared.copy_type_names.Given as goal

abbrev pub invariant-loop-t : goal.invariant-loop-t
invariant-loop-t l = map type_name_of l.made.items ≡ map type_name_of (take l.t-index l.ts)
