use Rattle.std.proofs.Common.{◌≡◌, ◌++◌, drop}
use Rattle.bg_told.specs.Lines.{texts}
use Rattle.bg_told.specs.Entries.{types_in, variables_in, constant_line}
use Rattle.bg_told.proofs.values.put_constants.Given as goal

abbrev pub invariant-loop-i : goal.invariant-loop-i
invariant-loop-i l = l.out.items ++ texts (constant_line (types_in l.types)) (variables_in l.types (drop l.i l.constants)) (drop l.i l.values) ≡ l.fn.out.items ++ texts (constant_line (types_in l.types)) (variables_in l.types l.constants) l.values
