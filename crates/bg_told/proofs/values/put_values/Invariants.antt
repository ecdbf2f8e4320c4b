use Rattle.std.proofs.Common.{◌≡◌, ◌++◌, drop}
use Rattle.bg_told.specs.Lines.{texts}
use Rattle.bg_told.specs.Entries.{types_in, values_of, variables_in, entry_text}
use Rattle.bg_told.proofs.values.put_values.Given as goal

abbrev pub invariant-loop-i : goal.invariant-loop-i
invariant-loop-i l = l.out.items ++ texts (entry_text (types_in l.types)) (variables_in l.types (drop l.i l.variables)) (drop l.i (values_of l.values)) ≡ l.fn.out.items ++ texts (entry_text (types_in l.types)) (variables_in l.types l.variables) (values_of l.values)
