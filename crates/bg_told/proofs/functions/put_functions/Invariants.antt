use Rattle.std.proofs.Common.{◌≡◌, ◌++◌, drop, map}
use Rattle.bg_ast.specs.Views.{fun_of}
use Rattle.bg_told.specs.Lines.{texts}
use Rattle.bg_told.specs.Entries.{declared_types, types_in, function_line, all_named}
use Rattle.bg_told.proofs.functions.put_functions.Given as goal

abbrev pub invariant-loop-i : goal.invariant-loop-i
invariant-loop-i l = l.out.items ++ texts (function_line (types_in l.types)) (all_named (declared_types l.types) (map fun_of (drop l.i l.functions)) (drop l.i l.bodies)) (drop l.i l.tables) ≡ l.fn.out.items ++ texts (function_line (types_in l.types)) (all_named (declared_types l.types) (map fun_of l.functions) l.bodies) l.tables
