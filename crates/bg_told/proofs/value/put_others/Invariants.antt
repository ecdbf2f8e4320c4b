use Rattle.std.proofs.Common.{◌≡◌, ◌++◌, drop, map}
use Rattle.bg_kinds.specs.Views.{key_of}
use Rattle.bg_told.specs.Lines.{texts}
use Rattle.bg_told.specs.ValueTexts.{number_behind}
use Rattle.bg_told.specs.Entries.{types_in}
use Rattle.bg_told.proofs.value.put_others.Given as goal

abbrev pub invariant-loop-i : goal.invariant-loop-i
invariant-loop-i l = l.out.items ++ texts (number_behind (types_in l.types)) (map key_of (drop l.i l.keys)) (drop l.i l.numbers) ≡ l.fn.out.items ++ texts (number_behind (types_in l.types)) (map key_of l.keys) l.numbers
