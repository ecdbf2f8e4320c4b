use Rattle.std.proofs.Common.{◌≡◌, ◌++◌, drop, map}
use Rattle.bg_kinds.specs.Views.{ref_in}
use Rattle.bg_told.specs.Lines.{texts}
use Rattle.bg_told.specs.Entries.{types_in, choice_line}
use Rattle.bg_told.proofs.choices.put_choices.Given as goal

abbrev pub invariant-loop-i : goal.invariant-loop-i
invariant-loop-i l = l.out.items ++ texts (choice_line (types_in l.types)) (map ref_in (drop l.i l.kinds)) (drop l.i l.choices) ≡ l.fn.out.items ++ texts (choice_line (types_in l.types)) (map ref_in l.kinds) l.choices
