use Rattle.std.proofs.Common.{◌≡◌, ◌++◌, drop, map}
use Rattle.bg_kinds.specs.Views.{ref_in}
use Rattle.bg_told.specs.Lines.{texts}
use Rattle.bg_told.specs.Entries.{types_in, part_behind}
use Rattle.bg_told.proofs.functions.put_parts.Given as goal

abbrev pub invariant-loop-i : goal.invariant-loop-i
invariant-loop-i l = l.out.items ++ texts (part_behind (types_in l.types)) (map ref_in (drop l.i l.kinds)) (drop l.i l.parts) ≡ l.fn.out.items ++ texts (part_behind (types_in l.types)) (map ref_in l.kinds) l.parts
