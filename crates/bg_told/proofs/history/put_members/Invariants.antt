use Rattle.std.proofs.Common.{◌≡◌, ◌++◌, map, drop}
use Rattle.bg_text.specs.Views.{id_of}
use Rattle.bg_told.specs.Lines.{texts}
use Rattle.bg_told.specs.History.{member_text}
use Rattle.bg_told.proofs.history.put_members.Given as goal

abbrev pub invariant-loop-i : goal.invariant-loop-i
invariant-loop-i l = l.out.items ++ texts member_text (map id_of (drop l.i l.names)) (drop l.i l.set) ≡ l.fn.out.items ++ texts member_text (map id_of l.names) l.set
