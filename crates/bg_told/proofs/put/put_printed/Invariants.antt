use Rattle.std.proofs.Common.{◌≡◌, ◌++◌, drop, filter}
use Rattle.bg_told.specs.Lines.{is_printed}
use Rattle.bg_told.proofs.put.put_printed.Given as goal

abbrev pub invariant-loop-b : goal.invariant-loop-b
invariant-loop-b l =
    l.out.items ++ filter is_printed (drop l.b-index l.name) ≡ l.fn.out.items ++ filter is_printed l.name
