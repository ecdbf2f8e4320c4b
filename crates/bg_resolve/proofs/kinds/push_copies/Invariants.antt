use Rattle.std.proofs.Common.{◌≡◌, ◌++◌, map, drop}
use Rattle.bg_text.specs.Views as v
use Rattle.bg_resolve.proofs.kinds.push_copies.Given as goal

abbrev pub invariant-loop-name : goal.invariant-loop-name
invariant-loop-name l = map v.id_of l.out.items ++ map v.id_of (drop l.name-index l.names) ≡ map v.id_of l.fn.out.items ++ map v.id_of l.names
