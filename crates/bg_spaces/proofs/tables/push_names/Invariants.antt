use Rattle.std.proofs.Common.{◌≡◌, ◌++◌, map, drop}
use Rattle.bg_text.specs.Views as v
use Rattle.bg_names.specs.Views.{id_in}
use Rattle.bg_spaces.proofs.tables.push_names.Given as goal

abbrev pub invariant-loop-name : goal.invariant-loop-name
invariant-loop-name l = map id_in l.out.items ++ map v.id_of (drop l.name-index l.names) ≡ map id_in l.fn.out.items ++ map v.id_of l.names
