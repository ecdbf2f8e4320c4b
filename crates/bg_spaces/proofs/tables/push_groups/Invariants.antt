use Rattle.std.proofs.Common.{◌≡◌, ◌++◌, map, flat_map, drop}
use Rattle.bg_text.specs.Views as v
use Rattle.bg_names.specs.Views.{id_in}
use Rattle.bg_spaces.proofs.tables.push_groups.Given as goal

abbrev pub invariant-loop-g : goal.invariant-loop-g
invariant-loop-g l = map id_in l.out.items ++ flat_map (λ g. map v.id_of g.names.items) (drop l.g-index l.gs) ≡ map id_in l.fn.out.items ++ flat_map (λ g. map v.id_of g.names.items) l.gs
