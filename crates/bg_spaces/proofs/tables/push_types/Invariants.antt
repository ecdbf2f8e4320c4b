use Rattle.std.proofs.Common.{◌≡◌, ◌++◌, map, drop}
use Rattle.bg_text.specs.Views as v
use Rattle.bg_names.specs.Views.{id_in}
use Rattle.bg_spaces.proofs.tables.push_types.Given as goal

abbrev pub invariant-loop-d : goal.invariant-loop-d
invariant-loop-d l = map id_in l.out.items ++ map (λ d. v.id_of d.name) (drop l.d-index l.ds) ≡ map id_in l.fn.out.items ++ map (λ d. v.id_of d.name) l.ds
