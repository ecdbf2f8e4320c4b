use Rattle.std.proofs.Common.{◌≡◌, ◌++◌, map, flat_map, drop}
use Rattle.bg_text.specs.Views as v
use Rattle.bg_names.specs.Views.{id_in}
use Rattle.bg_spaces.specs.Declarations.{vars_ids}
use Rattle.bg_resolve.proofs.code.push_locals.Given as goal

abbrev pub invariant-loop-x : goal.invariant-loop-x
invariant-loop-x l = map id_in l.out.items ++ flat_map vars_ids (map v.vars_of (drop l.x-index l.xs)) ≡ map id_in l.fn.out.items ++ flat_map vars_ids (map v.vars_of l.xs)
