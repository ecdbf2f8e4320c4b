use Rattle.std.proofs.Common.{◌≡◌, ◌++◌, map, drop}
use Rattle.bg_text.specs.Views as v
use Rattle.bg_spaces.specs.Declarations.{global_ids}
use Rattle.bg_names.specs.Views.{id_in}
use Rattle.bg_spaces.proofs.entries.global_names.Given as goal

abbrev pub invariant-loop-d : goal.invariant-loop-d
invariant-loop-d l = map id_in l.names.items ++ global_ids (map v.decl_of (drop l.d-index l.decls)) ≡ global_ids (map v.decl_of l.decls)
