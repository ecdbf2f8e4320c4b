use Rattle.std.proofs.Common.{◌≡◌, ◌++◌, map, flat_map, drop}
use Rattle.bg_text.specs.Views as v
use Rattle.bg_spaces.specs.Declarations.{type_ids_of}
use Rattle.bg_names.specs.Views.{id_in}
use Rattle.bg_spaces.proofs.tables.type_names.Given as goal

abbrev pub invariant-loop-d : goal.invariant-loop-d
invariant-loop-d l = map id_in l.out.items ++ flat_map (λ d. type_ids_of (v.decl_of d)) (drop l.d-index l.decls) ≡ flat_map (λ d. type_ids_of (v.decl_of d)) l.decls
