use Rattle.std.proofs.Common.{◌≡◌, ◌++◌, map, flat_map, drop}
use Rattle.bg_text.specs.Views as v
use Rattle.bg_spaces.specs.Declarations.{changes_of}
use Rattle.bg_names.specs.Views.{listed}
use Rattle.bg_spaces.proofs.modifies.changes.Given as goal

abbrev pub invariant-loop-d : goal.invariant-loop-d
invariant-loop-d l =
    let f = changes_of (listed l.values.names) l.values.meanings.items l.globals in
    map (λ ks. ks.items) l.out.items ++ flat_map f (map v.decl_of (drop l.d-index l.decls)) ≡ flat_map f (map v.decl_of l.decls)
