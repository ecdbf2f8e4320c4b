use Rattle.std.proofs.Common.{◌≡◌, ◌++◌, map, flat_map, drop}
use Rattle.bg_text.specs.Views as v
use Rattle.bg_spaces.specs.Declarations.{modified_in}
use Rattle.bg_names.specs.Views.{listed}
use Rattle.bg_spaces.proofs.modifies.modifies.Given as goal

abbrev pub invariant-loop-spec : goal.invariant-loop-spec
invariant-loop-spec l =
    let f = modified_in (listed l.values.names) l.values.meanings.items in
    l.ks.items ++ flat_map f (map v.spec_of (drop l.spec-index l.specs)) ≡ flat_map f (map v.spec_of l.specs)
