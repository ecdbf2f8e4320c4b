use Rattle.std.proofs.Common.{◌≡◌, [], map, drop}
use Rattle.bg_names.specs.Faults.{better}
use Rattle.bg_names.specs.Spaces.{with_names, repeats}
use Rattle.bg_names.specs.Views.{listed, first_of, id_in}
use Rattle.bg_names.proofs.changes.declare.Given as goal

abbrev pub invariant-loop-id : goal.invariant-loop-id
invariant-loop-id l =
    (with_names (listed l.names) (map id_in (drop l.id-index l.ids)) ≡ with_names [] (map id_in l.ids))
    × (better (first_of l.notes) (repeats (listed l.names) (map id_in (drop l.id-index l.ids))) ≡ better (first_of l.fn.notes) (repeats [] (map id_in l.ids)))
