use Rattle.std.proofs.Common.{◌≡◌, map, flat_map, drop, take}
use Rattle.bg_names.specs.Faults.{better}
use Rattle.bg_text.specs.Views as v
use Rattle.bg_ast.specs.Views.{placed_of}
use Rattle.bg_names.specs.Inside.{placed, id_faults}
use Rattle.bg_names.specs.Views.{inside_of, first_of}
use Rattle.bg_names.proofs.changes.changes.Given as goal

abbrev pub invariant-loop-name : goal.invariant-loop-name
invariant-loop-name l =
    let s = inside_of l.inside in
    (map placed_of l.made.items ≡ map (λ x. placed s (v.id_of x)) (take l.name-index l.names))
    × (better (first_of l.notes) (flat_map (λ x. id_faults s (v.id_of x)) (drop l.name-index l.names)) ≡ better (first_of l.fn.notes) (flat_map (λ x. id_faults s (v.id_of x)) l.names))
