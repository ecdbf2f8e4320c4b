use Rattle.std.proofs.Common.{◌≡◌, map, flat_map, drop, take}
use Rattle.bg_text.specs.Views as v
use Rattle.bg_names.specs.Faults.{better}
use Rattle.bg_bodies.specs.Bodies.{label_number, jump_faults}
use Rattle.bg_names.specs.Views.{inside_of, first_of, stacked}
use Rattle.bg_bodies.proofs.simple.goto_labels.Given as goal

abbrev pub invariant-loop-name : goal.invariant-loop-name
invariant-loop-name l =
    let s = inside_of l.inside in
    (l.made.items ≡ map (λ x. label_number s (v.id_of x)) (take l.name-index l.names))
    × (better (first_of l.notes) (flat_map (λ x. jump_faults s (stacked l.ahead) (v.id_of x)) (drop l.name-index l.names)) ≡ better (first_of l.fn.notes) (flat_map (λ x. jump_faults s (stacked l.ahead) (v.id_of x)) l.names))
