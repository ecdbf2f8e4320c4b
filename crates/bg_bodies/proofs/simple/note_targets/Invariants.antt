use Rattle.std.proofs.Common.{◌≡◌, [], map, drop}
use Rattle.bg_text.specs.Views as v
use Rattle.bg_names.specs.Faults.{better}
use Rattle.bg_names.specs.Spaces.{repeats}
use Rattle.bg_names.specs.Views.{listed, first_of}
use Rattle.bg_bodies.proofs.simple.note_targets.Given as goal

abbrev pub invariant-loop-x : goal.invariant-loop-x
invariant-loop-x l = better (first_of l.notes) (repeats (listed l.seen) (map (λ x. v.id_of x.name) (drop l.x-index l.xs))) ≡ better (first_of l.fn.notes) (repeats [] (map (λ x. v.id_of x.name) l.xs))
