use Rattle.std.proofs.Common.{◌≡◌, [], map, drop}
use Rattle.bg_text.specs.Views as v
use Rattle.bg_names.specs.Faults.{better}
use Rattle.bg_names.specs.Spaces.{repeats}
use Rattle.bg_names.specs.Views.{listed, first_of}
use Rattle.bg_bodies.proofs.simple.note_repeats.Given as goal

abbrev pub invariant-loop-name : goal.invariant-loop-name
invariant-loop-name l = better (first_of l.notes) (repeats (listed l.seen) (map v.id_of (drop l.name-index l.names))) ≡ better (first_of l.fn.notes) (repeats [] (map v.id_of l.names))
