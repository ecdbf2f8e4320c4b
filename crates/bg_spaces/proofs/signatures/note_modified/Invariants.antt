use Rattle.std.proofs.Common.{◌≡◌, map, flat_map, drop}
use Rattle.bg_text.specs.Views as v
use Rattle.bg_names.specs.Faults.{better}
use Rattle.bg_names.specs.Views.{first_of}
use Rattle.bg_spaces.specs.SpaceViews.{spaces_in}
use Rattle.bg_spaces.specs.Declarations.{modified_faults}
use Rattle.bg_spaces.proofs.signatures.note_modified.Given as goal

abbrev pub invariant-loop-name : goal.invariant-loop-name
invariant-loop-name l = better (first_of l.notes) (flat_map (modified_faults (spaces_in l.g)) (map v.id_of (drop l.name-index l.names))) ≡ better (first_of l.fn.notes) (flat_map (modified_faults (spaces_in l.g)) (map v.id_of l.names))
