use Rattle.std.proofs.Common.{◌≡◌, map, flat_map, drop}
use Rattle.bg_text.specs.Views as v
use Rattle.bg_names.specs.Faults.{better}
use Rattle.bg_names.specs.Views.{first_of}
use Rattle.bg_spaces.specs.SpaceViews.{spaces_in}
use Rattle.bg_resolve.specs.Program.{vars_faults}
use Rattle.bg_resolve.proofs.code.note_locals.Given as goal

abbrev pub invariant-loop-x : goal.invariant-loop-x
invariant-loop-x l = better (first_of l.notes) (flat_map (vars_faults (spaces_in l.g)) (map v.vars_of (drop l.x-index l.xs))) ≡ better (first_of l.fn.notes) (flat_map (vars_faults (spaces_in l.g)) (map v.vars_of l.xs))
