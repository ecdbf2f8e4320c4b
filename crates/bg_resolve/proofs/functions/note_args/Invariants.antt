use Rattle.std.proofs.Common.{◌≡◌, map, flat_map, drop}
use Rattle.bg_text.specs.Views as v
use Rattle.bg_names.specs.Faults.{better}
use Rattle.bg_names.specs.Views.{first_of}
use Rattle.bg_spaces.specs.SpaceViews.{spaces_in}
use Rattle.bg_resolve.specs.Program.{arg_faults}
use Rattle.bg_resolve.proofs.functions.note_args.Given as goal

abbrev pub invariant-loop-a : goal.invariant-loop-a
invariant-loop-a l =
    let f = arg_faults (spaces_in l.g) l.has_body in
    better (first_of l.notes) (flat_map f (map v.fun_arg_of (drop l.a-index l.args))) ≡ better (first_of l.fn.notes) (flat_map f (map v.fun_arg_of l.args))
