use Rattle.std.proofs.Common.{◌≡◌, map, flat_map, drop}
use Rattle.bg_text.specs.Views as v
use Rattle.bg_names.specs.Faults.{better}
use Rattle.bg_names.specs.Views.{first_of}
use Rattle.bg_resolve.specs.Program.{candidate_faults}
use Rattle.bg_resolve.proofs.kinds.note_candidates.Given as goal

abbrev pub invariant-loop-name : goal.invariant-loop-name
invariant-loop-name l =
    let f = candidate_faults (v.consts_of l.c) in
    better (first_of l.notes) (flat_map f (map v.id_of (drop l.name-index l.c.formals.names.items))) ≡ better (first_of l.fn.notes) (flat_map f (map v.id_of l.c.formals.names.items))
