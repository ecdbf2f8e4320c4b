use Rattle.std.proofs.Common.{◌≡◌, ◌++◌, map, flat_map, drop}
use Rattle.bg_text.specs.Views as v
use Rattle.bg_names.specs.Faults.{better}
use Rattle.bg_names.specs.Views.{first_of}
use Rattle.bg_spaces.specs.SpaceViews.{spaces_in}
use Rattle.bg_ast.specs.Views.{type_name_of}
use Rattle.bg_resolve.specs.Program.{named_new, synonym_faults}
use Rattle.bg_resolve.proofs.kinds.push_new_types.Given as goal

abbrev pub invariant-loop-d : goal.invariant-loop-d
invariant-loop-d l =
    let g = spaces_in l.g in
    (map type_name_of l.out.items ++ map (named_new g) (map v.new_type_of (drop l.d-index l.ds)) ≡ map type_name_of l.fn.out.items ++ map (named_new g) (map v.new_type_of l.ds))
    × (better (first_of l.notes) (flat_map (synonym_faults g) (map v.new_type_of (drop l.d-index l.ds))) ≡ better (first_of l.fn.notes) (flat_map (synonym_faults g) (map v.new_type_of l.ds)))
