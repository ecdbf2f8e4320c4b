use Rattle.std.proofs.Common.{◌≡◌, map, flat_map, drop, take}
use Rattle.bg_names.specs.Faults.{better}
use Rattle.bg_text.specs.Views as v
use Rattle.bg_ast.specs.Views.{bracket_of}
use Rattle.bg_names.specs.Inside.{named_index, index_faults}
use Rattle.bg_names.specs.Views.{inside_of, first_of}
use Rattle.bg_names.proofs.changes.brackets.Given as goal

abbrev pub invariant-loop-b : goal.invariant-loop-b
invariant-loop-b l =
    let s = inside_of l.inside in
    (map bracket_of l.made.items ≡ map (λ x. named_index s (v.bracket_of x)) (take l.b-index l.bs))
    × (better (first_of l.notes) (flat_map (λ x. index_faults s (v.bracket_of x)) (drop l.b-index l.bs)) ≡ better (first_of l.fn.notes) (flat_map (λ x. index_faults s (v.bracket_of x)) l.bs))
