use Rattle.std.proofs.Common.{◌≡◌, map, flat_map, drop, take}
use Rattle.bg_names.specs.Faults.{better}
use Rattle.bg_text.specs.Views as v
use Rattle.bg_ast.specs.Views.{target_of}
use Rattle.bg_names.specs.Inside.{named_target, target_faults}
use Rattle.bg_names.specs.Views.{inside_of, first_of}
use Rattle.bg_names.proofs.changes.targets.Given as goal

abbrev pub invariant-loop-x : goal.invariant-loop-x
invariant-loop-x l =
    let s = inside_of l.inside in
    (map target_of l.made.items ≡ map (λ x. named_target s (v.target_of x)) (take l.x-index l.xs))
    × (better (first_of l.notes) (flat_map (λ x. target_faults s (v.target_of x)) (drop l.x-index l.xs)) ≡ better (first_of l.fn.notes) (flat_map (λ x. target_faults s (v.target_of x)) l.xs))
