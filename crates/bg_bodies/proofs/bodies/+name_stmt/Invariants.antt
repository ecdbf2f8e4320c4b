use Rattle.std.proofs.Common.{◌≡◌, ◌+◌, ◌++◌, [], map, drop, is_some}
use Rattle.bg_ast.specs.Views.{st_of, arm_view}
use Rattle.bg_names.specs.Faults.{better}
use Rattle.bg_names.specs.Spaces.{or_zero}
use Rattle.bg_bodies.specs.Bodies.{sts_faults, arms_faults, named_sts, named_arms, sts_count, arms_count, labels_in}
use Rattle.bg_names.specs.Views.{inside_of, first_of, stacked, blocks_of, around_of}
use Rattle.bg_bodies.specs.Views.{ahead_of, tree_sts, tree_arms}
use Rattle.bg_bodies.proofs.StForms.{onto, arms_onto}
use Rattle.bg_bodies.proofs.bodies.+name_stmt.Given as goal

abbrev pub invariant-stmts-loop-s : goal.invariant-stmts-loop-s
invariant-stmts-loop-s l =
    let b = inside_of l.inside in
    let rest = tree_sts (drop l.s-index l.ss) in
    let w = l.fn.walk in
    (onto (map st_of l.made.items) (named_sts b l.walk.next (or_zero l.around) (blocks_of w.blocks.items) (stacked l.before.items) rest) ≡ named_sts b w.next (or_zero l.around) (blocks_of w.blocks.items) [] (tree_sts l.ss))
    × (better (first_of l.walk.notes) (sts_faults b (ahead_of w) (is_some l.around) (around_of w.blocks.items) (stacked l.before.items) rest) ≡ better (first_of w.notes) (sts_faults b (ahead_of w) (is_some l.around) (around_of w.blocks.items) [] (tree_sts l.ss)))
    × (l.walk.next + sts_count rest ≡ w.next + sts_count (tree_sts l.ss))
    × (ahead_of l.walk ≡ labels_in b rest ++ ahead_of w)
    × (l.walk.blocks.items ≡ w.blocks.items)

abbrev pub invariant-arms_of-loop-a : goal.invariant-arms_of-loop-a
invariant-arms_of-loop-a l =
    let b = inside_of l.inside in
    let rest = tree_arms (drop l.a-index l.arms) in
    let w = l.fn.walk in
    (arms_onto (map arm_view l.made.items) (named_arms b l.walk.next (or_zero l.around) (blocks_of w.blocks.items) rest) ≡ named_arms b w.next (or_zero l.around) (blocks_of w.blocks.items) (tree_arms l.arms))
    × (better (first_of l.walk.notes) (arms_faults b (ahead_of w) (is_some l.around) (around_of w.blocks.items) rest) ≡ better (first_of w.notes) (arms_faults b (ahead_of w) (is_some l.around) (around_of w.blocks.items) (tree_arms l.arms)))
    × (l.walk.next + arms_count rest ≡ w.next + arms_count (tree_arms l.arms))
    × (ahead_of l.walk ≡ ahead_of w)
    × (l.walk.blocks.items ≡ w.blocks.items)
