use Rattle.std.proofs.Common.{◌≡◌, ◌++◌, map, drop}
use Rattle.bg_names.specs.Views.{id_in}
use Rattle.bg_bodies.specs.Views.{tree_sts, tree_arms}
use Rattle.bg_bodies.specs.Bodies.{sts_labels, arms_labels}
use Rattle.bg_bodies.proofs.labels.+push_labels.Given as goal

abbrev pub invariant-of_arms-loop-a : goal.invariant-of_arms-loop-a
invariant-of_arms-loop-a l = map id_in l.out.items ++ arms_labels (tree_arms (drop l.a-index l.arms)) ≡ map id_in l.fn.out.items ++ arms_labels (tree_arms l.arms)

abbrev pub invariant-push_labels-loop-s : goal.invariant-push_labels-loop-s
invariant-push_labels-loop-s l = map id_in l.out.items ++ sts_labels (tree_sts (drop l.s-index l.ss)) ≡ map id_in l.fn.out.items ++ sts_labels (tree_sts l.ss)
