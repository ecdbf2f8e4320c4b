use Rattle.std.proofs.Common.{◌+◌, [], drop, map}
use Rattle.bg_ast.specs.Resolved.{Ex}
use Rattle.bg_ast.specs.Views.{sts_in, arms_from, arm_view}
use Rattle.bg_places.specs.Counts.{sts_nodes, arms_nodes}
use Rattle.bg_opened.specs.Written.{opened_sts, opened_arms}
use Rattle.bg_expanded.specs.Bodies.{IsAlike, IsCountOf, worth}
use Rattle.bg_expanded.proofs.sized.+add_stmts.Given as goal

abbrev pub invariant-add_arms-loop-arm : goal.invariant-add_arms-loop-arm
invariant-add_arms-loop-arm l =
    (o : Ex → Ex) → IsCountOf l.table o →
    IsAlike (worth l.count [] + arms_nodes l.sizes (opened_arms o (arms_from (map arm_view (drop l.arm-index l.arms)))))
    (worth l.fn.count [] + arms_nodes l.sizes (opened_arms o (arms_from (map arm_view l.arms))))

abbrev pub invariant-add_stmts-loop-s : goal.invariant-add_stmts-loop-s
invariant-add_stmts-loop-s l =
    (o : Ex → Ex) → IsCountOf l.table o →
    IsAlike (worth l.count [] + sts_nodes l.sizes (opened_sts o (sts_in (drop l.s-index l.ss))))
    (worth l.fn.count [] + sts_nodes l.sizes (opened_sts o (sts_in l.ss)))
