use Rattle.std.proofs.Common.{◌≡◌, take, drop, map}
use Rattle.bg_text.specs.Views as v
use Rattle.bg_ast.specs.Views as u
use Rattle.bg_keep.specs.Kept.{before}
use Rattle.bg_keep.specs.Guesses.{names_of}
use Rattle.bg_keep.specs.Told.{told_sts, told_arms}
use Rattle.bg_keep.proofs.Turns.{arms_before}
use Rattle.bg_keep.proofs.stmts.+keep_stmts.Given as goal

abbrev pub invariant-keep_arms-loop-i : goal.invariant-keep_arms-loop-i
invariant-keep_arms-loop-i l = record {
  told :
      arms_before (map v.arm_view (take l.i l.arms.items)) (told_arms l.set (names_of l.names) (v.arms_from (map v.arm_view (drop l.i l.arms.items))) (u.arms_from (map u.arm_view (drop l.i l.told))))
      ≡ told_arms l.set (names_of l.names) (v.arms_from (map v.arm_view l.fn.arms.items)) (u.arms_from (map u.arm_view l.told));
  rest : goal.unvisited-keep_arms-loop-i l;
}

abbrev pub invariant-kept_stmts-loop-i : goal.invariant-kept_stmts-loop-i
invariant-kept_stmts-loop-i l = record {
  told :
      before (map v.st_of l.made.items) (told_sts l.set (names_of l.names) (v.sts_in (drop l.i l.ss)) (u.sts_in (drop l.i l.told)))
      ≡ told_sts l.set (names_of l.names) (v.sts_in l.fn.ss) (u.sts_in l.told);
  rest : goal.unvisited-kept_stmts-loop-i l;
}
