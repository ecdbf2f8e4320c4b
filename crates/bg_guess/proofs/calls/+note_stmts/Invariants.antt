use Rattle.std.proofs.Common.{◌≡◌, drop, map}
use Rattle.bg_ast.specs.Views.{sts_in, arms_from, arm_view}
use Rattle.bg_guess.specs.Calls.{mark_sts, mark_arms, above_sts, above_arms}
use Rattle.bg_guess.proofs.calls.+note_stmts.Given as goal

abbrev pub invariant-note_arms-loop-a : goal.invariant-note_arms-loop-a
invariant-note_arms-loop-a l = record {
  called : mark_arms l.own (arms_from (map arm_view (drop l.a-index l.arms))) l.called.items ≡ mark_arms l.own (arms_from (map arm_view l.arms)) l.fn.called.items;
  above : above_arms l.at (arms_from (map arm_view (drop l.a-index l.arms))) ≡ above_arms l.most (arms_from (map arm_view l.arms));
}

abbrev pub invariant-note_stmts-loop-a : goal.invariant-note_stmts-loop-a
invariant-note_stmts-loop-a l = record {
  called : mark_sts l.own (sts_in (drop l.a-index l.ss)) l.called.items ≡ mark_sts l.own (sts_in l.ss) l.fn.called.items;
  above : above_sts l.at (sts_in (drop l.a-index l.ss)) ≡ above_sts l.most (sts_in l.ss);
}
