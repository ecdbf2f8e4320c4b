use Rattle.std.proofs.Common.{◌≡◌, ◌-◌, drop, map}
use Rattle.bg_ast.specs.Views.{sts_in, arms_from, arm_view}
use Rattle.bg_guess.specs.Loops.{sts_guesses, arms_guesses}
use Rattle.bg_guess.proofs.counts.+pass_stmts.Given as goal

abbrev pub invariant-pass_arms-loop-a : goal.invariant-pass_arms-loop-a
invariant-pass_arms-loop-a l =
    l.rest - arms_guesses l.size (arms_from (map arm_view (drop l.a-index l.arms))) ≡ l.left - arms_guesses l.size (arms_from (map arm_view l.arms))

abbrev pub invariant-pass_stmts-loop-a : goal.invariant-pass_stmts-loop-a
invariant-pass_stmts-loop-a l = l.rest - sts_guesses l.size (sts_in (drop l.a-index l.ss)) ≡ l.left - sts_guesses l.size (sts_in l.ss)
