use Rattle.std.proofs.Common.{◌≡◌, ◌+◌, take, drop, map}
use Rattle.bg_ast.specs.Views.{st_of, sts_in, arms_from, arm_view}
use Rattle.bg_guess.specs.Claims.{subjects_of}
use Rattle.bg_guess.specs.Loops.{size, sts_guesses, arms_guesses, guessed_sts, guessed_arms}
use Rattle.bg_guess.proofs.InFront.{in_front, arms_in_front}
use Rattle.bg_guess.proofs.loops.+guess_stmts.Given as goal

abbrev pub invariant-guess_arms-loop-i : goal.invariant-guess_arms-loop-i
invariant-guess_arms-loop-i l = record {
  guessed :
      arms_in_front (map arm_view (take l.i l.arms.items)) (guessed_arms l.desk.above (subjects_of l.s) l.at (arms_from (map arm_view (drop l.i l.arms.items))))
      ≡ guessed_arms l.desk.above (subjects_of l.s) l.next (arms_from (map arm_view l.fn.arms.items));
  number :
      l.at + arms_guesses (size (subjects_of l.s)) (arms_from (map arm_view (drop l.i l.arms.items)))
      ≡ l.next + arms_guesses (size (subjects_of l.s)) (arms_from (map arm_view l.fn.arms.items));
  rest : goal.unvisited-guess_arms-loop-i l;
}

abbrev pub invariant-guess_stmts-loop-i : goal.invariant-guess_stmts-loop-i
invariant-guess_stmts-loop-i l = record {
  guessed :
      in_front (map st_of (take l.i l.ss.items)) (guessed_sts l.desk.above (subjects_of l.s) l.at (sts_in (drop l.i l.ss.items)))
      ≡ guessed_sts l.desk.above (subjects_of l.s) l.next (sts_in l.fn.ss.items);
  number :
      l.at + sts_guesses (size (subjects_of l.s)) (sts_in (drop l.i l.ss.items))
      ≡ l.next + sts_guesses (size (subjects_of l.s)) (sts_in l.fn.ss.items);
  rest : goal.unvisited-guess_stmts-loop-i l;
}
