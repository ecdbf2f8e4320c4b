use Rattle.std.proofs.Common.{◌≡◌, ◌++◌, map}
use Rattle.bg_text.specs.Views.{id_of}
use Rattle.bg_guess.specs.Guessed.{guess_names}
use Rattle.bg_guess.proofs.whole.push_names.Given as goal

abbrev pub invariant-loop-n : goal.invariant-loop-n
invariant-loop-n l = map id_of l.out.items ≡ map id_of l.fn.out.items ++ guess_names l.n
