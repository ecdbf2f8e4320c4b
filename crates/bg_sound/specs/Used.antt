-- Counterexamples without a choice left over.
use Rattle.std.specs.Prelude.{◌≡◌, ℕ, Bool, List, [], ◌∷◌, ◌++◌}
use Rattle.bg_ast.specs.Syntax.{Prog}
use Rattle.bg_ast.specs.Execution.{Interp, State, Choice, Place}
use Rattle.bg_sense.specs.Run.{induction_run, BadChoice}

-- no choice is left over: without the last one the run lacks a choice
abbrev pub UsesAll : Prog → (ℕ → Bool) → Place → Interp → State → List Choice → Type 0
UsesAll p set t i s choices =
    (front : List Choice) (last : Choice) → choices ≡ front ++ (last ∷ []) → induction_run p set i t.implementation s front ≡ BadChoice
