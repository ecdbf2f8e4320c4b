-- What is chosen up to the check at which a walk fails.
use Rattle.std.specs.Prelude.{ℕ, zero, suc, List, [], ◌∷◌}
use Rattle.bg_ast.specs.Values.{Val}
use Rattle.bg_ast.specs.Execution.{Choice, Chosen}
use Rattle.bg_sense.specs.Eval.{value_at}
use Rattle.bg_passive.specs.Passive.{Walked, On, Stopped, Hit}

-- the values of so many incarnations, from this one on
abbrev pub chosen_from : List Val → ℕ → ℕ → List Choice
chosen_from vs n zero = []
chosen_from vs n (suc k) = Chosen (value_at vs n) ∷ chosen_from vs (suc n) k

-- a command that fails takes no choices, and none is taken behind it
abbrev pub if_on : Walked → List Choice → List Choice
if_on On choices = choices
if_on Stopped choices = []
if_on Hit choices = []
