-- A failing run without its last choice.
use Rattle.std.proofs.Common.{◌≡◌, ℕ, Bool, List, [], ◌∷◌, ◌++◌, refl, sym, ◌∙◌, inl, inr}
use Rattle.std.specs.Prelude.{◌⊎◌}
use Rattle.bg_ast.specs.Syntax.{Prog}
use Rattle.bg_ast.specs.Execution.{Interp, State, Choice, Place}
use Rattle.bg_sense.specs.Run.{Answer, Going, Ended, Blocked, Failed, BadChoice, induction_run}
use Rattle.bg_sense.specs.Claims.{Fails}
use Rattle.bg_sound.proofs.Choosing.{more_choices}

pub shorter : (p : Prog) (set : ℕ → Bool) (t : Place) (i : Interp) (s : State) (front : List Choice) (last : Choice) → Fails p set t i s (front ++ (last ∷ [])) → (induction_run p set i t.implementation s front ≡ BadChoice) ⊎ Fails p set t i s front
shorter p set t i s front last f = by (induction_run p set i t.implementation s front) refl
  where
    same : (a : Answer) → (a ≡ BadChoice → ⊥) → induction_run p set i t.implementation s front ≡ a → a ≡ Failed t.spot
    same a n e = sym (more_choices p set i t.implementation s front (last ∷ []) a n e) ∙ f.fails

    by : (a : Answer) → induction_run p set i t.implementation s front ≡ a → (induction_run p set i t.implementation s front ≡ BadChoice) ⊎ Fails p set t i s front
    by Going e = absurd (let bad = same Going (λ q. cc) e in let no : ⊥ = cc in no)
    by Ended e = absurd (let bad = same Ended (λ q. cc) e in let no : ⊥ = cc in no)
    by Blocked e = absurd (let bad = same Blocked (λ q. cc) e in let no : ⊥ = cc in no)
    by (Failed u) e = inr (record { meets = f.meets; state = f.state; fails = e ∙ same (Failed u) (λ q. cc) e })
    by BadChoice e = inl e
