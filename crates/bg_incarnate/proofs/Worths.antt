-- Incarnations that are worth expressions, one after the other.
use Rattle.std.proofs.Common.{◌≡◌, ℕ, suc, List, [], ◌∷◌, ◌++◌, sym, ◌∙◌, append_assoc, append-nil}
use Rattle.bg_ast.specs.Syntax as s
use Rattle.bg_passive.specs.Passive.{PassiveCmd}
use Rattle.bg_passive.specs.Incarnations.{Env, rename, is_worth, set_to, each_ex, after_exs}

-- one more incarnation is worth an expression
pub worth_step : (v : Env) (es : s.Exs) (e x : s.Ex) (out out' all : List PassiveCmd) (made made' held : List ℕ) (n n' last : ℕ) → x ≡ rename e v → out' ≡ out ++ is_worth n x ∷ [] → made' ≡ made ++ n ∷ [] → n' ≡ suc n → (out ++ set_to n (s.More e es) v ≡ all) × (made ++ each_ex n (s.More e es) ≡ held) × (after_exs (s.More e es) n ≡ last) → (out' ++ set_to n' es v ≡ all) × (made' ++ each_ex n' es ≡ held) × (after_exs es n' ≡ last)
worth_step v es e x out out' all made made' held n n' last xe oe me ne h =
    rw (oe, me, ne, xe) (append_assoc out (is_worth n (rename e v) ∷ []) (set_to (suc n) es v) ∙ h.0, append_assoc made (n ∷ []) (each_ex (suc n) es) ∙ h.1, h.2)

-- no expression is left
pub worth_end : (v : Env) (es : s.Exs) (out all : List PassiveCmd) (made held : List ℕ) (n last : ℕ) → es ≡ s.NoMore → (out ++ set_to n es v ≡ all) × (made ++ each_ex n es ≡ held) × (after_exs es n ≡ last) → (out ≡ all) × (made ≡ held) × (n ≡ last)
worth_end v es out all made held n last e h =
    let k = rw e at h in
    (sym (append-nil out) ∙ k.0, sym (append-nil made) ∙ k.1, k.2)
