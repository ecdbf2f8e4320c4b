-- What the first fault says of all faults.
use Rattle.std.proofs.Common.{◌≡◌, ℕ, List, [], ◌∷◌, ◌++◌, Option, Some, None, refl, sym, subst, ◌∙◌}
use Rattle.bg_text.specs.Trees as t
use Rattle.bg_names.specs.Faults.{Fault, better}
use Rattle.bg_resolve.specs.Program.{plain_faults}
use Rattle.bg_resolve.specs.Calls.{IsRecursion, WithRecursion}
use Rattle.bg_names.proofs.Firsts.{better_append}
use Rattle.bg_resolve.proofs.Order.{best_none}

empty-parts : (xs ys : List Fault) → xs ++ ys ≡ [] → (xs ≡ []) × (ys ≡ [])
empty-parts [] ys h = (refl, h)
empty-parts (x ∷ xs) ys h = absurd (let bad : x ∷ (xs ++ ys) ≡ [] = h in cc)

module _ (names : List (List ℕ)) (ds : List t.Decl) where
  pub no_fault : (new : Option Fault) → WithRecursion names ds (better None (plain_faults ds)) new → new ≡ None → (plain_faults ds ≡ []) × IsRecursion names ds []
  no_fault new h e =
      let none = empty-parts (plain_faults ds) h.0 (best_none (plain_faults ds ++ h.0) (better_append None (plain_faults ds) h.0 ∙ sym h.2 ∙ e)) in
      (none.0, subst (IsRecursion names ds) none.1 h.1)

  pub some_fault : (new : Option Fault) (f : Fault) → WithRecursion names ds (better None (plain_faults ds)) new → new ≡ Some f → (rs : List Fault) × IsRecursion names ds rs × (better None (plain_faults ds ++ rs) ≡ Some f)
  some_fault new f h e = (h.0, h.1, better_append None (plain_faults ds) h.0 ∙ sym h.2 ∙ e)
