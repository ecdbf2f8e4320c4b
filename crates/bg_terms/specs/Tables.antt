-- Interpretations that are read off the values of terms, and which terms they give their values.
use Rattle.std.specs.Prelude.{◌≡◌, ℕ, suc, Bool, true, false, ◌&&◌, if◌then◌else◌, List, [], ◌∷◌, slice_get}
use Rattle.bg_ast.specs.Values.{Val, val_eq}
use Rattle.bg_ast.specs.Execution.{Interp}
use Rattle.bg_sense.specs.Eval.{value_at, look_up, entry_for, evs}
use Rattle.bg_terms.specs.Terms.{Head, Applies, Term, over, head_eq, term_value}

-- for each term of this head, of which the first has number n, its arguments' values and its value
abbrev pub entries_of : Head → List Val → ℕ → List Term → List (List Val × Val)
entries_of h w n [] = []
entries_of h w n (t ∷ ts) =
    if head_eq t.head h then (evs t.args (over w), value_at w n) ∷ entries_of h w (suc n) ts else entries_of h w (suc n) ts

-- functions are worth what the first application with these arguments says, and else a default
pub record IsReadOff (i : Interp) (defaults : Head → Val) (w : List Val) (n : ℕ) (ts : List Term) : Type 0 where
  pub tables : (f : ℕ) (args : List Val) → look_up (slice_get i.tables f) args ≡ entry_for (entries_of (Applies f) w n ts) args (defaults (Applies f))

abbrev pub is_application : Head → Bool
is_application (Applies f) = true
is_application _ = false

-- whether a term has the value that the interpretation gives it
abbrev pub is_right : Interp → List Val → ℕ → Term → Bool
is_right i w n t = val_eq (value_at w n) (term_value i w t)

abbrev pub are_right : Interp → List Val → ℕ → List Term → Bool
are_right i w n [] = true
are_right i w n (t ∷ ts) = is_right i w n t && are_right i w (suc n) ts
