-- The equations of blocks of forms for one target: what the truth variable of each block is, where atoms have truth values.
use Rattle.std.specs.Prelude.{ℕ, Bool, true, not, ◌&&◌, ◌||◌, if◌then◌else◌, List, [], ◌∷◌, Option, slice_get}
use Rattle.bg_ast.specs.Execution.{Spot}
use Rattle.bg_passive.specs.Passive.{spot_eq, is_absent}
use Rattle.bg_passive.specs.Equations.{is_well}
use Rattle.bg_forms.specs.Forms.{form_true}
use Rattle.bg_formed.specs.Formed.{Says, FormCmd, Asks, Takes, FormEdge, FormBlock, said}

-- a clause is absent or holds
abbrev pub is_met : (ℕ → Bool) → (ℕ → Bool) → Option ℕ → Says → Bool
is_met set w b r = is_absent set b || form_true w (said r)

abbrev pub form_equation : (ℕ → Bool) → Spot → (ℕ → Bool) → List FormCmd → Bool → Bool
form_equation set t w [] rest = rest
form_equation set t w (Asks s b r ∷ ks) rest =
    if spot_eq s t then is_met set w b r && form_equation set t w ks rest
    else not (is_met set w b r) || form_equation set t w ks rest
form_equation set t w (Takes b r ∷ ks) rest = not (is_met set w b r) || form_equation set t w ks rest

abbrev pub all_form_well : (ℕ → Bool) → Spot → (ℕ → Bool) → List Bool → List FormEdge → Bool
all_form_well set t w later [] = true
all_form_well set t w later (e ∷ es) =
    form_equation set t w e.cmds (is_well (slice_get later e.to)) && all_form_well set t w later es

abbrev pub form_equations : (ℕ → Bool) → Spot → (ℕ → Bool) → List FormBlock → List Bool
form_equations set t w [] = []
form_equations set t w (b ∷ bs) =
    let later = form_equations set t w bs in form_equation set t w b.cmds (all_form_well set t w later b.next) ∷ later
