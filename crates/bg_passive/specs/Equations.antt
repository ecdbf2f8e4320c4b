-- The equations of passive blocks for one target.
use Rattle.std.specs.Prelude.{ℕ, Bool, true, not, ◌&&◌, ◌||◌, if◌then◌else◌, List, [], ◌∷◌, Option, Some, None, slice_get}
use Rattle.bg_ast.specs.Values.{truth_of}
use Rattle.bg_sense.specs.Eval.{Scope, ev}
use Rattle.bg_ast.specs.Execution.{Spot}
use Rattle.bg_passive.specs.Passive.{PassiveCmd, Claims, Supposes, Edge, PassiveBlock, spot_eq, is_absent}

-- what a block's truth variable is by its equation: all goes well from here
abbrev pub equation_cmds : (ℕ → Bool) → Spot → Scope → List PassiveCmd → Bool → Bool
equation_cmds set t c [] rest = rest
equation_cmds set t c (Claims s b e ∷ ks) rest =
    if spot_eq s t
    then (is_absent set b || truth_of (ev e c)) && equation_cmds set t c ks rest
    else not (is_absent set b || truth_of (ev e c)) || equation_cmds set t c ks rest
equation_cmds set t c (Supposes b e ∷ ks) rest =
    not (is_absent set b || truth_of (ev e c)) || equation_cmds set t c ks rest

-- the truth variable of a block that is there
abbrev pub is_well : Option Bool → Bool
is_well None = true
is_well (Some b) = b

abbrev pub all_well : (ℕ → Bool) → Spot → Scope → List Bool → List Edge → Bool
all_well set t c later [] = true
all_well set t c later (e ∷ es) =
    equation_cmds set t c e.cmds (is_well (slice_get later e.to)) && all_well set t c later es

abbrev pub equations : (ℕ → Bool) → Spot → Scope → List PassiveBlock → List Bool
equations set t c [] = []
equations set t c (b ∷ bs) =
    let later = equations set t c bs in equation_cmds set t c b.cmds (all_well set t c later b.next) ∷ later
