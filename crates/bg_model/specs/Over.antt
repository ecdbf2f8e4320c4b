-- Walks through commands of forms over truth values of the atoms.
use Rattle.std.specs.Prelude.{ℕ, Bool, if◌then◌else◌, List, [], ◌∷◌}
use Rattle.bg_ast.specs.Execution.{Spot}
use Rattle.bg_passive.specs.Passive.{spot_eq, Walked, On, Stopped, Hit}
use Rattle.bg_formed.specs.Formed.{FormCmd, Asks, Takes}
use Rattle.bg_formed.specs.Wells.{is_met}

-- how a walk goes, where the atoms have these truth values
abbrev pub walk_over : (ℕ → Bool) → Spot → (ℕ → Bool) → List FormCmd → Walked
walk_over set t w [] = On
walk_over set t w (Asks s b r ∷ ks) =
    if is_met set w b r then walk_over set t w ks
    else if spot_eq s t then Hit else Stopped
walk_over set t w (Takes b r ∷ ks) = if is_met set w b r then walk_over set t w ks else Stopped
