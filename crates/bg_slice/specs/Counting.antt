-- The commands that count stand in front.
use Rattle.std.specs.Prelude.{◌≡◌, Bool, false, List, [], ◌∷◌, ◌++◌}
use Rattle.bg_ast.specs.Execution.{Spot}
use Rattle.bg_passive.specs.Passive.{spot_eq}
use Rattle.bg_formed.specs.Formed.{FormCmd, Asks, Takes}
use Rattle.bg_formed.specs.Used.{Use}
use Rattle.bg_slice.specs.Slices.{ask_if, take_if, slice_cmds}

-- whether a command checks the target
abbrev pub checks : Spot → FormCmd → Bool
checks t (Asks s b r) = spot_eq s t
checks t (Takes b r) = false

-- the same commands, of which none counts
abbrev pub silent : List FormCmd → List FormCmd
silent [] = []
silent (Asks s b r ∷ ks) = ask_if false s b r ∷ silent ks
silent (Takes b r ∷ ks) = take_if false b r ∷ silent ks

-- of commands in front of what is behind them these stand first and count, and none behind them does
pub record IsFront (t : Spot) (ks : List FormCmd) (u : Use) (front : List FormCmd) : Type 0 where
  pub behind : List FormCmd
  pub is : ks ≡ front ++ behind
  pub cut : slice_cmds t ks u ≡ front ++ silent behind
