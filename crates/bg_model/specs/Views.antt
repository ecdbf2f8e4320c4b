-- How the code's walks are read.
use Rattle.std.specs.Prelude.{ℕ, Bool, true, false, List, [], ◌++◌, map, slice_get, unwrap_or}
use Rattle.bg_ast.specs.Values.{Val}
use Rattle.bg_ast.specs.Execution.{Choice}
use Rattle.bg_places.specs.Views.{spot_of}
use Rattle.bg_flow.specs.Core.{Cmd}
use Rattle.bg_passive.specs.Passive.{Walked, On, Stopped, Hit}
use Rattle.bg_forms.specs.Worth.{bools_at}
use Rattle.bg_formed.specs.Formed.{FormCmd}
use Rattle.bg_formed.specs.Views.{form_cmds_of}
use Rattle.bg_model.specs.declared.front.Front.{Front}
use Rattle.bg_model.specs.declared.trial.Trial.{Trial}
use Rattle.bg_model.specs.declared.walk.Went.{Went}
use Rattle.bg_model.specs.declared.walk.Went.TheVariants as went
use Rattle.bg_model.specs.Over.{walk_over}
use Rattle.bg_model.specs.Picks.{choice_by}
use Rattle.bg_model.specs.Turns.{front_of}

abbrev pub walked_of : Went → Walked
walked_of went.On = On
walked_of went.Stopped = Stopped
walked_of went.Hit = Hit

-- the candidates that are there; one without an entry isn't
abbrev pub set_of : List Bool → ℕ → Bool
set_of bs b = unwrap_or (slice_get bs b) false

-- how a walk goes
abbrev pub walk_in : Trial → List FormCmd → Walked
walk_in t = walk_over (set_of t.set.now) (spot_of t.target) (bools_at t.truths.now)

-- what is chosen behind commands, where the walk goes on there
abbrev pub if_goes : Bool → List Choice → List Choice
if_goes true rest = rest
if_goes false rest = []

-- the choices so far, where incarnations have these values, and others behind them
abbrev pub made_by : List Val → Front → List Choice → List Choice
made_by vs f rest = map (choice_by vs) f.made.items ++ rest

-- the choices of these commands, which come next
abbrev pub next_by : List Val → Trial → List Cmd → Front → List Choice → List Choice
next_by vs t ks f rest = front_of (walk_in t) vs ks (form_cmds_of f.left.now) f.next rest
