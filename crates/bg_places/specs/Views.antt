-- How the code's places are read.
use Rattle.std.specs.Prelude.{ℕ, List, map}
use Rattle.bg_text.specs.Views.{option_of}
use Rattle.bg_ast.specs.Execution as e
use Rattle.bg_ast.specs.Views.{candidate_of}
use Rattle.bg_places.specs.Placed.{Placed}
use Rattle.bg_places.specs.declared.place.Spot.{Spot}
use Rattle.bg_places.specs.declared.place.Spot.TheVariants as spot
use Rattle.bg_places.specs.declared.place.Group.{Group}
use Rattle.bg_places.specs.declared.place.Group.TheVariants as group
use Rattle.bg_places.specs.declared.place.Place.{Place}

abbrev pub spot_of : Spot → e.Spot
spot_of (spot.Assert k) = e.AtAssert k
spot_of (spot.Entry k) = e.AtEntry k
spot_of (spot.Turn k) = e.AfterTurn k
spot_of (spot.Call s k) = e.AtCall s k
spot_of (spot.Return m k) = e.AtReturn m k

-- the check of the clause with this number
abbrev pub spot_in : Group → ℕ → e.Spot
spot_in group.Assert = e.AtAssert
spot_in group.Entry = e.AtEntry
spot_in group.Turn = e.AfterTurn
spot_in (group.Call s) = e.AtCall s
spot_in (group.Return m) = e.AtReturn m

abbrev pub placed_of : Place → Placed
placed_of p =
    record {
      place = record { implementation = p.implementation; spot = spot_of p.spot; candidate = option_of candidate_of p.candidate };
      pos = p.pos;
      call = p.call;
    }

abbrev pub placed_in : List Place → List Placed
placed_in = map placed_of
