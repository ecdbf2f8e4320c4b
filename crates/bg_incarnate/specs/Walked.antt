-- A walk over blocks: how each is arrived at, its commands over incarnations, and the incarnations at its end.
use Rattle.std.specs.Prelude.{ℕ, List, [], ◌∷◌, map, Vec}
use Rattle.std.specs.declared.alloc.Global.{Global}
use Rattle.bg_flow.specs.Blocks.{Block}
use Rattle.bg_passive.specs.Passive.{PassiveCmd, PassiveBlock}
use Rattle.bg_passive.specs.Incarnations.{Env, Passed, pass_all, Arrival, targets_of, edges}
use Rattle.bg_passive.specs.Arrivals.{Ways, arrive_at, ways_here, ways_on, ways_to}
use Rattle.bg_incarnate.specs.declared.arrived.Arrived as code
use Rattle.bg_incarnate.specs.declared.held.Held.{Held}
use Rattle.bg_incarnate.specs.Views.{cmds_of, held_env, incarnations_at}
use Rattle.bg_incarnate.specs.Arrived.{arrival_of, ways_of}

pub record Walked : Type 0 where
  pub arrival : Arrival
  pub cmds : List PassiveCmd
  pub end : Env

abbrev pub walked_of : code.Arrived → Walked
walked_of w = record { arrival = arrival_of w; cmds = cmds_of w.cmds.items; end = held_env w.end }

-- the ways to a block that are open
abbrev pub ways_in : Vec Held Global → List Env
ways_in hs = ways_of hs.items

abbrev pub open_of : List (Vec Held Global) → Ways
open_of ways = map ways_in ways

-- what is passed in a block at which these ways meet
abbrev pub passed_at : Env → Block → Ways → ℕ → Passed
passed_at entry b ways n = let a = arrive_at entry (ways_here ways) n in pass_all b.cmds a.env a.next

abbrev pub walked_at : Env → Block → Ways → ℕ → Walked
walked_at entry b ways n =
    record {
      arrival = arrive_at entry (ways_here ways) n;
      cmds = (passed_at entry b ways n).cmds;
      end = (passed_at entry b ways n).env;
    }

abbrev pub ways_after : Env → Block → Ways → ℕ → Ways
ways_after entry b ways n = ways_to (targets_of b.exit) (passed_at entry b ways n).env (ways_on ways)

-- the walk, where these ways are open and the next new incarnation is n
abbrev pub walk : Env → List Block → Ways → ℕ → List Walked
walk entry [] ways n = []
walk entry (b ∷ bs) ways n = walked_at entry b ways n ∷ walk entry bs (ways_after entry b ways n) (passed_at entry b ways n).next

-- the next new incarnation behind the walk
abbrev pub walk_after : Env → List Block → Ways → ℕ → ℕ
walk_after entry [] ways n = n
walk_after entry (b ∷ bs) ways n = walk_after entry bs (ways_after entry b ways n) (passed_at entry b ways n).next

abbrev pub arrival_in : Walked → Arrival
arrival_in w = w.arrival

abbrev pub next_in : Arrival → ℕ
next_in a = a.next

abbrev pub first_in : Walked → ℕ
first_in w = w.arrival.next

-- the blocks of a walk, with their ways on
abbrev pub finished : List Walked → List Block → List PassiveBlock
finished [] bs = []
finished (w ∷ ws) [] = []
finished (w ∷ ws) (b ∷ bs) = record { cmds = w.cmds; next = edges w.end (map arrival_in ws) b.exit } ∷ finished ws bs

-- the incarnations at the arrivals of a walk, as many as there are blocks
abbrev pub arrived_with : {A : Type 0} → List Walked → List A → List (List ℕ × List ℕ)
arrived_with [] bs = []
arrived_with (w ∷ ws) [] = []
arrived_with (w ∷ ws) (b ∷ bs) = incarnations_at w.arrival ∷ arrived_with ws bs
