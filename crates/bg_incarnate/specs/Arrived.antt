-- How the code's arrivals are read.
use Rattle.std.specs.Prelude.{◌+◌, suc, ℕ, Bool, true, false, ◌&&◌, if◌then◌else◌, List, [], ◌∷◌, map, reverse, Option, Some, None, slice_get, ◌==◌}
use Rattle.bg_passive.specs.Incarnations.{Env, Arrival}
use Rattle.bg_incarnate.specs.declared.arrived.Arrived.{Arrived}
use Rattle.bg_incarnate.specs.declared.held.Held.{Held}
use Rattle.bg_incarnate.specs.declared.merge.Part.{Part}
use Rattle.bg_incarnate.specs.declared.merge.Part.TheVariants as part
use Rattle.bg_incarnate.specs.Views.{held_env}

abbrev pub arrival_of : Arrived → Arrival
arrival_of a = record { env = held_env a.held; next = a.next }

-- the ways to a block: the last one that was found is the first
abbrev pub ways_of : List Held → List Env
ways_of hs = reverse (map held_env hs)

-- a part of the incarnations
abbrev pub env_part : Part → Env → List ℕ
env_part part.Globals v = v.globals
env_part part.Frame v = v.frame

abbrev pub held_part : Part → Held → List ℕ
held_part which h = env_part which (held_env h)

abbrev pub is_some : ℕ → Option ℕ → Bool
is_some j None = false
is_some j (Some i) = i == j

-- whether each of these has this incarnation at this place
abbrev pub same_at : ℕ → ℕ → List (List ℕ) → Bool
same_at i j [] = true
same_at i j (o ∷ os) = is_some j (slice_get o i) && same_at i j os

-- one list of incarnations for several, by this one of them from this place on; new ones begin at n
abbrev pub merge_from : ℕ → ℕ → List ℕ → List (List ℕ) → List ℕ
merge_from n i [] os = []
merge_from n i (j ∷ js) os =
    (if same_at i j os then j else n) ∷ merge_from (if same_at i j os then n else suc n) (i + 1) js os

abbrev pub after_from : ℕ → ℕ → List ℕ → List (List ℕ) → ℕ
after_from n i [] os = n
after_from n i (j ∷ js) os = after_from (if same_at i j os then n else suc n) (i + 1) js os
