-- The types of incarnations in the order in which they are given out: those at a block's arrival, and those that its commands make.
use Rattle.std.specs.Prelude.{ℕ, if◌then◌else◌, nat_lt, List, [], ◌∷◌, ◌++◌, length}
use Rattle.bg_ast.specs.Values.{Ty}
use Rattle.bg_flow.specs.Blocks.{Block}
use Rattle.bg_passive.specs.Arrivals.{cmds_types}
use Rattle.bg_sorts.specs.Sorts.{variable_type}

-- an incarnation is new where its number is not below how many there are
abbrev pub with_one : ℕ → Ty → List Ty → List Ty
with_one j t made = if nat_lt j (length made) then made else made ++ t ∷ []

-- the types of variables whose incarnations are new
abbrev pub with_new : List ℕ → List Ty → List Ty → List Ty
with_new [] ts made = made
with_new (j ∷ js) [] made = made
with_new (j ∷ js) (t ∷ ts) made = with_new js ts (with_one j t made)

-- behind a block at whose arrival globals and frame have these incarnations
abbrev pub after_block : List Ty → List Ty → List ℕ × List ℕ → Block → List Ty → List Ty
after_block globals frame at b made =
    with_new at.1 frame (with_new at.0 globals made) ++ cmds_types (variable_type globals frame) b.cmds

abbrev pub after_blocks : List Ty → List Ty → List (List ℕ × List ℕ) → List Block → List Ty → List Ty
after_blocks globals frame [] bs made = made
after_blocks globals frame (at ∷ later) [] made = made
after_blocks globals frame (at ∷ later) (b ∷ bs) made =
    after_blocks globals frame later bs (after_block globals frame at b made)
