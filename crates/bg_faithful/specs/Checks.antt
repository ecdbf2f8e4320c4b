-- The checks of passive blocks, as places of the program.
use Rattle.std.specs.Prelude.{◌≡◌, ℕ, List, [], ◌∷◌, Option, Contains}
use Rattle.bg_ast.specs.Syntax.{Prog}
use Rattle.bg_ast.specs.Execution.{Spot, Place}
use Rattle.bg_sense.specs.Places.{places}
use Rattle.bg_passive.specs.Passive.{PassiveCmd, Claims, Supposes, Edge, PassiveBlock}

-- the program has a place with this spot and this candidate
abbrev pub HasPlace : Prog → Spot → Option ℕ → Type 0
HasPlace p spot candidate =
    (u : Place) × (Contains (places p) u × ((u.spot ≡ spot) × (u.candidate ≡ candidate)))

abbrev pub CmdsPlaced : Prog → List PassiveCmd → Type 0
CmdsPlaced p [] = Unit {0}
CmdsPlaced p (Claims s b e ∷ ks) = HasPlace p s b × CmdsPlaced p ks
CmdsPlaced p (Supposes b e ∷ ks) = CmdsPlaced p ks

abbrev pub EdgesPlaced : Prog → List Edge → Type 0
EdgesPlaced p [] = Unit {0}
EdgesPlaced p (e ∷ es) = CmdsPlaced p e.cmds × EdgesPlaced p es

-- each check of the blocks is at a place of the program, and has its candidate
abbrev pub BlocksPlaced : Prog → List PassiveBlock → Type 0
BlocksPlaced p [] = Unit {0}
BlocksPlaced p (b ∷ bs) = (CmdsPlaced p b.cmds × EdgesPlaced p b.next) × BlocksPlaced p bs
