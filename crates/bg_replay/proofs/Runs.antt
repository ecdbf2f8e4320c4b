-- Runs from a block further ahead.
use Rattle.std.proofs.Common.{◌≡◌, ℕ, zero, suc, List, [], ◌∷◌, map, drop, refl}
use Rattle.bg_ast.specs.Resolved as r
use Rattle.bg_flow.specs.Blocks.{Leap}
use Rattle.bg_blocks.specs.Views.{block_of}
use Rattle.bg_blocks.specs.declared.block.Block.{Block}
use Rattle.bg_replay.specs.Moments.{Moment, Around}
use Rattle.bg_replay.specs.Acts.{moved}
use Rattle.bg_replay.specs.Ways.{branched, branch_to, leaves, runs}

pub runs_on : (p : r.Program) (a : Around) (k : ℕ) (bs : List Block) (m : Moment) → runs a 0 (map (block_of p) (drop k bs)) m ≡ runs a k (map (block_of p) bs) m
runs_on p a zero bs m = refl
runs_on p a (suc k) [] m = refl
runs_on p a (suc k) (b ∷ bs) m = runs_on p a k bs m

pub ruleset run_forms = (runs_on)

pub leaps_many : (a : Around) (k l : ℕ) (ks : List ℕ) (m : Moment) → leaves a (Leap (k ∷ l ∷ ks)) m ≡ branch_to (branched m.choices) (k ∷ l ∷ ks) (moved m)
leaps_many a k l ks m = refl

pub ruleset leap_forms = (leaps_many)
