-- The walk over blocks, as arrivals and passive blocks.
use Rattle.std.proofs.Common.{◌≡◌, ◌<◌, ◌≤◌, ◌+◌, ◌-◌, ℕ, zero, suc, List, [], ◌∷◌, ◌++◌, length, map, Some, None, refl, sym, ap, arith}
use Rattle.std.specs.Prelude.{slice_set, slice_get}
use Rattle.bg_ast.specs.Syntax.{Decl, Prog}
use Rattle.bg_sense.specs.Variables.{count_from}
use Rattle.bg_flow.specs.Blocks.{Block, Leap}
use Rattle.bg_passive.specs.Passive.{PassiveBlock}
use Rattle.bg_passive.specs.Incarnations.{Env, entry_env, passives, edges, targets_of}
use Rattle.bg_passive.specs.Arrivals.{Ways, way_to, arrive}
use Rattle.bg_incarnate.specs.Walked.{walk, finished, arrival_in, walked_at, ways_after, passed_at}

-- a jump that names blocks leads to these
pub targets_leap : (ks : List ℕ) → 0 < length ks → targets_of (Leap ks) ≡ ks
targets_leap [] h = absurd (omega (arith, h))
targets_leap (k ∷ ks) h = refl

-- a block to which no way is open, behind those that are known
pub open_grown : (k : ℕ) (v : Env) (ways : Ways) → length ways ≤ k → way_to k v (ways ++ [] ∷ []) ≡ way_to k v ways
open_grown zero v [] h = refl
open_grown zero v (vs ∷ ways) h = absurd (omega (arith, h))
open_grown (suc k) v [] h = refl
open_grown (suc k) v (vs ∷ ways) h = ap (λ l. vs ∷ l) (open_grown k v ways (omega (arith, h)))

pub open_there : (k : ℕ) (v : Env) (ways : Ways) (vs : List Env) → slice_get ways k ≡ Some vs → slice_set ways k (v ∷ vs) ≡ way_to k v ways
open_there k v [] vs h = let bad : None ≡ Some vs = h in cc
open_there zero v (ws ∷ ways) vs h = let is : ws ≡ vs = cc in ap (λ l. (v ∷ l) ∷ ways) (sym is)
open_there (suc k) v (ws ∷ ways) vs h = ap (λ l. ws ∷ l) (open_there k v ways vs h)

pub arrivals_are : (p : Prog) (ds : List Decl) (bs : List Block) (ways : Ways) (n : ℕ) → (arrive p ds bs ways n).arrivals ≡ map arrival_in (walk (entry_env p ds) bs ways n)
arrivals_are p ds [] ways n = refl
arrivals_are p ds (b ∷ bs) ways n =
    let entry = entry_env p ds in
    ap (λ l. (walked_at entry b ways n).arrival ∷ l) (arrivals_are p ds bs (ways_after entry b ways n) (passed_at entry b ways n).next)

pub passives_are : (entry : Env) (bs : List Block) (ways : Ways) (n : ℕ) → finished (walk entry bs ways n) bs ≡ passives (map arrival_in (walk entry bs ways n)) bs
passives_are entry [] ways n = refl
passives_are entry (b ∷ bs) ways n =
    let ws = walk entry bs (ways_after entry b ways n) (passed_at entry b ways n).next in
    let block : PassiveBlock = record { cmds = (walked_at entry b ways n).cmds; next = edges (walked_at entry b ways n).end (map arrival_in ws) b.exit } in
    ap (λ l. block ∷ l) (passives_are entry bs (ways_after entry b ways n) (passed_at entry b ways n).next)

-- the numbers from j on that are left
pub count_step : (j n k : ℕ) → k < n → count_from j (n - k) ≡ j ∷ count_from (suc j) (n - (k + 1))
count_step j n k h = let e : n - k ≡ suc (n - (k + 1)) = omega (arith, h) in rw e refl
