-- The incarnations on open ways are below the next new one.
use Rattle.std.proofs.Common.{◌+◌, ◌<◌, ◌≤◌, ℕ, zero, suc, Bool, true, false, if◌then◌else◌, List, [], ◌∷◌, length, arith}
use Rattle.bg_ast.specs.Syntax.{Decl, Prog}
use Rattle.bg_sense.specs.Variables.{count_from}
use Rattle.bg_flow.specs.Blocks.{Block}
use Rattle.bg_passive.specs.Incarnations.{Env, Below, EnvBelow, entry_env, targets_of}
use Rattle.bg_passive.specs.Arrivals.{Ways, all_begin, tails, merge, after_merge, globals_in, frames_in, arrive_at, ways_here, ways_on, way_to, ways_to}
use Rattle.bg_passive.proofs.Renaming.{below_more, env_more}
use Rattle.bg_incarnate.specs.Walked.{ways_after, passed_at}

abbrev pub AllBelow : ℕ → List Env → Type 0
AllBelow n [] = Unit {0}
AllBelow n (v ∷ vs) = EnvBelow n v × AllBelow n vs

abbrev pub WaysBelow : ℕ → Ways → Type 0
WaysBelow n [] = Unit {0}
WaysBelow n (vs ∷ ways) = AllBelow n vs × WaysBelow n ways

pub here_below : (n : ℕ) (ways : Ways) → WaysBelow n ways → AllBelow n (ways_here ways)
here_below n [] h = tt
here_below n (vs ∷ ways) h = h.0

on_below : (n : ℕ) (ways : Ways) → WaysBelow n ways → WaysBelow n (ways_on ways)
on_below n [] h = tt
on_below n (vs ∷ ways) h = h.1

all_more : (n m : ℕ) (vs : List Env) → n ≤ m → AllBelow n vs → AllBelow m vs
all_more n m [] le h = tt
all_more n m (v ∷ vs) le h = (env_more n m v le h.0, all_more n m vs le h.1)

ways_more : (n m : ℕ) (ways : Ways) → n ≤ m → WaysBelow n ways → WaysBelow m ways
ways_more n m [] le h = tt
ways_more n m (vs ∷ ways) le h = (all_more n m vs le h.0, ways_more n m ways le h.1)

way_below : (n k : ℕ) (v : Env) (ways : Ways) → EnvBelow n v → WaysBelow n ways → WaysBelow n (way_to k v ways)
way_below n zero v [] e h = ((e, tt), tt)
way_below n zero v (vs ∷ ways) e h = ((e, h.0), h.1)
way_below n (suc k) v [] e h = (tt, way_below n k v [] e tt)
way_below n (suc k) v (vs ∷ ways) e h = (h.0, way_below n k v ways e h.1)

ways_below : (n : ℕ) (ks : List ℕ) (v : Env) (ways : Ways) → EnvBelow n v → WaysBelow n ways → WaysBelow n (ways_to ks v ways)
ways_below n [] v ways e h = h
ways_below n (k ∷ ks) v ways e h = ways_below n ks v (way_to k v ways) e (way_below n k v ways e h)

more_merged : (n : ℕ) (js : List ℕ) (os : List (List ℕ)) → n ≤ after_merge n js os
more_merged n [] os = omega arith
more_merged n (j ∷ js) os = on (all_begin j os) (more_merged n js (tails os)) (more_merged (suc n) js (tails os))
  where
    on : (b : Bool) → n ≤ after_merge n js (tails os) → suc n ≤ after_merge (suc n) js (tails os) → n ≤ (if b then after_merge n js (tails os) else after_merge (suc n) js (tails os))
    on true x y = x
    on false x y = omega arith

merged_below : (n0 n : ℕ) (js : List ℕ) (os : List (List ℕ)) → n0 ≤ n → Below n0 js → Below (after_merge n js os) (merge n js os)
merged_below n0 n [] os le b = tt
merged_below n0 n (j ∷ js) os le b =
    on (all_begin j os) (merged_below n0 n js (tails os) le b.1) (merged_below n0 (suc n) js (tails os) (omega arith) b.1)
  where
    on : (t : Bool) → Below (after_merge n js (tails os)) (merge n js (tails os)) → Below (after_merge (suc n) js (tails os)) (merge (suc n) js (tails os)) → Below (if t then after_merge n js (tails os) else after_merge (suc n) js (tails os)) (if t then j ∷ merge n js (tails os) else n ∷ merge (suc n) js (tails os))
    on true x y = (let h = b.0 in let m = more_merged n js (tails os) in let g : j < after_merge n js (tails os) = omega arith in g, x)
    on false x y = (let m = more_merged (suc n) js (tails os) in let g : n < after_merge (suc n) js (tails os) = omega arith in g, y)

-- the incarnations at an arrival
pub arrive_below : (entry : Env) (vs : List Env) (n : ℕ) → EnvBelow n entry → AllBelow n vs → EnvBelow (arrive_at entry vs n).next (arrive_at entry vs n).env × n ≤ (arrive_at entry vs n).next
arrive_below entry [] n e h = (e, omega arith)
arrive_below entry (v ∷ vs) n e h =
    let gs = globals_in (v ∷ vs) in
    let fs = frames_in (v ∷ vs) in
    let n1 = after_merge n v.globals gs in
    let n2 = after_merge n1 v.frame fs in
    let le1 : n ≤ n1 = more_merged n v.globals gs in
    let le2 : n1 ≤ n2 = more_merged n1 v.frame fs in
    let b = h.0 in
    ((below_more n1 n2 (merge n v.globals gs) le2 (merged_below n n v.globals gs (omega arith) b.0), below_more n n2 v.before (omega arith) b.1, merged_below n n1 v.frame fs le1 b.2), omega arith)

-- the ways behind a block
pub after_below : (entry : Env) (b : Block) (ways : Ways) (n m : ℕ) → EnvBelow m (passed_at entry b ways n).env → n ≤ m → WaysBelow n ways → WaysBelow m (ways_after entry b ways n)
after_below entry b ways n m e le h =
    ways_below m (targets_of b.exit) (passed_at entry b ways n).env (ways_on ways) e (ways_more n m (ways_on ways) le (on_below n ways h))

count_below : (k n m : ℕ) → k + n ≤ m → Below m (count_from k n)
count_below k zero m le = tt
count_below k (suc n) m le = (omega arith, count_below (suc k) n m (omega arith))

-- at first
pub entry_below : (p : Prog) (ds : List Decl) → EnvBelow (length p.globals + length ds) (entry_env p ds)
entry_below p ds =
    let m = length p.globals + length ds in
    (count_below 0 (length p.globals) m (omega arith), count_below 0 (length p.globals) m (omega arith), count_below (length p.globals) (length ds) m (omega arith))
