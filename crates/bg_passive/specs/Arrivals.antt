-- How each block is arrived at: where the ways to it agree on a variable's incarnation, it stays; else the block has a new one.
use Rattle.std.specs.Prelude.{ℕ, zero, suc, ◌+◌, Bool, true, false, ◌&&◌, if◌then◌else◌, List, [], ◌∷◌, ◌++◌, length, map, ◌==◌}
use Rattle.bg_ast.specs.Values.{Ty}
use Rattle.bg_ast.specs.Syntax.{Var, Decl, Prog}
use Rattle.bg_sense.specs.Types.{types_of}
use Rattle.bg_flow.specs.Core.{Cmd, Forget, Put, Perform}
use Rattle.bg_flow.specs.Blocks.{Block}
use Rattle.bg_passive.specs.Incarnations.{Env, pass_all, Arrival, targets_of, ty_of, entry_env}

-- whether each of these begins with this incarnation
abbrev pub all_begin : ℕ → List (List ℕ) → Bool
all_begin j [] = true
all_begin j ([] ∷ os) = false
all_begin j ((i ∷ is) ∷ os) = i == j && all_begin j os

abbrev pub tails : List (List ℕ) → List (List ℕ)
tails [] = []
tails ([] ∷ os) = [] ∷ tails os
tails ((i ∷ is) ∷ os) = is ∷ tails os

-- one list of incarnations for several, by the first one of them; new ones begin at n
abbrev pub merge : ℕ → List ℕ → List (List ℕ) → List ℕ
merge n [] os = []
merge n (j ∷ js) os = if all_begin j os then j ∷ merge n js (tails os) else n ∷ merge (suc n) js (tails os)

abbrev pub after_merge : ℕ → List ℕ → List (List ℕ) → ℕ
after_merge n [] os = n
after_merge n (j ∷ js) os = if all_begin j os then after_merge n js (tails os) else after_merge (suc n) js (tails os)

-- the types of the new ones
abbrev pub merge_types : List ℕ → List (List ℕ) → List Ty → List Ty
merge_types [] os ts = []
merge_types (j ∷ js) os [] = []
merge_types (j ∷ js) os (t ∷ ts) =
    if all_begin j os then merge_types js (tails os) ts else t ∷ merge_types js (tails os) ts

abbrev pub globals_in : List Env → List (List ℕ)
globals_in [] = []
globals_in (v ∷ vs) = v.globals ∷ globals_in vs

abbrev pub frames_in : List Env → List (List ℕ)
frames_in [] = []
frames_in (v ∷ vs) = v.frame ∷ frames_in vs

-- the arrival by these ways; a block to which no way leads is arrived at as at entry
abbrev pub arrive_at : Env → List Env → ℕ → Arrival
arrive_at entry [] n = record { env = entry; next = n }
arrive_at entry (v ∷ vs) n =
    let n1 = after_merge n v.globals (globals_in (v ∷ vs)) in
    record {
      env =
          record {
            globals = merge n v.globals (globals_in (v ∷ vs));
            before = v.before;
            frame = merge n1 v.frame (frames_in (v ∷ vs));
          };
      next = after_merge n1 v.frame (frames_in (v ∷ vs));
    }

abbrev pub arrive_types : List Ty → List Ty → List Env → List Ty
arrive_types gts fts [] = []
arrive_types gts fts (v ∷ vs) =
    merge_types v.globals (globals_in (v ∷ vs)) gts ++ merge_types v.frame (frames_in (v ∷ vs)) fts

-- the ways that are open: for each later block, from the next one, those that lead to it
abbrev pub Ways : Type 0
Ways = List (List Env)

abbrev pub ways_here : Ways → List Env
ways_here [] = []
ways_here (vs ∷ ways) = vs

abbrev pub ways_on : Ways → Ways
ways_on [] = []
ways_on (vs ∷ ways) = ways

abbrev pub way_to : ℕ → Env → Ways → Ways
way_to zero v [] = (v ∷ []) ∷ []
way_to zero v (vs ∷ ways) = (v ∷ vs) ∷ ways
way_to (suc k) v [] = [] ∷ way_to k v []
way_to (suc k) v (vs ∷ ways) = vs ∷ way_to k v ways

abbrev pub ways_to : List ℕ → Env → Ways → Ways
ways_to [] v ways = ways
ways_to (k ∷ ks) v ways = ways_to ks v (way_to k v ways)

-- the types of the incarnations that commands make
abbrev pub cmd_types : (Var → Ty) → Cmd → List Ty
cmd_types tys (Forget xs) = map tys xs
cmd_types tys (Put xs es) = map tys xs
cmd_types tys (Perform k) = types_of k.params ++ (map tys k.modifies ++ types_of k.results)
cmd_types tys _ = []

abbrev pub cmds_types : (Var → Ty) → List Cmd → List Ty
cmds_types tys [] = []
cmds_types tys (k ∷ ks) = cmd_types tys k ++ cmds_types tys ks

pub record Arrived : Type 0 where
  pub arrivals : List Arrival
  pub made : List Ty

-- the arrivals at blocks, where these ways are open and the next new incarnation is n
abbrev pub arrive : Prog → List Decl → List Block → Ways → ℕ → Arrived
arrive p ds [] ways n = record { arrivals = []; made = [] }
arrive p ds (b ∷ bs) ways n =
    let a = arrive_at (entry_env p ds) (ways_here ways) n in
    let d = pass_all b.cmds a.env a.next in
    let rest = arrive p ds bs (ways_to (targets_of b.exit) d.env (ways_on ways)) d.next in
    record {
      arrivals = a ∷ rest.arrivals;
      made =
          arrive_types (types_of p.globals) (types_of ds) (ways_here ways)
          ++ (cmds_types (ty_of p ds) b.cmds ++ rest.made);
    }

abbrev pub arrived : Prog → List Decl → List Block → Arrived
arrived p ds bs = arrive p ds bs [] (length p.globals + length ds)
