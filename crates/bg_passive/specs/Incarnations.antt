-- Blocks made passive: each change of a variable makes a new incarnation, and a join of ways has incarnations of its own.
use Rattle.std.specs.Prelude.{◌≡◌, ℕ, suc, ◌<◌, ◌≤◌, Bool, true, false, if◌then◌else◌, List, [], ◌∷◌, ◌++◌, length, map, Option, Some, None, pos, slice_get, slice_set, ◌==◌}
use Rattle.bg_ast.specs.Values.{Val, Ty}
use Rattle.bg_ast.specs.Syntax.{Var, Global, Local, Equal, Ex, Exs, Number, Fact, Constant, Read, Not, Negative, Binary, Apply, Select, Update, Old, NoMore, More, Star, Test, Decl, Prog}
use Rattle.bg_ast.specs.Execution.{Interp, State}
use Rattle.bg_sense.specs.Eval.{Scope, value_at, functions_of}
use Rattle.bg_sense.specs.Variables.{type_in, decl_of, count_from}
use Rattle.bg_sense.specs.Types.{are_of, types_of}
use Rattle.bg_sense.specs.Typing.{Sig, HaveTypes}
use Rattle.bg_flow.specs.Core.{Demand, Saying, Plan, Cmd, Check, Suppose, Forget, Put, Perform, Finish, still}
use Rattle.bg_flow.specs.Blocks.{Exit, Leap, Either, Block}
use Rattle.bg_passive.specs.Passive.{PassiveCmd, Claims, Supposes, Edge, PassiveBlock}

-- which incarnation each variable has: the globals now, the globals that `old` speaks of, and the frame
pub record Env : Type 0 where
  pub globals : List ℕ
  pub before : List ℕ
  pub frame : List ℕ

abbrev pub rename_at : Option ℕ → Ex
rename_at None = Number (pos 0)
rename_at (Some j) = Read (Local j)

abbrev pub rename_var : Env → Var → Ex
rename_var v (Global x) = rename_at (slice_get v.globals x)
rename_var v (Local x) = rename_at (slice_get v.frame x)

abbrev mutual
  -- the expression over incarnations: no global and no `old` is left
  pub rename : Ex → Env → Ex
  rename (Number z) v = Number z
  rename (Fact b) v = Fact b
  rename (Constant k) v = Constant k
  rename (Read x) v = rename_var v x
  rename (Not e) v = Not (rename e v)
  rename (Negative e) v = Negative (rename e v)
  rename (Binary op a b) v = Binary op (rename a v) (rename b v)
  rename (Apply f es) v = Apply f (renames es v)
  rename (Select m es) v = Select (rename m v) (renames es v)
  rename (Update m es e) v = Update (rename m v) (renames es v) (rename e v)
  rename (Old e) v = rename e (record v { globals = v.before })

  pub renames : Exs → Env → Exs
  renames NoMore v = NoMore
  renames (More e es) v = More (rename e v) (renames es v)

abbrev pub hold : Var → ℕ → Env → Env
hold (Global x) n v = record v { globals = slice_set v.globals x n }
hold (Local x) n v = record v { frame = slice_set v.frame x n }

abbrev pub hold_all : List Var → List ℕ → Env → Env
hold_all [] ns v = v
hold_all (x ∷ xs) [] v = v
hold_all (x ∷ xs) (n ∷ ns) v = hold_all xs ns (hold x n v)

-- each variable gets the next incarnation
abbrev pub hold_next : List Var → ℕ → Env → Env
hold_next [] n v = v
hold_next (x ∷ xs) n v = hold_next xs (suc n) (hold x n v)

abbrev pub after_vars : List Var → ℕ → ℕ
after_vars [] n = n
after_vars (x ∷ xs) n = after_vars xs (suc n)

abbrev pub after_exs : Exs → ℕ → ℕ
after_exs NoMore n = n
after_exs (More e es) n = after_exs es (suc n)

abbrev pub after_decls : List Decl → ℕ → ℕ
after_decls [] n = n
after_decls (d ∷ ds) n = after_decls ds (suc n)

-- the incarnations from n on, one for each
abbrev pub each_ex : ℕ → Exs → List ℕ
each_ex n NoMore = []
each_ex n (More e es) = n ∷ each_ex (suc n) es

abbrev pub each_decl : ℕ → List Decl → List ℕ
each_decl n [] = []
each_decl n (d ∷ ds) = n ∷ each_decl (suc n) ds

abbrev pub claims_in : Env → List Demand → List PassiveCmd
claims_in v [] = []
claims_in v (d ∷ ds) = Claims d.spot d.candidate (rename d.says v) ∷ claims_in v ds

abbrev pub supposes_in : Env → List Saying → List PassiveCmd
supposes_in v [] = []
supposes_in v (d ∷ ds) = Supposes d.candidate (rename d.says v) ∷ supposes_in v ds

-- an incarnation is worth this
abbrev pub is_worth : ℕ → Ex → PassiveCmd
is_worth j e = Supposes None (Binary Equal (Read (Local j)) e)

-- the incarnations from n on are worth these: all right sides are read before any variable has its new incarnation
abbrev pub set_to : ℕ → Exs → Env → List PassiveCmd
set_to n NoMore v = []
set_to n (More e es) v = is_worth n (rename e v) ∷ set_to (suc n) es v

pub record Passed : Type 0 where
  pub cmds : List PassiveCmd
  pub env : Env
  pub next : ℕ

abbrev pub pass_call : Plan → Env → ℕ → Passed
pass_call k v n =
    let args = each_ex n k.args in
    let n1 = after_exs k.args n in
    let v2 = hold_next k.modifies n1 v in
    let n2 = after_vars k.modifies n1 in
    let results = each_decl n2 k.results in
    record {
      cmds =
          set_to n k.args v
          ++ (claims_in (record { globals = v.globals; before = v.globals; frame = args }) k.needs
          ++ supposes_in (record { globals = v2.globals; before = v.globals; frame = args ++ results }) k.gives);
      env = hold_all k.takes results v2;
      next = after_decls k.results n2;
    }

-- a command over incarnations, where the next free one is n
abbrev pub pass : Cmd → Env → ℕ → Passed
pass (Check ds) v n = record { cmds = claims_in v ds; env = v; next = n }
pass (Suppose ds) v n = record { cmds = supposes_in v ds; env = v; next = n }
pass (Forget xs) v n = record { cmds = []; env = hold_next xs n v; next = after_vars xs n }
pass (Put xs es) v n = record { cmds = set_to n es v; env = hold_all xs (each_ex n es) v; next = after_exs es n }
pass (Perform k) v n = pass_call k v n
pass Finish v n = record { cmds = Supposes None (Fact false) ∷ []; env = v; next = n }

abbrev pub pass_all : List Cmd → Env → ℕ → Passed
pass_all [] v n = record { cmds = []; env = v; next = n }
pass_all (k ∷ ks) v n =
    let a = pass k v n in
    let b = pass_all ks a.env a.next in
    record { cmds = a.cmds ++ b.cmds; env = b.env; next = b.next }

-- how a block is arrived at: the incarnations of the variables there, and the next free one
pub record Arrival : Type 0 where
  pub env : Env
  pub next : ℕ

-- where the block arrived at has another incarnation of a variable, that one is worth this one
abbrev pub joins : List ℕ → List ℕ → List PassiveCmd
joins [] js = []
joins (i ∷ is) [] = []
joins (i ∷ is) (j ∷ js) = if i == j then joins is js else is_worth j (Read (Local i)) ∷ joins is js

abbrev pub join_env : Env → Option Arrival → List PassiveCmd
join_env v None = []
join_env v (Some a) = joins v.globals a.env.globals ++ joins v.frame a.env.frame

abbrev pub edge_to : Env → List Arrival → List PassiveCmd → ℕ → Edge
edge_to v later first k = record { cmds = first ++ join_env v (slice_get later k); to = k }

abbrev pub edges : Env → List Arrival → Exit → List Edge
edges v later (Leap []) = edge_to v later [] 0 ∷ []
edges v later (Leap (k ∷ ks)) = map (edge_to v later []) (k ∷ ks)
edges v later (Either Star on off) = edge_to v later [] on ∷ edge_to v later [] off ∷ []
edges v later (Either (Test e) on off) =
    edge_to v later (Supposes None (rename e v) ∷ []) on
    ∷ edge_to v later (Supposes None (Not (rename e v)) ∷ []) off
    ∷ []

abbrev pub passives : List Arrival → List Block → List PassiveBlock
passives later [] = []
passives [] (b ∷ bs) = []
passives (a ∷ later) (b ∷ bs) =
    let p = pass_all b.cmds a.env a.next in
    record { cmds = p.cmds; next = edges p.env later b.exit } ∷ passives later bs

-- the type of a variable
abbrev pub ty_of : Prog → List Decl → Var → Ty
ty_of p ds x = type_in (decl_of (still p ds) x)

-- the incarnations from n on have these types
abbrev pub TypesFrom : List Ty → ℕ → List Ty → Type 0
TypesFrom incs n [] = Unit {0}
TypesFrom incs n (t ∷ ts) = (slice_get incs n ≡ Some t) × TypesFrom incs (suc n) ts

-- the incarnations that a command makes have the types of what they are incarnations of
abbrev pub FitsCmd : List Ty → (Var → Ty) → Cmd → ℕ → Type 0
FitsCmd incs tys (Forget xs) n = TypesFrom incs n (map tys xs)
FitsCmd incs tys (Put xs es) n = TypesFrom incs n (map tys xs)
FitsCmd incs tys (Perform k) n =
    TypesFrom incs n (types_of k.params)
    × TypesFrom incs (after_exs k.args n) (map tys k.modifies)
    × TypesFrom incs (after_vars k.modifies (after_exs k.args n)) (types_of k.results)
FitsCmd incs tys _ n = Unit {0}

abbrev pub FitsCmds : List Ty → (Var → Ty) → List Cmd → Env → ℕ → Type 0
FitsCmds incs tys [] v n = Unit {0}
FitsCmds incs tys (k ∷ ks) v n =
    FitsCmd incs tys k n × FitsCmds incs tys ks (pass k v n).env (pass k v n).next

abbrev pub Below : ℕ → List ℕ → Type 0
Below n [] = Unit {0}
Below n (j ∷ js) = (j < n) × Below n js

abbrev pub EnvBelow : ℕ → Env → Type 0
EnvBelow n v = Below n v.globals × Below n v.before × Below n v.frame

abbrev pub ForBool : Bool → Type 0 → Type 0 → Type 0
ForBool true A B = A
ForBool false A B = B

-- an incarnation of a join is a new one, of the same type
abbrev pub JoinsFit : List Ty → ℕ → List ℕ → List ℕ → Type 0
JoinsFit incs m [] [] = Unit {0}
JoinsFit incs m [] (j ∷ js) = ⊥
JoinsFit incs m (i ∷ is) [] = ⊥
JoinsFit incs m (i ∷ is) (j ∷ js) =
    ForBool (i == j) (JoinsFit incs m is js) (m ≤ j × ((t : Ty) × ((slice_get incs i ≡ Some t) × (slice_get incs j ≡ Some t))) × JoinsFit incs (suc j) is js)

abbrev pub after_joins : ℕ → List ℕ → List ℕ → ℕ
after_joins m [] js = m
after_joins m (i ∷ is) [] = m
after_joins m (i ∷ is) (j ∷ js) = if i == j then after_joins m is js else after_joins (suc j) is js

abbrev pub FitsJoin : List Ty → Env → ℕ → Option Arrival → Type 0
FitsJoin incs v n None = Unit {0}
FitsJoin incs v n (Some a) =
    n ≤ a.next
    × (v.before ≡ a.env.before)
    × JoinsFit incs n v.globals a.env.globals
    × JoinsFit incs (after_joins n v.globals a.env.globals) v.frame a.env.frame

abbrev pub FitEach : List Ty → Env → ℕ → List Arrival → List ℕ → Type 0
FitEach incs v n later [] = Unit {0}
FitEach incs v n later (k ∷ ks) = FitsJoin incs v n (slice_get later k) × FitEach incs v n later ks

abbrev pub targets_of : Exit → List ℕ
targets_of (Leap []) = 0 ∷ []
targets_of (Leap (k ∷ ks)) = k ∷ ks
targets_of (Either g on off) = on ∷ off ∷ []

-- these arrivals suit these blocks: no incarnation is set twice on a way
abbrev pub FitsBlocks : List Ty → (Var → Ty) → List Arrival → List Block → Type 0
FitsBlocks incs tys [] [] = Unit {0}
FitsBlocks incs tys [] (b ∷ bs) = ⊥
FitsBlocks incs tys (a ∷ later) [] = ⊥
FitsBlocks incs tys (a ∷ later) (b ∷ bs) =
    EnvBelow a.next a.env
    × FitsCmds incs tys b.cmds a.env a.next
    × FitEach incs (pass_all b.cmds a.env a.next).env (pass_all b.cmds a.env a.next).next later (targets_of b.exit)
    × FitsBlocks incs tys later bs

-- what is assigned, and what is handed to a call, is typed
abbrev pub IsTypedCmd : Sig → (Var → Ty) → Cmd → Type 0
IsTypedCmd g tys (Put xs es) = HaveTypes es g (map tys xs)
IsTypedCmd g tys (Perform k) = HaveTypes k.args g (types_of k.params) × (map tys k.takes ≡ types_of k.results)
IsTypedCmd g tys _ = Unit {0}

abbrev pub AreTypedCmds : Sig → (Var → Ty) → List Cmd → Type 0
AreTypedCmds g tys [] = Unit {0}
AreTypedCmds g tys (k ∷ ks) = IsTypedCmd g tys k × AreTypedCmds g tys ks

abbrev pub AreTypedBlocks : Sig → (Var → Ty) → List Block → Type 0
AreTypedBlocks g tys [] = Unit {0}
AreTypedBlocks g tys (b ∷ bs) = AreTypedCmds g tys b.cmds × AreTypedBlocks g tys bs

-- at first each variable has an incarnation: the globals, then the frame
abbrev pub entry_env : Prog → List Decl → Env
entry_env p ds =
    record {
      globals = count_from 0 (length p.globals);
      before = count_from 0 (length p.globals);
      frame = count_from (length p.globals) (length ds);
    }

-- these incarnations have these types, one for each
abbrev pub TypedNums : List Ty → List ℕ → List Ty → Type 0
TypedNums incs [] [] = Unit {0}
TypedNums incs [] (t ∷ ts) = ⊥
TypedNums incs (j ∷ js) [] = ⊥
TypedNums incs (j ∷ js) (t ∷ ts) = (slice_get incs j ≡ Some t) × TypedNums incs js ts

-- each variable's incarnation has the type of the variable, and the globals at entry are the first incarnations
abbrev pub EnvTyped : List Ty → Prog → List Decl → Env → Type 0
EnvTyped incs p ds v =
    TypedNums incs v.globals (types_of p.globals)
    × (TypedNums incs v.frame (types_of ds) × (v.before ≡ (entry_env p ds).before))

abbrev pub ArrivalsTyped : List Ty → Prog → List Decl → List Arrival → Type 0
ArrivalsTyped incs p ds [] = Unit {0}
ArrivalsTyped incs p ds (a ∷ later) = EnvTyped incs p ds a.env × ArrivalsTyped incs p ds later

-- the types of all incarnations: those of the variables at first, and those of the others
abbrev pub incarnations : Prog → List Decl → List Ty → List Ty
incarnations p ds others = types_of p.globals ++ (types_of ds ++ others)

abbrev pub StartsAt : List Arrival → Env → Type 0
StartsAt [] v = ⊥
StartsAt (a ∷ later) v = a.env ≡ v

-- these arrivals, and these types of further incarnations, make blocks passive
abbrev pub MakesPassive : Prog → List Decl → List Ty → List Arrival → List Block → Type 0
MakesPassive p ds others later bs =
    StartsAt later (entry_env p ds) × FitsBlocks (incarnations p ds others) (ty_of p ds) later bs

-- the state of which these are the first incarnations
abbrev pub first_state : Prog → List Decl → List Val → State
first_state p ds values =
    record {
      globals = map (value_at values) (count_from 0 (length p.globals));
      frame = map (value_at values) (count_from (length p.globals) (length ds));
    }

-- what names mean in passive blocks
abbrev pub passive_scope : Prog → Interp → List Val → Scope
passive_scope p i values =
    record {
      functions = functions_of p i;
      constants = i.constants;
      globals = [];
      before = [];
      frame = values;
    }

-- typed values of the incarnations, of which the first ones are this state
pub record ValuesFrom (p : Prog) (ds : List Decl) (others : List Ty) (s : State) (values : List Val) : Type 0 where
  pub typed : are_of (incarnations p ds others) values ≡ true
  pub first : first_state p ds values ≡ s
