-- In blocks that are made passive declared candidates alone guard commands, and each check is at a place, where it was so before.
use Rattle.std.proofs.Common.{ℕ, suc, Bool, true, false, if◌then◌else◌, List, [], ◌∷◌, ◌++◌, map, Option, Some, None, refl}
use Rattle.std.specs.Prelude.{◌==◌, slice_get}
use Rattle.bg_ast.specs.Syntax.{Local, Read, Not, Exs, NoMore, More, Star, Test, Prog}
use Rattle.bg_flow.specs.Core.{Demand, Saying, Cmd, Check, Suppose, Forget, Put, Perform, Finish}
use Rattle.bg_flow.specs.Blocks.{Exit, Leap, Either, Block}
use Rattle.bg_passive.specs.Passive.{PassiveCmd, Claims, Supposes, Edge, PassiveBlock}
use Rattle.bg_passive.specs.Incarnations.{Env, rename, claims_in, supposes_in, is_worth, set_to, pass, pass_all, Arrival, joins, join_env, edge_to, edges, passives}
use Rattle.bg_faithful.specs.Checks.{CmdsPlaced, EdgesPlaced, BlocksPlaced}
use Rattle.bg_faithful.proofs.ValueTypes.{IsDeclared}
use Rattle.bg_faithful.proofs.Guards.{FitCheck, FitDemands, FitSayings, FitCmd, FitCmds, FitBlocks}

-- a candidate that guards the command is a declared one, and a check is at a place of the program
abbrev pub FitOne : Prog → PassiveCmd → Type 0
FitOne p (Claims s b e) = FitCheck p s b
FitOne p (Supposes b e) = IsDeclared p.candidates b

abbrev pub FitOnes : Prog → List PassiveCmd → Type 0
FitOnes p [] = Unit {0}
FitOnes p (k ∷ ks) = FitOne p k × FitOnes p ks

abbrev pub FitEdges : Prog → List Edge → Type 0
FitEdges p [] = Unit {0}
FitEdges p (e ∷ es) = FitOnes p e.cmds × FitEdges p es

abbrev pub FitPassives : Prog → List PassiveBlock → Type 0
FitPassives p [] = Unit {0}
FitPassives p (b ∷ bs) = (FitOnes p b.cmds × FitEdges p b.next) × FitPassives p bs

module _ (p : Prog) where
  ones_append : (ks ls : List PassiveCmd) → FitOnes p ks → FitOnes p ls → FitOnes p (ks ++ ls)
  ones_append [] ls h k = k
  ones_append (c ∷ ks) ls h k = (h.0, ones_append ks ls h.1 k)

  claims_fit : (qs : List Demand) (v : Env) → FitDemands p qs → FitOnes p (claims_in v qs)
  claims_fit [] v h = tt
  claims_fit (d ∷ qs) v h = (h.0, claims_fit qs v h.1)

  supposes_fit : (qs : List Saying) (v : Env) → FitSayings p qs → FitOnes p (supposes_in v qs)
  supposes_fit [] v h = tt
  supposes_fit (d ∷ qs) v h = (h.0, supposes_fit qs v h.1)

  sets_fit : (es : Exs) (n : ℕ) (v : Env) → FitOnes p (set_to n es v)
  sets_fit NoMore n v = tt
  sets_fit (More e es) n v = (refl, sets_fit es (suc n) v)

  pass_fits : (k : Cmd) (v : Env) (n : ℕ) → FitCmd p k → FitOnes p (pass k v n).cmds
  pass_fits (Check qs) v n h = claims_fit qs v h
  pass_fits (Suppose qs) v n h = supposes_fit qs v h
  pass_fits (Forget xs) v n h = tt
  pass_fits (Put xs es) v n h = sets_fit es n v
  pass_fits (Perform k) v n h =
      ones_append (set_to n k.args v) _ (sets_fit k.args n v) (ones_append (claims_in _ k.needs) _ (claims_fit k.needs _ h.0) (supposes_fit k.gives _ h.1.0))
  pass_fits Finish v n h = (refl, tt)

  all_fit : (ks : List Cmd) (v : Env) (n : ℕ) → FitCmds p ks → FitOnes p (pass_all ks v n).cmds
  all_fit [] v n h = tt
  all_fit (k ∷ ks) v n h =
      ones_append (pass k v n).cmds _ (pass_fits k v n h.0) (all_fit ks (pass k v n).env (pass k v n).next h.1)

  -- ---- ways on

  joins_fit : (is js : List ℕ) → FitOnes p (joins is js)
  joins_fit [] js = tt
  joins_fit (i ∷ is) [] = tt
  joins_fit (i ∷ is) (j ∷ js) = on (i == j) (joins_fit is js)
    where
      on : (b : Bool) → FitOnes p (joins is js) → FitOnes p (if b then joins is js else is_worth j (Read (Local i)) ∷ joins is js)
      on true k = k
      on false k = (refl, k)

  join_fits : (v : Env) (o : Option Arrival) → FitOnes p (join_env v o)
  join_fits v None = tt
  join_fits v (Some a) =
      ones_append (joins v.globals a.env.globals) _ (joins_fit v.globals a.env.globals) (joins_fit v.frame a.env.frame)

  edge_fits : (v : Env) (later : List Arrival) (ks : List PassiveCmd) (k : ℕ) → FitOnes p ks → FitOnes p (edge_to v later ks k).cmds
  edge_fits v later ks k h = ones_append ks _ h (join_fits v (slice_get later k))

  leaps_fit : (v : Env) (later : List Arrival) (ks : List ℕ) → FitEdges p (map (edge_to v later []) ks)
  leaps_fit v later [] = tt
  leaps_fit v later (k ∷ ks) = (edge_fits v later [] k tt, leaps_fit v later ks)

  edges_fit : (v : Env) (later : List Arrival) (x : Exit) → FitEdges p (edges v later x)
  edges_fit v later (Leap []) = (edge_fits v later [] 0 tt, tt)
  edges_fit v later (Leap (k ∷ ks)) = leaps_fit v later (k ∷ ks)
  edges_fit v later (Either Star a z) = (edge_fits v later [] a tt, (edge_fits v later [] z tt, tt))
  edges_fit v later (Either (Test e) a z) =
      (edge_fits v later (Supposes None (rename e v) ∷ []) a (refl, tt), (edge_fits v later (Supposes None (Not (rename e v)) ∷ []) z (refl, tt), tt))

  pub passives_fit : (later : List Arrival) (bs : List Block) → FitBlocks p bs → FitPassives p (passives later bs)
  passives_fit later [] h = tt
  passives_fit [] (b ∷ bs) h = tt
  passives_fit (a ∷ later) (b ∷ bs) h =
      ((all_fit b.cmds a.env a.next h.0, edges_fit (pass_all b.cmds a.env a.next).env later b.exit), passives_fit later bs h.1)

-- ---- each check is at a place

cmds_placed : (p : Prog) (ks : List PassiveCmd) → FitOnes p ks → CmdsPlaced p ks
cmds_placed p [] h = tt
cmds_placed p (Claims s b e ∷ ks) h = (h.0.1, cmds_placed p ks h.1)
cmds_placed p (Supposes b e ∷ ks) h = cmds_placed p ks h.1

edges_placed : (p : Prog) (es : List Edge) → FitEdges p es → EdgesPlaced p es
edges_placed p [] h = tt
edges_placed p (e ∷ es) h = (cmds_placed p e.cmds h.0, edges_placed p es h.1)

pub blocks_placed : (p : Prog) (bs : List PassiveBlock) → FitPassives p bs → BlocksPlaced p bs
blocks_placed p [] h = tt
blocks_placed p (b ∷ bs) h = ((cmds_placed p b.cmds h.0.0, edges_placed p b.next h.0.1), blocks_placed p bs h.1)
