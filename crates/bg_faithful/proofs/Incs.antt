-- In a program over values each map among the incarnations has an index.
use Rattle.std.proofs.Common.{ℕ, Bool, true, false, if◌then◌else◌, List, [], ◌∷◌, map}
use Rattle.bg_ast.specs.Values.{Ty}
use Rattle.bg_ast.specs.Syntax.{Var, Decl, Prog}
use Rattle.bg_sense.specs.Types.{types_of}
use Rattle.bg_flow.specs.Core.{Cmd, Check, Suppose, Forget, Put, Perform, Finish}
use Rattle.bg_flow.specs.Blocks.{Block}
use Rattle.bg_passive.specs.Incarnations.{Env, pass_all, entry_env, ty_of, targets_of}
use Rattle.bg_passive.specs.Arrivals.{all_begin, tails, merge_types, globals_in, frames_in, arrive_at, arrive_types, Ways, ways_here, ways_on, ways_to, cmd_types, cmds_types, arrive}
use Rattle.bg_faithful.proofs.ValueTypes.{AreValueTypes, IsValueType, types_append, types_map, vars_valued}
use Rattle.bg_faithful.proofs.Guards.{FitCmd, FitCmds, FitBlocks}

merged_valued : (js : List ℕ) (os : List (List ℕ)) (ts : List Ty) → AreValueTypes ts → AreValueTypes (merge_types js os ts)
merged_valued [] os ts h = tt
merged_valued (j ∷ js) os [] h = tt
merged_valued (j ∷ js) os (t ∷ ts) h = on (all_begin j os) (merged_valued js (tails os) ts h.1)
  where
    on : (b : Bool) → AreValueTypes (merge_types js (tails os) ts) → AreValueTypes (if b then merge_types js (tails os) ts else t ∷ merge_types js (tails os) ts)
    on true k = k
    on false k = (h.0, k)

arrive_valued : (gts fts : List Ty) (vs : List Env) → AreValueTypes gts → AreValueTypes fts → AreValueTypes (arrive_types gts fts vs)
arrive_valued gts fts [] h k = tt
arrive_valued gts fts (v ∷ vs) h k =
    types_append (merge_types v.globals (globals_in (v ∷ vs)) gts) _ (merged_valued v.globals (globals_in (v ∷ vs)) gts h) (merged_valued v.frame (frames_in (v ∷ vs)) fts k)

module _ (p : Prog) (ds : List Decl) (gs : AreValueTypes (types_of p.globals)) (fs : AreValueTypes (types_of ds)) where
  abbrev tys : Var → Ty
  tys = ty_of p ds

  each_var : (x : Var) → IsValueType (tys x)
  each_var = vars_valued p ds gs fs

  cmd_valued : (k : Cmd) → FitCmd p k → AreValueTypes (cmd_types tys k)
  cmd_valued (Check xs) h = tt
  cmd_valued (Suppose xs) h = tt
  cmd_valued (Forget xs) h = types_map tys each_var xs
  cmd_valued (Put xs es) h = types_map tys each_var xs
  cmd_valued (Perform k) h =
      types_append (types_of k.params) _ h.1.1.0 (types_append (map tys k.modifies) (types_of k.results) (types_map tys each_var k.modifies) h.1.1.1)
  cmd_valued Finish h = tt

  cmds_valued : (ks : List Cmd) → FitCmds p ks → AreValueTypes (cmds_types tys ks)
  cmds_valued [] h = tt
  cmds_valued (k ∷ ks) h = types_append (cmd_types tys k) _ (cmd_valued k h.0) (cmds_valued ks h.1)

  pub made_valued : (bs : List Block) (ways : Ways) (n : ℕ) → FitBlocks p bs → AreValueTypes (arrive p ds bs ways n).made
  made_valued [] ways n h = tt
  made_valued (x ∷ bs) ways n h =
      let at = arrive_at (entry_env p ds) (ways_here ways) n in
      let d = pass_all x.cmds at.env at.next in
      types_append (arrive_types (types_of p.globals) (types_of ds) (ways_here ways)) _ (arrive_valued (types_of p.globals) (types_of ds) (ways_here ways) gs fs)
      (types_append (cmds_types tys x.cmds) _ (cmds_valued x.cmds h.0) (made_valued bs (ways_to (targets_of x.exit) d.env (ways_on ways)) d.next h.1))
