-- Blocks and the same with their loops cut have the same runs, and cutting gives the blocks that the other proofs speak of.
use Rattle.std.proofs.Common.{◌≡◌, ℕ, zero, suc, ◌-◌, Bool, true, false, if◌then◌else◌, List, [], ◌∷◌, ◌++◌, length, Some, refl, sym, ap, ◌∙◌, arith}
use Rattle.std.specs.Prelude.{slice_get}
use Rattle.bg_ast.specs.Syntax.{Guard, Prog, Proc, Impl}
use Rattle.bg_ast.specs.Execution.{Interp, Choice, State}
use Rattle.bg_sense.specs.Flow.{World, Flow, Next, Jumps, Over, and_then, point_eq}
use Rattle.bg_sense.specs.Context.{Cut, Ctx, scope}
use Rattle.bg_sense.specs.Choices.{forget_all}
use Rattle.bg_sense.specs.Run.{context, start, induction_run}
use Rattle.bg_sense.specs.Variables.{procedure_of}
use Rattle.bg_flow.specs.Core.{Cmd, Suppose, act, act_all, check_these, suppose_these, Head, arrival, Core, Nil, Seq, Mark, Do, To, Choose, Loop, Routine, routine_of}
use Rattle.bg_flow.specs.Blocks.{Leap, Either, Table, at_table, enter, index, leave, table, Places, to_points, Coded, led, doing, closed, in_front, skipped, decided, arrived, code, blocks_of, blocks_run}
use Rattle.bg_flow.specs.Looped.{LoopCmd, Plain, Arrive, Turned, LoopBlock, act_loop, act_loops, loop_table, loops_run, Flowed, plain_cmds, flow_led, flow_doing, flow_closed, flow_skipped, flow_decided, flow_arrived, flow_turned, flow, flow_end, flow_of, cut_cmd, cut_cmds, cut}
use Rattle.bg_flow.proofs.CoreRuns.{then_ext, then_next}
use Rattle.bg_flow.proofs.BlockRuns.{acts_append, blocks_same}

module _ (c : Ctx) where
  cmd_cut : (k : LoopCmd) (w : World) → act_all c (cut_cmd k) w ≡ act_loop c k w
  cmd_cut (Plain k) w = then_next (act c k w)
  cmd_cut (Arrive h) w =
      then_ext (check_these c (scope c) h.arriving w) _ _ (λ v. then_ext (forget_all c h.forgotten v) _ _ (λ u. then_ext (suppose_these c (scope c) h.held u) _ _ (λ t. then_next (suppose_these c (scope c) h.free t))))
  cmd_cut (Turned h) w = refl

  cmds_cut : (ks : List LoopCmd) (w : World) → act_all c (cut_cmds ks) w ≡ act_loops c ks w
  cmds_cut [] w = refl
  cmds_cut (k ∷ ks) w =
      acts_append c (cut_cmd k) (cut_cmds ks) w
      ∙ ap (λ f. and_then f (act_all c (cut_cmds ks))) (cmd_cut k w)
      ∙ then_ext (act_loop c k w) (act_all c (cut_cmds ks)) (act_loops c ks) (cmds_cut ks)

  -- two tables that do the same
  abbrev Alike : Table → Table → Type 0
  Alike t u = (k : ℕ) (w : World) → at_table t k w ≡ at_table u k w

  enter_alike : (t u : Table) (i : Places) (f : Flow) → Alike t u → enter t i f ≡ enter u i f
  enter_alike t u i (Next w) h = h 0 w
  enter_alike t u i (Jumps p w) h = h (i p) w
  enter_alike t u i (Over a) h = refl

  cut_alike : (bs : List LoopBlock) → Alike (table c [] (cut bs)) (loop_table c [] bs)
  cut_alike [] k w = refl
  cut_alike (b ∷ bs) zero w =
      ap (λ f. enter (table c [] (cut bs)) index (and_then f (leave c b.exit))) (cmds_cut b.cmds w)
      ∙ enter_alike (table c [] (cut bs)) (loop_table c [] bs) index (and_then (act_loops c b.cmds w) (leave c b.exit)) (cut_alike bs)
  cut_alike (b ∷ bs) (suc k) w = cut_alike bs k w

  pub cut_same : (bs : List LoopBlock) (w : World) → blocks_run c (cut bs) w ≡ loops_run c bs w
  cut_same bs w = cut_alike bs 0 w

cut_length : (xs : List LoopBlock) → length (cut xs) ≡ length xs
cut_length [] = refl
cut_length (x ∷ xs) = ap suc' (cut_length xs)
  where
    suc' : ℕ → ℕ
    suc' n = suc n

-- the blocks that are cut, with the same points
abbrev cut_flow : Flowed → Coded
cut_flow t = record { blocks = cut t.blocks; from_end = t.from_end; takes_in = t.takes_in }

cut_plain : (ks : List Cmd) (ls : List LoopCmd) → cut_cmds (plain_cmds ks ++ ls) ≡ ks ++ cut_cmds ls
cut_plain [] ls = refl
cut_plain (k ∷ ks) ls = ap (λ l. k ∷ l) (cut_plain ks ls)

cut_alone : (ks : List Cmd) → cut_cmds (plain_cmds ks) ≡ ks
cut_alone [] = refl
cut_alone (k ∷ ks) = ap (λ l. k ∷ l) (cut_alone ks)

cut_led : (o : Bool) (ks : List Cmd) (bs : List LoopBlock) → cut (flow_led o (plain_cmds ks) bs) ≡ led o ks (cut bs)
cut_led false ks bs = ap (λ l. record { cmds = l; exit = Leap (0 ∷ []) } ∷ cut bs) (cut_alone ks)
cut_led true ks [] = ap (λ l. record { cmds = l; exit = Leap (0 ∷ []) } ∷ []) (cut_alone ks)
cut_led true ks (b ∷ bs) = ap (λ l. record { cmds = l; exit = b.exit } ∷ cut bs) (cut_plain ks b.cmds)

cut_doing : (ks : List Cmd) (t : Flowed) → cut_flow (flow_doing ks t) ≡ doing ks (cut_flow t)
cut_doing ks t = ap (λ l. record { blocks = l; from_end = t.from_end; takes_in = true }) (cut_led t.takes_in ks t.blocks)

-- how many blocks more
more_cut : (t u : Flowed) → length u.blocks - length t.blocks ≡ length (cut u.blocks) - length (cut t.blocks)
more_cut t u = let long = cut_length t.blocks in let longer = cut_length u.blocks in omega (arith, long, longer)

cut_skipped : (t off : Flowed) → cut_flow (flow_skipped t off) ≡ skipped (cut_flow t) (cut_flow off)
cut_skipped t off =
    ap (λ n. in_front (cut_flow t) (record { cmds = []; exit = Leap (n ∷ []) }) (cut_flow off)) (more_cut t off)

cut_decided : (t : Flowed) (g : Guard) (off on : Flowed) → cut_flow (flow_decided t g off on) ≡ decided (cut_flow t) g (cut_flow off) (cut_flow on)
cut_decided t g off on =
    ap (λ n. in_front (cut_flow t) (record { cmds = []; exit = Either g 0 n }) (cut_flow on)) (more_cut off on)

cut_arrived : (t : Flowed) (h : Head) (g : Guard) (body : Flowed) → cut_flow (flow_arrived t h g body) ≡ arrived (cut_flow t) h g (cut_flow body)
cut_arrived t h g body =
    ap (λ n. in_front (cut_flow t) (record { cmds = arrival h; exit = Either g 0 n }) (cut_flow body)) (more_cut t body)

-- the blocks that are cut are those of the body, and points lie in the same places
flow_code : (s : Core) (t : Flowed) → cut_flow (flow s t) ≡ code s (cut_flow t)
flow_code Nil t = refl
flow_code (Seq a b) t = flow_code a (flow b t) ∙ ap (code a) (flow_code b t)
flow_code (Mark p) t =
    ap (λ n. record { blocks = cut t.blocks; from_end = λ q. if point_eq p q then n else t.from_end q; takes_in = false }) (sym (cut_length t.blocks))
flow_code (Do ks) t = cut_doing ks t
flow_code (To ps) t =
    ap (λ n. in_front (cut_flow t) (record { cmds = []; exit = Leap (to_points (λ p. n - t.from_end p) ps) }) (cut_flow t)) (sym (cut_length t.blocks))
flow_code (Choose g a b) t =
    let off = flow b (flow_closed t) in
    let on = flow a (flow_skipped t off) in
    let there : cut_flow off ≡ code b (closed (cut_flow t)) = flow_code b (flow_closed t) in
    let side : cut_flow on ≡ code a (skipped (cut_flow t) (cut_flow off)) =
    flow_code a (flow_skipped t off) ∙ ap (code a) (cut_skipped t off) in
    cut_decided t g off on
    ∙ ap (decided (cut_flow t) g (cut_flow off)) side
    ∙ ap (λ u. decided (cut_flow t) g u (code a (skipped (cut_flow t) u))) there
flow_code (Loop h g a) t =
    cut_arrived t h g (flow a (flow_turned h t)) ∙ ap (arrived (cut_flow t) h g) (flow_code a (flow_turned h t))

-- cutting the blocks of an implementation
pub cut_whole : (r : Routine) → cut (flow_of r) ≡ blocks_of r
cut_whole r =
    ap (λ u. u.blocks) (cut_doing (Suppose r.given ∷ []) (flow r.body (flow_end r.wanted)) ∙ ap (doing (Suppose r.given ∷ [])) (flow_code r.body (flow_end r.wanted)))

pub loops_same : (p : Prog) (set : ℕ → Bool) (i : Interp) (k : ℕ) (m : Impl) (q : Proc) (s : State) (cs : List Choice) → slice_get p.implementations k ≡ Some m → procedure_of p m.procedure ≡ Some q → loops_run (context Cut p set i k m q s) (flow_of (routine_of p k m q)) (start s cs 0) ≡ induction_run p set i k s cs
loops_same p set i k m q s cs em eq =
    let c = context Cut p set i k m q s in
    sym (cut_same c (flow_of (routine_of p k m q)) (start s cs 0))
    ∙ ap (λ bs. blocks_run c bs (start s cs 0)) (cut_whole (routine_of p k m q))
    ∙ blocks_same p set i k m q s cs em eq
