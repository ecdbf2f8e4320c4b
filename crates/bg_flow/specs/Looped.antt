-- Blocks with loops, as they come from statements: a loop's head and the end of its turns are commands. Cutting writes out both.
use Rattle.std.specs.Prelude.{ℕ, ◌-◌, Bool, true, false, if◌then◌else◌, List, [], ◌∷◌, ◌++◌, length}
use Rattle.bg_ast.specs.Syntax.{Guard}
use Rattle.bg_sense.specs.Flow.{World, Answer, Point, Flow, Next, and_then, point_eq}
use Rattle.bg_sense.specs.Context.{Ctx, scope}
use Rattle.bg_sense.specs.Choices.{forget_all}
use Rattle.bg_sense.specs.Loop.{end}
use Rattle.bg_flow.specs.Core.{Demand, Cmd, Check, Suppose, act, check_these, suppose_these, Head, arrival, turn, Core, Nil, Seq, Mark, Do, To, Choose, Loop, Routine}
use Rattle.bg_flow.specs.Blocks.{Exit, Leap, Either, Block, Table, at_table, enter, index, leave, Places, to_points}

pub data LoopCmd : Type 0 where
  Plain : Cmd → LoopCmd
  Arrive : Head → LoopCmd
  Turned : Head → LoopCmd

pub record LoopBlock : Type 0 where
  pub cmds : List LoopCmd
  pub exit : Exit

-- one induction step: on arrival the invariants are checked, the targets forgotten, and the invariants assumed;
-- after a turn the invariants are checked, and the execution ends
abbrev pub act_loop : Ctx → LoopCmd → World → Flow
act_loop c (Plain k) w = act c k w
act_loop c (Arrive h) w =
    and_then
    (check_these c (scope c) h.arriving w)
    (λ v. and_then (forget_all c h.forgotten v) (λ u. and_then (suppose_these c (scope c) h.held u) (suppose_these c (scope c) h.free)))
act_loop c (Turned h) w = and_then (check_these c (scope c) h.turned w) end

abbrev pub act_loops : Ctx → List LoopCmd → World → Flow
act_loops c [] w = Next w
act_loops c (k ∷ ks) w = and_then (act_loop c k w) (act_loops c ks)

abbrev pub run_loop_block : Ctx → LoopBlock → Table → World → Answer
run_loop_block c b t w = enter t index (and_then (act_loops c b.cmds w) (leave c b.exit))

abbrev pub loop_table : Ctx → Table → List LoopBlock → Table
loop_table c t [] = t
loop_table c t (b ∷ bs) = run_loop_block c b (loop_table c t bs) ∷ loop_table c t bs

abbrev pub loops_run : Ctx → List LoopBlock → World → Answer
loops_run c bs w = at_table (loop_table c [] bs) 0 w

-- blocks, where points lie, and whether the first block takes in commands in front of its own
pub record Flowed : Type 0 where
  pub blocks : List LoopBlock
  pub from_end : Point → ℕ
  pub takes_in : Bool

abbrev pub flow_places : Flowed → Places
flow_places t p = length t.blocks - t.from_end p

abbrev pub plain_cmds : List Cmd → List LoopCmd
plain_cmds [] = []
plain_cmds (k ∷ ks) = Plain k ∷ plain_cmds ks

abbrev pub single : List LoopCmd → List ℕ → List LoopBlock
single cmds to = record { cmds = cmds; exit = Leap to } ∷ []

-- commands in front of those of the first block
abbrev pub flow_in : List LoopCmd → List LoopBlock → List LoopBlock
flow_in ks [] = single ks (0 ∷ [])
flow_in ks (b ∷ bs) = record { cmds = ks ++ b.cmds; exit = b.exit } ∷ bs

-- commands in front of blocks: the first one takes them in, or else they are a block that leads on
abbrev pub flow_led : Bool → List LoopCmd → List LoopBlock → List LoopBlock
flow_led true ks bs = flow_in ks bs
flow_led false ks bs = single ks (0 ∷ []) ++ bs

abbrev pub flow_doing : List Cmd → Flowed → Flowed
flow_doing ks t = record { blocks = flow_led t.takes_in (plain_cmds ks) t.blocks; from_end = t.from_end; takes_in = true }

-- jumps lead here
abbrev pub flow_closed : Flowed → Flowed
flow_closed t = record { blocks = t.blocks; from_end = t.from_end; takes_in = false }

-- the point lies here
abbrev pub flow_lying : Point → Flowed → Flowed
flow_lying p t =
    record {
      blocks = t.blocks;
      from_end = λ q. if point_eq p q then length t.blocks else t.from_end q;
      takes_in = false;
    }

-- a block in front of blocks u, where points lie as in t
abbrev pub flow_front : Flowed → LoopBlock → Flowed → Flowed
flow_front t b u = record { blocks = b ∷ u.blocks; from_end = t.from_end; takes_in = true }

-- one side of a conditional is there: behind the other one it is skipped
abbrev pub flow_skipped : Flowed → Flowed → Flowed
flow_skipped t off =
    flow_front t (record { cmds = []; exit = Leap ((length off.blocks - length t.blocks) ∷ []) }) off

-- both sides are there: by the guard it goes on with the first one, or else with the other one
abbrev pub flow_decided : Flowed → Guard → Flowed → Flowed → Flowed
flow_decided t g off on =
    flow_front t (record { cmds = []; exit = Either g 0 (length on.blocks - length off.blocks) }) on

-- a turn of a loop is there: on arrival the guard decides between it and what is behind the loop
abbrev pub flow_arrived : Flowed → Head → Guard → Flowed → Flowed
flow_arrived t h g body =
    flow_front t (record { cmds = Arrive h ∷ []; exit = Either g 0 (length body.blocks - length t.blocks) }) body

-- the end of a turn
abbrev pub flow_turned : Head → Flowed → Flowed
flow_turned h t = flow_front t (record { cmds = Turned h ∷ []; exit = Leap (0 ∷ []) }) t

-- the blocks of a body in front of those behind it
abbrev pub flow : Core → Flowed → Flowed
flow Nil t = t
flow (Seq a b) t = flow a (flow b t)
flow (Mark p) t = flow_lying p t
flow (Do ks) t = flow_doing ks t
flow (To ps) t = flow_front t (record { cmds = []; exit = Leap (to_points (flow_places t) ps) }) t
flow (Choose g a b) t = let off = flow b (flow_closed t) in flow_decided t g off (flow a (flow_skipped t off))
flow (Loop h g a) t = flow_arrived t h g (flow a (flow_turned h t))

-- the last block, which checks what is wanted
abbrev pub flow_end : List Demand → Flowed
flow_end ds =
    record { blocks = record { cmds = Plain (Check ds) ∷ []; exit = Leap [] } ∷ []; from_end = λ p. 1; takes_in = false }

-- the blocks of an implementation without calls
abbrev pub flow_of : Routine → List LoopBlock
flow_of r = (flow_doing (Suppose r.given ∷ []) (flow r.body (flow_end r.wanted))).blocks

abbrev pub cut_cmd : LoopCmd → List Cmd
cut_cmd (Plain k) = k ∷ []
cut_cmd (Arrive h) = arrival h
cut_cmd (Turned h) = turn h

abbrev pub cut_cmds : List LoopCmd → List Cmd
cut_cmds [] = []
cut_cmds (k ∷ ks) = cut_cmd k ++ cut_cmds ks

abbrev pub cut_block : LoopBlock → Block
cut_block b = record { cmds = cut_cmds b.cmds; exit = b.exit }

-- the blocks without loops
abbrev pub cut : List LoopBlock → List Block
cut [] = []
cut (b ∷ bs) = cut_block b ∷ cut bs
