-- Blocks without loops, which only lead on to later blocks, and the blocks of a body whose loops are cut. Commands that only follow
-- one another are in one block.
use Rattle.std.specs.Prelude.{ℕ, suc, ◌-◌, Bool, true, false, if◌then◌else◌, List, [], ◌∷◌, ◌++◌, length, map, Option, Some, None, slice_get, unwrap_or}
use Rattle.bg_ast.specs.Syntax.{Guard}
use Rattle.bg_sense.specs.Flow.{World, Answer, Ended, Point, Behind, ToEnd, Flow, Next, Jumps, Over, and_then, point_eq}
use Rattle.bg_sense.specs.Context.{Ctx}
use Rattle.bg_sense.specs.Choices.{decide, branch}
use Rattle.bg_flow.specs.Core.{Demand, Cmd, Check, Suppose, act_all, Head, arrival, turn, Core, Nil, Seq, Mark, Do, To, Choose, Loop, Routine}

-- where a block leads, counted from the next one: to one of these, by a guard to one of two
pub data Exit : Type 0 where
  Leap : List ℕ → Exit
  Either : Guard → (on off : ℕ) → Exit

pub record Block : Type 0 where
  pub cmds : List Cmd
  pub exit : Exit

-- what an execution does from each block on
abbrev pub Table : Type 0
Table = List (World → Answer)

abbrev pub from_here : Option (World → Answer) → World → Answer
from_here None w = Ended
from_here (Some run) w = run w

abbrev pub at_table : Table → ℕ → World → Answer
at_table t k w = from_here (slice_get t k) w

-- a flow goes on at the first block, or at the block of its point
abbrev pub enter : Table → (Point → ℕ) → Flow → Answer
enter t where_ (Next w) = at_table t 0 w
enter t where_ (Jumps p w) = at_table t (where_ p) w
enter t where_ (Over a) = a

-- a block's number is written as a point
abbrev pub index : Point → ℕ
index (Behind k) = k
index _ = 0

abbrev pub nth : List ℕ → ℕ → ℕ
nth [] j = 0
nth (k ∷ ks) j = unwrap_or (slice_get (k ∷ ks) j) k

abbrev pub leave : Ctx → Exit → World → Flow
leave c (Leap []) w = Next w
leave c (Leap (k ∷ [])) w = Jumps (Behind k) w
leave c (Leap (k ∷ l ∷ ks)) w = branch (suc (suc (length ks))) w (λ j u. Jumps (Behind (nth (k ∷ l ∷ ks) j)) u)
leave c (Either g on off) w = decide c g w (Jumps (Behind on)) (Jumps (Behind off))

abbrev pub run_block : Ctx → Block → Table → World → Answer
run_block c b t w = enter t index (and_then (act_all c b.cmds w) (leave c b.exit))

-- the blocks, in front of what comes after them
abbrev pub table : Ctx → Table → List Block → Table
table c t [] = t
table c t (b ∷ bs) = run_block c b (table c t bs) ∷ table c t bs

abbrev pub one : List Cmd → List ℕ → List Block
one cmds to = record { cmds = cmds; exit = Leap to } ∷ []

-- how far ahead each point lies
abbrev pub Places : Type 0
Places = Point → ℕ

-- blocks, and where points lie: so many blocks stand from there to the end. Where nothing but what stands in front of the first block
-- leads to it, it takes in commands in front of its own
pub record Coded : Type 0 where
  pub blocks : List Block
  pub from_end : Point → ℕ
  pub takes_in : Bool

abbrev pub places : Coded → Places
places t p = length t.blocks - t.from_end p

abbrev pub to_points : Places → List Point → List ℕ
to_points where_ [] = where_ ToEnd ∷ []
to_points where_ (p ∷ ps) = map where_ (p ∷ ps)

-- commands in front of those of the first block
abbrev pub taken_in : List Cmd → List Block → List Block
taken_in ks [] = one ks (0 ∷ [])
taken_in ks (b ∷ bs) = record { cmds = ks ++ b.cmds; exit = b.exit } ∷ bs

-- commands in front of blocks: the first one takes them in, or else they are a block that leads on
abbrev pub led : Bool → List Cmd → List Block → List Block
led true ks bs = taken_in ks bs
led false ks bs = one ks (0 ∷ []) ++ bs

abbrev pub doing : List Cmd → Coded → Coded
doing ks t = record { blocks = led t.takes_in ks t.blocks; from_end = t.from_end; takes_in = true }

-- jumps lead here
abbrev pub closed : Coded → Coded
closed t = record { blocks = t.blocks; from_end = t.from_end; takes_in = false }

-- the point lies here
abbrev pub lying : Point → Coded → Coded
lying p t =
    record {
      blocks = t.blocks;
      from_end = λ q. if point_eq p q then length t.blocks else t.from_end q;
      takes_in = false;
    }

-- a block in front of blocks u, where points lie as in t
abbrev pub in_front : Coded → Block → Coded → Coded
in_front t b u = record { blocks = b ∷ u.blocks; from_end = t.from_end; takes_in = true }

-- one side of a conditional is there: behind the other one it is skipped
abbrev pub skipped : Coded → Coded → Coded
skipped t off =
    in_front t (record { cmds = []; exit = Leap ((length off.blocks - length t.blocks) ∷ []) }) off

-- both sides are there: by the guard it goes on with the first one, or else with the other one
abbrev pub decided : Coded → Guard → Coded → Coded → Coded
decided t g off on =
    in_front t (record { cmds = []; exit = Either g 0 (length on.blocks - length off.blocks) }) on

-- a turn of a loop is there: on arrival the guard decides between it and what is behind the loop
abbrev pub arrived : Coded → Head → Guard → Coded → Coded
arrived t h g body =
    in_front t (record { cmds = arrival h; exit = Either g 0 (length body.blocks - length t.blocks) }) body

-- the end of a turn
abbrev pub turned : Head → Coded → Coded
turned h t = in_front t (record { cmds = turn h; exit = Leap (0 ∷ []) }) t

-- the blocks of a body in front of those behind it. Commands go into one block with what follows, up to a point to which jumps lead
abbrev pub code : Core → Coded → Coded
code Nil t = t
code (Seq a b) t = code a (code b t)
code (Mark p) t = lying p t
code (Do ks) t = doing ks t
code (To ps) t = in_front t (record { cmds = []; exit = Leap (to_points (places t) ps) }) t
code (Choose g a b) t = let off = code b (closed t) in decided t g off (code a (skipped t off))
code (Loop h g a) t = arrived t h g (code a (turned h t))

-- the last block, which checks what is wanted: there each point lies that a body lacks
abbrev pub at_end : List Demand → Coded
at_end ds =
    record { blocks = record { cmds = Check ds ∷ []; exit = Leap [] } ∷ []; from_end = λ p. 1; takes_in = false }

-- the blocks of an implementation without calls: at first what is given is assumed, and at the end what is wanted is checked
abbrev pub blocks_of : Routine → List Block
blocks_of r = (doing (Suppose r.given ∷ []) (code r.body (at_end r.wanted))).blocks

-- an execution of blocks, from the first one
abbrev pub blocks_run : Ctx → List Block → World → Answer
blocks_run c bs w = at_table (table c [] bs) 0 w
