-- What an ending tells of an execution.
use Rattle.std.specs.Prelude.{◌≡◌, ℕ, Bool, true, List, map}
use Rattle.bg_ast.specs.Syntax.{Decl, Prog}
use Rattle.bg_ast.specs.Execution.{Interp, Choice}
use Rattle.bg_ast.specs.Values.{Val, Table}
use Rattle.bg_ast.specs.Resolved as r
use Rattle.bg_ast.specs.Meaning as m
use Rattle.bg_sense.specs.Eval.{functions_of}
use Rattle.bg_sense.specs.Types.{are_of, types_of}
use Rattle.bg_sense.specs.Tables.{are_tables}
use Rattle.bg_sense.specs.Flow.{Answer}
use Rattle.bg_sense.specs.Context.{Cut}
use Rattle.bg_sense.specs.Run.{context, start}
use Rattle.bg_flow.specs.Core.{frame_decls}
use Rattle.bg_flow.specs.Blocks.{blocks_run}
use Rattle.bg_block_types.specs.TypedFlow.{CodeIsTyped}
use Rattle.bg_blocks.specs.Views.{block_of}
use Rattle.bg_blocks.specs.declared.block.Block.{Block}
use Rattle.bg_scalar.specs.Values.{MeanTables}
use Rattle.bg_scalar.specs.Choices.{state_of}
use Rattle.bg_replay.specs.Moments.{Moment, Around}
use Rattle.bg_replay.specs.Said.{Said, Fine, Stops, Leaves, Unsaid}
use Rattle.bg_replay.specs.Ways.{runs}
use Rattle.bg_replay.specs.Views.{set_of, said_by}
use Rattle.bg_replay.specs.Over.{over_blocks}
use Rattle.bg_replay.specs.declared.ending.Ending.{Ending}

-- an ending is how the execution answers, where it is an answer
abbrev pub IsRight : Ending → Answer → Type 0
IsRight ending answer = (x : Answer) → said_by ending ≡ Stops x → answer ≡ x

-- something is said
abbrev pub Tells : Said → Type 0
Tells Fine = Unit {0}
Tells (Stops x) = Unit {0}
Tells (Leaves o) = Unit {0}
Tells Unsaid = ⊥

-- variables have values of their types
pub record TypedMoment (p : Prog) (ds : List Decl) (m : Moment) : Type 0 where
  pub globals : are_of (types_of p.globals) m.globals ≡ true
  pub frame : are_of (types_of ds) m.frame ≡ true

-- what stays the same during a run is that of a program and these declarations of the frame, functions have tables of their types, and
-- globals at entry values of theirs
pub record TypedAround (p : Prog) (ds : List Decl) (a : Around) : Type 0 where
  pub tables : are_tables p.functions a.tables ≡ true
  pub globals : a.globals ≡ types_of p.globals
  pub frame : a.frame ≡ types_of ds
  pub before : are_of (types_of p.globals) a.before ≡ true

-- the declarations of the frame
abbrev pub frame_in : r.Program → r.Impl → r.Proc → List Decl
frame_in p im q = frame_decls (m.impl_of (m.named_of p.types) im) (m.proc_of (m.named_of p.types) q)

-- what stays the same during a replay, and how it begins
abbrev pub around_in : r.Program → r.Impl → r.Proc → List Bool → List Table → List Val → Around
around_in p im q set ts gs =
    record {
      set = set_of set;
      tables = ts;
      before = gs;
      globals = types_of (m.meaning_of p).globals;
      frame = types_of (frame_in p im q);
    }

abbrev pub moment_in : List Val → List Val → List Choice → Moment
moment_in gs fs choices = record { globals = gs; frame = fs; choices = choices }

-- typed blocks without constants of this implementation of this procedure, tables of the functions' types, and values of the variables' types
pub record IsOver (p : r.Program) (im : r.Impl) (q : r.Proc) (bs : List Block) (ts : List Table) (gs fs : List Val) : Type 0 where
  pub blocks : over_blocks (map (block_of p) bs) ≡ true
  pub typed : CodeIsTyped (m.meaning_of p) (frame_in p im q) (map (block_of p) bs)
  pub tables : are_tables (m.meaning_of p).functions ts ≡ true
  pub globals : are_of (types_of (m.meaning_of p).globals) gs ≡ true
  pub frame : are_of (types_of (frame_in p im q)) fs ≡ true

-- the ending is that of the blocks' run; where it is an answer, it is that of their execution under each interpretation in which
-- functions mean these tables; and of typed blocks without constants it is never `NoValues`
pub record IsReplay (p : r.Program) (bs : List Block) (set : List Bool) (number : ℕ) (im : r.Impl) (q : r.Proc) (ts : List Table) (gs fs : List Val) (choices : List Choice) (ending : Ending) : Type 0 where
  pub ran : said_by ending ≡ runs (around_in p im q set ts gs) 0 (map (block_of p) bs) (moment_in gs fs choices)
  pub right : (i : Interp) → MeanTables (functions_of (m.meaning_of p) i) ts → IsRight ending (blocks_run (context Cut (m.meaning_of p) (set_of set) i number (m.impl_of (m.named_of p.types) im) (m.proc_of (m.named_of p.types) q) (state_of gs fs)) (map (block_of p) bs) (start (state_of gs fs) choices 0))
  pub tells : IsOver p im q bs ts gs fs → Tells (said_by ending)
