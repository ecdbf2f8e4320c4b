-- A replay is the run of the blocks, and the induction run.
use Rattle.std.proofs.Common.{◌≡◌, ℕ, zero, suc, Bool, List, [], ◌∷◌, map, Some, None, refl, ap, sym, ◌∙◌, subst, get_or}
use Rattle.std.specs.Prelude.{slice_get}
use Rattle.bg_ast.specs.Resolved as r
use Rattle.bg_ast.specs.Meaning as m
use Rattle.bg_ast.specs.Execution.{Interp, Choice}
use Rattle.bg_ast.specs.Views.{impl_of, proc_of}
use Rattle.bg_ast.specs.declared.resolved.Implementation.{Implementation}
use Rattle.bg_ast.specs.declared.resolved.Procedure.{Procedure}
use Rattle.bg_sense.specs.Eval.{body_of, functions_of}
use Rattle.bg_sense.specs.Flow.{Answer}
use Rattle.bg_sense.specs.Context.{Cut}
use Rattle.bg_sense.specs.Run.{context, start, induction_run}
use Rattle.bg_sense.specs.Types.{types_of}
use Rattle.bg_ast.specs.Values.{Val, Table, Ty}
use Rattle.bg_flow.specs.Blocks.{blocks_run}
use Rattle.bg_flow.specs.Blocks as flow
use Rattle.bg_flow.proofs.BlockRuns.{blocks_same}
use Rattle.bg_blocks.specs.Views.{block_of}
use Rattle.bg_blocks.specs.Whole.{AreBlocks}
use Rattle.bg_blocks.specs.declared.block.Block.{Block}
use Rattle.bg_scalar.specs.Values.{MeanTables}
use Rattle.bg_scalar.specs.Choices.{state_of}
use Rattle.bg_scalar.proofs.Tabled.{mean_tables}
use Rattle.bg_replay.specs.Said.{Said, Fine, Stops, Leaves, Unsaid}
use Rattle.bg_replay.specs.Ways.{runs}
use Rattle.bg_replay.specs.Views.{set_of, said_by}
use Rattle.bg_replay.specs.Endings.{IsRight, IsReplay, IsOver, frame_in, around_in, moment_in}
use Rattle.bg_replay.specs.declared.ending.Ending.{Ending}
use Rattle.bg_replay.proofs.Agreeing.{declares}
use Rattle.bg_replay.proofs.Running.{RunIs, runs_agree}
use Rattle.bg_replay.proofs.Tracks.{runs_tell}

run_answer : (s : Said) (y x : Answer) → RunIs s y → s ≡ Stops x → y ≡ x
run_answer Fine y x h e = absurd cc
run_answer (Stops z) y x h e = let same : z ≡ x = cc in h ∙ same
run_answer (Leaves o) y x h e = absurd cc
run_answer Unsaid y x h e = absurd cc

-- the ending of the run is the answer of the execution, where it is one
right_is : (p : r.Program) (i : Interp) (number : ℕ) (im : r.Impl) (q : r.Proc) (set : List Bool) (bs : List Block) (ts : List Table) (gs fs : List Val) (cs : List Choice) (ending : Ending) → MeanTables (functions_of (m.meaning_of p) i) ts → said_by ending ≡ runs (around_in p im q set ts gs) 0 (map (block_of p) bs) (moment_in gs fs cs) → IsRight ending (blocks_run (context Cut (m.meaning_of p) (set_of set) i number (m.impl_of (m.named_of p.types) im) (m.proc_of (m.named_of p.types) q) (state_of gs fs)) (map (block_of p) bs) (start (state_of gs fs) cs 0))
right_is p i number im q set bs ts gs fs cs ending mean e x s =
    let a = around_in p im q set ts gs in
    let w = moment_in gs fs cs in
    let d = declares (m.meaning_of p) i number (frame_in p im q) a refl refl in
    run_answer (runs a 0 (map (block_of p) bs) w) _ x (runs_agree (m.meaning_of p) i number (frame_in p im q) a mean d 0 (map (block_of p) bs) w) (sym e ∙ s)

item_map : {A B : Type 0} (f : A → B) (xs : List A) (k : ℕ) (x : A) → slice_get xs k ≡ Some x → slice_get (map f xs) k ≡ Some (f x)
item_map f [] k x h = absurd cc
item_map f (y ∷ xs) zero x h = let same : y ≡ x = cc in ap (λ z. Some (f z)) same
item_map f (y ∷ xs) (suc k) x h = item_map f xs k x h

-- the blocks that are made of an implementation run as it does
pub induction_is : (p : r.Program) (set : List Bool) (i : Interp) (number : ℕ) (im : r.Impl) (q : r.Proc) (bs : List Block) (ts : List Table) (gs fs : List Val) (cs : List Choice) (ending : Ending) → ((f : ℕ) → body_of (slice_get (m.meaning_of p).functions f) ≡ None) → i.tables ≡ ts → slice_get p.implementations number ≡ Some im → slice_get p.procedures im.procedure ≡ Some q → AreBlocks p number im q bs → IsReplay p bs set number im q ts gs fs cs ending → IsRight ending (induction_run (m.meaning_of p) (set_of set) i number (state_of gs fs) cs)
induction_is p set i number im q bs ts gs fs cs ending bare has hm hq made right x s =
    let named = m.named_of p.types in
    let c = context Cut (m.meaning_of p) (set_of set) i number (m.impl_of named im) (m.proc_of named q) (state_of gs fs) in
    sym (blocks_same (m.meaning_of p) (set_of set) i number (m.impl_of named im) (m.proc_of named q) (state_of gs fs) cs (item_map (m.impl_of named) p.implementations number im hm) (item_map (m.proc_of named) p.procedures im.procedure q hq))
    ∙ (sym (ap (λ (l : List flow.Block). blocks_run c l (start (state_of gs fs) cs 0)) made) ∙ right.right i (subst (MeanTables (functions_of (m.meaning_of p) i)) has (mean_tables (m.meaning_of p) i bare)) x s)

-- a replay whose ending is that of the run, with the code's values and types
pub replays : (p : r.Program) (im : r.Impl) (q : r.Proc) (set : List Bool) (bs : List Block) (ts : List Table) (gs gs' fs fs' : List Val) (gh fh : List Ty) (cs : List Choice) (ending : Ending) → gs' ≡ gs → fs' ≡ fs → gh ≡ types_of (m.meaning_of p).globals → fh ≡ types_of (frame_in p im q) → said_by ending ≡ runs (record { set = set_of set; tables = ts; before = gs; globals = gh; frame = fh }) 0 (map (block_of p) bs) (moment_in gs' fs' cs) → (number : ℕ) → IsReplay p bs set number im q ts gs fs cs ending
replays p im q set bs ts gs gs' fs fs' gh fh cs ending eg ef hg hf e number =
    let is : said_by ending ≡ runs (around_in p im q set ts gs) 0 (map (block_of p) bs) (moment_in gs fs cs) =
    e ∙ rw (eg, ef, hg, hf) refl in
    record {
      ran = is;
      right = λ i mean. right_is p i number im q set bs ts gs fs cs ending mean is;
      tells = λ (o : IsOver p im q bs ts gs fs).
          rw is
          (runs_tell (m.meaning_of p) (frame_in p im q) (around_in p im q set ts gs) (record { tables = o.tables; globals = refl; frame = refl; before = o.globals }) 0 (map (block_of p) bs) (moment_in gs fs cs) o.typed o.blocks (record { globals = o.globals; frame = o.frame }));
    }

at_item : {A B : Type 0} (f : A → B) (xs : List A) (k : ℕ) (x : A) (y : B) → x ≡ get_or xs k x → slice_get (map f xs) k ≡ Some y → f x ≡ y
at_item f [] k x y e h = absurd cc
at_item f (z ∷ xs) zero x y e h = let same : f z ≡ y = cc in ap f e ∙ same
at_item f (z ∷ xs) (suc k) x y e h = at_item f xs k x y e h

-- what holds of the implementation and the procedure that are read holds of those that are there
pub replay_of : (P : r.Impl → r.Proc → Type 0) (ms : List Implementation) (qs : List Procedure) (k : ℕ) (x : Implementation) (y : Procedure) (im : r.Impl) (q : r.Proc) → x ≡ get_or ms k x → y ≡ get_or qs x.procedure y → slice_get (map impl_of ms) k ≡ Some im → slice_get (map proc_of qs) im.procedure ≡ Some q → P (impl_of x) (proc_of y) → P im q
replay_of P ms qs k x y im q ex ey hm hq h =
    let e = at_item impl_of ms k x im ex hm in
    let f = at_item proc_of qs x.procedure y q ey (subst (λ (z : r.Impl). slice_get (map proc_of qs) z.procedure ≡ Some q) (sym e) hq) in
    subst (λ z. P z q) e (subst (λ z. P (impl_of x) z) f h)
