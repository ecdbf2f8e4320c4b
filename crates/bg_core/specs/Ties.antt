-- A table's words, its seats' views and the workers' own data as a state of the machine, and each atomic step of the table as an event of it.
use Rattle.std.specs.Prelude.{◌≡◌, ℕ, suc, ◌+◌, ◌/◌, ◌%◌, ◌*◌, ◌^◌, ◌<◌, ◌≤◌, Bool, true, false, List, [], ◌∷◌, ◌++◌, slice_index, slice_set, length, Option, Some, bit_and}
use mathlib.Core.Option.{some}
use lib.ListN.{get_elem?}
use Rattle.atomic_table.specs.Table.{State, opening, stepped, keeps}
use Rattle.bg_words.specs.declared.machine.Seen.{Seen}
use Rattle.bg_words.specs.declared.machine.Task.{Task}
use Rattle.bg_words.specs.declared.machine.Stage.{Stage}
use Rattle.bg_words.specs.declared.machine.Stage.TheVariants.{Resting, Looking, Answered, Dropping, Waiting, Gone}
use Rattle.bg_words.specs.declared.machine.Pass.{Pass}
use Rattle.bg_words.specs.declared.machine.Decision.{Decision}
use Rattle.bg_words.specs.declared.machine.Worker.{Worker}
use Rattle.bg_words.specs.declared.machine.CoreState.{CoreState}
use Rattle.bg_words.specs.declared.machine.Event.{Event}
use Rattle.bg_words.specs.declared.machine.Event.TheVariants.{Take, Load, Answers, Draw, Clear, Fork, Merge}
use Rattle.bg_words.specs.declared.machine.Answer.TheVariants.{Holds, Fails}
use Rattle.bg_words.specs.Sets.{Numbers, has, tabulate, present, bit, words_for, mask}
use Rattle.bg_words.specs.Core.{start, step, run, may_take, is_gone}
use Rattle.bg_words.specs.History.{Sound}
use Rattle.bg_shared.specs.declared.view.View.{View}
use Rattle.bg_shared.specs.Views.{opening_view, looking, drawing, clearing, forking, forked, joining, spent}
use Rattle.bg_shared.specs.Table.{seens, Ruled}
use Rattle.bg_shared.specs.Seats.{MayDraw}

-- what a worker keeps for itself
pub record Own : Type 0 where
  pub stage : Stage
  pub decisions : List Decision
  pub passes : List Pass

-- the worker that knows this, with this data of its own
abbrev pub worker : Seen → Own → Worker
worker v o = record { seen = v; stage = o.stage; decisions = o.decisions; passes = o.passes }

-- the workers, one for each seat
abbrev pub workers : List Seen → List Own → List Worker
workers [] os = []
workers (v ∷ vs) [] = []
workers (v ∷ vs) (o ∷ os) = worker v o ∷ workers vs os

-- the state of n candidates with this counter, these words, these seats' knowledge and this data of the workers
abbrev pub core_of : ℕ → ℕ → List ℕ → List Seen → List Own → CoreState
core_of n next ws views own = record { cands = n; next = next; words = tabulate n (present ws); workers = workers views own }

-- the same data in another stage
abbrev pub in_stage : Own → Stage → Own
in_stage o g = record { stage = g; decisions = o.decisions; passes = o.passes }

-- the data of a worker that has taken nothing
abbrev pub fresh : Own
fresh = record { stage = Resting; decisions = []; passes = [] }

-- the data of a worker that was merged
abbrev pub gone : Own
gone = record { stage = Gone; decisions = []; passes = [] }

-- after the answer of task t: it passes by these
abbrev pub with_pass : Own → Task → Numbers → Own
with_pass o t used = record { stage = Answered; decisions = o.decisions; passes = o.passes ++ record { task = t; used = used } ∷ [] }

-- after the clearing for task t, whose check failed or ended unknown
abbrev pub with_decision : Own → Task → Bool → Own
with_decision o t unknown = record { stage = Answered; decisions = o.decisions ++ record { target = t.target; unknown = unknown } ∷ []; passes = o.passes }

-- the first's data after it took in another's
abbrev pub with_other : Own → Own → Own
with_other o q = record { stage = o.stage; decisions = o.decisions ++ q.decisions; passes = o.passes ++ q.passes }

-- the table of the shared set
abbrev pub Table : Type 0
Table = State (Unit {0}) View

-- the candidate words, which follow word 0
abbrev pub behind : List ℕ → List ℕ
behind [] = []
behind (x ∷ xs) = xs

-- the state that a table and the workers' own data are
abbrev pub core : ℕ → Table → List Own → CoreState
core n s owns = core_of n (slice_index s.words 0) (behind s.words) (seens s.views) owns

-- what a word tells of the candidates that stand in it
abbrev pub told : ℕ → ℕ → Bool
told word c = bit word (c % 64)

-- seat w of the table has the view v, and worker w this data of its own
pub record Sits (s : Table) (owns : List Own) (w : ℕ) (v : View) (o : Own) : Type 0 where
  pub view : get_elem? s.views w ≡ some v
  pub live : v.live ≡ true
  pub own_is : get_elem? owns w ≡ some o

-- Each atomic step of a table under its rule is the event of its name. A taking is seen at the first load of its snapshot; an answer changes a worker's own data alone
pub record StepsAreEvents (n : ℕ) (s : Table) (owns : List Own) : Type 0 where
  pub load : (w i : ℕ) (v : View) (o : Own) (t : Option Task) → Sits s owns w v o → o.stage ≡ Looking t → i ≡ v.seen.loaded → i < words_for n
      → let word = slice_index s.words (suc i) in step (core n s owns) (Load w i) ≡ Some (core n (stepped s (suc i) word w [] (looking v i (told word)) keeps) owns)
  pub take : (w : ℕ) (v : View) (o : Own) (task : Option Task) → Sits s owns w v o → may_take o.stage ≡ true → 0 < words_for n
      → let word = slice_index s.words 1 in run (Take w task ∷ Load w 0 ∷ []) (Some (core n s owns)) ≡ Some (core n (stepped s 1 word w [] (looking v 0 (told word)) keeps) (slice_set owns w (in_stage o (Looking task))))
  pub holds : (w : ℕ) (v : View) (o : Own) (t : Task) (used : Numbers) → Sits s owns w v o → o.stage ≡ Looking (Some t) → n ≤ 64 * v.seen.loaded → t.cand.0 < n → has v.seen.snapshot t.cand.0 ≡ true
      → ((c : ℕ) → c < n → has used c ≡ true → has v.seen.snapshot c ≡ true)
      → step (core n s owns) (Answers w (Holds used)) ≡ Some (core n s (slice_set owns w (with_pass o t used)))
  pub fails : (w : ℕ) (v : View) (o : Own) (t : Task) (unknown : Bool) (set : Numbers) → Sits s owns w v o → o.stage ≡ Looking (Some t) → MayDraw n v t.cand.0 set
      → step (core n s owns) (Answers w (Fails unknown)) ≡ Some (core n s (slice_set owns w (in_stage o (Dropping t unknown))))
  pub draw : (w : ℕ) (v : View) (o : Own) (t : Task) (unknown : Bool) → Sits s owns w v o → o.stage ≡ Dropping t unknown
      → let next = slice_index s.words 0 in step (core n s owns) (Draw w) ≡ Some (core n (stepped s 0 ((next + 1) % 2 ^ 64) w [] (drawing v next) keeps) (slice_set owns w (in_stage o (Waiting t unknown))))
  pub clear : (w m : ℕ) (v : View) (o : Own) (t : Task) (unknown : Bool) → Sits s owns w v o → o.stage ≡ Waiting t unknown → v.seen.pending ≡ Some m → t.cand.0 < n
      → let c = t.cand.0 in let word = slice_index s.words (suc (c / 64)) in step (core n s owns) (Clear w)
      ≡ Some (core n (stepped s (suc (c / 64)) (bit_and word (mask c)) w [] (clearing v m c (told word c)) keeps) (slice_set owns w (with_decision o t unknown)))
  pub fork : (v : View) (o : Own) → Sits s owns 0 v o → length s.views ≡ length owns
      → step (core n s owns) Fork ≡ Some (core n (record { words = s.words; homes = s.homes; views = slice_set s.views 0 (forking v) ++ forked v ∷ [] }) (owns ++ fresh ∷ []))
  pub merge : (w : ℕ) (v u : View) (o q : Own) → Sits s owns 0 v o → Sits s owns w u q → 0 < w → is_gone q.stage ≡ false
      → step (core n s owns) (Merge w) ≡ Some (core n (record { words = s.words; homes = s.homes; views = slice_set (slice_set s.views 0 (joining v u)) w spent }) (slice_set (slice_set owns 0 (with_other o q)) w gone))

-- the steps of a table of at most 1,024 seats under its rule
abbrev pub TableSteps : Type 0
TableSteps = (n seats : ℕ) (s : Table) (owns : List Own) → seats ≤ 1024 → Ruled n seats s → StepsAreEvents n s owns

-- events lead from the start to this table and this data
abbrev pub IsReached : ℕ → Table → List Own → Type 0
IsReached n s owns = (events : List Event) × (run events (Some (start n)) ≡ Some (core n s owns))

-- An opening table is reached; a step that is an event goes on from what is reached; and what is reached is sound
pub record Reaching (n : ℕ) : Type 0 where
  pub opens : (seats : ℕ) (words : List ℕ) → Ruled n seats (opening words [] (opening_view n seats)) → IsReached n (opening words [] (opening_view n seats)) (fresh ∷ [])
  pub goes : (s s' : Table) (owns owns' : List Own) (e : Event) → IsReached n s owns → step (core n s owns) e ≡ Some (core n s' owns') → IsReached n s' owns'
  pub sound : (s : Table) (owns : List Own) → IsReached n s owns → Sound (core n s owns)

-- the workers' own data beside a table: one for each seat, and a decision for each entry
pub record Beside (s : Table) (owns : List Own) : Type 0 where
  pub lengths : length owns ≡ length s.views
  pub decided : (w : ℕ) (v : View) (o : Own) → get_elem? s.views w ≡ some v → get_elem? owns w ≡ some o → length o.decisions ≡ length v.seen.entries

-- a table under its rule, beside the workers' own data, is a sound state of the machine
abbrev pub SoundTable : Type 0
SoundTable = (n seats : ℕ) (s : Table) (owns : List Own) → Ruled n seats s → Beside s owns → Sound (core n s owns)

-- an opening table under its rule is the machine's start
abbrev pub OpeningIsStart : Type 0
OpeningIsStart = (n seats : ℕ) (words : List ℕ) → Ruled n seats (opening words [] (opening_view n seats)) → core n (opening words [] (opening_view n seats)) (fresh ∷ []) ≡ start n

-- the seat that counts as the first is worker 0, the one whose forks and merges are events
abbrev pub FirstIsZero : Type 0
FirstIsZero = (n seats i : ℕ) (v : View) (s : Table) → Ruled n seats s → get_elem? s.views i ≡ some v → v.first ≡ 1 → i ≡ 0
