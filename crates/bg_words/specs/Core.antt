-- The shared set as a pure machine: its states, its events, and what its history is.
use Rattle.std.specs.Prelude.{ℕ, zero, suc, ◌+◌, ◌*◌, Bool, true, false, not, ◌&&◌, ◌||◌, List, [], ◌∷◌, ◌++◌, nat_eq, nat_lt, nat_le, Option, Some, None, slice_get, slice_set}
use Rattle.bg_words.specs.declared.machine.Seen.{Seen}
use Rattle.bg_words.specs.declared.machine.Task.{Task}
use Rattle.bg_words.specs.declared.machine.Stage.{Stage}
use Rattle.bg_words.specs.declared.machine.Stage.TheVariants.{Resting, Looking, Answered, Dropping, Waiting, Gone}
use Rattle.bg_words.specs.declared.machine.Worker.{Worker}
use Rattle.bg_words.specs.declared.machine.CoreState.{CoreState}
use Rattle.bg_words.specs.declared.machine.Answer.{Answer}
use Rattle.bg_words.specs.declared.machine.Answer.TheVariants.{Holds, Fails}
use Rattle.bg_words.specs.declared.machine.Event.{Event}
use Rattle.bg_words.specs.declared.machine.Event.TheVariants.{Take, Load, Answers, Draw, Clear, Fork, Merge}
use Rattle.bg_words.specs.Sets.{has, tabulate, words_for}
use Rattle.bg_words.specs.Steps.{newcomer, begun, looked, drew, cleared, joined}

-- a worker that knows this and has done nothing
abbrev pub worker_of : Seen → Worker
worker_of v = record { seen = v; stage = Resting; decisions = []; passes = [] }

-- all candidates are present, and there is one worker
abbrev pub start : ℕ → CoreState
start n = record { cands = n; next = 0; words = tabulate n (λ c. true); workers = worker_of (newcomer []) ∷ [] }

-- the state, where the test holds
abbrev pub when : Bool → CoreState → Option CoreState
when true s = Some s
when false s = None

-- the state with the worker w put anew
abbrev pub put : CoreState → ℕ → Worker → CoreState
put s w u = record { cands = s.cands; next = s.next; words = s.words; workers = slice_set s.workers w u }

-- what happens with the worker w, where there is one
abbrev pub on : Option Worker → (Worker → Option CoreState) → Option CoreState
on None f = None
on (Some u) f = f u

-- no draw is pending and no drop is open
abbrev pub may_take : Stage → Bool
may_take Resting = true
may_take (Looking t) = true
may_take Answered = true
may_take (Dropping t d) = false
may_take (Waiting t d) = false
may_take Gone = false

-- the worker was merged into the first
abbrev pub is_gone : Stage → Bool
is_gone Gone = true
is_gone Resting = false
is_gone (Looking t) = false
is_gone Answered = false
is_gone (Dropping t d) = false
is_gone (Waiting t d) = false

-- the worker with this knowledge, in this stage
abbrev pub with_stage : Worker → Seen → Stage → Worker
with_stage u v stage = record { seen = v; stage = stage; decisions = u.decisions; passes = u.passes }

-- a task is taken and not answered
abbrev pub is_looking : Stage → Bool
is_looking (Looking t) = true
is_looking Resting = false
is_looking Answered = false
is_looking (Dropping t d) = false
is_looking (Waiting t d) = false
is_looking Gone = false

-- f holds of each number below n
abbrev pub all_below : ℕ → (ℕ → Bool) → Bool
all_below zero f = true
all_below (suc n) f = all_below n f && f n

-- all of s, below n, is in t
abbrev pub is_within : ℕ → List Bool → List Bool → Bool
is_within n s t = all_below n (λ c. not (has s c) || has t c)

-- the snapshot is whole and has the target's candidate
abbrev pub may_answer : ℕ → Seen → Task → Bool
may_answer n v t = nat_le n (64 * v.loaded) && (nat_lt t.cand.0 n && has v.snapshot t.cand.0)

-- the answer of task t: a pass by candidates of the snapshot is kept, or a drop is open
abbrev pub answered : CoreState → ℕ → Worker → Task → Answer → Option CoreState
answered s w u t (Holds used) =
    when (may_answer s.cands u.seen t && is_within s.cands used u.seen.snapshot)
    (put s w (record { seen = u.seen; stage = Answered; decisions = u.decisions; passes = u.passes ++ record { task = t; used = used } ∷ [] }))
answered s w u t (Fails unknown) = when (may_answer s.cands u.seen t) (put s w (with_stage u u.seen (Dropping t unknown)))

-- an answer, where a target is taken and not answered
abbrev pub answers : CoreState → ℕ → Worker → Answer → Stage → Option CoreState
answers s w u a (Looking (Some t)) = answered s w u t a
answers s w u a (Looking None) = None
answers s w u a Resting = None
answers s w u a Answered = None
answers s w u a (Dropping t d) = None
answers s w u a (Waiting t d) = None
answers s w u a Gone = None

-- an open drop gets the number of the counter, which stays below its end
abbrev pub draws : CoreState → ℕ → Worker → Stage → Option CoreState
draws s w u (Dropping t unknown) =
    when (nat_lt s.next 18446744073709551615)
    (record { cands = s.cands; next = s.next + 1; words = s.words; workers = slice_set s.workers w (with_stage u (drew u.seen s.next) (Waiting t unknown)) })
draws s w u Resting = None
draws s w u (Looking t) = None
draws s w u Answered = None
draws s w u (Waiting t d) = None
draws s w u Gone = None

-- the set less candidate c
abbrev pub without : ℕ → List Bool → ℕ → List Bool
without n words c = tabulate n (λ d. has words d && not (nat_eq d c))

-- the clearing for task t, where a number is drawn: the candidate goes, and the draw becomes an entry and a decision
abbrev pub clears_pending : CoreState → ℕ → Worker → Task → Bool → Option ℕ → Option CoreState
clears_pending s w u t unknown None = None
clears_pending s w u t unknown (Some m) = Some (record {
  cands = s.cands;
  next = s.next;
  words = without s.cands s.words t.cand.0;
  workers = slice_set s.workers w (record { seen = cleared s.cands u.seen m t.cand.0 (has s.words t.cand.0); stage = Answered; decisions = u.decisions ++ record { target = t.target; unknown = unknown } ∷ []; passes = u.passes });
})

-- the clearing, where a draw waits for it
abbrev pub clears : CoreState → ℕ → Worker → Stage → Option CoreState
clears s w u (Waiting t unknown) = clears_pending s w u t unknown u.seen.pending
clears s w u Resting = None
clears s w u (Looking t) = None
clears s w u Answered = None
clears s w u (Dropping t d) = None
clears s w u Gone = None

-- a new worker, which knows to be gone what the worker u knows
abbrev pub forks : CoreState → Worker → CoreState
forks s u = record { cands = s.cands; next = s.next; words = s.words; workers = s.workers ++ worker_of (newcomer u.seen.missing) ∷ [] }

-- worker 0, which is u, takes in worker w, which is o; a draw that is pending there is given up
abbrev pub merges : CoreState → ℕ → Worker → Worker → CoreState
merges s w u o = record {
  cands = s.cands;
  next = s.next;
  words = s.words;
  workers = slice_set
      (slice_set s.workers 0 (record { seen = joined s.cands u.seen o.seen; stage = u.stage; decisions = u.decisions ++ o.decisions; passes = u.passes ++ o.passes }))
      w (record { seen = newcomer []; stage = Gone; decisions = []; passes = [] });
}

-- the state after an event, None where the event isn't allowed
abbrev pub step : CoreState → Event → Option CoreState
step s (Take w task) = on (slice_get s.workers w) (λ u. when (may_take u.stage) (put s w (with_stage u (begun u.seen) (Looking task))))
step s (Load w i) = on (slice_get s.workers w) (λ u. when (is_looking u.stage && (nat_eq i u.seen.loaded && nat_lt i (words_for s.cands))) (put s w (with_stage u (looked s.cands u.seen i (has s.words)) u.stage)))
step s (Answers w a) = on (slice_get s.workers w) (λ u. answers s w u a u.stage)
step s (Draw w) = on (slice_get s.workers w) (λ u. draws s w u u.stage)
step s (Clear w) = on (slice_get s.workers w) (λ u. clears s w u u.stage)
step s Fork = on (slice_get s.workers 0) (λ u. Some (forks s u))
step s (Merge w) = on (slice_get s.workers 0) (λ u. on (slice_get s.workers w) (λ o. when (nat_lt 0 w && not (is_gone o.stage)) (merges s w u o)))

-- the state after one more event
abbrev pub then_step : Option CoreState → Event → Option CoreState
then_step None e = None
then_step (Some s) e = step s e

-- the state after these events, None where one isn't allowed
abbrev pub run : List Event → Option CoreState → Option CoreState
run [] o = o
run (e ∷ es) o = run es (then_step o e)
