-- Each step on the seats' knowledge is an event of the machine.
use Rattle.std.proofs.Common.{◌≡◌, ℕ, zero, suc, ◌+◌, ◌*◌, ◌/◌, ◌%◌, ◌<◌, ◌≤◌, leb, Bool, true, false, not, ◌&&◌, ◌||◌, eqb, ltb, List, [], ◌∷◌, ◌++◌, set, get_or, length, sym, refl, ap, ◌∙◌, arith, true≢false, eq-eqb, ne_eqb, Option, Some, slice_get, bit_and}
use borrow.Author.Tests.{lt-ltb, le-ltb}
use mathlib.Core.Logic.{dite}
use mathlib.Core.Option.{some, some-injective, some-ne-none}
use native.Mathlib.Decide.{ℕ_discrete}
use lib.ListN.{get_elem?}
use Rattle.bg_words.specs.declared.machine.Seen.{Seen}
use Rattle.bg_words.specs.declared.machine.Stage.TheVariants.{Looking, Answered, Dropping, Waiting}
use Rattle.bg_words.specs.declared.machine.Task.{Task}
use Rattle.bg_words.specs.declared.machine.Answer.TheVariants.{Holds, Fails}
use Rattle.bg_words.specs.declared.machine.Event.TheVariants.{Take, Load, Answers, Draw, Clear, Fork, Merge}
use Rattle.bg_words.specs.declared.machine.Worker.{Worker}
use Rattle.bg_words.specs.declared.machine.CoreState.{CoreState}
use Rattle.bg_words.specs.Sets.{has, tabulate, present, bit, words_for}
use Rattle.bg_words.specs.Steps.{newcomer, begun, looked, drew, cleared, joined}
use Rattle.bg_words.specs.Sets.{mask}
use Rattle.bg_words.specs.Core.{step, run, then_step, may_take, may_answer, answers, all_below, on, when, put, with_stage, without, is_looking, is_gone, draws, clears, clears_pending, forks, merges}
use Rattle.bg_words.proofs.Sets.{has-tabulate}
use Rattle.bg_words.proofs.Bits.{present_after}
use Rattle.bg_core.specs.Ties.{Own, fresh, gone, worker, workers, core_of, in_stage}
use Rattle.bg_words.proofs.Words.{tabulate-same}

-- the worker w has this view and this data of its own
pub record SitsAt (views : List Seen) (own : List Own) (w : ℕ) (v : Seen) (o : Own) : Type 0 where
  pub view : get_elem? views w ≡ some v
  pub own_is : get_elem? own w ≡ some o

-- each step of the table on a candidate word or the counter is the event of that name; the first load of a snapshot is the taking of a task and that load; an answer leaves the table as it is
pub record Ties (n next : ℕ) (ws : List ℕ) (views : List Seen) (owns : List Own) : Type 0 where
  pub load : (w i : ℕ) (v : Seen) (o : Own) (t : Option Task) → SitsAt views owns w v o → o.stage ≡ Looking t → i ≡ v.loaded → i < words_for n
      → step (core_of n next ws views owns) (Load w i) ≡ Some (core_of n next ws (set views w (looked n v i (λ c. bit (get_or ws i 0) (c % 64)))) owns)
  pub take : (w : ℕ) (v : Seen) (o : Own) (task : Option Task) → SitsAt views owns w v o → may_take o.stage ≡ true → 0 < words_for n
      → run (Take w task ∷ Load w 0 ∷ []) (Some (core_of n next ws views owns))
      ≡ Some (core_of n next ws (set views w (looked n v 0 (λ c. bit (get_or ws 0 0) (c % 64)))) (set owns w (in_stage o (Looking task))))
  pub holds : (w : ℕ) (v : Seen) (o : Own) (t : Task) (used : List Bool) → SitsAt views owns w v o → o.stage ≡ Looking (Some t) → n ≤ 64 * v.loaded → t.cand.0 < n → has v.snapshot t.cand.0 ≡ true
      → ((c : ℕ) → c < n → has used c ≡ true → has v.snapshot c ≡ true)
      → step (core_of n next ws views owns) (Answers w (Holds used))
      ≡ Some (core_of n next ws views (set owns w (record { stage = Answered; decisions = o.decisions; passes = o.passes ++ record { task = t; used = used } ∷ [] })))
  pub fails : (w : ℕ) (v : Seen) (o : Own) (t : Task) (d : Bool) → SitsAt views owns w v o → o.stage ≡ Looking (Some t) → n ≤ 64 * v.loaded → t.cand.0 < n → has v.snapshot t.cand.0 ≡ true
      → step (core_of n next ws views owns) (Answers w (Fails d)) ≡ Some (core_of n next ws views (set owns w (in_stage o (Dropping t d))))
  pub draw : (w : ℕ) (v : Seen) (o : Own) (t : Task) (d : Bool) → SitsAt views owns w v o → o.stage ≡ Dropping t d → next < 18446744073709551615
      → step (core_of n next ws views owns) (Draw w) ≡ Some (core_of n (next + 1) ws (set views w (drew v next)) (set owns w (in_stage o (Waiting t d))))
  pub clear : (w m : ℕ) (v : Seen) (o : Own) (t : Task) (d : Bool) → SitsAt views owns w v o → o.stage ≡ Waiting t d → v.pending ≡ Some m → t.cand.0 < n → length ws ≡ words_for n
      → step (core_of n next ws views owns) (Clear w) ≡ Some (core_of n next (set ws (t.cand.0 / 64) (bit_and (get_or ws (t.cand.0 / 64) 0) (mask t.cand.0)))
      (set views w (cleared n v m t.cand.0 (present ws t.cand.0)))
      (set owns w (record { stage = Answered; decisions = o.decisions ++ record { target = t.target; unknown = d } ∷ []; passes = o.passes })))
  pub fork : (v : Seen) (o : Own) → SitsAt views owns 0 v o → length views ≡ length owns
      → step (core_of n next ws views owns) Fork ≡ Some (core_of n next ws (views ++ newcomer v.missing ∷ []) (owns ++ fresh ∷ []))
  pub merge : (w : ℕ) (v u : Seen) (o q : Own) → SitsAt views owns 0 v o → SitsAt views owns w u q → 0 < w → is_gone q.stage ≡ false
      → step (core_of n next ws views owns) (Merge w) ≡ Some (core_of n next ws (set (set views 0 (joined n v u)) w (newcomer []))
      (set (set owns 0 (record { stage = o.stage; decisions = o.decisions ++ q.decisions; passes = o.passes ++ q.passes })) w gone))

workers-at : (vs : List Seen) (os : List Own) (w : ℕ) (v : Seen) (o : Own) → get_elem? vs w ≡ some v → get_elem? os w ≡ some o → slice_get (workers vs os) w ≡ Some (worker v o)
workers-at [] os w v o a b = absurd (some-ne-none v (sym a))
workers-at (x ∷ xs) [] w v o a b = absurd (some-ne-none o (sym b))
workers-at (x ∷ xs) (y ∷ ys) zero v o a b = λ i. Some (worker (some-injective x v a i) (some-injective y o b i))
workers-at (x ∷ xs) (y ∷ ys) (suc w) v o a b = workers-at xs ys w v o a b

workers-set : (vs : List Seen) (os : List Own) (w : ℕ) (v : Seen) (o : Own) → set (workers vs os) w (worker v o) ≡ workers (set vs w v) (set os w o)
workers-set [] os w v o = refl
workers-set (x ∷ xs) [] zero v o = refl
workers-set (x ∷ xs) [] (suc w) v o = refl
workers-set (x ∷ xs) (y ∷ ys) zero v o = refl
workers-set (x ∷ xs) (y ∷ ys) (suc w) v o = ap (λ (l : List Worker). worker x y ∷ l) (workers-set xs ys w v o)

workers-snoc : (vs : List Seen) (os : List Own) (v : Seen) (o : Own) → length vs ≡ length os → workers (vs ++ v ∷ []) (os ++ o ∷ []) ≡ workers vs os ++ worker v o ∷ []
workers-snoc [] [] v o e = refl
workers-snoc [] (y ∷ ys) v o e = absurd (omega arith)
workers-snoc (x ∷ xs) [] v o e = absurd (omega arith)
workers-snoc (x ∷ xs) (y ∷ ys) v o e = ap (λ (l : List Worker). worker x y ∷ l) (workers-snoc xs ys v o (omega arith))

pub own-again : {A : Type 0} (os : List A) (w : ℕ) (o : A) → get_elem? os w ≡ some o → set os w o ≡ os
own-again [] w o e = refl
own-again (x ∷ xs) zero o e = λ k. sym (some-injective x o e) k ∷ xs
own-again (x ∷ xs) (suc w) o e = ap (λ l. x ∷ l) (own-again xs w o e)

-- a load sees what the words have
same_look : (n i : ℕ) (ws : List ℕ) (v : Seen) → looked n v i (has (tabulate n (present ws))) ≡ looked n v i (λ c. bit (get_or ws i 0) (c % 64))
same_look n i ws v = λ j. record {
  missing = miss j;
  snapshot = snap j;
  loaded = suc i;
  pending = v.pending;
  entries = v.entries;
} where
  q : ℕ → Bool
  q c = bit (get_or ws i 0) (c % 64)

  here : (c : ℕ) → c < n → c / 64 ≡ i → has (tabulate n (present ws)) c ≡ bit (get_or ws i 0) (c % 64)
  here c lt e = has-tabulate n (present ws) c (omega arith) ∙ ap (λ (k : ℕ). bit (get_or ws k 0) (c % 64)) e

  guard : (f : Bool → Bool) (b x y : Bool) → (b ≡ true → x ≡ y) → b && f x ≡ b && f y
  guard f true x y h = ap f (h refl)
  guard f false x y h = refl

  eqb-is : (c : ℕ) → eqb (c / 64) i ≡ true → c / 64 ≡ i
  eqb-is c e = dite (ℕ_discrete (c / 64) i) (λ s. s) (λ m. absurd (true≢false (sym e ∙ ne_eqb (c / 64) i m)))

  miss : tabulate n (λ c. has v.missing c || (eqb (c / 64) i && not (has (tabulate n (present ws)) c))) ≡ tabulate n (λ c. has v.missing c || (eqb (c / 64) i && not (bit (get_or ws i 0) (c % 64))))
  miss = tabulate-same n _ _ (λ c lt. ap (λ (b : Bool). has v.missing c || b) (guard not (eqb (c / 64) i) _ _ (λ e. here c lt (eqb-is c e))))

  snap : tabulate n (λ c. (eqb (c / 64) i && has (tabulate n (present ws)) c) || (ltb (c / 64) i && has v.snapshot c)) ≡ tabulate n (λ c. (eqb (c / 64) i && bit (get_or ws i 0) (c % 64)) || (ltb (c / 64) i && has v.snapshot c))
  snap = tabulate-same n _ _ (λ c lt. ap (λ (b : Bool). b || (ltb (c / 64) i && has v.snapshot c)) (guard (λ b. b) (eqb (c / 64) i) _ _ (λ e. here c lt (eqb-is c e))))

when_is : (b : Bool) (s : CoreState) → b ≡ true → when b s ≡ Some s
when_is true s e = refl
when_is false s e = absurd (true≢false (sym e))

both_true : (a b : Bool) → a ≡ true → b ≡ true → a && b ≡ true
both_true true b e f = f
both_true false b e f = absurd (true≢false (sym e))

set_twice : {A : Type 0} (l : List A) (w : ℕ) (a b : A) → set (set l w a) w b ≡ set l w b
set_twice [] w a b = refl
set_twice (x ∷ xs) zero a b = refl
set_twice (x ∷ xs) (suc w) a b = ap (λ l. x ∷ l) (set_twice xs w a b)

at_set_same : {A : Type 0} (l : List A) (w : ℕ) (a b : A) → get_elem? l w ≡ some a → get_elem? (set l w b) w ≡ some b
at_set_same [] w a b at = absurd (some-ne-none a (sym at))
at_set_same (x ∷ xs) zero a b at = refl
at_set_same (x ∷ xs) (suc w) a b at = at_set_same xs w a b at

-- the first load forgets the snapshot before it
begun_look : (n : ℕ) (v : Seen) (q : ℕ → Bool) → looked n (begun v) 0 q ≡ looked n v 0 q
begun_look n v q = λ j. record {
  missing = tabulate n (λ c. has v.missing c || (eqb (c / 64) 0 && not (q c)));
  snapshot = snap j;
  loaded = 1;
  pending = v.pending;
  entries = v.entries;
} where
  none_below : (c : ℕ) → ltb (c / 64) 0 && has [] c ≡ ltb (c / 64) 0 && has v.snapshot c
  none_below c = let z : ltb (c / 64) 0 ≡ false = le-ltb (c / 64) 0 (omega arith) in ap (λ (b : Bool). b && has [] c) z ∙ sym (ap (λ (b : Bool). b && has v.snapshot c) z)

  snap : tabulate n (λ c. (eqb (c / 64) 0 && q c) || (ltb (c / 64) 0 && has [] c)) ≡ tabulate n (λ c. (eqb (c / 64) 0 && q c) || (ltb (c / 64) 0 && has v.snapshot c))
  snap = tabulate-same n _ _ (λ c lt. ap (λ (b : Bool). (eqb (c / 64) 0 && q c) || b) (none_below c))

leb_is : (a b : ℕ) → a ≤ b → leb a b ≡ true
leb_is a b h = grind arith

all_true : (n : ℕ) (f : ℕ → Bool) → ((c : ℕ) → c < n → f c ≡ true) → all_below n f ≡ true
all_true zero f h = refl
all_true (suc n) f h = both_true _ _ (all_true n f (λ c lt. h c (omega arith))) (h n (omega arith))

if_true : (a b : Bool) → (a ≡ true → b ≡ true) → not a || b ≡ true
if_true true b h = h refl
if_true false b h = refl

module _ (n next : ℕ) (ws : List ℕ) (views : List Seen) (owns : List Own) where
  abbrev state : CoreState
  state = core_of n next ws views owns

  loads : (w i : ℕ) (v : Seen) (o : Own) (t : Option Task) → SitsAt views owns w v o → o.stage ≡ Looking t → i ≡ v.loaded → i < words_for n
      → step state (Load w i) ≡ Some (core_of n next ws (set views w (looked n v i (λ c. bit (get_or ws i 0) (c % 64)))) owns)
  loads w i v o t sits is turn inside = let s : CoreState = state in let g = workers-at views owns w v o sits.view sits.own_is in
      let v' : Seen = looked n v i (λ c. bit (get_or ws i 0) (c % 64)) in
      ap (λ (r : Option Worker). on r (λ u. when (is_looking u.stage && (eqb i u.seen.loaded && ltb i (words_for n))) (put s w (with_stage u (looked n u.seen i (has s.words)) u.stage)))) g
      ∙ (when_is _ _ (both_true _ _ (ap is_looking is) (both_true _ _ (eq-eqb i v.loaded turn) (lt-ltb i (words_for n) inside)))
      ∙ (ap (λ (x : Seen). Some (put s w (worker x o))) (same_look n i ws v)
      ∙ ap (λ (l : List Worker). Some (record { cands = n; next = next; words = s.words; workers = l })) (workers-set views owns w v' o ∙ ap (workers (set views w v')) (own-again owns w o sits.own_is))))

  starts_taking : (w : ℕ) (v : Seen) (o : Own) (task : Option Task) → SitsAt views owns w v o → may_take o.stage ≡ true
      → step state (Take w task) ≡ Some (core_of n next ws (set views w (begun v)) (set owns w (in_stage o (Looking task))))
  starts_taking w v o task sits may = let s : CoreState = state in let g = workers-at views owns w v o sits.view sits.own_is in
      ap (λ (r : Option Worker). on r (λ u. when (may_take u.stage) (put s w (with_stage u (begun u.seen) (Looking task))))) g
      ∙ (when_is _ _ may
      ∙ ap (λ (l : List Worker). Some (record { cands = n; next = next; words = s.words; workers = l })) (workers-set views owns w (begun v) (in_stage o (Looking task))))

  may : (v : Seen) (t : Task) → n ≤ 64 * v.loaded → t.cand.0 < n → has v.snapshot t.cand.0 ≡ true → may_answer n v t ≡ true
  may v t whole small inside = both_true _ _ (leb_is n (64 * v.loaded) whole) (both_true _ _ (lt-ltb t.cand.0 n small) inside)

  -- a worker's own data alone is changed
  own_alone : (w : ℕ) (v : Seen) (o : Own) → get_elem? views w ≡ some v → Some (put state w (worker v o)) ≡ Some (core_of n next ws views (set owns w o))
  own_alone w v o at = ap (λ (l : List Worker). Some (record { cands = n; next = next; words = state.words; workers = l })) (workers-set views owns w v o ∙ ap (λ (vs : List Seen). workers vs (set owns w o)) (own-again views w v at))

  holding : (w : ℕ) (v : Seen) (o : Own) (t : Task) (used : List Bool) → SitsAt views owns w v o → o.stage ≡ Looking (Some t) → n ≤ 64 * v.loaded → t.cand.0 < n → has v.snapshot t.cand.0 ≡ true
      → ((c : ℕ) → c < n → has used c ≡ true → has v.snapshot c ≡ true)
      → step state (Answers w (Holds used)) ≡ Some (core_of n next ws views (set owns w (record { stage = Answered; decisions = o.decisions; passes = o.passes ++ record { task = t; used = used } ∷ [] })))
  holding w v o t used sits is whole small inside within = let s : CoreState = state in let g = workers-at views owns w v o sits.view sits.own_is in
      ap (λ (r : Option Worker). on r (λ u. answers s w u (Holds used) u.stage)) g ∙ (ap (answers s w (worker v o) (Holds used)) is
      ∙ (when_is _ _ (both_true _ _ (may v t whole small inside) (all_true n (λ c. not (has used c) || has v.snapshot c) (λ c lt. if_true _ _ (within c lt))))
      ∙ own_alone w v (record { stage = Answered; decisions = o.decisions; passes = o.passes ++ record { task = t; used = used } ∷ [] }) sits.view))

  failing : (w : ℕ) (v : Seen) (o : Own) (t : Task) (d : Bool) → SitsAt views owns w v o → o.stage ≡ Looking (Some t) → n ≤ 64 * v.loaded → t.cand.0 < n → has v.snapshot t.cand.0 ≡ true
      → step state (Answers w (Fails d)) ≡ Some (core_of n next ws views (set owns w (in_stage o (Dropping t d))))
  failing w v o t d sits is whole small inside = let s : CoreState = state in let g = workers-at views owns w v o sits.view sits.own_is in
      ap (λ (r : Option Worker). on r (λ u. answers s w u (Fails d) u.stage)) g ∙ (ap (answers s w (worker v o) (Fails d)) is
      ∙ (when_is _ _ (may v t whole small inside) ∙ own_alone w v (in_stage o (Dropping t d)) sits.view))

taking : (n next : ℕ) (ws : List ℕ) (views : List Seen) (owns : List Own) (w : ℕ) (v : Seen) (o : Own) (task : Option Task) → SitsAt views owns w v o → may_take o.stage ≡ true → 0 < words_for n
    → run (Take w task ∷ Load w 0 ∷ []) (Some (core_of n next ws views owns)) ≡ Some (core_of n next ws (set views w (looked n v 0 (λ c. bit (get_or ws 0 0) (c % 64)))) (set owns w (in_stage o (Looking task))))
taking n next ws views owns w v o task sits can room = let o' : Own = in_stage o (Looking task) in let views' : List Seen = set views w (begun v) in let owns' : List Own = set owns w o' in
    let q : ℕ → Bool = λ c. bit (get_or ws 0 0) (c % 64) in
    ap (λ (r : Option CoreState). then_step r (Load w 0)) (starts_taking n next ws views owns w v o task sits can)
    ∙ (loads n next ws views' owns' w 0 (begun v) o' task (record { view = at_set_same views w v (begun v) sits.view; own_is = at_set_same owns w o o' sits.own_is }) refl refl room
    ∙ ap (λ (vs : List Seen). Some (core_of n next ws vs owns')) (set_twice views w (begun v) (looked n (begun v) 0 q) ∙ ap (set views w) (begun_look n v q)))

pub ties : (n next : ℕ) (ws : List ℕ) (views : List Seen) (owns : List Own) → Ties n next ws views owns
ties n next ws views owns = record {
  load = loads n next ws views owns;
  take = taking n next ws views owns;
  holds = holding n next ws views owns;
  fails = failing n next ws views owns;
  draw = λ w v o t d sits is room. let s : CoreState = core_of n next ws views owns in let g = workers-at views owns w v o sits.view sits.own_is in
      ap (λ (r : Option Worker). on r (λ u. draws s w u u.stage)) g ∙ (ap (draws s w (worker v o)) is ∙ (when_is _ _ (lt-ltb next 18446744073709551615 room)
      ∙ ap (λ (l : List Worker). Some (record { cands = n; next = next + 1; words = s.words; workers = l })) (workers-set views owns w (drew v next) (in_stage o (Waiting t d)))));
  clear = λ w m v o t d sits is pend small wide. let s : CoreState = core_of n next ws views owns in let g = workers-at views owns w v o sits.view sits.own_is in let c : ℕ = t.cand.0 in
      let o' : Own = record { stage = Answered; decisions = o.decisions ++ record { target = t.target; unknown = d } ∷ []; passes = o.passes } in
      let ws' : List ℕ = set ws (c / 64) (bit_and (get_or ws (c / 64) 0) (mask c)) in
      let there : has s.words c ≡ present ws c = has-tabulate n (present ws) c small in
      let words_is : without n s.words c ≡ tabulate n (present ws') = tabulate-same n (λ x. has s.words x && not (eqb x c)) (present ws') (λ x lt. ap (λ (b : Bool). b && not (eqb x c)) (has-tabulate n (present ws) x lt) ∙ present_after ws c (omega arith) x) in
      ap (λ (r : Option Worker). on r (λ u. clears s w u u.stage)) g ∙ (ap (clears s w (worker v o)) is ∙ (ap (clears_pending s w (worker v o) t d) pend
      ∙ λ j. Some (record {
        cands = n;
        next = next;
        words = words_is j;
        workers = (ap (λ (b : Bool). set (workers views owns) w (worker (cleared n v m c b) o')) there ∙ workers-set views owns w (cleared n v m c (present ws c)) o') j;
      })));
  fork = λ v o sits same. let s : CoreState = core_of n next ws views owns in let g = workers-at views owns 0 v o sits.view sits.own_is in
      ap (λ (r : Option Worker). on r (λ u. Some (forks s u))) g
      ∙ ap (λ (l : List Worker). Some (record { cands = n; next = next; words = s.words; workers = l })) (sym (workers-snoc views owns (newcomer v.missing) fresh same));
  merge = λ w v u o q sits_first sits_other far here. let s : CoreState = core_of n next ws views owns in
      let g = workers-at views owns 0 v o sits_first.view sits_first.own_is in let h = workers-at views owns w u q sits_other.view sits_other.own_is in
      let o' : Own = record { stage = o.stage; decisions = o.decisions ++ q.decisions; passes = o.passes ++ q.passes } in
      ap (λ (r : Option Worker). on r (λ a. on (slice_get s.workers w) (λ b. when (ltb 0 w && not (is_gone b.stage)) (merges s w a b)))) g
      ∙ (ap (λ (r : Option Worker). on r (λ b. when (ltb 0 w && not (is_gone b.stage)) (merges s w (worker v o) b))) h
      ∙ (when_is _ _ (both_true _ _ (lt-ltb 0 w far) (ap not here))
      ∙ ap (λ (l : List Worker). Some (record { cands = n; next = next; words = s.words; workers = l }))
      (ap (λ (l : List Worker). set l w (worker (newcomer []) gone)) (workers-set views owns 0 (joined n v u) o') ∙ workers-set (set views 0 (joined n v u)) (set owns 0 o') w (newcomer []) gone)));
}
