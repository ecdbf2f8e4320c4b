-- The table of the shared set as a state of the machine: its opening, its steps, and that it is sound.
use Rattle.std.proofs.Common.{◌≡◌, ℕ, zero, suc, ◌+◌, ◌*◌, ◌/◌, ◌%◌, ◌^◌, ◌≤◌, Bool, true, false, not, List, [], ◌∷◌, ◌++◌, set, get_or, length, sym, refl, ap, ◌∙◌, subst, ⊎_elim, arith, lt_of_not-le, mod-eq_of_lt, bit_and, Option, Some, mul-le-mul_right}
use mathlib.Core.Logic.{dite}
use mathlib.Core.Option.{some, some-injective, some-ne-none}
use mathlib.Core.List.{map-append}
use native.Mathlib.Decide.{dec_le}
use lib.ListN.{get_elem?}
use lib.Seq.{map-set}
use Rattle.atomic_table.specs.Table.{opening, stepped, keeps as nothing}
use Rattle.atomic_table.proofs.Lists.{at_map}
use Rattle.bg_base.specs.Totals.{total, weight}
use Rattle.bg_base.proofs.Totals.{total-two}
use Rattle.bg_words.specs.declared.machine.Seen.{Seen}
use Rattle.bg_words.specs.declared.machine.Worker.{Worker}
use Rattle.bg_words.specs.declared.machine.CoreState.{CoreState}
use Rattle.bg_words.specs.declared.machine.Event.{Event}
use Rattle.bg_words.specs.declared.machine.Event.TheVariants.{Take, Load, Answers, Draw, Clear, Fork, Merge}
use Rattle.bg_words.specs.declared.machine.Answer.TheVariants.{Holds, Fails}
use Rattle.bg_words.specs.declared.machine.Stage.TheVariants.{Looking, Waiting, Dropping}
use Rattle.bg_words.specs.Sets.{has, tabulate, present, mask}
use Rattle.bg_words.specs.Steps.{newcomer, looked, drew, cleared, joined}
use Rattle.bg_words.specs.Rule.{Kept}
use Rattle.bg_words.specs.Core.{start, step, run, then_step}
use Rattle.bg_words.specs.History.{views_of, Sound}
use Rattle.bg_words.proofs.Sets.{has-tabulate, has-tabulate_above, bool_cases}
use Rattle.bg_words.proofs.Words.{tabulate-same}
use Rattle.bg_words.proofs.Keeps as keeps
use Rattle.bg_words.proofs.Core.{sound_from, reached}
use Rattle.bg_shared.specs.declared.view.View.{View}
use Rattle.bg_shared.specs.Views.{looking, drawing, clearing, forking, forked, joining, spent, opening_view}
use Rattle.bg_shared.specs.Table.{leading, seens}
use Rattle.bg_shared.proofs.Table.{few}
use Rattle.bg_core.specs.Ties.{Own, Table, Sits, TableSteps, Reaching, SoundTable, OpeningIsStart, FirstIsZero, fresh, gone, worker, workers, core_of, core, behind, told, in_stage, with_pass, with_decision, with_other}
use Rattle.bg_core.proofs.Ties.{SitsAt, Ties, ties, own-again}

views_back : (vs : List Seen) (os : List Own) → length os ≡ length vs → views_of (workers vs os) ≡ vs
views_back [] os e = refl
views_back (x ∷ xs) [] e = absurd (omega arith)
views_back (x ∷ xs) (y ∷ ys) e = ap (λ (l : List Seen). x ∷ l) (views_back xs ys (omega arith))

own_back : (vs : List Seen) (os : List Own) (w : ℕ) (u : Worker) → get_elem? (workers vs os) w ≡ some u → (v : Seen) × (o : Own) × SitsAt vs os w v o × (worker v o ≡ u)
own_back [] os w u e = absurd (some-ne-none u (sym e))
own_back (x ∷ xs) [] w u e = absurd (some-ne-none u (sym e))
own_back (x ∷ xs) (y ∷ ys) zero u e = (x, y, record { view = refl; own_is = refl }, some-injective (worker x y) u e)
own_back (x ∷ xs) (y ∷ ys) (suc w) u e = let r = own_back xs ys w u e in (r.0, r.1, record { view = r.2.view; own_is = r.2.own_is }, r.3)

-- the words as a list of truth values
as_list : (n next : ℕ) (p : ℕ → Bool) (views : List Seen) → Kept n next p views → (c : ℕ) → p c ≡ has (tabulate n p) c
as_list n next p views k c = dite (dec_le n c)
    (λ far. ⊎_elim (λ (y : p c ≡ true). absurd (let lt = k.outside c y in omega arith)) (λ (z : p c ≡ false). z ∙ sym (has-tabulate_above n p c far)) (bool_cases (p c)))
    (λ near. sym (has-tabulate n p c (lt_of_not-le near)))

seen_back : (vs : List View) (i : ℕ) (s : Seen) → get_elem? (seens vs) i ≡ some s → (v : View) × (get_elem? vs i ≡ some v) × (v.seen ≡ s)
seen_back [] i s e = absurd (some-ne-none s (sym e))
seen_back (x ∷ xs) zero s e = (x, refl, some-injective x.seen s e)
seen_back (x ∷ xs) (suc i) s e = seen_back xs i s e

length_seens : (vs : List View) → length (seens vs) ≡ length vs
length_seens [] = refl
length_seens (x ∷ xs) = ap suc (length_seens xs)

-- ---- a table whose words are known
module _ (n next : ℕ) (ws : List ℕ) (s : Table) (is : s.words ≡ next ∷ ws) where
  core_is : (owns : List Own) → core n s owns ≡ core_of n next ws (seens s.views) owns
  core_is owns = ap (λ (l : List ℕ). core_of n (get_or l 0 0) (behind l) (seens s.views) owns) is

  word_is : (i : ℕ) → get_or s.words (suc i) 0 ≡ get_or ws i 0
  word_is i = ap (λ (l : List ℕ). get_or l (suc i) 0) is

  -- after a step on a candidate word
  word_step : (i x w : ℕ) (v : View) (owns : List Own) → core n (stepped s (suc i) x w [] v nothing) owns ≡ core_of n next (set ws i x) (set (seens s.views) w v.seen) owns
  word_step i x w v owns = ap (λ (l : List ℕ). core_of n (get_or (set l (suc i) x) 0 0) (behind (set l (suc i) x)) (seens (set s.views w v)) owns) is
      ∙ ap (λ (vs : List Seen). core_of n next (set ws i x) vs owns) (map-set (λ (v : View). v.seen) s.views w v)

  -- after a step on the counter
  count_step : (x w : ℕ) (v : View) (owns : List Own) → core n (stepped s 0 x w [] v nothing) owns ≡ core_of n x ws (set (seens s.views) w v.seen) owns
  count_step x w v owns = ap (λ (l : List ℕ). core_of n (get_or (set l 0 x) 0 0) (behind (set l 0 x)) (seens (set s.views w v)) owns) is
      ∙ ap (λ (vs : List Seen). core_of n x ws vs owns) (map-set (λ (v : View). v.seen) s.views w v)

  -- after a load, which leaves the word as it is
  load_step : (i w : ℕ) (v : View) (owns : List Own) → v.cands ≡ n
      → core n (stepped s (suc i) (get_or s.words (suc i) 0) w [] (looking v i (told (get_or s.words (suc i) 0))) nothing) owns
      ≡ core_of n next ws (set (seens s.views) w (looked n v.seen i (told (get_or ws i 0)))) owns
  load_step i w v owns is_n = word_step i (get_or s.words (suc i) 0) w (looking v i (told (get_or s.words (suc i) 0))) owns
      ∙ (ap (λ (y : ℕ). core_of n next (set ws i y) (set (seens s.views) w (looked v.cands v.seen i (told y))) owns) (word_is i)
      ∙ (ap (λ (m : ℕ). core_of n next (set ws i (get_or ws i 0)) (set (seens s.views) w (looked m v.seen i (told (get_or ws i 0)))) owns) is_n
      ∙ ap (λ (l : List ℕ). core_of n next l (set (seens s.views) w (looked n v.seen i (told (get_or ws i 0)))) owns) (word_again ws i)))
    where
      word_again : (ws : List ℕ) (j : ℕ) → set ws j (get_or ws j 0) ≡ ws
      word_again [] j = refl
      word_again (y ∷ ys) zero = refl
      word_again (y ∷ ys) (suc j) = ap (λ (l : List ℕ). y ∷ l) (word_again ys j)

sits_at : (s : Table) (owns : List Own) (w : ℕ) (v : View) (o : Own) → Sits s owns w v o → SitsAt (seens s.views) owns w v.seen o
sits_at s owns w v o sits = record { view = at_map (λ (u : View). u.seen) s.views w v sits.view; own_is = sits.own_is }

pub table_steps : TableSteps
table_steps n seats s owns small h = let next : ℕ = h.0 in let ws : List ℕ = h.1 in let is = h.2 in let t : Ties n next ws (seens s.views) owns = ties n next ws (seens s.views) owns in
    let vs : List Seen = seens s.views in let at = core_is n next ws s is in record {
      load = λ w i v o task sits stage turn inside. ap (λ (k : CoreState). step k (Load w i)) (at owns) ∙ (t.load w i v.seen o task (sits_at s owns w v o sits) stage turn inside
          ∙ ap Some (sym (load_step n next ws s is i w v owns (cands_of w v sits.view sits.live))));
      take = λ w v o task sits may room. ap (λ (k : CoreState). run (Take w task ∷ Load w 0 ∷ []) (Some k)) (at owns) ∙ (t.take w v.seen o task (sits_at s owns w v o sits) may room
          ∙ ap Some (sym (load_step n next ws s is 0 w v (set owns w (in_stage o (Looking task))) (cands_of w v sits.view sits.live))));
      holds = λ w v o task used sits stage whole lt inside within. ap (λ (k : CoreState). step k (Answers w (Holds used))) (at owns) ∙ (t.holds w v.seen o task used (sits_at s owns w v o sits) stage whole lt inside within
          ∙ ap Some (sym (at (set owns w (with_pass o task used)))));
      fails = λ w v o task d shot sits stage may. ap (λ (k : CoreState). step k (Answers w (Fails d))) (at owns) ∙ (t.fails w v.seen o task d (sits_at s owns w v o sits) stage may.whole may.cand (sym (may.shot task.cand.0 may.cand) ∙ may.inside)
          ∙ ap Some (sym (at (set owns w (in_stage o (Dropping task d))))));
      draw = λ w v o task d sits stage. let low = few n seats next s.views h.5 in let up : seats * 4294967296 ≤ 1024 * 4294967296 = mul-le-mul_right 4294967296 small in
          let owns' : List Own = set owns w (in_stage o (Waiting task d)) in let is_next : get_or s.words 0 0 ≡ next = ap (λ (l : List ℕ). get_or l 0 0) is in
          ap (λ (k : CoreState). step k (Draw w)) (at owns) ∙ (t.draw w v.seen o task d (sits_at s owns w v o sits) stage (omega arith)
          ∙ ap Some (sym (count_step n next ws s is ((get_or s.words 0 0 + 1) % 2 ^ 64) w (drawing v (get_or s.words 0 0)) owns'
          ∙ (ap (λ (m : ℕ). core_of n ((m + 1) % 2 ^ 64) ws (set vs w (drew v.seen m)) owns') is_next
          ∙ ap (λ (m : ℕ). core_of n m ws (set vs w (drew v.seen next)) owns') (let wraps_not : (next + 1) % 2 ^ 64 ≡ next + 1 = mod-eq_of_lt (omega arith) in wraps_not)))));
      clear = λ w m v o task d sits stage pend lt. let c : ℕ = task.cand.0 in let owns' : List Own = set owns w (with_decision o task d) in let word : ℕ = get_or s.words (suc (c / 64)) 0 in
          ap (λ (k : CoreState). step k (Clear w)) (at owns) ∙ (t.clear w m v.seen o task d (sits_at s owns w v o sits) stage pend lt h.3
          ∙ ap Some (sym (word_step n next ws s is (c / 64) (bit_and word (mask c)) w (clearing v m c (told word c)) owns'
          ∙ (ap (λ (y : ℕ). core_of n next (set ws (c / 64) (bit_and y (mask c))) (set vs w (cleared v.cands v.seen m c (told y c))) owns') (word_is n next ws s is (c / 64))
          ∙ ap (λ (k : ℕ). core_of n next (set ws (c / 64) (bit_and (get_or ws (c / 64) 0) (mask c))) (set vs w (cleared k v.seen m c (present ws c))) owns') (cands_of w v sits.view sits.live)))));
      fork = λ v o sits same. let len = length_seens s.views in let s' : Table = record { words = s.words; homes = s.homes; views = set s.views 0 (forking v) ++ forked v ∷ [] } in
          ap (λ (k : CoreState). step k Fork) (at owns) ∙ (t.fork v.seen o (sits_at s owns 0 v o sits) (omega arith)
          ∙ ap Some (sym (core_is n next ws s' is (owns ++ fresh ∷ []) ∙ ap (λ (l : List Seen). core_of n next ws l (owns ++ fresh ∷ []))
          (map-append (λ (u : View). u.seen) (set s.views 0 (forking v)) (forked v ∷ []) ∙ ap (λ (l : List Seen). l ++ newcomer v.seen.missing ∷ [])
          (map-set (λ (u : View). u.seen) s.views 0 (forking v) ∙ own-again vs 0 v.seen (sits_at s owns 0 v o sits).view)))));
      merge = λ w v u o q sits_first sits_other far here. let s' : Table = record { words = s.words; homes = s.homes; views = set (set s.views 0 (joining v u)) w spent } in
          let owns' : List Own = set (set owns 0 (with_other o q)) w gone in
          ap (λ (k : CoreState). step k (Merge w)) (at owns) ∙ (t.merge w v.seen u.seen o q (sits_at s owns 0 v o sits_first) (sits_at s owns w u q sits_other) far here
          ∙ ap Some (sym (core_is n next ws s' is owns' ∙ (ap (λ (l : List Seen). core_of n next ws l owns')
          (map-set (λ (x : View). x.seen) (set s.views 0 (joining v u)) w spent ∙ ap (λ (l : List Seen). set l w (newcomer [])) (map-set (λ (x : View). x.seen) s.views 0 (joining v u)))
          ∙ ap (λ (m : ℕ). core_of n next ws (set (set vs 0 (joined m v.seen u.seen)) w (newcomer [])) owns') (cands_of 0 v sits_first.view sits_first.live)))));
    }
  where
    cands_of : (w : ℕ) (v : View) → get_elem? s.views w ≡ some v → v.live ≡ true → v.cands ≡ n
    cands_of w v at live = (h.5.each w v at).cands live

-- ---- what the table is as a state
pub sound_table : SoundTable
sound_table n seats s owns h beside = let next : ℕ = h.0 in let ws : List ℕ = h.1 in let vs : List Seen = seens s.views in let len = length_seens s.views in let same = beside.lengths in
    subst Sound (sym (core_is n next ws s h.2 owns)) (sound_from (core_of n next ws vs owns)
    (subst (λ (l : List Seen). Kept n next (has (tabulate n (present ws))) l) (sym (views_back vs owns (omega arith))) (keeps.kept_same n next (present ws) (has (tabulate n (present ws))) vs (as_list n next (present ws) vs h.4) h.4))
    (λ w u at. let r = own_back vs owns w u at in let b = seen_back s.views w r.0 r.2.view in
    subst (λ (x : Worker). length x.decisions ≡ length x.seen.entries) r.3 (beside.decided w b.0 r.1 b.1 r.2.own_is ∙ ap (λ (x : Seen). length x.entries) b.2)))

pub opening_is_start : OpeningIsStart
opening_is_start n seats words h = let s : Table = opening words [] (opening_view n seats) in let next : ℕ = h.0 in let ws : List ℕ = h.1 in let low = h.5.drawn in let zero_next : next ≡ 0 = omega arith in
    core_is n next ws s h.2 (fresh ∷ []) ∙ λ j. record { cands = n; next = zero_next j; words = tabulate-same n (present ws) (λ c. true) (λ c lt. there_all (present ws c) (h.4.there c lt)) j; workers = worker (newcomer []) fresh ∷ [] }
  where
    there_all : (b : Bool) → 0 ≡ weight (not b) → b ≡ true
    there_all true e = refl
    there_all false e = absurd (omega arith)

run_snoc : (es : List Event) (e : Event) (o : Option CoreState) → run (es ++ e ∷ []) o ≡ then_step (run es o) e
run_snoc [] e o = refl
run_snoc (x ∷ xs) e o = run_snoc xs e (then_step o x)

pub reaching : (n : ℕ) → Reaching n
reaching n = record {
  opens = λ seats words h. ([], ap Some (sym (opening_is_start n seats words h)));
  goes = λ s s' owns owns' e r q. (r.0 ++ e ∷ [], run_snoc r.0 e (Some (start n)) ∙ (ap (λ (o : Option CoreState). then_step o e) r.1 ∙ q));
  sound = λ s owns r. reached n r.0 (core n s owns) r.1;
}

zero_of : (views : List View) (i : ℕ) (v : View) → total (λ v. v.first) views ≡ 1 → leading views ≡ 1 → get_elem? views i ≡ some v → v.first ≡ 1 → i ≡ 0
zero_of [] i v one lead at is = absurd (some-ne-none v (sym at))
zero_of (x ∷ xs) zero v one lead at is = refl
zero_of (x ∷ xs) (suc i) v one lead at is = let two = total-two (λ (u : View). u.first) (x ∷ xs) 0 (suc i) x v refl at (λ e. absurd (omega arith)) in absurd (omega arith)

pub first_is_zero : FirstIsZero
first_is_zero n seats i v s h at is = zero_of s.views i v h.5.one h.5.lead at is
