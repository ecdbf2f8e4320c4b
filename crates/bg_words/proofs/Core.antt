-- Every state that events reach is sound.
use Rattle.std.proofs.Common.{◌≡◌, ℕ, zero, suc, ◌+◌, ◌*◌, ◌<◌, ◌≤◌, ◌≢◌, Bool, true, false, not, ◌&&◌, eqb, ltb, leb, List, [], ◌∷◌, ◌++◌, set, length, sym, refl, ap, ◌∙◌, subst, inr, ⊎_elim, arith, true≢false, lt_of_not-le, Option, Some, None, slice_get, length-append}
use borrow.Author.Tests.{ltb-true}
use mathlib.Core.Logic.{dite}
use mathlib.Core.Option.{some, some-injective, some-ne-none}
use mathlib.Core.List.{map-append}
use native.Mathlib.Decide.{dec_le}
use lib.ListN.{get_elem?}
use lib.Seq.{map-set}
use Rattle.atomic_table.proofs.Lists.{at_set, at_snoc, at_map, set_else, at_longer}
use Rattle.bg_words.specs.declared.machine.Seen.{Seen}
use Rattle.bg_words.specs.declared.machine.Task.{Task}
use Rattle.bg_words.specs.declared.machine.Stage.{Stage}
use Rattle.bg_words.specs.declared.machine.Stage.TheVariants.{Resting, Looking, Answered, Dropping, Waiting, Gone}
use Rattle.bg_words.specs.declared.machine.Worker.{Worker}
use Rattle.bg_words.specs.declared.machine.CoreState.{CoreState}
use Rattle.bg_words.specs.declared.machine.Answer.{Answer}
use Rattle.bg_words.specs.declared.machine.Answer.TheVariants.{Holds, Fails}
use Rattle.bg_words.specs.declared.machine.Event.{Event}
use Rattle.bg_words.specs.declared.machine.Event.TheVariants.{Take, Load, Answers, Draw, Clear, Fork, Merge}
use Rattle.bg_words.specs.Sets.{has, tabulate, words_for}
use Rattle.bg_words.specs.Steps.{newcomer, begun, entry, looked, drew, cleared, joined}
use Rattle.bg_words.specs.Rule.{Kept}
use Rattle.bg_words.specs.Core.{worker_of, start, when, put, on, may_take, with_stage, is_looking, answered, answers, draws, without, clears_pending, clears, forks, merges, step, run}
use Rattle.bg_words.specs.History.{views_of, Sound}
use Rattle.bg_words.proofs.Sets.{has-tabulate, has-tabulate_above, has-tabulate_true, and_true, bool_cases, eqb-true}
use Rattle.bg_words.proofs.Keeps as keeps
use Rattle.bg_words.proofs.History.{before_in, absent_in, ordered_in}

abbrev pub Fit : ℕ → Seen → Stage → Type 0
Fit n v Resting = v.pending ≡ None
Fit n v (Looking t) = v.pending ≡ None
Fit n v Answered = v.pending ≡ None
Fit n v (Dropping t d) = (v.pending ≡ None) × (t.cand.0 < n) × (n ≤ 64 * v.loaded) × (has v.snapshot t.cand.0 ≡ true)
Fit n v (Waiting t d) = (t.cand.0 < n) × (has v.snapshot t.cand.0 ≡ true)
Fit n v Gone = v.pending ≡ None

pub record Inv (s : CoreState) : Type 0 where
  pub kept : Kept s.cands s.next (has s.words) (views_of s.workers)
  pub fit : (w : ℕ) (u : Worker) → get_elem? s.workers w ≡ some u → Fit s.cands u.seen u.stage
  pub paired : (w : ℕ) (u : Worker) → get_elem? s.workers w ≡ some u → length u.decisions ≡ length u.seen.entries

found : {A : Type 0} (l : List A) (i : ℕ) (a : A) → slice_get l i ≡ Some a → get_elem? l i ≡ some a
found [] i a e = absurd (keeps.some≢none a (sym e))
found (x ∷ xs) zero a e = let is : x ≡ a = cc in ap some is
found (x ∷ xs) (suc i) a e = found xs i a e

on_some : (o : Option Worker) (f : Worker → Option CoreState) (s : CoreState) → on o f ≡ Some s → (u : Worker) × (o ≡ Some u) × (f u ≡ Some s)
on_some None f s e = absurd (keeps.some≢none s (sym e))
on_some (Some u) f s e = (u, refl, e)

some_same : (x s : CoreState) → Some x ≡ Some s → x ≡ s
some_same x s e = cc

when_some : (b : Bool) (x s : CoreState) → when b x ≡ Some s → (b ≡ true) × (x ≡ s)
when_some true x s e = (refl, some_same x s e)
when_some false x s e = absurd (keeps.some≢none s (sym e))

-- one worker is put anew
module _ (s : CoreState) (inv : Inv s) (w : ℕ) (u : Worker) (at : get_elem? s.workers w ≡ some u) where
  abbrev views : List Seen
  views = views_of s.workers

  pub view_at : get_elem? views w ≡ some u.seen
  view_at = at_map (λ (x : Worker). x.seen) s.workers w u at

  pub renewed : (next : ℕ) (words : List Bool) (u' : Worker) → Kept s.cands next (has words) (set views w u'.seen) → Fit s.cands u'.seen u'.stage → length u'.decisions ≡ length u'.seen.entries
      → Inv (record { cands = s.cands; next = next; words = words; workers = set s.workers w u' })
  renewed next words u' k f pair = record {
    kept = subst (Kept s.cands next (has words)) (sym (map-set (λ (x : Worker). x.seen) s.workers w u')) k;
    fit = λ j x e. ⊎_elim (λ (t : (j ≡ w) × (u' ≡ x)). subst (λ (y : Worker). Fit s.cands y.seen y.stage) t.1 f) (λ (t : (j ≢ w) × (get_elem? s.workers j ≡ some x)). inv.fit j x t.1) (at_set s.workers w j u' x e);
    paired = λ j x e. ⊎_elim (λ (t : (j ≡ w) × (u' ≡ x)). subst (λ (y : Worker). length y.decisions ≡ length y.seen.entries) t.1 pair) (λ (t : (j ≢ w) × (get_elem? s.workers j ≡ some x)). inv.paired j x t.1) (at_set s.workers w j u' x e);
  }

idle_of : (n : ℕ) (v : Seen) (g : Stage) → Fit n v g → may_take g ≡ true → v.pending ≡ None
idle_of n v Resting f e = f
idle_of n v (Looking t) f e = f
idle_of n v Answered f e = f
idle_of n v (Dropping t d) f e = absurd (true≢false (sym e))
idle_of n v (Waiting t d) f e = absurd (true≢false (sym e))
idle_of n v Gone f e = absurd (true≢false (sym e))

looking_of : (n : ℕ) (v v' : Seen) (g : Stage) → Fit n v g → is_looking g ≡ true → v'.pending ≡ v.pending → (v.pending ≡ None) × Fit n v' g
looking_of n v v' Resting f e b = absurd (true≢false (sym e))
looking_of n v v' (Looking t) f e b = (f, b ∙ f)
looking_of n v v' Answered f e b = absurd (true≢false (sym e))
looking_of n v v' (Dropping t d) f e b = absurd (true≢false (sym e))
looking_of n v v' (Waiting t d) f e b = absurd (true≢false (sym e))
looking_of n v v' Gone f e b = absurd (true≢false (sym e))

-- the words after a clearing
without_is : (n next : ℕ) (views : List Seen) (words : List Bool) (c : ℕ) → ((d : ℕ) → has words d ≡ true → d < n) → (d : ℕ) → has words d && not (eqb d c) ≡ has (without n words c) d
without_is n next views words c outside d = dite (dec_le n d)
    (λ far. low (has words d) (not (eqb d c)) (λ e. absurd (let lt = outside d e in omega arith)) ∙ sym (has-tabulate_above n (λ d. has words d && not (eqb d c)) d far))
    (λ near. sym (has-tabulate n (λ d. has words d && not (eqb d c)) d (lt_of_not-le near)))
  where
    low : (a b : Bool) → (a ≡ true → ⊥) → a && b ≡ false
    low true b h = absurd (h refl)
    low false b h = refl

module _ (s s' : CoreState) (inv : Inv s) (w : ℕ) (u : Worker) (at : get_elem? s.workers w ≡ some u) where
  abbrev n : ℕ
  n = s.cands

  abbrev all : List Seen
  all = views_of s.workers

  there : get_elem? all w ≡ some u.seen
  there = view_at s inv w u at

  again : Kept n s.next (has s.words) (set all w u.seen)
  again = subst (Kept n s.next (has s.words)) (sym (Rattle.atomic_table.proofs.Lists.set_again all w u.seen there)) inv.kept

  takes : (task : Option Task) → when (may_take u.stage) (put s w (with_stage u (begun u.seen) (Looking task))) ≡ Some s' → Inv s'
  takes task e = let q = when_some _ _ s' e in let f = idle_of n u.seen u.stage (inv.fit w u at) q.0 in
      subst Inv q.1 (renewed s inv w u at s.next s.words (with_stage u (begun u.seen) (Looking task)) (keeps.begins n s.next (has s.words) all inv.kept w u.seen there f) f (inv.paired w u at))

  loads : (i : ℕ) → when (is_looking u.stage && (eqb i u.seen.loaded && ltb i (words_for s.cands))) (put s w (with_stage u (looked s.cands u.seen i (has s.words)) u.stage)) ≡ Some s' → Inv s'
  loads i e = let q = when_some _ _ s' e in let b = and_true _ _ q.0 in let c = and_true _ _ b.1 in let v' : Seen = looked s.cands u.seen i (has s.words) in
      let f = looking_of n u.seen v' u.stage (inv.fit w u at) b.0 refl in
      subst Inv q.1 (renewed s inv w u at s.next s.words (with_stage u v' u.stage)
      (keeps.loads n s.next (has s.words) all inv.kept w u.seen there i (has s.words) f.0 (inr (eqb-true i u.seen.loaded c.0)) (λ c lt same. refl)) f.1 (inv.paired w u at))

  answered_keeps : (t : Task) (a : Answer) → u.seen.pending ≡ None → answered s w u t a ≡ Some s' → Inv s'
  answered_keeps t (Holds used) f e = let q = when_some _ _ s' e in
      subst Inv q.1 (renewed s inv w u at s.next s.words (record { seen = u.seen; stage = Answered; decisions = u.decisions; passes = u.passes ++ record { task = t; used = used } ∷ [] }) again f (inv.paired w u at))
  answered_keeps t (Fails unknown) f e = let q = when_some _ _ s' e in let b = and_true _ _ q.0 in let c = and_true _ _ b.1 in
      subst Inv q.1 (renewed s inv w u at s.next s.words (with_stage u u.seen (Dropping t unknown)) again
      (f, ltb-true t.cand.0 n c.0, (let z : n ≤ 64 * u.seen.loaded = leb_le n (64 * u.seen.loaded) b.0 in z), c.1) (inv.paired w u at))
    where
      leb_le : (a b : ℕ) → leb a b ≡ true → a ≤ b
      leb_le a b e = grind arith

  answers_keep : (a : Answer) (g : Stage) → Fit n u.seen g → answers s w u a g ≡ Some s' → Inv s'
  answers_keep a (Looking (Some t)) f e = answered_keeps t a f e
  answers_keep a (Looking None) f e = absurd (keeps.some≢none s' (sym e))
  answers_keep a Resting f e = absurd (keeps.some≢none s' (sym e))
  answers_keep a Answered f e = absurd (keeps.some≢none s' (sym e))
  answers_keep a (Dropping t d) f e = absurd (keeps.some≢none s' (sym e))
  answers_keep a (Waiting t d) f e = absurd (keeps.some≢none s' (sym e))
  answers_keep a Gone f e = absurd (keeps.some≢none s' (sym e))

  draws_keep : (g : Stage) → Fit n u.seen g → draws s w u g ≡ Some s' → Inv s'
  draws_keep (Dropping t d) f e = let q = when_some _ _ s' e in
      subst Inv q.1 (renewed s inv w u at (s.next + 1) s.words (with_stage u (drew u.seen s.next) (Waiting t d))
      (keeps.draws n s.next (has s.words) all inv.kept w u.seen there f.2 f.0) (f.1, f.3) (inv.paired w u at))
  draws_keep Resting f e = absurd (keeps.some≢none s' (sym e))
  draws_keep (Looking t) f e = absurd (keeps.some≢none s' (sym e))
  draws_keep Answered f e = absurd (keeps.some≢none s' (sym e))
  draws_keep (Waiting t d) f e = absurd (keeps.some≢none s' (sym e))
  draws_keep Gone f e = absurd (keeps.some≢none s' (sym e))

  cleared_keeps : (t : Task) (d : Bool) (o : Option ℕ) → u.seen.pending ≡ o → (t.cand.0 < n) × (has u.seen.snapshot t.cand.0 ≡ true) → clears_pending s w u t d o ≡ Some s' → Inv s'
  cleared_keeps t d None is f e = absurd (keeps.some≢none s' (sym e))
  cleared_keeps t d (Some m) is f e = let u' : Worker = record { seen = cleared s.cands u.seen m t.cand.0 (has s.words t.cand.0); stage = Answered; decisions = u.decisions ++ record { target = t.target; unknown = d } ∷ []; passes = u.passes } in
      subst Inv (some_same _ s' e) (renewed s inv w u at s.next (without n s.words t.cand.0) u'
      (keeps.kept_same n s.next (λ x. has s.words x && not (eqb x t.cand.0)) (has (without n s.words t.cand.0)) (set all w u'.seen) (without_is n s.next all s.words t.cand.0 inv.kept.outside)
      (keeps.clears n s.next (has s.words) all inv.kept w u.seen there m t.cand.0 is f.0 f.1))
      refl (let a = length-append u.decisions (record { target = t.target; unknown = d } ∷ []) in let b = length-append u.seen.entries (entry u.seen m t.cand.0 (has s.words t.cand.0) ∷ []) in let p = inv.paired w u at in omega arith))

  clears_keep : (g : Stage) → Fit n u.seen g → clears s w u g ≡ Some s' → Inv s'
  clears_keep (Waiting t d) f e = cleared_keeps t d u.seen.pending refl f e
  clears_keep Resting f e = absurd (keeps.some≢none s' (sym e))
  clears_keep (Looking t) f e = absurd (keeps.some≢none s' (sym e))
  clears_keep Answered f e = absurd (keeps.some≢none s' (sym e))
  clears_keep (Dropping t d) f e = absurd (keeps.some≢none s' (sym e))
  clears_keep Gone f e = absurd (keeps.some≢none s' (sym e))

same_fit : (n : ℕ) (v v' : Seen) (g : Stage) → v'.pending ≡ v.pending → v'.loaded ≡ v.loaded → v'.snapshot ≡ v.snapshot → Fit n v g → Fit n v' g
same_fit n v v' Resting b c d f = b ∙ f
same_fit n v v' (Looking t) b c d f = b ∙ f
same_fit n v v' Answered b c d f = b ∙ f
same_fit n v v' (Dropping t x) b c d f = (b ∙ f.0, f.1, (let z = f.2 in omega arith), ap (λ (q : List Bool). has q t.cand.0) d ∙ f.3)
same_fit n v v' (Waiting t x) b c d f = (f.0, ap (λ (q : List Bool). has q t.cand.0) d ∙ f.1)
same_fit n v v' Gone b c d f = b ∙ f

module _ (s : CoreState) (inv : Inv s) (u : Worker) (at : get_elem? s.workers 0 ≡ some u) where
  forks_keep : Inv (forks s u)
  forks_keep = let see : Worker → Seen = λ x. x.seen in let new : Worker = worker_of (newcomer u.seen.missing) in let ws : List Worker = s.workers in record {
    kept = subst (Kept s.cands s.next (has s.words)) (sym (map-append see ws (new ∷ []))) (keeps.forks s.cands s.next (has s.words) (views_of ws) 0 u.seen inv.kept (view_at s inv 0 u at));
    fit = λ j x e. ⊎_elim (λ (old : get_elem? ws j ≡ some x). inv.fit j x old) (λ (is : new ≡ x). subst (λ (y : Worker). Fit s.cands y.seen y.stage) is refl) (at_snoc ws new x j e);
    paired = λ j x e. ⊎_elim (λ (old : get_elem? ws j ≡ some x). inv.paired j x old) (λ (is : new ≡ x). subst (λ (y : Worker). length y.decisions ≡ length y.seen.entries) is refl) (at_snoc ws new x j e);
  }

  merges_keep : (w : ℕ) (o : Worker) → 0 < w → get_elem? s.workers w ≡ some o → Inv (merges s w u o)
  merges_keep w o far at' = let see : Worker → Seen = λ x. x.seen in let ws : List Worker = s.workers in
      let b : Worker = record { seen = joined s.cands u.seen o.seen; stage = u.stage; decisions = u.decisions ++ o.decisions; passes = u.passes ++ o.passes } in
      let z : Worker = record { seen = newcomer []; stage = Gone; decisions = []; passes = [] } in
      let apart : ¬ (w ≡ 0) = λ q. absurd (omega arith) in let vs : List Seen = views_of ws in
      let there_u = view_at s inv 0 u at in let there_o = view_at s inv w o at' in record {
        kept = subst (Kept s.cands s.next (has s.words)) (sym (map-set see (set ws 0 b) w z ∙ ap (λ (l : List Seen). set l w (newcomer [])) (map-set see ws 0 b)))
            (keeps.merges s.cands s.next (has s.words) vs 0 u.seen w o.seen inv.kept there_u apart there_o (set_else vs 0 w b.seen apart ∙ there_o));
        fit = λ j x e. ⊎_elim (λ (t : (j ≡ w) × (z ≡ x)). subst (λ (y : Worker). Fit s.cands y.seen y.stage) t.1 refl)
            (λ (t : (j ≢ w) × (get_elem? (set ws 0 b) j ≡ some x)). ⊎_elim
            (λ (q : (j ≡ 0) × (b ≡ x)). subst (λ (y : Worker). Fit s.cands y.seen y.stage) q.1 (same_fit s.cands u.seen b.seen u.stage refl refl refl (inv.fit 0 u at)))
            (λ (q : (j ≢ 0) × (get_elem? ws j ≡ some x)). inv.fit j x q.1)
            (at_set ws 0 j b x t.1))
            (at_set (set ws 0 b) w j z x e);
        paired = λ j x e. ⊎_elim (λ (t : (j ≡ w) × (z ≡ x)). subst (λ (y : Worker). length y.decisions ≡ length y.seen.entries) t.1 refl)
            (λ (t : (j ≢ w) × (get_elem? (set ws 0 b) j ≡ some x)). ⊎_elim
            (λ (q : (j ≡ 0) × (b ≡ x)). subst (λ (y : Worker). length y.decisions ≡ length y.seen.entries) q.1
            (let p = inv.paired 0 u at in let p' = inv.paired w o at' in let x = length-append u.decisions o.decisions in let y = length-append u.seen.entries o.seen.entries in omega arith))
            (λ (q : (j ≢ 0) × (get_elem? ws j ≡ some x)). inv.paired j x q.1)
            (at_set ws 0 j b x t.1))
            (at_set (set ws 0 b) w j z x e);
      }

steps : (s s' : CoreState) (e : Event) → Inv s → step s e ≡ Some s' → Inv s'
steps s s' (Take w task) inv e = let r = on_some (slice_get s.workers w) _ s' e in takes s s' inv w r.0 (found s.workers w r.0 r.1) task r.2
steps s s' (Load w i) inv e = let r = on_some (slice_get s.workers w) _ s' e in loads s s' inv w r.0 (found s.workers w r.0 r.1) i r.2
steps s s' (Answers w a) inv e = let r = on_some (slice_get s.workers w) _ s' e in let at = found s.workers w r.0 r.1 in answers_keep s s' inv w r.0 at a r.0.stage (inv.fit w r.0 at) r.2
steps s s' (Draw w) inv e = let r = on_some (slice_get s.workers w) _ s' e in let at = found s.workers w r.0 r.1 in draws_keep s s' inv w r.0 at r.0.stage (inv.fit w r.0 at) r.2
steps s s' (Clear w) inv e = let r = on_some (slice_get s.workers w) _ s' e in let at = found s.workers w r.0 r.1 in clears_keep s s' inv w r.0 at r.0.stage (inv.fit w r.0 at) r.2
steps s s' Fork inv e = let r = on_some (slice_get s.workers 0) (λ u. Some (forks s u)) s' e in let at = found s.workers 0 r.0 r.1 in subst Inv (some_same _ s' r.2) (forks_keep s inv r.0 at)
steps s s' (Merge w) inv e = let r = on_some (slice_get s.workers 0) _ s' e in let at = found s.workers 0 r.0 r.1 in
    let q = on_some (slice_get s.workers w) _ s' r.2 in let at' = found s.workers w q.0 q.1 in let z = when_some _ _ s' q.2 in let b = and_true _ _ z.0 in
    subst Inv z.1 (merges_keep s inv r.0 at w q.0 (ltb-true 0 w b.0) at')

start_inv : (n : ℕ) → Inv (start n)
start_inv n = record {
  kept = keeps.opens n (has (tabulate n (λ c. true))) (λ c lt. has-tabulate n (λ c. true) c lt) (λ c e. (has-tabulate_true n (λ c. true) c e).0);
  fit = λ w u e. one_fit w u e;
  paired = λ w u e. one_pair w u e;
} where
  one_pair : (w : ℕ) (u : Worker) → get_elem? (worker_of (newcomer []) ∷ []) w ≡ some u → length u.decisions ≡ length u.seen.entries
  one_pair zero u e = subst (λ (y : Worker). length y.decisions ≡ length y.seen.entries) (some-injective (worker_of (newcomer [])) u e) refl
  one_pair (suc w) u e = absurd (some-ne-none u (sym e))

  one_fit : (w : ℕ) (u : Worker) → get_elem? (worker_of (newcomer []) ∷ []) w ≡ some u → Fit n u.seen u.stage
  one_fit zero u e = subst (λ (y : Worker). Fit n y.seen y.stage) (some-injective (worker_of (newcomer [])) u e) refl
  one_fit (suc w) u e = absurd (some-ne-none u (sym e))

runs : (es : List Event) (o : Option CoreState) (s' : CoreState) → ((s : CoreState) → o ≡ Some s → Inv s) → run es o ≡ Some s' → Inv s'
runs [] o s' h e = h s' e
runs (e ∷ es) None s' h q = runs es None s' (λ s z. absurd (keeps.some≢none s (sym z))) q
runs (e ∷ es) (Some s) s' h q = runs es (step s e) s' (λ t z. steps s t e (h s refl) z) q

pub sound_from : (s : CoreState) → Kept s.cands s.next (has s.words) (views_of s.workers) → ((w : ℕ) (u : Worker) → get_elem? s.workers w ≡ some u → length u.decisions ≡ length u.seen.entries) → Sound s
sound_from s k paired = record {
  apart = λ w u at c h. ((k.each w u.seen (seen_at w u at)).gone c h).1;
  lacks = λ w u at c lt near away. (k.each w u.seen (seen_at w u at)).seen c lt near away;
  contains = λ w u at c lt near here. ⊎_elim (λ (y : has u.seen.snapshot c ≡ true). y)
      (λ (z : has u.seen.snapshot c ≡ false). let f = k.each w u.seen (seen_at w u at) in absurd (true≢false (sym here ∙ (f.gone c (f.seen c lt near z)).1)))
      (bool_cases (has u.seen.snapshot c));
  numbers = k.numbers;
  absent = λ c lt. absent_in s.cands s.next (has s.words) (views_of s.workers) k c lt;
  ordered = ordered_in s.cands s.next (has s.words) (views_of s.workers) k;
  paired = paired;
  waiting = λ w u at m pend d lt away. before_in s.cands s.next (has s.words) (views_of s.workers) k d m (((k.each w u.seen (seen_at w u at)).held m pend).before d lt away);
} where
  seen_at : (w : ℕ) (u : Worker) → get_elem? s.workers w ≡ some u → get_elem? (views_of s.workers) w ≡ some u.seen
  seen_at w u at = at_map (λ (x : Worker). x.seen) s.workers w u at

sound_of : (s : CoreState) → Inv s → Sound s
sound_of s inv = sound_from s inv.kept inv.paired

-- every state that events reach from the start is sound
pub reached : (n : ℕ) (events : List Event) (s : CoreState) → run events (Some (start n)) ≡ Some s → Sound s
reached n events s e = sound_of s (runs events (Some (start n)) s (λ t z. subst Inv (some_same (start n) t z) (start_inv n)) e)
