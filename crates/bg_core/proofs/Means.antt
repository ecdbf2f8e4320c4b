-- Right answers and an ordered history give an inductive set, the greatest one where no drop was unknown.
use Rattle.std.proofs.Common.{◌≡◌, ℕ, zero, suc, ◌<◌, ◌↔◌, true, false, List, [], ◌∷◌, length, sym, refl, ap, ◌∙◌, subst, ⊎_elim, arith, true≢false, Some}
use mathlib.Core.Option.{some, some-injective, some-ne-none}
use lib.ListN.{get_elem?}
use Rattle.bg_words.specs.declared.machine.Seen.{Seen}
use Rattle.bg_words.specs.declared.machine.Entry.{Entry}
use Rattle.bg_words.specs.declared.machine.Worker.{Worker}
use Rattle.bg_words.specs.declared.machine.Pass.{Pass}
use Rattle.bg_words.specs.declared.machine.Decision.{Decision}
use Rattle.bg_words.specs.declared.machine.CoreState.{CoreState}
use Rattle.bg_words.specs.declared.machine.Event.{Event}
use Rattle.bg_words.specs.Sets.{has}
use Rattle.bg_words.specs.Core.{start, run}
use Rattle.bg_words.specs.History.{Among, Dropped, Ordered, views_of, history, Sound}
use Rattle.bg_words.proofs.Sets.{bool_cases}
use Rattle.bg_words.proofs.History.{among_from}
use Rattle.bg_words.proofs.Core.{reached}
use Rattle.bg_core.specs.Inductive.{Candidates, Subset, Shrinks, Inductive, Greatest, Right, Closed, NoneUnknown, RightOver, ClosedOver, NoneUnknownIn}

at_back : (ws : List Worker) (i : ℕ) (v : Seen) → get_elem? (views_of ws) i ≡ some v → (u : Worker) × (get_elem? ws i ≡ some u) × (u.seen ≡ v)
at_back [] i v e = absurd (some-ne-none v (sym e))
at_back (x ∷ xs) zero v e = (x, refl, some-injective x.seen v e)
at_back (x ∷ xs) (suc i) v e = at_back xs i v e

inside_of : {A : Type 0} (l : List A) (k : ℕ) (a : A) → get_elem? l k ≡ some a → k < length l
inside_of [] k a e = absurd (some-ne-none a (sym e))
inside_of (x ∷ xs) zero a e = omega arith
inside_of (x ∷ xs) (suc k) a e = let r = inside_of xs k a e in omega arith

some_at : {A : Type 0} (l : List A) (k : ℕ) → k < length l → (a : A) × (get_elem? l k ≡ some a)
some_at [] k h = absurd (omega arith)
some_at (x ∷ xs) zero h = (x, refl)
some_at (x ∷ xs) (suc k) h = some_at xs k (omega arith)

-- over any ordered history. drops: each entry has a target that fails under its snapshot
module _ (IsTarget : ℕ → Type 0) (cand : ℕ → ℕ) (Fails : ℕ → Candidates → Type 0) (down : Shrinks IsTarget cand Fails) (n : ℕ) (es : List Entry) (ordered : Ordered n es)
    (drops : (e : Entry) → Among es e → (t : ℕ) × IsTarget t × (cand t ≡ e.cand.0) × Fails t (has e.snapshot)) (u : Candidates) (small : (c : ℕ) → u c ≡ true → c < n) (ind : Inductive IsTarget cand Fails u) where
  -- no candidate of an inductive set is ever dropped
  pub spared : (m : ℕ) (e : Entry) → Among es e → e.number < m → u e.cand.0 ≡ false
  spared zero e a lt = absurd (omega arith)
  spared (suc m) e a lt = ⊎_elim
      (λ (yes_in : u e.cand.0 ≡ true). let d = drops e a in
      let within : Subset u (has e.snapshot) = λ c has_c. ⊎_elim (λ (y : has e.snapshot c ≡ true). y)
      (λ (z : has e.snapshot c ≡ false). let f = ordered.before e a c (small c has_c) z in let before = f.3 in
      absurd (true≢false (sym has_c ∙ (ap u (sym f.2) ∙ spared m f.0 f.1 (omega arith)))))
      (bool_cases (has e.snapshot c)) in
      let here : u (cand d.0) ≡ true = ap u d.2 ∙ yes_in in
      absurd (ind d.0 d.1 here (down d.0 (has e.snapshot) u within here d.3)))
      (λ (no_in : u e.cand.0 ≡ false). no_in)
      (bool_cases (u e.cand.0))

  -- so it lies in the set that is left
  pub covered : (words : Candidates) → ((c : ℕ) → c < n → words c ≡ false → Dropped es c) → Subset u words
  covered words absent c has_c = ⊎_elim (λ (y : words c ≡ true). y)
      (λ (z : words c ≡ false). let f = absent c (small c has_c) z in absurd (true≢false (sym has_c ∙ (ap u (sym f.2) ∙ spared (suc f.0.number) f.0 f.1 (omega arith)))))
      (bool_cases (words c))

module _ (IsTarget : ℕ → Type 0) (cand : ℕ → ℕ) (Fails Causes : ℕ → Candidates → Type 0) (s : CoreState) (sound : Sound s) (right : Right IsTarget cand Fails Causes s) where
  pub inductive : Closed IsTarget cand Fails s → Inductive IsTarget cand Fails (has s.words)
  inductive closed t is here fails = let c = closed t is here in (right.passes c.0 c.1 c.2 c.3 c.4 c.5).holds (has s.words) c.7 (subst (λ (x : ℕ). Fails x (has s.words)) (sym c.6) fails)

  pub failing : NoneUnknown s → (e : Entry) → Among (history s) e → (t : ℕ) × IsTarget t × (cand t ≡ e.cand.0) × Fails t (has e.snapshot)
  failing known e a = let t = among_from (views_of s.workers) e a in let b = at_back s.workers t.0 t.1 t.2 in let w = b.0 in
      let k : ℕ = t.3.0 in let at_e : get_elem? w.seen.entries k ≡ some e = ap (λ (v : Seen). get_elem? v.entries k) b.2 ∙ t.3.1 in
      let paired = sound.paired t.0 w b.1 in let inside = inside_of w.seen.entries k e at_e in let d = some_at w.decisions k (omega arith) in
      let r = right.drops t.0 w k e d.0 b.1 at_e d.1 in (d.0.target.0, r.target, r.carries, r.fails (known t.0 w k d.0 b.1 d.1))

pub means : (IsTarget : ℕ → Type 0) (cand : ℕ → ℕ) (Fails Causes : ℕ → Candidates → Type 0) → Shrinks IsTarget cand Fails → (n : ℕ) (events : List Event) (s : CoreState) → run events (Some (start n)) ≡ Some s
    → Right IsTarget cand Fails Causes s → Closed IsTarget cand Fails s → Inductive IsTarget cand Fails (has s.words) × (NoneUnknown s → Greatest IsTarget cand Fails s.cands (has s.words))
means IsTarget cand Fails Causes down n events s reach right closed = let sound = reached n events s reach in let i = inductive IsTarget cand Fails Causes s sound right closed in
    (i, λ known. (i, λ u small ind. covered IsTarget cand Fails down s.cands (history s) sound.ordered (failing IsTarget cand Fails Causes s sound right known) u small ind (has s.words) (λ c lt. (sound.absent c lt).0)))

-- over any ordered history
pub means_over : (IsTarget : ℕ → Type 0) (cand : ℕ → ℕ) (Fails Causes : ℕ → Candidates → Type 0) → Shrinks IsTarget cand Fails
    → (n : ℕ) (words : Candidates) (ps : List Pass) (es : List Entry) (ds : List Decision) → Ordered n es → ((c : ℕ) → c < n → (words c ≡ false) ↔ Dropped es c)
    → RightOver IsTarget cand Fails Causes ps es ds → ClosedOver IsTarget cand Fails ps words → Inductive IsTarget cand Fails words × (NoneUnknownIn ds → Greatest IsTarget cand Fails n words)
means_over IsTarget cand Fails Causes down n words ps es ds ordered absent right closed = (left, λ known. (left, λ u small ind. covered IsTarget cand Fails down n es ordered (failing_over known) u small ind words (λ c lt. (absent c lt).0))) where
  left : Inductive IsTarget cand Fails words
  left t is here fails = let c = closed t is here in (right.passes c.0 c.1 c.2).holds words c.4 (subst (λ (x : ℕ). Fails x words) (sym c.3) fails)

  failing_over : NoneUnknownIn ds → (e : Entry) → Among es e → (t : ℕ) × IsTarget t × (cand t ≡ e.cand.0) × Fails t (has e.snapshot)
  failing_over known e a = let paired = right.paired in let inside = inside_of es a.0 e a.1 in let d = some_at ds a.0 (omega arith) in
      let r = right.drops a.0 e d.0 a.1 d.1 in (d.0.target.0, r.target, r.carries, r.fails (known a.0 d.0 d.1))
