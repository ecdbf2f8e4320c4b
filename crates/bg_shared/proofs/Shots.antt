-- The start of the table, a snapshot word by word, and the end.
use Rattle.std.proofs.Common.{◌≡◌, ℕ, zero, suc, ◌+◌, ◌*◌, ◌/◌, ◌%◌, ◌<◌, ◌≤◌, ◌≢◌, ◌↔◌, Bool, true, false, not, ◌&&◌, ◌||◌, eqb, ltb, List, [], ◌∷◌, ◌++◌, get_or, set, length, sym, refl, ap, ◌∙◌, subst, arith, true≢false, length-set, get_or-set_same, get_or-set_other, eq-eqb, ne_eqb, add-one, append-nil}
use Rattle.std.proofs.lemmas.Nat.Bits.{bit_at-zero}
use borrow.Author.Tests.{lt-ltb, le-ltb, ltb-true}
use mathlib.Core.Logic.{dite}
use mathlib.Core.Option.{some, some-injective, some-ne-none}
use native.Mathlib.Decide.{dec_le, ℕ_discrete}
use lib.ListN.{get_elem?}
use Rattle.bg_base.proofs.Totals.{total-two}
use Rattle.atomic_table.specs.Table.{State, Me, Step, opening, Final}
use Rattle.atomic_table.specs.Table as table
use Rattle.atomic_table.proofs.Lists.{at_map}
use Rattle.bg_shared.specs.declared.view.View.{View}
use Rattle.bg_words.specs.declared.machine.Seen.{Seen}
use Rattle.bg_words.specs.declared.machine.Entry.{Entry}
use Rattle.bg_words.specs.Sets.{Numbers, has, present, bit, words_for, with_word}
use Rattle.bg_shared.specs.Views.{opening_view, looking}
use Rattle.bg_shared.specs.Table.{seens, Afford, Ruled}
use Rattle.bg_words.specs.History.{Dropped, Ordered, entries_of}
use Rattle.bg_shared.specs.Seats.{SameBeside, IsSnapshot}
use Rattle.bg_words.proofs.Sets.{has-tabulate, or_left}
use Rattle.bg_words.proofs.Words.{length-tabulate, with_word-here, with_word-other}
use Rattle.bg_words.proofs.Keeps as rule
use Rattle.bg_words.proofs.History.{ordered_in, absent_in}

-- ---- the start
pub starts : (items : List ℕ) (n seats : ℕ) → 0 < seats → length items ≡ words_for n + 1 → get_or items 0 0 ≡ 0
    → ((j k : ℕ) → j < words_for n → k < 64 → bit (get_or items (j + 1) 0) k ≡ ltb (j * 64 + k) n) → Ruled n seats (opening items [] (opening_view n seats))
starts [] n seats some_seat len first words = absurd (omega arith)
starts (x ∷ ws) n seats some_seat len first words = (
  0,
  ws,
  ap (λ (y : ℕ). y ∷ ws) first,
  (omega arith),
  rule.opens n (present ws) full outside,
  record {
    parts = omega arith;
    one = refl;
    lead = refl;
    drawn = omega arith;
    each = each_one;
  },
) where
  at_word : (c : ℕ) → c / 64 < words_for n → present ws c ≡ ltb c n
  at_word c inside = let w = words (c / 64) (c % 64) inside (omega arith) in let whole : c / 64 * 64 + c % 64 ≡ c = omega arith in
      ap (λ (i : ℕ). bit (get_or (x ∷ ws) i 0) (c % 64)) (sym (add-one (c / 64))) ∙ (w ∙ ap (λ (y : ℕ). ltb y n) whole)

  full : (c : ℕ) → c < n → present ws c ≡ true
  full c lt = at_word c (omega arith) ∙ lt-ltb c n lt

  past : (ws : List ℕ) (i : ℕ) → length ws ≤ i → get_or ws i 0 ≡ 0
  past [] i h = refl
  past (y ∷ ys) zero h = absurd (omega arith)
  past (y ∷ ys) (suc i) h = past ys i (omega arith)

  outside : (c : ℕ) → present ws c ≡ true → c < n
  outside c e = dite (dec_le (suc (c / 64)) (words_for n))
      (λ inside. ltb-true c n (sym (at_word c inside) ∙ e))
      (λ far. absurd (true≢false (sym e ∙ (ap (λ (y : ℕ). bit y (c % 64)) (past ws (c / 64) (omega arith)) ∙ ap (λ (b : ℕ). eqb b 1) (bit_at-zero (c % 64))))))

  each_one : (i : ℕ) (v : View) → get_elem? (opening_view n seats ∷ []) i ≡ some v → Afford n v
  each_one zero v e = subst (Afford n) (some-injective (opening_view n seats) v e) record { cands = λ _. refl; own = omega arith; draws = λ _. omega arith; idle = λ z. absurd (omega arith) }
  each_one (suc i) v e = absurd (some-ne-none v (sym e))

-- ---- a snapshot, i words of which are loaded; got has the words so far, and v what the seat knows
pub record Shooting (n i : ℕ) (old v : View) (got : Numbers) : Type 0 where
  pub same : SameBeside old v
  pub loaded : 0 < i → (v.seen.loaded ≡ i) × (v.undrawn ≡ true)
  pub shot : (c : ℕ) → c < n → c / 64 < i → has v.seen.snapshot c ≡ has got c
  pub missing : (c : ℕ) → c < n → c / 64 < i → has v.seen.missing c ≡ not (has got c)
  pub later : (c : ℕ) → c < n → i ≤ c / 64 → has v.seen.missing c ≡ has old.seen.missing c
  pub grows : (c : ℕ) → c < n → has old.seen.missing c ≡ true → has v.seen.missing c ≡ true
  pub fresh : (k : ℕ) → k < i → get_or v.loads k 0 ≡ suc (get_or old.loads k 0)
  pub stale : (k : ℕ) → i ≤ k → get_or v.loads k 0 ≡ get_or old.loads k 0
  pub long : 0 < i → length v.seen.snapshot ≡ n

pub shoots_first : (n : ℕ) (v : View) (got : Numbers) → Shooting n 0 v v got
shoots_first n v got = record {
  same = record { live = refl; cands = refl; seats = refl; first = refl; right = refl; parts = refl; own = refl; draws = refl; pending = refl; entries = refl; loads = refl };
  loaded = λ z. absurd (omega arith);
  shot = λ c lt z. absurd (omega arith);
  missing = λ c lt z. absurd (omega arith);
  later = λ c lt z. refl;
  grows = λ c lt e. e;
  fresh = λ k z. absurd (omega arith);
  stale = λ k z. refl;
  long = λ z. absurd (omega arith);
}

-- one more word
pub shoots : (n i x : ℕ) (old v : View) (got : Numbers) → Shooting n i old v got → v.cands ≡ n → length got ≡ n → i < length v.loads
    → ((c : ℕ) → c / 64 ≡ i → has v.seen.missing c ≡ true → bit x (c % 64) ≡ false) → Shooting n (suc i) old (looking v i (λ c. bit x (c % 64))) (with_word got i x)
shoots n i x old v got s is room room_loads known = let w : View = looking v i (λ c. bit x (c % 64)) in let a = s.same in record {
  same = record { live = a.live; cands = a.cands; seats = a.seats; first = a.first; right = a.right; parts = a.parts; own = a.own; draws = a.draws; pending = a.pending; entries = a.entries; loads = length-set v.loads i (suc (get_or v.loads i 0)) ∙ a.loads };
  loaded = λ _. (refl, refl);
  shot = λ c lt near. has-tabulate v.cands (λ c. (eqb (c / 64) i && bit x (c % 64)) || (ltb (c / 64) i && has v.seen.snapshot c)) c (omega arith) ∙ dite (ℕ_discrete (c / 64) i)
      (λ here. pick_here (eqb (c / 64) i) (ltb (c / 64) i) (bit x (c % 64)) (has v.seen.snapshot c) (eq-eqb (c / 64) i here) (le-ltb (c / 64) i (omega arith)) ∙ sym (word_here c lt here))
      (λ other. pick_other (eqb (c / 64) i) (ltb (c / 64) i) (bit x (c % 64)) (has v.seen.snapshot c) (ne_eqb (c / 64) i other) (lt-ltb (c / 64) i (omega arith)) ∙ (s.shot c lt (omega arith) ∙ sym (word_other c lt other)));
  missing = λ c lt near. has-tabulate v.cands (λ c. has v.seen.missing c || (eqb (c / 64) i && not (bit x (c % 64)))) c (omega arith) ∙ dite (ℕ_discrete (c / 64) i)
      (λ here. miss_here (has v.seen.missing c) (eqb (c / 64) i) (bit x (c % 64)) (eq-eqb (c / 64) i here) (known c here) ∙ sym (ap not (word_here c lt here)))
      (λ other. miss_other (has v.seen.missing c) (eqb (c / 64) i) (bit x (c % 64)) (ne_eqb (c / 64) i other) ∙ (s.missing c lt (omega arith) ∙ sym (ap not (word_other c lt other))));
  later = λ c lt far. has-tabulate v.cands (λ c. has v.seen.missing c || (eqb (c / 64) i && not (bit x (c % 64)))) c (omega arith) ∙ (miss_other (has v.seen.missing c) (eqb (c / 64) i) (bit x (c % 64)) (ne_eqb (c / 64) i (λ z. absurd (omega arith))) ∙ s.later c lt (omega arith));
  grows = λ c lt e. has-tabulate v.cands (λ c. has v.seen.missing c || (eqb (c / 64) i && not (bit x (c % 64)))) c (omega arith) ∙ or_left (has v.seen.missing c) _ (s.grows c lt e);
  fresh = λ k near. dite (ℕ_discrete k i)
      (λ here. ap (λ (j : ℕ). get_or (set v.loads i (suc (get_or v.loads i 0))) j 0) here ∙ (get_or-set_same v.loads i (suc (get_or v.loads i 0)) 0 room_loads ∙ (ap suc (s.stale i (omega arith)) ∙ ap (λ (j : ℕ). suc (get_or old.loads j 0)) (sym here))))
      (λ other. get_or-set_other v.loads i k (suc (get_or v.loads i 0)) 0 other ∙ s.fresh k (omega arith));
  stale = λ k far. get_or-set_other v.loads i k (suc (get_or v.loads i 0)) 0 (λ z. absurd (omega arith)) ∙ s.stale k (omega arith);
  long = λ _. length-tabulate v.cands (λ c. (eqb (c / 64) i && bit x (c % 64)) || (ltb (c / 64) i && has v.seen.snapshot c)) ∙ is;
} where
  word_here : (c : ℕ) → c < n → c / 64 ≡ i → has (with_word got i x) c ≡ bit x (c % 64)
  word_here c lt here = with_word-here got i x c (omega arith) here

  word_other : (c : ℕ) → c < n → c / 64 ≢ i → has (with_word got i x) c ≡ has got c
  word_other c lt other = with_word-other got i x c (omega arith) other

  pick_here : (a b q t : Bool) → a ≡ true → b ≡ false → (a && q) || (b && t) ≡ q
  pick_here true false true t e f = refl
  pick_here true false false t e f = refl
  pick_here true true q t e f = absurd (true≢false f)
  pick_here false b q t e f = absurd (true≢false (sym e))

  pick_other : (a b q t : Bool) → a ≡ false → b ≡ true → (a && q) || (b && t) ≡ t
  pick_other false true q t e f = refl
  pick_other false false q t e f = absurd (true≢false (sym f))
  pick_other true b q t e f = absurd (true≢false e)

  miss_here : (m a q : Bool) → a ≡ true → (m ≡ true → q ≡ false) → m || (a && not q) ≡ not q
  miss_here true a q e known = sym (ap not (known refl))
  miss_here false true q e known = refl
  miss_here false false q e known = absurd (true≢false (sym e))

  miss_other : (m a q : Bool) → a ≡ false → m || (a && not q) ≡ m
  miss_other true a q e = refl
  miss_other false false q e = refl
  miss_other false true q e = absurd (true≢false e)

-- all words are loaded
pub shot_whole : (n : ℕ) (old v : View) (got : Numbers) → Shooting n (words_for n) old v got → IsSnapshot n old v got
shot_whole n old v got s = record {
  same = s.same;
  outside = λ c lt. let m = s.missing c lt (omega arith) in sym (ap not m ∙ twice (has got c));
  grows = s.grows;
  fresh = λ k lt. s.fresh k lt;
  shot = λ c lt. sym (s.shot c lt (omega arith));
  whole = λ some_there. let l = s.loaded (omega arith) in (let a = l.0 in omega arith, l.1);
  long = λ some_there. s.long (omega arith);
} where
  twice : (b : Bool) → not (not b) ≡ b
  twice true = refl
  twice false = refl

-- ---- the end
empty_all : (views : List Seen) → ((j : ℕ) (w : Seen) → get_elem? views j ≡ some w → w.entries ≡ []) → entries_of views ≡ []
empty_all [] h = refl
empty_all (x ∷ xs) h = ap (λ (es : List Entry). es ++ entries_of xs) (h 0 x refl) ∙ empty_all xs (λ j w e. h (suc j) w e)

entries_alone : (views : List Seen) (i : ℕ) (v : Seen) → get_elem? views i ≡ some v → ((j : ℕ) (w : Seen) → j ≢ i → get_elem? views j ≡ some w → w.entries ≡ []) → entries_of views ≡ v.entries
entries_alone [] i v at h = absurd (some-ne-none v (sym at))
entries_alone (x ∷ xs) zero v at h = let is = some-injective x v at in
    ap (λ (es : List Entry). x.entries ++ es) (empty_all xs (λ j w e. h (suc j) w (λ z. absurd (omega arith)) e)) ∙ (append-nil x.entries ∙ ap (λ (u : Seen). u.entries) is)
entries_alone (x ∷ xs) (suc i) v at h = ap (λ (es : List Entry). es ++ entries_of xs) (h 0 x (λ z. absurd (omega arith)) refl) ∙ entries_alone xs i v at (λ j w n e. h (suc j) w (λ z. n (omega arith)) e)

at_back : (vs : List View) (i : ℕ) (s : Seen) → get_elem? (seens vs) i ≡ some s → (v : View) × (get_elem? vs i ≡ some v) × (v.seen ≡ s)
at_back [] i s e = absurd (some-ne-none s (sym e))
at_back (x ∷ xs) zero s e = (x, refl, some-injective x.seen s e)
at_back (x ∷ xs) (suc i) s e = at_back xs i s e

-- what the words are once a seat has all parts
pub record Ended (n : ℕ) (v : View) (ws : List ℕ) : Type 0 where
  pub ordered : Ordered n v.seen.entries
  pub retained : (c : ℕ) → c < n → (present ws c ≡ false) ↔ Dropped v.seen.entries c
  pub missing : (c : ℕ) → has v.seen.missing c ≡ true → Dropped v.seen.entries c

pub ends : (n seats id : ℕ) (v : View) (words : List ℕ) (slots : List (Unit {0})) → Final (table.Seen (Ruled n seats) id v) words slots → v.parts + v.right ≡ seats
    → (next : ℕ) × (ws : List ℕ) × (words ≡ next ∷ ws) × (length ws ≡ words_for n) × Ended n v ws
ends n seats id v words slots f all = let s = f.0 in let h = f.1.0 in let at = f.1.1 in let next : ℕ = h.0 in let ws : List ℕ = h.1 in let k = h.4 in let b = h.5 in
    let alone : entries_of (seens s.views) ≡ v.seen.entries = entries_alone (seens s.views) id v.seen (at_map (λ (u : View). u.seen) s.views id v at) (λ j w other at'.
    let back = at_back s.views j w at' in let u = back.0 in let two = total-two (λ u. u.parts + u.right) s.views id j v u at back.1 (λ e. other (sym e)) in let p = b.parts in ap (λ (x : Seen). x.entries) (sym back.2) ∙ ((b.each j u back.1).idle (omega arith)).1) in
    let gone : (c : ℕ) → c < n → (present ws c ≡ false) ↔ Dropped v.seen.entries c = λ c lt. subst (λ (es : List Entry). (present ws c ≡ false) ↔ Dropped es c) alone (absent_in n next (present ws) (seens s.views) k c lt) in (
      next,
      ws,
      sym f.2 ∙ h.2,
      h.3,
      record {
        ordered = subst (Ordered n) alone (ordered_in n next (present ws) (seens s.views) k);
        retained = gone;
        missing = λ c e. let g = (k.each id v.seen (at_map (λ (u : View). u.seen) s.views id v at)).gone c e in (gone c g.0).0 g.1;
      },
    )
