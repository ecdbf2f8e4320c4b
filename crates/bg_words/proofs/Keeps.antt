-- Each step keeps the rule.
use Rattle.std.proofs.Common.{◌≡◌, ℕ, zero, suc, ◌+◌, ◌*◌, ◌/◌, ◌<◌, ◌≤◌, ◌≢◌, ◌⊎◌, Bool, true, false, not, ◌&&◌, ◌||◌, eqb, ltb, List, [], ◌∷◌, ◌++◌, set, sym, refl, ap, ◌∙◌, subst, ⊎_elim, arith, true≢false, eq-eqb, ne_eqb, le_trans, Some, None}
use borrow.Author.Tests.{lt-ltb}
use mathlib.Core.Logic.{dite}
use mathlib.Core.Option.{some, some-injective, some-ne-none}
use native.Mathlib.Decide.{dec_le, ℕ_discrete}
use lib.ListN.{get_elem?}
use Rattle.bg_base.specs.Totals.{weight, once_below}
use Rattle.bg_base.proofs.Totals.{total-set, total-snoc, total-append, total-le, weight-other, below-one, below-none}
use Rattle.atomic_table.proofs.Lists.{at_set, at_snoc}
use Rattle.bg_words.specs.declared.machine.Seen.{Seen}
use Rattle.bg_words.specs.declared.machine.Entry.{Entry}
use Rattle.bg_words.specs.Sets.{has}
use Rattle.bg_words.specs.Steps.{newcomer, begun, looked, drew, entry, cleared, joined, earlier, numbered, took, pends, drawn}
use Rattle.bg_words.specs.Rule.{Low, Held, Fits, all_earlier, Kept}
use Rattle.bg_words.proofs.Sets.{has-tabulate, has-tabulate_true, or_true, or_false, or_left, or_right, and_true, and_both, not_true, false_not, eqb-true, weight_true, at_append}

abbrev Count : Type 0
Count = ℕ → ℕ → ℕ

abbrev Set' : Type 0
Set' = ℕ → Bool

pub some≢none : {A : Type 0} (a : A) → Some a ≡ None → ⊥
some≢none a e = cc

pub low_later : (n next next' : ℕ) (E E' : Count) (m : ℕ) (s : List Bool) → next ≤ next' → ((d k : ℕ) → E d k ≤ E' d k) → Low n next E m s → Low n next' E' m s
low_later n next next' E E' m s up more h = record {
  number = let x = h.number in omega arith;
  before = λ d lt away. le_trans (h.before d lt away) (more d m);
}

pub held_later : (n next next' : ℕ) (E E' : Count) (p p' : Set') (e : Entry) → next ≤ next' → ((d k : ℕ) → E d k ≤ E' d k) → ((c : ℕ) → p c ≡ false → p' c ≡ false) → Held n next E p e → Held n next' E' p' e
held_later n next next' E E' p p' e up more less h = record { low = low_later n next next' E E' e.number e.snapshot up more h.low; cand = h.cand; inside = h.inside; away = less e.cand.0 h.away }

pub fits_later : (n next next' : ℕ) (E E' : Count) (p p' : Set') (v : Seen) → next ≤ next' → ((d k : ℕ) → E d k ≤ E' d k) → ((c : ℕ) → p c ≡ false → p' c ≡ false) → Fits n next E p v → Fits n next' E' p' v
fits_later n next next' E E' p p' v up more less f = record {
  gone = λ c h. let g = f.gone c h in (g.0, less c g.1);
  seen = f.seen;
  held = λ m e. low_later n next next' E E' m v.snapshot up more (f.held m e);
  entries = λ k e at. held_later n next next' E E' p p' e up more less (f.entries k e at);
}

-- who knows what another of the rule knows, and has done nothing
fits_new : (n next : ℕ) (E : Count) (p : Set') (missing : List Bool) → ((c : ℕ) → has missing c ≡ true → (c < n) × (p c ≡ false)) → Fits n next E p (newcomer missing)
fits_new n next E p missing gone = record {
  gone = gone;
  seen = λ c lt far z. absurd (omega arith);
  held = λ m e. absurd (some≢none m (sym e));
  entries = λ k e at. absurd (some-ne-none e (sym at));
}

pub opens : (n : ℕ) (p : Set') → ((c : ℕ) → c < n → p c ≡ true) → ((c : ℕ) → p c ≡ true → c < n) → Kept n 0 p (newcomer [] ∷ [])
opens n p full outside = record {
  outside = outside;
  numbers = λ m. omega arith;
  there = λ c lt. sym (ap (λ b. weight (not b)) (full c lt));
  each = λ i v e. one i v e;
} where
  one : (i : ℕ) (v : Seen) → get_elem? (newcomer [] ∷ []) i ≡ some v → Fits n 0 (all_earlier (newcomer [] ∷ [])) p v
  one zero v e = subst (Fits n 0 (all_earlier (newcomer [] ∷ [])) p) (some-injective (newcomer []) v e)
      (fits_new n 0 (all_earlier (newcomer [] ∷ [])) p [] (λ c h. absurd (true≢false (sym h))))
  one (suc i) v e = absurd (some-ne-none v (sym e))

module _ (n next : ℕ) (p : Set') (views : List Seen) (k : Kept n next p views) (i : ℕ) (v : Seen) (at : get_elem? views i ≡ some v) where
  abbrev E : Count
  E = all_earlier views

  -- a step that changes one seat, and neither draws nor clears
  quiet : (w : Seen) → w.entries ≡ v.entries → w.pending ≡ v.pending → Fits n next E p w → Kept n next p (set views i w)
  quiet w same pend f = record {
    outside = k.outside;
    numbers = λ m. let s = total-set (λ u. drawn m u) views i v w at in let a = ap (numbered m) same in let b = ap (pends m) pend in let c = k.numbers m in omega arith;
    there = λ c lt. let s = total-set (λ u. took c u.entries) views i v w at in let a = ap (took c) same in let b = k.there c lt in omega arith;
    each = λ j u e. ⊎_elim
        (λ (t : (j ≡ i) × (w ≡ u)). subst (Fits n next (all_earlier (set views i w)) p) t.1 (fits_later n next next E (all_earlier (set views i w)) p p w (omega arith) more (λ c z. z) f))
        (λ (t : (j ≢ i) × (get_elem? views j ≡ some u)). fits_later n next next E (all_earlier (set views i w)) p p u (omega arith) more (λ c z. z) (k.each j u t.1))
        (at_set views i j w u e);
  } where
    more : (d m : ℕ) → E d m ≤ all_earlier (set views i w) d m
    more d m = let s = total-set (λ u. earlier d m u.entries) views i v w at in let a = ap (earlier d m) same in omega arith

  -- a load: the bits of word i' are those of p
  pub loads : (i' : ℕ) (x : ℕ → Bool) → v.pending ≡ None → (i' ≡ 0) ⊎ (i' ≡ v.loaded) → ((c : ℕ) → c < n → c / 64 ≡ i' → x c ≡ p c) → Kept n next p (set views i (looked n v i' x))
  loads i' x idle turn true_bits = let f = k.each i v at in quiet (looked n v i' x) refl refl record {
    gone = λ c h. let t = has-tabulate_true n (λ c. has v.missing c || (eqb (c / 64) i' && not (x c))) c h in
        ⊎_elim (λ (a : has v.missing c ≡ true). f.gone c a)
        (λ (b : eqb (c / 64) i' && not (x c) ≡ true). let q = and_true _ _ b in let lt : c < n = omega arith in (lt, sym (true_bits c lt (eqb-true _ _ q.0)) ∙ not_true _ q.1))
        (or_true _ _ t.1);
    seen = λ c lt near no. let lt' : c < n = omega arith in
        let none_there = or_false (eqb (c / 64) i' && x c) (ltb (c / 64) i' && has v.snapshot c) (sym (has-tabulate n (λ c. (eqb (c / 64) i' && x c) || (ltb (c / 64) i' && has v.snapshot c)) c lt') ∙ no) in
        has-tabulate n (λ c. has v.missing c || (eqb (c / 64) i' && not (x c))) c lt' ∙ dite (ℕ_discrete (c / 64) i')
        (λ here. or_right (has v.missing c) _ (and_both _ _ (let z : eqb (c / 64) i' ≡ true = grind arith in z) (false_not _ (gone_bit (eqb (c / 64) i') (x c) (let z : eqb (c / 64) i' ≡ true = grind arith in z) none_there.0))))
        (λ other. or_left (has v.missing c) _ (let below : c / 64 < i' = omega arith in
        let old = gone_bit (ltb (c / 64) i') (has v.snapshot c) (lt-ltb _ _ below) none_there.1 in
        ⊎_elim (λ (z : i' ≡ 0). absurd (omega arith)) (λ (z : i' ≡ v.loaded). f.seen c lt (omega arith) old) turn));
    held = λ m e. absurd (some≢none m (sym e ∙ idle));
    entries = f.entries;
  } where
    gone_bit : (a b : Bool) → a ≡ true → a && b ≡ false → b ≡ false
    gone_bit true b e q = q
    gone_bit false b e q = absurd (true≢false (sym e))

  -- a new snapshot
  pub begins : v.pending ≡ None → Kept n next p (set views i (begun v))
  begins idle = let f = k.each i v at in quiet (begun v) refl refl record {
    gone = f.gone;
    seen = λ c lt near away. absurd (omega arith);
    held = λ m e. absurd (some≢none m (sym e ∙ idle));
    entries = f.entries;
  }

  -- what a seat lacks has an entry below the counter
  lacked : (c : ℕ) → c < n → p c ≡ false → 1 ≤ E c next
  lacked c lt away = let one = k.there c lt in let w = weight_true (not (p c)) (false_not (p c) away) in
      let le = total-le (λ u. took c u.entries) (λ u. earlier c next u.entries) views (λ j u at'.
      total-le (λ e. weight (eqb e.cand.0 c && e.was_there)) (λ e. weight (eqb e.cand.0 c && ltb e.number next)) u.entries (λ j' e at''.
      let low = ((k.each j u at').entries j' e at'').low.number in smaller (eqb e.cand.0 c) e.was_there (ltb e.number next) (lt-ltb e.number next low))) in
      omega arith where
        smaller : (a b d : Bool) → d ≡ true → weight (a && b) ≤ weight (a && d)
        smaller true true d e = omega (arith, weight_true d e)
        smaller true false d e = omega arith
        smaller false b d e = omega arith

  -- a draw after a whole snapshot
  pub draws : n ≤ 64 * v.loaded → v.pending ≡ None → Kept n (next + 1) p (set views i (drew v next))
  draws whole idle = let w : Seen = drew v next in let f = k.each i v at in record {
    outside = k.outside;
    numbers = λ m. let s = total-set (λ u. drawn m u) views i v w at in let a = ap (pends m) idle in let b = k.numbers m in dite (ℕ_discrete next m)
        (λ same. let one : weight (eqb next m) ≤ 1 = at_most (eqb next m) in let d = below-none m next (omega arith) in let d' = below-one m (next + 1) (omega arith) in omega arith)
        (λ other. let none_here = weight-other next m other in let d : once_below m (next + 1) ≡ once_below m next = same_below m other in omega arith);
    there = λ c lt. let s = total-set (λ u. took c u.entries) views i v w at in let b = k.there c lt in omega arith;
    each = λ j u e. ⊎_elim
        (λ (t : (j ≡ i) × (w ≡ u)). subst (Fits n (next + 1) (all_earlier (set views i w)) p) t.1 record {
          gone = f.gone;
          seen = f.seen;
          held = λ m e'. let is : next ≡ m = some_same next m e' in
              subst (λ (q : ℕ). Low n (next + 1) (all_earlier (set views i w)) q v.snapshot) is record {
                number = omega arith;
                before = λ d lt' away. le_trans (lacked d lt' (f.gone d (f.seen d lt' (omega arith) away)).1) (more d next);
              };
          entries = λ k' e' at'. held_later n next (next + 1) E (all_earlier (set views i w)) p p e' (omega arith) more (λ c z. z) (f.entries k' e' at');
        })
        (λ (t : (j ≢ i) × (get_elem? views j ≡ some u)). fits_later n next (next + 1) E (all_earlier (set views i w)) p p u (omega arith) more (λ c z. z) (k.each j u t.1))
        (at_set views i j w u e);
  } where
    at_most : (b : Bool) → weight b ≤ 1
    at_most true = omega arith
    at_most false = omega arith

    some_same : (a b : ℕ) → Some a ≡ Some b → a ≡ b
    some_same a b e = cc

    same_below : (m : ℕ) → next ≢ m → once_below m (next + 1) ≡ once_below m next
    same_below m other = dite (dec_le next m)
        (λ far. below-none m (next + 1) (omega arith) ∙ sym (below-none m next far))
        (λ near. below-one m (next + 1) (omega arith) ∙ sym (below-one m next (omega arith)))

    more : (d m : ℕ) → E d m ≤ all_earlier (set views i (drew v next)) d m
    more d m = let s = total-set (λ u. earlier d m u.entries) views i v (drew v next) at in omega arith

  -- the clearing of the candidate that was drawn for
  pub clears : (m c : ℕ) → v.pending ≡ Some m → c < n → has v.snapshot c ≡ true → Kept n next (λ d. p d && not (eqb d c)) (set views i (cleared n v m c (p c)))
  clears m c pend small inside = let w : Seen = cleared n v m c (p c) in let f = k.each i v at in let h = f.held m pend in record {
    outside = λ d e. k.outside d (and_true _ _ e).0;
    numbers = λ m'. let s = total-set (λ u. drawn m' u) views i v w at in let a = ap (pends m') pend in let b = k.numbers m' in
        let z = total-snoc (λ e. weight (eqb e.number m')) v.entries (entry v m c (p c)) in omega arith;
    there = λ d lt. let s = total-set (λ u. took d u.entries) views i v w at in let b = k.there d lt in
        let z = total-snoc (λ e. weight (eqb e.cand.0 d && e.was_there)) v.entries (entry v m c (p c)) in
        let y = counted (p d) (p c) (eqb d c) (eqb c d) (λ same. ap p (eqb-true d c same)) (turned d c) in omega arith;
    each = λ j u e. ⊎_elim
        (λ (t : (j ≡ i) × (w ≡ u)). subst (Fits n next (all_earlier (set views i w)) (λ d. p d && not (eqb d c))) t.1 record {
          gone = λ d e'. let q = has-tabulate_true n (λ d. has v.missing d || eqb d c) d e' in ⊎_elim
              (λ (a : has v.missing d ≡ true). let r = f.gone d a in (r.0, less d r.1))
              (λ (a : eqb d c ≡ true). (omega arith, out (p d) (eqb d c) a))
              (or_true _ _ q.1);
          seen = λ d lt near no. has-tabulate n (λ d. has v.missing d || eqb d c) d (omega arith) ∙ or_left _ _ (f.seen d lt near no);
          held = λ m' e'. absurd (some≢none m' (sym e'));
          entries = λ k' e' at'. ⊎_elim
              (λ (q : (j' : ℕ) × (get_elem? v.entries j' ≡ some e')). held_later n next next E (all_earlier (set views i w)) p (λ d. p d && not (eqb d c)) e' (omega arith) more less (f.entries q.0 e' q.1))
              (λ (q : (j' : ℕ) × (get_elem? (entry v m c (p c) ∷ []) j' ≡ some e')). subst (Held n next (all_earlier (set views i w)) (λ d. p d && not (eqb d c))) (last q.0 e' q.1)
              record { low = low_later n next next E (all_earlier (set views i w)) m v.snapshot (omega arith) more h; cand = small; inside = inside; away = out (p c) (eqb c c) (let z : eqb c c ≡ true = eq-eqb c c refl in z) })
              (at_append v.entries (entry v m c (p c) ∷ []) k' e' at');
        })
        (λ (t : (j ≢ i) × (get_elem? views j ≡ some u)). fits_later n next next E (all_earlier (set views i w)) p (λ d. p d && not (eqb d c)) u (omega arith) more less (k.each j u t.1))
        (at_set views i j w u e);
  } where
    last : (j : ℕ) (e : Entry) → get_elem? (entry v m c (p c) ∷ []) j ≡ some e → entry v m c (p c) ≡ e
    last zero e q = some-injective (entry v m c (p c)) e q
    last (suc j) e q = absurd (some-ne-none e (sym q))

    less : (d : ℕ) → p d ≡ false → p d && not (eqb d c) ≡ false
    less d e = ap (λ b. b && not (eqb d c)) e

    out : (a b : Bool) → b ≡ true → a && not b ≡ false
    out true b e = ap not e
    out false b e = refl

    turned : (d c : ℕ) → eqb d c ≡ eqb c d
    turned d c = dite (ℕ_discrete d c) (λ s. eq-eqb d c s ∙ sym (eq-eqb c d (sym s))) (λ s. ne_eqb d c s ∙ sym (ne_eqb c d (λ z. s (sym z))))

    counted : (pd pc same same' : Bool) → (same ≡ true → pd ≡ pc) → same ≡ same' → weight (not pd) + weight (same' && pc) ≡ weight (not (pd && not same))
    counted pd pc true same' is e = let a : pd ≡ pc = is refl in counted_in pd pc same' a e where
      counted_in : (pd pc same' : Bool) → pd ≡ pc → true ≡ same' → weight (not pd) + weight (same' && pc) ≡ weight (not (pd && false))
      counted_in true true true a e = refl
      counted_in false false true a e = refl
      counted_in true false same' a e = absurd (true≢false a)
      counted_in false true same' a e = absurd (true≢false (sym a))
      counted_in pd pc false a e = absurd (true≢false e)
    counted true pc false true is e = absurd (true≢false (sym e))
    counted false pc false true is e = absurd (true≢false (sym e))
    counted true pc false false is e = refl
    counted false pc false false is e = refl

    more : (d m' : ℕ) → E d m' ≤ all_earlier (set views i (cleared n v m c (p c))) d m'
    more d m' = let s = total-set (λ u. earlier d m' u.entries) views i v (cleared n v m c (p c)) at in
        let z = total-snoc (λ e. weight (eqb e.cand.0 d && ltb e.number m')) v.entries (entry v m c (p c)) in omega arith

-- a new seat, which knows what the first knows
pub forks : (n next : ℕ) (p : Set') (views : List Seen) (i : ℕ) (v : Seen) → Kept n next p views → get_elem? views i ≡ some v → Kept n next p (views ++ newcomer v.missing ∷ [])
forks n next p views i v k at = let f = k.each i v at in let new : Seen = newcomer v.missing in let all : List Seen = views ++ new ∷ [] in
    let more : (d m : ℕ) → all_earlier views d m ≤ all_earlier all d m = λ d m. (let z = total-snoc (λ u. earlier d m u.entries) views new in omega arith) in record {
      outside = k.outside;
      numbers = λ m. let z = total-snoc (λ u. drawn m u) views new in let b = k.numbers m in omega arith;
      there = λ c lt. let z = total-snoc (λ u. took c u.entries) views new in let b = k.there c lt in omega arith;
      each = λ j u e. ⊎_elim
          (λ (old : get_elem? views j ≡ some u). fits_later n next next (all_earlier views) (all_earlier all) p p u (omega arith) more (λ c z. z) (k.each j u old))
          (λ (is : new ≡ u). subst (Fits n next (all_earlier all) p) is (fits_new n next (all_earlier all) p v.missing f.gone))
          (at_snoc views new u j e);
    }

-- the first takes in what the other knows and did. What the other drew for and did not clear is given up
pub merges : (n next : ℕ) (p : Set') (views : List Seen) (i : ℕ) (v : Seen) (j : ℕ) (w : Seen) → Kept n next p views → get_elem? views i ≡ some v → ¬ (j ≡ i) → get_elem? views j ≡ some w
    → get_elem? (set views i (joined n v w)) j ≡ some w → Kept n next p (set (set views i (joined n v w)) j (newcomer []))
merges n next p views i v j w k at apart at' there' = let spent : Seen = newcomer [] in let b : Seen = joined n v w in let f = k.each i v at in let f' = k.each j w at' in
    let views' : List Seen = set views i b in let all : List Seen = set views' j spent in
    let more : (d m : ℕ) → all_earlier views d m ≤ all_earlier all d m = λ d m. (let x = total-set (λ u. earlier d m u.entries) views i v b at in let y = total-set (λ u. earlier d m u.entries) views' j w spent there' in
    let z = total-append (λ e. weight (eqb e.cand.0 d && ltb e.number m)) v.entries w.entries in omega arith) in record {
      outside = k.outside;
      numbers = λ m. let x = total-set (λ u. drawn m u) views i v b at in let y = total-set (λ u. drawn m u) views' j w spent there' in let z = total-append (λ e. weight (eqb e.number m)) v.entries w.entries in let q = k.numbers m in omega arith;
      there = λ c lt. let x = total-set (λ u. took c u.entries) views i v b at in let y = total-set (λ u. took c u.entries) views' j w spent there' in
          let z = total-append (λ e. weight (eqb e.cand.0 c && e.was_there)) v.entries w.entries in let q = k.there c lt in omega arith;
      each = λ s u e. ⊎_elim
          (λ (t : (s ≡ j) × (spent ≡ u)). subst (Fits n next (all_earlier all) p) t.1 record {
            gone = λ c z. absurd (true≢false (sym z));
            seen = λ c lt far z. absurd (omega arith);
            held = λ m z. absurd (some≢none m (sym z));
            entries = λ q x z. absurd (some-ne-none x (sym z));
          })
          (λ (t : (s ≢ j) × (get_elem? views' s ≡ some u)). ⊎_elim
          (λ (q : (s ≡ i) × (b ≡ u)). subst (Fits n next (all_earlier all) p) q.1 record {
            gone = λ c h. let r = has-tabulate_true n (λ c. has v.missing c || has w.missing c) c h in ⊎_elim (f.gone c) (f'.gone c) (or_true _ _ r.1);
            seen = λ c lt near away. has-tabulate n (λ c. has v.missing c || has w.missing c) c (omega arith) ∙ or_left _ _ (f.seen c lt near away);
            held = λ m z. low_later n next next (all_earlier views) (all_earlier all) m v.snapshot (omega arith) more (f.held m z);
            entries = λ x y z. ⊎_elim
                (λ (o : (x' : ℕ) × (get_elem? v.entries x' ≡ some y)). held_later n next next (all_earlier views) (all_earlier all) p p y (omega arith) more (λ c z. z) (f.entries o.0 y o.1))
                (λ (o : (x' : ℕ) × (get_elem? w.entries x' ≡ some y)). held_later n next next (all_earlier views) (all_earlier all) p p y (omega arith) more (λ c z. z) (f'.entries o.0 y o.1))
                (at_append v.entries w.entries x y z);
          })
          (λ (q : (s ≢ i) × (get_elem? views s ≡ some u)). fits_later n next next (all_earlier views) (all_earlier all) p p u (omega arith) more (λ c z. z) (k.each s u q.1))
          (at_set views i s b u t.1))
          (at_set views' j s spent u e);
    }

-- the same for a set that is the same at each number
pub kept_same : (n next : ℕ) (p p' : Set') (views : List Seen) → ((c : ℕ) → p c ≡ p' c) → Kept n next p views → Kept n next p' views
kept_same n next p p' views e k = subst (λ (q : Set'). Kept n next q views) (λ i c. e c i) k
