-- The entries of all seats under the rule are an ordered history.
use Rattle.std.proofs.Common.{◌≡◌, ℕ, zero, suc, ◌<◌, ◌≤◌, ◌↔◌, Bool, false, not, ◌&&◌, eqb, ltb, List, [], ◌∷◌, ◌++◌, sym, refl, ap, ◌∙◌, subst, ⊎_elim, arith}
use borrow.Author.Tests.{ltb-true}
use mathlib.Core.Option.{some, some-injective, some-ne-none}
use lib.ListN.{get_elem?}
use Rattle.bg_base.specs.Totals.{total, weight}
use Rattle.bg_base.proofs.Totals.{total-append, total-some, total-le, below-most}
use Rattle.atomic_table.proofs.Lists.{at_longer}
use Rattle.bg_words.specs.declared.machine.Seen.{Seen}
use Rattle.bg_words.specs.declared.machine.Entry.{Entry}
use Rattle.bg_words.specs.Steps.{earlier, numbered, drawn}
use Rattle.bg_words.specs.Rule.{Held, all_earlier, Kept}
use Rattle.bg_words.specs.History.{Among, Dropped, DroppedBefore, Ordered, entries_of}
use Rattle.bg_words.proofs.Sets.{and_true, false_not, eqb-true, weight_one, weight_true, at_append}

at_behind : {A : Type 0} (l m : List A) (k : ℕ) (a : A) → get_elem? m k ≡ some a → (j : ℕ) × (get_elem? (l ++ m) j ≡ some a)
at_behind [] m k a e = (k, e)
at_behind (x ∷ xs) m k a e = let r = at_behind xs m k a e in (suc r.0, r.1)

pub total-entries : (g : Entry → ℕ) (views : List Seen) → total g (entries_of views) ≡ total (λ v. total g v.entries) views
total-entries g [] = refl
total-entries g (v ∷ vs) = let r = total-entries g vs in let a = total-append g v.entries (entries_of vs) in omega arith

pub among_of : (views : List Seen) (i : ℕ) (v : Seen) (e : Entry) → get_elem? views i ≡ some v → Among v.entries e → Among (entries_of views) e
among_of [] i v e at a = absurd (some-ne-none v (sym at))
among_of (x ∷ xs) zero v e at a = let is = some-injective x v at in (a.0, at_longer x.entries (entries_of xs) a.0 e (ap (λ (u : Seen). get_elem? u.entries a.0) is ∙ a.1))
among_of (x ∷ xs) (suc i) v e at a = let r = among_of xs i v e at a in at_behind x.entries (entries_of xs) r.0 e r.1

pub among_from : (views : List Seen) (e : Entry) → Among (entries_of views) e → (i : ℕ) × (v : Seen) × (get_elem? views i ≡ some v) × Among v.entries e
among_from [] e a = absurd (some-ne-none e (sym a.1))
among_from (x ∷ xs) e a = ⊎_elim
    (λ (t : (j : ℕ) × (get_elem? x.entries j ≡ some e)). (0, x, refl, t))
    (λ (t : (j : ℕ) × (get_elem? (entries_of xs) j ≡ some e)). let r = among_from xs e t in (suc r.0, r.1, r.2, r.3))
    (at_append x.entries (entries_of xs) a.0 e a.1)

pub found_before : (es : List Entry) (d m : ℕ) → 1 ≤ earlier d m es → DroppedBefore es d m
found_before es d m h = let t = total-some (λ e. weight (eqb e.cand.0 d && ltb e.number m)) es h in let e = t.1 in let q = and_true (eqb e.cand.0 d) (ltb e.number m) (weight_one _ t.3) in
    (e, (t.0, t.2), eqb-true e.cand.0 d q.0, ltb-true e.number m q.1)

module _ (n next : ℕ) (p : ℕ → Bool) (views : List Seen) (k : Kept n next p views) where
  abbrev es : List Entry
  es = entries_of views

  pub before_in : (d m : ℕ) → 1 ≤ all_earlier views d m → DroppedBefore es d m
  before_in d m h = found_before es d m (subst (λ (x : ℕ). 1 ≤ x) (sym (total-entries (λ e. weight (eqb e.cand.0 d && ltb e.number m)) views)) h)

  held_of : (e : Entry) → Among es e → Held n next (all_earlier views) p e
  held_of e a = let t = among_from views e a in (k.each t.0 t.1 t.2).entries t.3.0 e t.3.1

  pub gone_of : (e : Entry) → Among es e → p e.cand.0 ≡ false
  gone_of e a = (held_of e a).away

  pub absent_in : (c : ℕ) → c < n → (p c ≡ false) ↔ Dropped es c
  absent_in c lt = (
    (λ away. let one = k.there c lt in let w = weight_true (not (p c)) (false_not (p c) away) in let same = total-entries (λ e. weight (eqb e.cand.0 c && e.was_there)) views in
        let t = total-some (λ e. weight (eqb e.cand.0 c && e.was_there)) es (omega arith) in let e = t.1 in (e, (t.0, t.2), eqb-true e.cand.0 c (and_true (eqb e.cand.0 c) e.was_there (weight_one _ t.3)).0)),
    (λ t. subst (λ (d : ℕ). p d ≡ false) t.2 (gone_of t.0 t.1)),
  )

  pub ordered_in : Ordered n es
  ordered_in = record {
    differ = λ m. let same = total-entries (λ e. weight (eqb e.number m)) views in
        let le = total-le (λ v. numbered m v.entries) (λ v. drawn m v) views (λ i v at. omega arith) in let q = k.numbers m in let b = below-most m next in omega arith;
    inside = λ e a. let h = held_of e a in (h.cand, h.inside);
    before = λ e a d lt away. before_in d e.number ((held_of e a).low.before d lt away);
    once = λ e a. let h = held_of e a in total-entries (λ f. weight (eqb f.cand.0 e.cand.0 && f.was_there)) views ∙ (k.there e.cand.0 h.cand ∙ weight_true (not (p e.cand.0)) (false_not (p e.cand.0) h.away));
  }
