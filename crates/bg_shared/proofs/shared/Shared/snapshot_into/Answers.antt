use Rattle.std.proofs.Common.{◌≡◌, ℕ, suc, ◌+◌, ◌<◌, ◌⊎◌, pred, ◌%◌, refl, length, arith, sym, ap, ◌∙◌, subst, inl, inr, add-one}
use mathlib.Core.Logic.{dite}
use native.Mathlib.Decide.{ℕ_discrete}
use Rattle.atomic_table.specs.Table.{Me}
use Rattle.bg_shared.specs.declared.view.View.{View}
use Rattle.bg_words.specs.Sets.{Numbers, bit, with_word}
use Rattle.bg_shared.specs.Views.{looking}
use Rattle.bg_words.proofs.Keeps.{some≢none}
use Rattle.bg_words.proofs.Words.{length-with_word}
use Rattle.bg_shared.proofs.Table.{looks_at}
use Rattle.bg_shared.proofs.Shots.{Shooting, shoots}
use Rattle.bg_shared.proofs.shared.Shared.snapshot_into.Goals as goal

pub load-word-requires : goal.load-word-requires
load-word-requires c = let own = c.args.self.now in let w = own.words in let k = own.key in let i = c.loop-i.invariant in let s = i.shooting in let q = c.loop-i-test.true in let sized = c.word_count-i-end.ensures in let same = c.requires.own.1 in
    let turn : (c.loop-i.i ≡ 0) ⊎ (c.loop-i.i ≡ c.loop-i.seat.seat.me.0.seen.loaded) = dite (ℕ_discrete c.loop-i.i 0) (λ z. inl z) (λ nz. inr (sym (s.loaded (omega arith)).0)) in
    let inside : c.loop-i.i + 1 < own.table.shared.table_id.words = omega arith in
    (i.table ∙ c.requires.own.0.0, inside, looks_at own.table.shared.key.cands own.table.shared.key.seats own.table.shared.table_id.slots c.loop-i.seat.seat.id c.loop-i.i c.loop-i.seat.seat.me c.loop-i.seat.live.0 (s.same.pending ∙ c.requires.idle) turn)

pub loop-i-preserved : goal.loop-i-preserved
loop-i-preserved c = let i = c.loop-i.invariant in let told = c.load-word.ensures.2 in let v : View = c.loop-i.seat.seat.me.0 in let x : ℕ = c.load-word.result in let k : ℕ = c.loop-i.i in let n : ℕ = length c.loop-i.set in
    let got : Numbers = c.loop-i.set in let old : View = c.args.seat.now.seat.me.0 in
    let s = i.shooting in let q = c.loop-i-test.true in let sized = c.word_count-i-end.ensures in let same = c.requires.own.1 in let mine = c.requires.own.0 in
    let pred_is : pred (k + 1) ≡ k = ap pred (add-one k) in
    let more = shoots n k x old v got s (s.same.cands ∙ (mine.1 ∙ sym (i.size ∙ same))) refl (let a = s.same.loads in let b = mine.2 in omega arith) (λ d here gone. told.1 d (here ∙ sym pred_is) gone) in
    let is : c.load-word.new.seat.me.0 ≡ looking v k (λ d. bit x (d % 64)) = ap (λ (m : Me (Unit {0}) View). m.0) told.0 ∙ ap (λ (j : ℕ). looking v j (λ d. bit x (d % 64))) pred_is in let kept : length c.set_word.new.self ≡ length got = ap length c.set_word.ensures.members ∙ length-with_word got k x in record {
      table = c.load-word.ensures.0 ∙ i.table;
      bare = ap (λ (m : Me (Unit {0}) View). m.1) told.0 ∙ i.bare;
      size = kept ∙ i.size;
      shooting = subst (λ (t : Numbers). Shooting (length t) (k + 1) old c.load-word.new.seat.me.0 t) (sym c.set_word.ensures.members)
          (subst (λ (m : ℕ). Shooting m (k + 1) old c.load-word.new.seat.me.0 (with_word got k x)) (sym (length-with_word got k x))
          (subst (λ (j : ℕ). Shooting n j old c.load-word.new.seat.me.0 (with_word got k x)) (sym (add-one k)) (subst (λ (w : View). Shooting n (suc k) old w (with_word got k x)) (sym is) more)));
    }

pub invariant_of-seat : goal.invariant_of-seat
invariant_of-seat c = let told = c.load-word.ensures.2 in let f = c.loop-i.seat in let none_there = c.loop-i.invariant.shooting.same.pending ∙ c.requires.idle in record {
  matches = (
    (λ _. ap (λ (m : Me (Unit {0}) View). m.0.seen.pending) told.0 ∙ none_there),
    (λ number d e. absurd (some≢none number (sym (f.matches.1 number d e).0 ∙ none_there))),
  );
  live = (ap (λ (m : Me (Unit {0}) View). m.0.live) told.0 ∙ f.live.0, subst (λ (x : ℕ). 0 < x) (sym (ap (λ (m : Me (Unit {0}) View). m.0.parts) told.0)) f.live.1);
  bare = ap (λ (m : Me (Unit {0}) View). m.1) told.0 ∙ f.bare;
}
