use Rattle.std.proofs.Common.{◌≡◌, ℕ, suc, ◌+◌, ◌/◌, ◌%◌, ◌<◌, List, [], ◌∷◌, length, get_or, arith, sym, refl, ap, ◌∙◌, subst, add-one}
use mathlib.Core.Option.{some, some-injective}
use lib.ListN.{get_elem?}
use Rattle.std.specs.Slots.{slots_items}
use mathlib.Core.Logic.{dite}
use native.Mathlib.Decide.{ℕ_discrete}
use Rattle.bg_words.specs.Sets.{Numbers, has, bit, present, words_for}
use Rattle.bg_words.proofs.Words.{length-with_word, with_word-here, with_word-other}
use Rattle.bg_shared.proofs.Shots.{Ended, ends}
use Rattle.bg_shared.proofs.shared.Shared.finish.Goals as goal

-- what the last state is
last : (c : goal.After-free) → (next : ℕ) × (ws : List ℕ) × (slots_items c.close_with-closed.result.words ≡ next ∷ ws) × (length ws ≡ words_for c.args.self.cands) × Ended c.args.self.cands c.args.first.seat.me.0 ws
last c = let own = c.args.self in let k = own.key in let all = c.requires.all in
    let e = ends own.table.shared.key.cands own.table.shared.key.seats c.args.first.seat.id c.args.first.seat.me.0 _ _ c.close_with-closed.ensures.values.2 (all ∙ sym k.1) in
    subst (λ (n : ℕ). (next : ℕ) × (ws : List ℕ) × (slots_items c.close_with-closed.result.words ≡ next ∷ ws) × (length ws ≡ words_for n) × Ended n c.args.first.seat.me.0 ws) k.0 e

at_word : (items ws : List ℕ) (next : ℕ) → items ≡ next ∷ ws → (k : ℕ) → k < length ws → get_elem? items (k + 1) ≡ some (get_or ws k 0)
at_word items ws next is k lt = ap (get_elem? items) (add-one k) ∙ (ap (λ (l : List ℕ). get_elem? l (suc k)) is ∙ in_list ws k lt) where
  in_list : (ws : List ℕ) (k : ℕ) → k < length ws → get_elem? ws k ≡ some (get_or ws k 0)
  in_list [] k lt = absurd (omega arith)
  in_list (w ∷ ws) ℕ.zero lt = refl
  in_list (w ∷ ws) (suc k) lt = in_list ws k (omega arith)

pub loop-i-preserved : goal.loop-i-preserved
loop-i-preserved c = let i = c.loop-i.invariant in let k : ℕ = c.loop-i.i in let got : Numbers = c.loop-i.set in let x : ℕ = c.word.result in let len = length-with_word got k x in
    let kept : length c.set_word.new.self ≡ length got = ap length c.set_word.ensures.members ∙ len in record {
      size = kept ∙ i.size;
      words = λ d w lt near at. let small : d < length got = omega arith in ap (λ (t : Numbers). has t d) c.set_word.ensures.members ∙ dite (ℕ_discrete (d / 64) k)
          (λ here. with_word-here got k x d small here ∙ ap (λ (y : ℕ). bit y (d % 64)) (some-injective x w (sym c.word.ensures ∙ (ap (λ (j : ℕ). get_elem? (slots_items c.close_with-closed.result.words) (j + 1)) (sym here) ∙ at))))
          (λ other. with_word-other got k x d small other ∙ i.words d w small (omega arith) at);
    }

pub returns-clause-ordered : goal.returns-clause-ordered
returns-clause-ordered c = (last c).4.ordered

pub returns-clause-retained : goal.returns-clause-retained
returns-clause-retained c d lt = let l = last c in let i = c.loop-i.invariant in let ws : List ℕ = l.1 in let stop = c.loop-i-test.false in let n = c.word_count-i-end.ensures in let same = c.requires.own.1 in let len = l.3 in let kept = i.size in
    let is : has c.loop-i.set d ≡ present ws d = i.words d (get_or ws (d / 64) 0) (omega arith) (omega arith) (at_word (slots_items c.close_with-closed.result.words) ws l.0 l.2 (d / 64) (omega arith)) in
    let r = l.4.retained d lt in ((λ e. r.0 (sym is ∙ e)), (λ e. is ∙ r.1 e))

pub returns-clause-missing : goal.returns-clause-missing
returns-clause-missing c = (last c).4.missing
