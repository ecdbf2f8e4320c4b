use Rattle.std.proofs.Common.{◌≡◌, ℕ, ◌+◌, ◌<◌, List, length, set, get_or, sym, ap, ◌∙◌, subst, arith, length-set, get_or-set_same, get_or-set_other, true}
use mathlib.Core.Logic.{dite}
use native.Mathlib.Decide.{ℕ_discrete}
use Rattle.bg_words.specs.Sets.{present, tabulate}
use Rattle.bg_words.proofs.Sets.{any_default}
use Rattle.bg_words.proofs.Words.{length-tabulate, words_same}
use Rattle.bg_words.proofs.set.CandSet.copy_from.Goals as goal

pub index-requires : goal.index-requires
index-requires c = let s = c.self.inside in let t = c.other.inside in let e = ap length c.self.view_is in let f = ap length c.other.view_is in let l = length-tabulate s.n (present s.words.items) in let m = length-tabulate t.n (present t.words.items) in
    let same = c.requires in let a = c.self.invariant.1 in let b = c.other.invariant.1 in let n = c.len-i-end.ensures in let i = c.loop-i.invariant in let count = i.count in let len = i.length in let q = c.loop-i-test.true in omega arith

-- one more word is copied
more : (ws us : List ℕ) (i x : ℕ) → i < length ws → x ≡ get_or us i 0 → ((k : ℕ) → k < i → get_or ws k 0 ≡ get_or us k 0) → (k : ℕ) → k < i + 1 → get_or (set ws i x) k 0 ≡ get_or us k 0
more ws us i x here is below k lt = dite (ℕ_discrete k i)
    (λ same. ap (λ (j : ℕ). get_or (set ws i x) j 0) same ∙ (get_or-set_same ws i x 0 here ∙ (is ∙ ap (λ (j : ℕ). get_or us j 0) (sym same))))
    (λ other. get_or-set_other ws i k x 0 other ∙ below k (omega arith))

pub loop-i-preserved : goal.loop-i-preserved
loop-i-preserved c = let s = c.self.inside in let t = c.other.inside in let e = ap length c.self.view_is in let f = ap length c.other.view_is in let l = length-tabulate s.n (present s.words.items) in let m = length-tabulate t.n (present t.words.items) in
    let same = c.requires in let a = c.self.invariant.1 in let b = c.other.invariant.1 in let n = c.len-i-end.ensures in let i = c.loop-i.invariant in let count = i.count in let len = i.length in let q = c.loop-i-test.true in
    let ws = c.loop-i.self-inside.words.items in let us = t.words.items in let k : ℕ = c.loop-i.i in let here : k < length ws = omega arith in let there : k < length us = omega arith in record {
      count = i.count;
      length = length-set ws k c.index.result.now ∙ i.length;
      copied = more ws us k c.index.result.now here (c.index.ensures ∙ any_default us k c.index.result.now 0 there) i.copied;
    }

pub invariant_of-self : goal.invariant_of-self
invariant_of-self c = let s = c.self.inside in let t = c.other.inside in let e = ap length c.self.view_is in let f = ap length c.other.view_is in let l = length-tabulate s.n (present s.words.items) in let m = length-tabulate t.n (present t.words.items) in
    let same = c.requires in let a = c.self.invariant.1 in let b = c.other.invariant.1 in let n = c.len-i-end.ensures in let i = c.loop-i.invariant in let count = i.count in let len = i.length in let q = c.loop-i-test.false in let end = c.loop-i.auto.i-end in
    let ws = c.loop-i.self-inside.words.items in let us = t.words.items in let all : ws ≡ us = words_same ws us (omega arith) (λ k lt. i.copied k (omega arith)) in
    let small = c.self.invariant.0 in let is : t.n ≡ c.loop-i.self-inside.n = omega arith in
    (omega arith, omega arith, subst (λ (m : ℕ). (d : ℕ) → present ws d ≡ true → d < m) is (subst (λ (l : List ℕ). (d : ℕ) → present l d ≡ true → d < t.n) (sym all) c.other.invariant.2))

pub returns : goal.returns
returns c = let s = c.self.inside in let t = c.other.inside in let e = ap length c.self.view_is in let f = ap length c.other.view_is in let l = length-tabulate s.n (present s.words.items) in let m = length-tabulate t.n (present t.words.items) in
    let same = c.requires in let a = c.self.invariant.1 in let b = c.other.invariant.1 in let n = c.len-i-end.ensures in let i = c.loop-i.invariant in let count = i.count in let len = i.length in let q = c.loop-i-test.false in let end = c.loop-i.auto.i-end in
    let ws = c.loop-i.self-inside.words.items in let us = t.words.items in let all : ws ≡ us = words_same ws us (omega arith) (λ k lt. i.copied k (omega arith)) in
    let is : c.loop-i.self-inside.n ≡ t.n = omega arith in
    ap (λ (l : List ℕ). tabulate c.loop-i.self-inside.n (present l)) all ∙ (ap (λ (m : ℕ). tabulate m (present us)) is ∙ c.other.view_is)
