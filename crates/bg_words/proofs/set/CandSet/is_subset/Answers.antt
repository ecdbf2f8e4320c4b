use Rattle.std.proofs.Common.{ℕ, ◌<◌, length, sym, ap, ◌∙◌, arith, refl, true≢false}
use Rattle.bg_words.specs.Sets.{present}
use Rattle.bg_words.proofs.Sets.{any_default}
use Rattle.bg_words.proofs.Words.{length-tabulate, has_of, has_from, within_more, within_not, in_words}
use Rattle.bg_words.proofs.set.CandSet.is_subset.Goals as goal

pub index-requires-in-loop-i : goal.index-requires-in-loop-i
index-requires-in-loop-i c = let s = c.self.inside in let t = c.other.inside in let e = ap length c.self.view_is in let f = ap length c.other.view_is in let l = length-tabulate s.n (present s.words.items) in let m = length-tabulate t.n (present t.words.items) in
    let same = c.requires in let a = c.self.invariant.1 in let b = c.other.invariant.1 in let q = c.loop-i-test.true in let n = c.len-i-end.ensures in omega arith

pub loop-i-preserved : goal.loop-i-preserved
loop-i-preserved c = let s = c.self.inside in let t = c.other.inside in let e = ap length c.self.view_is in let f = ap length c.other.view_is in let l = length-tabulate s.n (present s.words.items) in let m = length-tabulate t.n (present t.words.items) in
    let same = c.requires in let a = c.self.invariant.1 in let b = c.other.invariant.1 in let q = c.loop-i-test.true in let n = c.len-i-end.ensures in
    let ws = s.words.items in let us = t.words.items in let i : ℕ = c.loop-i.i in let here : i < length ws = omega arith in let there : i < length us = omega arith in
    within_more ws us i c.index.result.now c.index-in-loop-i.result.now (c.index.ensures ∙ any_default ws i c.index.result.now 0 here) (c.index-in-loop-i.ensures ∙ any_default us i c.index-in-loop-i.result.now 0 there) (omega arith) c.if-index-ne0.false c.loop-i.invariant

-- a word that isn't inside the other's shows that the set isn't
pub returns-then-index-ne0 : goal.returns-then-index-ne0
returns-then-index-ne0 c = let s = c.self.inside in let t = c.other.inside in let e = ap length c.self.view_is in let f = ap length c.other.view_is in let l = length-tabulate s.n (present s.words.items) in let m = length-tabulate t.n (present t.words.items) in
    let same = c.requires in let a = c.self.invariant.1 in let b = c.other.invariant.1 in let q = c.loop-i-test.true in let n = c.len-i-end.ensures in
    let ws = s.words.items in let us = t.words.items in let i : ℕ = c.loop-i.i in let here : i < length ws = omega arith in let there : i < length us = omega arith in (
      (λ z. absurd (true≢false (sym z))),
      (λ all. absurd (c.if-index-ne0.true (within_not ws us i c.index.result.now c.index-in-loop-i.result.now (c.index.ensures ∙ any_default ws i c.index.result.now 0 here) (c.index-in-loop-i.ensures ∙ any_default us i c.index-in-loop-i.result.now 0 there) (omega arith) (omega arith)
          (λ d x. has_from t.n us c.args.other.now c.other.view_is d (all d (has_of s.n ws c.args.self.now c.self.view_is c.self.invariant.2 d x)))))),
    )

pub returns : goal.returns
returns c = let s = c.self.inside in let t = c.other.inside in let ws = s.words.items in let us = t.words.items in let q = c.loop-i-test.false in let end = c.loop-i.auto.i-end in let n = c.len-i-end.ensures in (
  (λ _ d e. let here = has_from s.n ws c.args.self.now c.self.view_is d e in has_of t.n us c.args.other.now c.other.view_is c.other.invariant.2 d (c.loop-i.invariant d (let lt = in_words ws d here in omega arith) here)),
  (λ _. refl),
)
