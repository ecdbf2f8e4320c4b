use Rattle.std.proofs.Common.{◌≡◌, ℕ, ◌*◌, ◌^◌, ◌<◌, length, ap, ◌∙◌, arith}
use Rattle.bg_base.specs.Totals.{total, weight}
use Rattle.bg_words.specs.Sets.{Numbers, present, tabulate}
use Rattle.bg_words.proofs.Sets.{any_default}
use Rattle.bg_words.proofs.Words.{counted_more, counted_fits, counted_all}
use Rattle.bg_words.proofs.set.CandSet.count.Goals as goal

pub overflow_add-count : goal.overflow_add-count
overflow_add-count c = let counted = c.loop-i.invariant.counted in let q = c.loop-i-test.true in let n = c.len-i-end.ensures in let v = c.self.invariant in let small = v.0 in let ws = c.self.inside.words.items in
    let fits : c.index.result.now < 2 ^ 64 = omega arith in let inside : c.loop-i.i < length ws = omega arith in
    let more = counted_more ws c.loop-i.i c.index.result.now fits (c.index.ensures ∙ any_default ws c.loop-i.i c.index.result.now 0 inside) in
    let most = counted_fits c.self.inside.n (length ws) c.loop-i.i ws v.1 v.2 inside in omega arith

pub loop-i-preserved : goal.loop-i-preserved
loop-i-preserved c = let counted = c.loop-i.invariant.counted in let q = c.loop-i-test.true in let n = c.len-i-end.ensures in let ws = c.self.inside.words.items in
    let fits : c.index.result.now < 2 ^ 64 = omega arith in let inside : c.loop-i.i < length ws = omega arith in
    let more = counted_more ws c.loop-i.i c.index.result.now fits (c.index.ensures ∙ any_default ws c.loop-i.i c.index.result.now 0 inside) in record { counted = omega arith }

pub returns : goal.returns
returns c = let i = c.loop-i.invariant in let counted = i.counted in let q = c.loop-i-test.false in let end = c.loop-i.auto.i-end in let n = c.len-i-end.ensures in let ws = c.self.inside.words.items in
    let is : c.loop-i.i ≡ length ws = omega arith in let v = c.self.invariant in
    counted ∙ (ap (λ (m : ℕ). total weight (tabulate (64 * m) (present ws))) is ∙ (counted_all c.self.inside.n (length ws) ws v.1 v.2 ∙ ap (λ (s : Numbers). total weight s) c.self.view_is))
