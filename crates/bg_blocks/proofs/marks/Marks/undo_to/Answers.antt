use Rattle.std.proofs.Common.{◌≡◌, ℕ, Option, ◌≤◌, ◌++◌, [], ◌∷◌, length, take, drop, ap, ◌∙◌, arith}
use Rattle.bg_blocks.specs.Marks.{undone}
use Rattle.bg_blocks.specs.MarkViews.{marked}
use Rattle.bg_blocks.proofs.Undoing.{one_back, front_back, long_enough}
use Rattle.bg_blocks.proofs.marks.Marks.undo_to.Goals as goal

pub loop-self-preserved-in-Continue-1 : goal.loop-self-preserved-in-Continue-1
loop-self-preserved-in-Continue-1 c =
    let n = c.args.first in
    let e : ℕ × Option ℕ = (c.in-Some.key, c.in-Some.before) in
    let us = c.loop-self.self.undo.items in
    let vs = c.pop.new.self.items in
    let is : us ≡ vs ++ e ∷ [] = c.in-Some.ensures.items in
    let same : c.undo_one.new.self.undo.items ≡ vs = ap (λ v. v.items) c.in_ok-undo_one.ensures.undo in
    let long : n ≤ length vs = long_enough n us vs e is (omega (arith, c.loop-self-test.true, c.len.ensures, c.loop-self.self.undo.ok.0)) in (
      ap (λ l. undone (drop n l) (marked c.undo_one.new.self)) same ∙ (one_back n us vs e (marked c.loop-self.self) (marked c.undo_one.new.self) long is c.in_ok-undo_one.ensures.marks ∙ c.loop-self.invariant.0),
      ap (take n) same ∙ (front_back n us vs e long is ∙ c.loop-self.invariant.1),
    )
