use Rattle.std.proofs.Common.{◌≡◌, length, take, drop}
use Rattle.bg_blocks.specs.Marks.{undone}
use Rattle.bg_blocks.specs.MarkViews.{marked}
use Rattle.bg_blocks.proofs.marks.Marks.undo_to.Given as goal

abbrev pub invariant-loop-self : goal.invariant-loop-self
invariant-loop-self l =
    (undone (drop l.first l.self.undo.items) (marked l.self) ≡ undone (drop l.first l.fn.self.undo.items) (marked l.fn.self))
    × (take l.first l.self.undo.items ≡ take l.first l.fn.self.undo.items)

abbrev pub decreases-loop-self : goal.decreases-loop-self
decreases-loop-self l = length l.self.undo.items
