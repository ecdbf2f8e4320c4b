-- What stands behind a side of a branch, in front of a branch and in front of a loop, where the marks are taken back.
use Rattle.std.proofs.Common.{◌≡◌, ℕ, ◌-◌, [], ◌∷◌, length, take, drop, ap, ◌∙◌, arith}
use Rattle.bg_ast.specs.Syntax.{Guard}
use Rattle.bg_ast.specs.Resolved as r
use Rattle.bg_flow.specs.Core.{Core, Head, arrival}
use Rattle.bg_flow.specs.Blocks.{Block, Leap, Either}
use Rattle.bg_blocks.specs.declared.emit.Emitted as code
use Rattle.bg_blocks.specs.Marks.{undone}
use Rattle.bg_blocks.specs.MarkViews.{marked}
use Rattle.bg_blocks.specs.Emitted.{State, pushed, with_marks_of, Emits}
use Rattle.bg_blocks.specs.Decided.{skip_block, branch_block, turn_block, head_block}
use Rattle.bg_blocks.specs.EmittedViews.{state_of}
use Rattle.bg_blocks.proofs.Branching.{went_back}
use Rattle.bg_blocks.proofs.Reading.{long}

-- how many blocks more
made_since : (p : r.Program) (s0 : State) (e f : code.Emitted) (start made : ℕ) → length s0.blocks ≡ start → f.blocks ≡ e.blocks → made ≡ length f.blocks.items - start → made ≡ length (state_of p e).blocks - length s0.blocks
made_since p s0 e f start made is bs m =
    let there = ap (λ v. length v.items) bs in
    let same = long p e in
    omega (arith, is, m, there, same)

pub skipped : (p : r.Program) (core : Core) (s0 : State) (e f : code.Emitted) (start first made : ℕ) → length s0.blocks ≡ start → length s0.undo ≡ first → Emits core s0 (state_of p e) →
    marked f.marks ≡ undone (drop first e.marks.undo.items) (marked e.marks) → f.marks.undo.items ≡ take first e.marks.undo.items → f.blocks ≡ e.blocks → f.takes_in ≡ e.takes_in → made ≡ length f.blocks.items - start →
    pushed (record { cmds = []; exit = Leap (made ∷ []) }) (state_of p f) ≡ pushed (skip_block s0 (state_of p e)) (with_marks_of s0 (state_of p e))
skipped p core s0 e f start first made l n x ms us bs os m =
    ap (pushed (record { cmds = []; exit = Leap (made ∷ []) })) (went_back p core s0 e f first x n ms us bs os)
    ∙ ap (λ k. pushed (record { cmds = []; exit = Leap (k ∷ []) }) (with_marks_of s0 (state_of p e))) (made_since p s0 e f start made l bs m)

pub decided : (p : r.Program) (core : Core) (g : Guard) (off s0 : State) (e f : code.Emitted) (start first made : ℕ) → length off.blocks ≡ start → length s0.undo ≡ first → Emits core s0 (state_of p e) →
    marked f.marks ≡ undone (drop first e.marks.undo.items) (marked e.marks) → f.marks.undo.items ≡ take first e.marks.undo.items → f.blocks ≡ e.blocks → f.takes_in ≡ e.takes_in → made ≡ length f.blocks.items - start →
    pushed (record { cmds = []; exit = Either g 0 made }) (state_of p f) ≡ pushed (branch_block g off (state_of p e)) (with_marks_of s0 (state_of p e))
decided p core g off s0 e f start first made l n x ms us bs os m =
    ap (pushed (record { cmds = []; exit = Either g 0 made })) (went_back p core s0 e f first x n ms us bs os)
    ∙ ap (λ k. pushed (record { cmds = []; exit = Either g 0 k }) (with_marks_of s0 (state_of p e))) (made_since p off e f start made l bs m)

-- the marks before a turn are those before its end
turn_marks : (p : r.Program) (b : Block) (s0 : State) (e f : code.Emitted) → state_of p f ≡ with_marks_of (pushed b s0) (state_of p e) → state_of p f ≡ with_marks_of s0 (state_of p e)
turn_marks p b s0 e f is = is

pub closed : (p : r.Program) (core : Core) (g : Guard) (h : Head) (s0 : State) (e f : code.Emitted) (start first made : ℕ) → length s0.blocks ≡ start → length s0.undo ≡ first → Emits core (pushed (turn_block h) s0) (state_of p e) →
    marked f.marks ≡ undone (drop first e.marks.undo.items) (marked e.marks) → f.marks.undo.items ≡ take first e.marks.undo.items → f.blocks ≡ e.blocks → f.takes_in ≡ e.takes_in → made ≡ length f.blocks.items - start →
    pushed (record { cmds = arrival h; exit = Either g 0 made }) (state_of p f) ≡ pushed (head_block g h s0 (state_of p e)) (with_marks_of s0 (state_of p e))
closed p core g h s0 e f start first made l n x ms us bs os m =
    ap (pushed (record { cmds = arrival h; exit = Either g 0 made })) (turn_marks p (turn_block h) s0 e f (went_back p core (pushed (turn_block h) s0) e f first x n ms us bs os))
    ∙ ap (λ k. pushed (record { cmds = arrival h; exit = Either g 0 k }) (with_marks_of s0 (state_of p e))) (made_since p s0 e f start made l bs m)
