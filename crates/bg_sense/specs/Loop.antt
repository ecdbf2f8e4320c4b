-- What a loop does: it turns, or it makes one induction step.
use Rattle.std.specs.Prelude.{ℕ, zero, suc, List}
use Rattle.bg_ast.specs.Syntax.{Var, Clause, Guard}
use Rattle.bg_ast.specs.Execution.{AtEntry, Spot, AfterTurn}
use Rattle.bg_sense.specs.Flow.{World, Ended, Going, Over, Next, Flow, and_then}
use Rattle.bg_sense.specs.Context.{Cut, Loops, Turning, Ctx, step, scope}
use Rattle.bg_sense.specs.Clauses.{is_checked, check_all, suppose_all, is_free_kept, says_of}
use Rattle.bg_sense.specs.Choices.{forget_all, decide}

-- what follows the arrival at a loop head, once the invariants are checked: the free ones are assumed, and the guard decides
abbrev pub at_head : Ctx → Guard → List Clause → (Flow → Flow) → (World → Flow) → World → Flow
at_head c g invariants body again w =
    and_then
    (suppose_all c (scope c) (says_of (is_free_kept c.set) invariants) w)
    (λ v. and_then (step c.loops v) (λ u. decide c g u (λ t. and_then (body (Next t)) again) Next))

-- a loop that turns, arrived at for the first time or after a turn, at most so many times
abbrev pub turns : ℕ → Ctx → (ℕ → Spot) → Guard → List Clause → (Flow → Flow) → World → Flow
turns zero c spot g invariants body w = Over Going
turns (suc n) c spot g invariants body w =
    and_then
    (step c.loops w)
    (λ v. and_then (check_all c spot (scope c) invariants v) (at_head c g invariants body (turns n c AfterTurn g invariants body)))

-- the execution ends
abbrev pub end : World → Flow
end w = Over Ended

-- a loop that makes one induction step: the targets are forgotten, the invariants are assumed,
-- and then the loop is left, or one turn is made, the invariants are checked, and the execution ends
abbrev pub induct : Ctx → List Var → Guard → List Clause → (Flow → Flow) → World → Flow
induct c forgotten g invariants body w =
    and_then
    (check_all c AtEntry (scope c) invariants w)
    (λ v. and_then
    (forget_all c forgotten v)
    (λ u. and_then
    (suppose_all c (scope c) (says_of (is_checked c.set) invariants) u)
    (at_head c g invariants body (λ t. and_then (check_all c AfterTurn (scope c) invariants t) end))))

-- each arrival takes a step, so no more turns than steps are made
abbrev pub loop : Loops → Ctx → List Var → Guard → List Clause → (Flow → Flow) → World → Flow
loop Turning c forgotten g invariants body w = turns (suc w.left) c AtEntry g invariants body w
loop Cut c forgotten g invariants body w = induct c forgotten g invariants body w
