-- What a statement does.
use Rattle.std.specs.Prelude.{ℕ, suc, List, [], ◌∷◌, length, slice_get, unwrap_or}
use Rattle.bg_ast.specs.Syntax.{Label, St, Assume, Assert, Skip, If, While, Assign, Break, Goto, Return, Then, Invoke, Havoc}
use Rattle.bg_ast.specs.Execution.{AtAssert}
use Rattle.bg_sense.specs.Eval.{evs}
use Rattle.bg_sense.specs.Flow.{World, ToEnd, Point, Behind, ToLabel, Jumps, Next, Flow, and_then, land}
use Rattle.bg_sense.specs.Context.{Ctx, Calls, step, scope}
use Rattle.bg_sense.specs.Clauses.{check, suppose_that, suppose_all}
use Rattle.bg_sense.specs.Variables.{put_all, wheres_at, targets}
use Rattle.bg_sense.specs.Choices.{branch, forget_all, decide}
use Rattle.bg_sense.specs.Loop.{loop}

-- the label with this number; where there is none, which no branch chooses, the first
abbrev pub label_at : List ℕ → ℕ → Point
label_at [] k = ToEnd
label_at (l ∷ ls) k = ToLabel (unwrap_or (slice_get (l ∷ ls) k) l)

-- a jump to a label; where there are several, one is chosen
abbrev pub jump : List ℕ → World → Flow
jump [] w = Jumps ToEnd w
jump (l ∷ []) w = Jumps (ToLabel l) w
jump (l ∷ m ∷ ls) w = branch (suc (suc (length ls))) w (λ k u. Jumps (label_at (l ∷ m ∷ ls) k) u)

-- what a statement makes of how the one before it left off. A jump passes over statements until one is its point
abbrev pub go : Calls → Ctx → St → Flow → Flow
go calls c Skip f = f
go calls c (Then a b) f = go calls c b (go calls c a f)
go calls c (Label l) f = land (ToLabel l) f
go calls c (Assert k) f = and_then f (check c AtAssert (scope c) k)
go calls c (Assume e) f = and_then f (suppose_that c (scope c) e)
go calls c (Havoc xs) f =
    and_then f (λ w. and_then (step c.loops w) (λ v. and_then (forget_all c xs v) (suppose_all c (scope c) (wheres_at c xs))))
go calls c (Assign xs es) f =
    and_then f (λ w. and_then (step c.loops w) (λ v. Next (put_all xs (evs es (scope c v)) v)))
go calls c (Invoke k) f = and_then f (λ w. and_then (step c.loops w) (calls c k))
go calls c (If n g a b) f =
    land (Behind n) (and_then f (λ w. and_then (step c.loops w) (λ v. decide c g v (λ u. go calls c a (Next u)) (λ u. go calls c b (Next u)))))
go calls c (While n g invariants a) f =
    land (Behind n) (and_then f (loop c.loops c (targets c a) g invariants (go calls c a)))
go calls c (Break n) f = and_then f (λ w. and_then (step c.loops w) (Jumps (Behind n)))
go calls c (Goto ls) f = and_then f (λ w. and_then (step c.loops w) (jump ls))
go calls c Return f = and_then f (λ w. and_then (step c.loops w) (Jumps ToEnd))
