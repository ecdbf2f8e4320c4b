-- Small laws: no steps, and an empty body.
use Rattle.std.proofs.Common.{◌≡◌, ℕ, zero, suc, Bool, true, false, List, [], ◌∷◌, Some, refl, sym, ap, ◌∙◌, subst}
use Rattle.std.specs.Prelude.{slice_get}
use Rattle.bg_ast.specs.Values.{truth_of}
use Rattle.bg_ast.specs.Syntax.{Ex, St, Skip, Then, Label, Assert, Assume, Havoc, Assign, Invoke, If, While, Break, Goto, Return, Proc, Impl, Prog}
use Rattle.bg_ast.specs.Execution.{Interp, Choice, State, Spot}
use Rattle.bg_sense.specs.Eval.{Scope, ev}
use Rattle.bg_sense.specs.Flow.{World, Answer, Going, Failed, Flow, Next, Jumps, Over, and_then, ended, land_all}
use Rattle.bg_sense.specs.Context.{Loops, Turning, Cut, Ctx, Calls, spend, step, scope}
use Rattle.bg_sense.specs.Clauses.{suppose, suppose_that, suppose_all}
use Rattle.bg_sense.specs.Variables.{procedure_of}
use Rattle.bg_sense.specs.Statements.{go}
use Rattle.bg_sense.specs.Calls.{by_specification}
use Rattle.bg_sense.specs.Run.{begin, close, run_body, context, start, run_of, run, source_run}
use Rattle.bg_sense.specs.Claims.{Safe}

-- an execution that is over does nothing more
pub go_over : (calls : Calls) (c : Ctx) (s : St) (a : Answer) → go calls c s (Over a) ≡ Over a
go_over calls c Skip a = refl
go_over calls c (Then s t) a = ap (go calls c t) (go_over calls c s a) ∙ go_over calls c t a
go_over calls c (Label l) a = refl
go_over calls c (Assert k) a = refl
go_over calls c (Assume e) a = refl
go_over calls c (Havoc xs) a = refl
go_over calls c (Assign xs es) a = refl
go_over calls c (Invoke k) a = refl
go_over calls c (If n g s t) a = refl
go_over calls c (While n g is s) a = refl
go_over calls c (Break n) a = refl
go_over calls c (Goto ls) a = refl
go_over calls c Return a = refl

-- a flow that has not failed
abbrev IsFine : Answer → Type 0
IsFine (Failed spot) = ⊥
IsFine _ = Unit {0}

abbrev IsCalm : Flow → Type 0
IsCalm f = IsFine (ended f)

and_then_calm : (f : Flow) (k : World → Flow) → IsCalm f → ((w : World) → IsCalm (k w)) → IsCalm (and_then f k)
and_then_calm (Next w) k h g = g w
and_then_calm (Jumps p w) k h g = tt
and_then_calm (Over a) k h g = h

spend_calm : (n : ℕ) (w : World) → IsCalm (spend n w)
spend_calm zero w = tt
spend_calm (suc n) w = tt

step_calm : (l : Loops) (w : World) → IsCalm (step l w)
step_calm Turning w = spend_calm w.left w
step_calm Cut w = tt

suppose_calm : (b : Bool) (w : World) → IsCalm (suppose b w)
suppose_calm true w = tt
suppose_calm false w = tt

suppose_all_calm : (c : Ctx) (sees : World → Scope) (es : List Ex) (w : World) → IsCalm (suppose_all c sees es w)
suppose_all_calm c sees [] w = tt
suppose_all_calm c sees (e ∷ es) w =
    and_then_calm (suppose_that c sees e w) (suppose_all c sees es) (and_then_calm (step c.loops w) (λ v. suppose (truth_of (ev e (sees v))) v) (step_calm c.loops w) (λ v. suppose_calm (truth_of (ev e (sees v))) v)) (suppose_all_calm c sees es)

begin_calm : (c : Ctx) (q : Proc) (w : World) → IsCalm (begin c q w)
begin_calm c q w = and_then_calm (step c.loops w) _ (step_calm c.loops w) (suppose_all_calm c (scope c) _)

close_calm : (c : Ctx) (q : Proc) (f : Flow) → q.ensures_ ≡ [] → IsCalm f → IsFine (close c q f)
close_calm c q f none h =
    subst (λ es. IsFine (ended (and_then (land_all f) (Rattle.bg_sense.specs.Clauses.check_all c (Rattle.bg_ast.specs.Execution.AtReturn c.implementation) (scope c) es)))) (sym none) (rest f h)
  where
    rest : (f : Flow) → IsCalm f → IsFine (ended (and_then (land_all f) (λ w. Next w)))
    rest (Next w) h = tt
    rest (Jumps p w) h = tt
    rest (Over a) h = h

not_failed : (a : Answer) (spot : Spot) → IsFine a → a ≡ Failed spot → ⊥
not_failed a spot h e = subst IsFine e h

run_fine : (c : Ctx) (m : Impl) (q : Proc) (w : World) → m.body ≡ Skip → q.ensures_ ≡ [] → IsFine (run_body by_specification c m q w)
run_fine c m q w e none =
    subst (λ b. IsFine (close c q (go by_specification c b (begin c q w)))) (sym e) (close_calm c q (begin c q w) none (begin_calm c q w))

pub empty_safe : (p : Prog) (set : ℕ → Bool) (k : ℕ) (m : Impl) (q : Proc) → slice_get p.implementations k ≡ Some m → procedure_of p m.procedure ≡ Some q → m.body ≡ Skip → q.ensures_ ≡ [] → Safe p set k
empty_safe p set k m q em eq body none i s cs n spot meets state fails =
    not_failed
    (run_body by_specification (context Turning p set i k m q s) m q (start s cs n))
    spot
    (run_fine (context Turning p set i k m q s) m q (start s cs n) body none)
    (sym (ap (λ x. run x Turning p set i k s cs n) em ∙ ap (λ x. run_of x Turning p set i k m s cs n) eq) ∙ fails)

pub no_step : (p : Prog) (set : ℕ → Bool) (i : Interp) (k : ℕ) (m : Impl) (q : Proc) (s : State) (cs : List Choice) → slice_get p.implementations k ≡ Some m → procedure_of p m.procedure ≡ Some q → source_run p set i k s cs 0 ≡ Going
no_step p set i k m q s cs em eq =
    ap (λ x. run x Turning p set i k s cs 0) em
    ∙ ap (λ x. run_of x Turning p set i k m s cs 0) eq
    ∙ ap (close (context Turning p set i k m q s) q) (go_over by_specification (context Turning p set i k m q s) m.body Going)
