-- Whole executions: where the source run fails, some induction run fails at the same place.
use Rattle.std.proofs.Common.{◌≡◌, ℕ, Bool, true, List, [], ◌++◌, Option, Some, None, refl, sym, ap, ◌∙◌, subst, inl, inr}
use Rattle.std.specs.Prelude.{slice_get}
use Rattle.bg_ast.specs.Values.{Val}
use Rattle.bg_ast.specs.Syntax.{Ex, Call, Proc, Impl, Prog}
use Rattle.bg_ast.specs.Execution.{Interp, Choice, State, Spot, AtCall, AtReturn}
use Rattle.bg_sense.specs.Eval.{evs}
use Rattle.bg_sense.specs.Flow.{World, Answer, Failed, Flow, Next, Jumps, Over, and_then, land_all, ended}
use Rattle.bg_sense.specs.Context.{Turning, Cut, Ctx, step, scope, callee_scope}
use Rattle.bg_sense.specs.Clauses.{check_all, suppose_all, is_there, says_of}
use Rattle.bg_sense.specs.Variables.{put_all, wheres_of, wheres_at, procedure_of, modified}
use Rattle.bg_sense.specs.Choices.{forget_all, choose_all}
use Rattle.bg_sense.specs.Statements.{go}
use Rattle.bg_sense.specs.Calls.{call_of, by_specification}
use Rattle.bg_sense.specs.Run.{context, start, begin, run, run_of, run_body, source_run, induction_run}
use Rattle.bg_sense.specs.Types.{are_of, types_of}
use Rattle.bg_sense.specs.Interps.{IsInterp, Meets}
use Rattle.bg_sense.specs.Claims.{Safe, IsState, frame_of, frame_with}
use Rattle.bg_sense.specs.Typing.{AreTypedBodies, IsTypedSt}
use Rattle.bg_sense.proofs.Keeping.{AreTyped}
use Rattle.bg_sense.proofs.Stays.{Fact, turning, cutting, Stays, Closed, step_stays, suppose_all_stays, and_then_stays}
use Rattle.bg_sense.proofs.Follows.{at, shown, Silent, Follows, FollowsAt, and_then_follows, same_follows, step_follows, check_all_follows, suppose_all_follows, forget_all_follows, put_all_at, choose_all_follows}
use Rattle.bg_sense.proofs.TypedRuns.{keeps_types}
use Rattle.bg_sense.proofs.Renews.{renewing, closed_typed}
use Rattle.bg_sense.proofs.LoopCut.{Renewing, FollowingCalls, go_follows}

call_of_follows : (c : Ctx) (q : Option Proc) (k : Call) (w : World) → FollowsAt (call_of q (cutting c) k) w (call_of q (turning c) k w)
call_of_follows c None k w = inr ([], λ rest. refl)
call_of_follows c (Some q) k w =
    let args = evs k.args (scope (turning c) w) in
    same_follows
    (call_of (Some q) (cutting c) k)
    (λ v. and_then (check_all (cutting c) (AtCall k.site) (callee_scope (cutting c) w.globals args) q.requires_ v) (called (cutting c) args))
    w.globals
    w.frame
    (and_then (check_all (turning c) (AtCall k.site) (callee_scope (turning c) w.globals args) q.requires_ w) (called (turning c) args))
    (λ cs. refl)
    (and_then_follows
    (check_all (cutting c) (AtCall k.site) (callee_scope (cutting c) w.globals args) q.requires_)
    w.globals
    w.frame
    (check_all (turning c) (AtCall k.site) (callee_scope (turning c) w.globals args) q.requires_ w)
    (called (cutting c) args)
    (called (turning c) args)
    (check_all_follows c (AtCall k.site) (callee_scope (turning c) w.globals args) (callee_scope (cutting c) w.globals args) (λ u cs. refl) q.requires_ w)
    (λ v e. same_follows
    (called (cutting c) args)
    (λ u. and_then (forget_all (cutting c) (modified c.program q) u) (chosen (cutting c) v.globals args))
    v.globals
    v.frame
    (called (turning c) args v)
    (λ cs. refl)
    (and_then_follows
    (forget_all (cutting c) (modified c.program q))
    v.globals
    v.frame
    (forget_all (turning c) (modified c.program q) v)
    (chosen (cutting c) v.globals args)
    (chosen (turning c) v.globals args)
    (forget_all_follows c (modified c.program q) v)
    (λ u eu. choose_all_follows
    q.results
    u
    (stored (cutting c) v.globals args)
    (stored (turning c) v.globals args)
    (λ results t. and_then_follows
    (suppose_all (cutting c) (callee_scope (cutting c) v.globals (args ++ results)) (said c))
    t.globals
    t.frame
    (suppose_all (turning c) (callee_scope (turning c) v.globals (args ++ results)) (said c) t)
    (λ s. Next (put_all k.takes results s))
    (λ s. Next (put_all k.takes results s))
    (suppose_all_follows c (callee_scope (turning c) v.globals (args ++ results)) (callee_scope (cutting c) v.globals (args ++ results)) (λ s cs. refl) (said c) t)
    (λ s es. inr ([], λ rest. ap Next (put_all_at k.takes results s rest))))))))
  where
    said : Ctx → List Ex
    said c = wheres_at c (modified c.program q) ++ (wheres_of q.results ++ says_of (is_there c.set) q.ensures_)

    stored : Ctx → List Val → List Val → List Val → World → Flow
    stored c before args results t =
        and_then (suppose_all c (callee_scope c before (args ++ results)) (said c) t) (λ s. Next (put_all k.takes results s))

    chosen : Ctx → List Val → List Val → World → Flow
    chosen c before args u = choose_all q.results u (stored c before args)

    called : Ctx → List Val → World → Flow
    called c args v = and_then (forget_all c (modified c.program q) v) (chosen c v.globals args)

pub calls_follow : (c : Ctx) → FollowingCalls by_specification c
calls_follow c k w = call_of_follows c (procedure_of c.program k.procedure) k w

begin_follows : (c : Ctx) (q : Proc) (w : World) → FollowsAt (begin (cutting c) q) w (begin (turning c) q w)
begin_follows c q w =
    let es = wheres_of (c.program.globals ++ c.variables) ++ says_of (is_there c.set) q.requires_ in
    and_then_follows
    Next
    w.globals
    w.frame
    (step Turning w)
    (suppose_all (cutting c) (scope (cutting c)) es)
    (suppose_all (turning c) (scope (turning c)) es)
    (step_follows w)
    (λ v e. suppose_all_follows c (scope (turning c)) (scope (cutting c)) (λ u cs. refl) es v)

begin_stays : (T : Fact) (c : Ctx) (q : Proc) (w : World) → T w.globals w.frame → Stays T (begin (turning c) q w)
begin_stays T c q w h =
    let es = wheres_of (c.program.globals ++ c.variables) ++ says_of (is_there c.set) q.requires_ in
    and_then_stays T (step Turning w) (suppose_all (turning c) (scope (turning c)) es) (step_stays T Turning w h) (suppose_all_stays T (turning c) (scope (turning c)) es)

land_all_follows : (F : World → Flow) (g r : List Val) (f : Flow) → Follows F g r f → Follows (λ v. land_all (F v)) g r (land_all f)
land_all_follows F g r (Next w) (inl h) = absurd h
land_all_follows F g r (Jumps p w) (inl h) = absurd h
land_all_follows F g r (Over a) (inl h) = inl h
land_all_follows F g r (Next w) (inr h) = inr (h.0, λ rest. ap land_all (h.1 rest))
land_all_follows F g r (Jumps p w) (inr h) = inr (h.0, λ rest. ap land_all (h.1 rest))
land_all_follows F g r (Over a) (inr h) = inr (h.0, λ rest. ap land_all (h.1 rest))

ended_shown : (f : Flow) (cs : List Choice) → ended (shown f cs) ≡ ended f
ended_shown (Next w) cs = refl
ended_shown (Jumps p w) cs = refl
ended_shown (Over a) cs = refl

silent_fine : (a : Answer) (t : Spot) → Silent (Over a) → a ≡ Failed t → ⊥
silent_fine a t h e = subst (λ x. Silent (Over x)) e h

fails_too : (F : World → Flow) (g r : List Val) (f : Flow) (t : Spot) → Follows F g r f → ended f ≡ Failed t → (cs : List Choice) × (ended (F (at g r cs)) ≡ Failed t)
fails_too F g r f t (inr h) e = (h.0 ++ [], ap ended (h.1 []) ∙ ended_shown f [] ∙ e)
fails_too F g r (Next w) t (inl h) e = absurd h
fails_too F g r (Jumps p w) t (inl h) e = absurd h
fails_too F g r (Over a) t (inl h) e = absurd (silent_fine a t h e)

run_body_fails : (T : Fact) (c : Ctx) (m : Impl) (q : Proc) (w : World) (t : Spot) → T w.globals w.frame → Closed by_specification T (turning c) m.body → Renewing by_specification T c m.body → run_body by_specification (turning c) m q w ≡ Failed t → (cs : List Choice) × (run_body by_specification (cutting c) m q (at w.globals w.frame cs) ≡ Failed t)
run_body_fails T c m q w t typed closed renewing e =
    fails_too
    (λ v. and_then (land_all (go by_specification (cutting c) m.body (begin (cutting c) q v))) (check_all (cutting c) (AtReturn c.implementation) (scope (cutting c)) q.ensures_))
    w.globals
    w.frame
    (and_then (land_all (go by_specification (turning c) m.body (begin (turning c) q w))) (check_all (turning c) (AtReturn c.implementation) (scope (turning c)) q.ensures_))
    t
    (and_then_follows
    (λ v. land_all (go by_specification (cutting c) m.body (begin (cutting c) q v)))
    w.globals
    w.frame
    (land_all (go by_specification (turning c) m.body (begin (turning c) q w)))
    (check_all (cutting c) (AtReturn c.implementation) (scope (cutting c)) q.ensures_)
    (check_all (turning c) (AtReturn c.implementation) (scope (turning c)) q.ensures_)
    (land_all_follows
    (λ v. go by_specification (cutting c) m.body (begin (cutting c) q v))
    w.globals
    w.frame
    (go by_specification (turning c) m.body (begin (turning c) q w))
    (go_follows by_specification T c (calls_follow c) m.body closed renewing (begin (cutting c) q) w.globals w.frame (begin (turning c) q w) (begin_stays T c q w typed) (begin_follows c q w)))
    (λ v ev'. check_all_follows c (AtReturn c.implementation) (scope (turning c)) (scope (cutting c)) (λ u cs. refl) q.ensures_ v))
    e

pub run_fails : (T : Fact) (p : Prog) (set : ℕ → Bool) (i : Interp) (k : ℕ) (m : Impl) (q : Proc) (s : State) (cs : List Choice) (n : ℕ) (t : Spot) → slice_get p.implementations k ≡ Some m → procedure_of p m.procedure ≡ Some q → T s.globals s.frame → Closed by_specification T (context Turning p set i k m q s) m.body → Renewing by_specification T (context Turning p set i k m q s) m.body → source_run p set i k s cs n ≡ Failed t → (cs' : List Choice) × (induction_run p set i k s cs' ≡ Failed t)
run_fails T p set i k m q s cs n t em eq typed closed renewing e =
    let here : run_body by_specification (context Turning p set i k m q s) m q (start s cs n) ≡ Failed t =
    sym (ap (λ x. run x Turning p set i k s cs n) em ∙ ap (λ x. run_of x Turning p set i k m s cs n) eq) ∙ e in
    let there = run_body_fails T (context Turning p set i k m q s) m q (start s cs n) t typed closed renewing here in
    (there.0, ap (λ x. run x Cut p set i k s there.0 0) em ∙ ap (λ x. run_of x Cut p set i k m s there.0 0) eq ∙ there.1)

pub cut_sound : (p : Prog) (set : ℕ → Bool) (i : Interp) (k : ℕ) (m : Impl) (q : Proc) (s : State) (cs : List Choice) (n : ℕ) (t : Spot) → slice_get p.implementations k ≡ Some m → procedure_of p m.procedure ≡ Some q → AreTypedBodies p → IsTypedSt (context Turning p set i k m q s) m.body → IsInterp p i → IsState p k s → source_run p set i k s cs n ≡ Failed t → (cs' : List Choice) × (induction_run p set i k s cs' ≡ Failed t)
cut_sound p set i k m q s cs n t em eq bodies typed interp state e =
    let c = context Turning p set i k m q s in
    let frame : frame_of p (slice_get p.implementations k) ≡ q.params ++ (q.results ++ m.locals) =
    ap (frame_of p) em ∙ ap (λ x. frame_with x m) eq in
    let variables : are_of (types_of (q.params ++ (q.results ++ m.locals))) s.frame ≡ true =
    subst (λ ds. are_of (types_of ds) s.frame ≡ true) frame state.frame in
    let keeps = keeps_types c interp.constants interp.tables bodies state.globals m.body typed in
    run_fails (AreTyped c) p set i k m q s cs n t em eq (state.globals, variables) (closed_typed c m.body keeps) (renewing c m.body keeps) e

pub safe_from_cut : (p : Prog) (set : ℕ → Bool) (k : ℕ) (m : Impl) (q : Proc) → slice_get p.implementations k ≡ Some m → procedure_of p m.procedure ≡ Some q → AreTypedBodies p → ((i : Interp) (s : State) → IsTypedSt (context Turning p set i k m q s) m.body) → ((i : Interp) (s : State) (cs : List Choice) (t : Spot) → Meets p i → IsState p k s → induction_run p set i k s cs ≡ Failed t → ⊥) → Safe p set k
safe_from_cut p set k m q em eq bodies typed none i s cs n t meets state e =
    let found = cut_sound p set i k m q s cs n t em eq bodies (typed i s) meets.interp state e in
    none i s found.0 t meets state found.1
