-- What is over stays over, however many more steps it is given.
use Rattle.std.proofs.Common.{◌≡◌, ℕ, zero, suc, ◌+◌, Bool, List, [], ◌∷◌, ◌++◌, length, Option, Some, None, refl, sym, ap, ◌∙◌, subst, inl, inr, ⊎_elim, arith}
use Rattle.std.specs.Prelude.{◌⊎◌, slice_get}
use Rattle.bg_ast.specs.Values.{Val}
use Rattle.bg_ast.specs.Syntax.{Var, Clause, Guard, Call, St, Skip, Then, Label, Assert, Assume, Havoc, Assign, Invoke, If, While, Break, Goto, Return, Proc, Impl, Prog}
use Rattle.bg_ast.specs.Execution.{Interp, Choice, State, Spot, AtEntry, AfterTurn, AtAssert, AtCall, AtReturn}
use Rattle.bg_sense.specs.Eval.{evs}
use Rattle.bg_sense.specs.Flow.{World, Answer, Going, ToLabel, Behind, ToEnd, Flow, Next, Jumps, Over, and_then, ended, land_all}
use Rattle.bg_sense.specs.Context.{Loops, Turning, Cut, Ctx, Calls, step, scope, callee_scope}
use Rattle.bg_sense.specs.Clauses.{is_checked, check_all, suppose_all, is_free_kept, is_there, says_of}
use Rattle.bg_sense.specs.Variables.{put_all, wheres_of, wheres_at, procedure_of, targets, modified}
use Rattle.bg_sense.specs.Choices.{forget_all, choose_all, decide}
use Rattle.bg_sense.specs.Loop.{at_head, turns, end, induct, loop}
use Rattle.bg_sense.specs.Statements.{label_at, jump, go}
use Rattle.bg_sense.specs.Calls.{call_of, by_specification}
use Rattle.bg_sense.specs.Run.{begin, run_body, context, start, run_of, run, source_run}
use Rattle.bg_sense.proofs.LongerParts.{more, Longer, and_then_longer, step_longer, land_longer, check_longer, check_all_longer, suppose_that_longer, suppose_all_longer, branch_from_longer, put_all_more, forget_all_longer, choose_all_longer, decide_longer}

abbrev Lasting : (Flow → Flow) → Type 0
Lasting body = (f g : Flow) → Longer f g → Longer (body f) (body g)

next_longer : (w : World) → Longer (Next w) (Next (more w))
next_longer w = inr refl

at_head_longer : (c : Ctx) (g : Guard) (is : List Clause) (body : Flow → Flow) (again again' : World → Flow) (w : World) → Lasting body → ((u : World) → Longer (again u) (again' (more u))) → Longer (at_head c g is body again w) (at_head c g is body again' (more w))
at_head_longer c g is body again again' w lasting h =
    and_then_longer
    _
    _
    (λ v. and_then (step c.loops v) (λ u. decide c g u (λ t. and_then (body (Next t)) again) Next))
    (λ v. and_then (step c.loops v) (λ u. decide c g u (λ t. and_then (body (Next t)) again') Next))
    (suppose_all_longer c (scope c) (λ v. refl) (says_of (is_free_kept c.set) is) w)
    (λ v. and_then_longer
    _
    _
    (λ u. decide c g u (λ t. and_then (body (Next t)) again) Next)
    (λ u. decide c g u (λ t. and_then (body (Next t)) again') Next)
    (step_longer c.loops v)
    (λ u. decide_longer
    c
    g
    u
    (λ t. and_then (body (Next t)) again)
    (λ t. and_then (body (Next t)) again')
    Next
    Next
    (λ t. and_then_longer (body (Next t)) (body (Next (more t))) again again' (lasting (Next t) (Next (more t)) (next_longer t)) h)
    next_longer))

turns_longer : (n : ℕ) (c : Ctx) (spot : ℕ → Spot) (g : Guard) (is : List Clause) (body : Flow → Flow) (w : World) → Lasting body → Longer (turns n c spot g is body w) (turns (suc n) c spot g is body (more w))
turns_longer zero c spot g is body w lasting = inl refl
turns_longer (suc n) c spot g is body w lasting =
    and_then_longer
    _
    _
    (λ v. and_then (check_all c spot (scope c) is v) (at_head c g is body (turns n c AfterTurn g is body)))
    (λ v. and_then (check_all c spot (scope c) is v) (at_head c g is body (turns (suc n) c AfterTurn g is body)))
    (step_longer c.loops w)
    (λ v. and_then_longer
    _
    _
    (at_head c g is body (turns n c AfterTurn g is body))
    (at_head c g is body (turns (suc n) c AfterTurn g is body))
    (check_all_longer c spot (scope c) (λ u. refl) is v)
    (λ u. at_head_longer c g is body (turns n c AfterTurn g is body) (turns (suc n) c AfterTurn g is body) u lasting (λ t. turns_longer n c AfterTurn g is body t lasting)))

induct_longer : (c : Ctx) (xs : List Var) (g : Guard) (is : List Clause) (body : Flow → Flow) (w : World) → Lasting body → Longer (induct c xs g is body w) (induct c xs g is body (more w))
induct_longer c xs g is body w lasting =
    let last : World → Flow = λ t. and_then (check_all c AfterTurn (scope c) is t) end in
    let held = says_of (is_checked c.set) is in
    and_then_longer
    _
    _
    (λ v. and_then (forget_all c xs v) (λ u. and_then (suppose_all c (scope c) held u) (at_head c g is body last)))
    (λ v. and_then (forget_all c xs v) (λ u. and_then (suppose_all c (scope c) held u) (at_head c g is body last)))
    (check_all_longer c AtEntry (scope c) (λ u. refl) is w)
    (λ v. and_then_longer
    _
    _
    (λ u. and_then (suppose_all c (scope c) held u) (at_head c g is body last))
    (λ u. and_then (suppose_all c (scope c) held u) (at_head c g is body last))
    (forget_all_longer c xs v)
    (λ u. and_then_longer
    _
    _
    (at_head c g is body last)
    (at_head c g is body last)
    (suppose_all_longer c (scope c) (λ t. refl) held u)
    (λ t. at_head_longer c g is body last last t lasting (λ s. and_then_longer _ _ end end (check_all_longer c AfterTurn (scope c) (λ r. refl) is s) (λ r. inr refl)))))

loop_longer : (l : Loops) (c : Ctx) (xs : List Var) (g : Guard) (is : List Clause) (body : Flow → Flow) (w : World) → Lasting body → Longer (loop l c xs g is body w) (loop l c xs g is body (more w))
loop_longer Turning c xs g is body w lasting = turns_longer (suc w.left) c AtEntry g is body w lasting
loop_longer Cut c xs g is body w lasting = induct_longer c xs g is body w lasting

jump_longer : (ls : List ℕ) (w : World) → Longer (jump ls w) (jump ls (more w))
jump_longer [] w = inr refl
jump_longer (l ∷ []) w = inr refl
jump_longer (l ∷ m ∷ ls) w =
    branch_from_longer
    w.choices
    (suc (suc (length ls)))
    w
    (λ k u. Jumps (label_at (l ∷ m ∷ ls) k) u)
    (λ k u. Jumps (label_at (l ∷ m ∷ ls) k) u)
    (λ k u. inr refl)

-- calls that keep the relation
abbrev LastingCalls : Calls → Type 0
LastingCalls calls = (c : Ctx) (k : Call) (w : World) → Longer (calls c k w) (calls c k (more w))

go_longer : (calls : Calls) → LastingCalls calls → (c : Ctx) (s : St) → Lasting (go calls c s)
go_longer calls h c Skip f g r = r
go_longer calls h c (Then a b) f g r = go_longer calls h c b _ _ (go_longer calls h c a f g r)
go_longer calls h c (Label l) f g r = land_longer (ToLabel l) f g r
go_longer calls h c (Assert k) f g r = and_then_longer f g _ _ r (check_longer c AtAssert (scope c) (λ u. refl) k)
go_longer calls h c (Assume e) f g r = and_then_longer f g _ _ r (suppose_that_longer c (scope c) (λ u. refl) e)
go_longer calls h c (Havoc xs) f g r =
    and_then_longer f g _ _ r (λ w. and_then_longer _ _ _ _ (step_longer c.loops w) (λ v. and_then_longer _ _ _ _ (forget_all_longer c xs v) (suppose_all_longer c (scope c) (λ u. refl) (wheres_at c xs))))
go_longer calls h c (Assign xs es) f g r =
    and_then_longer f g _ _ r (λ w. and_then_longer _ _ (λ v. Next (put_all xs (evs es (scope c v)) v)) (λ v. Next (put_all xs (evs es (scope c v)) v)) (step_longer c.loops w) (λ v. inr (ap Next (put_all_more xs (evs es (scope c v)) v))))
go_longer calls h c (Invoke k) f g r =
    and_then_longer f g _ _ r (λ w. and_then_longer _ _ (calls c k) (calls c k) (step_longer c.loops w) (h c k))
go_longer calls h c (If n t a b) f g r =
    land_longer
    (Behind n)
    _
    _
    (and_then_longer f g _ _ r (λ w. and_then_longer _ _ (λ v. decide c t v (λ u. go calls c a (Next u)) (λ u. go calls c b (Next u))) (λ v. decide c t v (λ u. go calls c a (Next u)) (λ u. go calls c b (Next u))) (step_longer c.loops w) (λ v. decide_longer c t v _ _ _ _ (λ u. go_longer calls h c a (Next u) (Next (more u)) (next_longer u)) (λ u. go_longer calls h c b (Next u) (Next (more u)) (next_longer u)))))
go_longer calls h c (While n t is a) f g r =
    land_longer (Behind n) _ _ (and_then_longer f g _ _ r (λ w. loop_longer c.loops c (targets c a) t is (go calls c a) w (go_longer calls h c a)))
go_longer calls h c (Break n) f g r =
    and_then_longer f g _ _ r (λ w. and_then_longer _ _ (Jumps (Behind n)) (Jumps (Behind n)) (step_longer c.loops w) (λ v. inr refl))
go_longer calls h c (Goto ls) f g r =
    and_then_longer f g _ _ r (λ w. and_then_longer _ _ (jump ls) (jump ls) (step_longer c.loops w) (jump_longer ls))
go_longer calls h c Return f g r =
    and_then_longer f g _ _ r (λ w. and_then_longer _ _ (Jumps ToEnd) (Jumps ToEnd) (step_longer c.loops w) (λ v. inr refl))

call_of_longer : (q : Option Proc) → LastingCalls (call_of q)
call_of_longer None c k w = inr refl
call_of_longer (Some q) c k w =
    let args = evs k.args (scope c w) in
    and_then_longer
    _
    _
    (called w args)
    (called w args)
    (check_all_longer c (AtCall k.site) (callee_scope c w.globals args) (λ u. refl) q.requires_ w)
    (λ v. and_then_longer
    _
    _
    (chosen v args)
    (chosen v args)
    (forget_all_longer c (modified c.program q) v)
    (λ u. choose_all_longer
    q.results
    u
    (stored v args)
    (stored v args)
    (λ results t. and_then_longer
    _
    _
    (λ s. Next (put_all k.takes results s))
    (λ s. Next (put_all k.takes results s))
    (suppose_all_longer c (callee_scope c v.globals (args ++ results)) (λ s. refl) _ t)
    (λ s. inr (ap Next (put_all_more k.takes results s))))))
  where
    stored : World → List Val → List Val → World → Flow
    stored v args results t =
        and_then
        (suppose_all
        c
        (callee_scope c v.globals (args ++ results))
        (wheres_at c (modified c.program q) ++ (wheres_of q.results ++ says_of (is_there c.set) q.ensures_))
        t)
        (λ s. Next (put_all k.takes results s))

    chosen : World → List Val → World → Flow
    chosen v args u = choose_all q.results u (stored v args)

    called : World → List Val → World → Flow
    called w args v = and_then (forget_all c (modified c.program q) v) (chosen v args)

by_specification_longer : LastingCalls by_specification
by_specification_longer c k w = call_of_longer (procedure_of c.program k.procedure) c k w

begin_longer : (c : Ctx) (q : Proc) (w : World) → Longer (begin c q w) (begin c q (more w))
begin_longer c q w =
    and_then_longer _ _ _ _ (step_longer c.loops w) (suppose_all_longer c (scope c) (λ u. refl) _)

land_all_longer : (f g : Flow) → Longer f g → Longer (land_all f) (land_all g)
land_all_longer f g (inl e) = inl (ap land_all e)
land_all_longer (Next w) g (inr e) = inr (ap land_all e)
land_all_longer (Jumps p w) g (inr e) = inr (ap land_all e)
land_all_longer (Over a) g (inr e) = inr (ap land_all e)

ended_longer : (f g : Flow) → Longer f g → (ended f ≡ Going) ⊎ (ended g ≡ ended f)
ended_longer f g (inl e) = inl (ap ended e)
ended_longer (Next w) g (inr e) = inr (ap ended e)
ended_longer (Jumps p w) g (inr e) = inr (ap ended e)
ended_longer (Over a) g (inr e) = inr (ap ended e)

run_body_longer : (calls : Calls) → LastingCalls calls → (c : Ctx) (m : Impl) (q : Proc) (w : World) → (run_body calls c m q w ≡ Going) ⊎ (run_body calls c m q (more w) ≡ run_body calls c m q w)
run_body_longer calls h c m q w =
    ended_longer
    _
    _
    (and_then_longer
    _
    _
    (check_all c (AtReturn c.implementation) (scope c) q.ensures_)
    (check_all c (AtReturn c.implementation) (scope c) q.ensures_)
    (land_all_longer _ _ (go_longer calls h c m.body _ _ (begin_longer c q w)))
    (check_all_longer c (AtReturn c.implementation) (scope c) (λ u. refl) q.ensures_))

run_of_longer : (q : Option Proc) (l : Loops) (p : Prog) (set : ℕ → Bool) (i : Interp) (k : ℕ) (m : Impl) (s : State) (cs : List Choice) (n : ℕ) → (run_of q l p set i k m s cs n ≡ Going) ⊎ (run_of q l p set i k m s cs (suc n) ≡ run_of q l p set i k m s cs n)
run_of_longer None l p set i k m s cs n = inr refl
run_of_longer (Some q) l p set i k m s cs n =
    run_body_longer by_specification by_specification_longer (context l p set i k m q s) m q (start s cs n)

run_longer : (m : Option Impl) (l : Loops) (p : Prog) (set : ℕ → Bool) (i : Interp) (k : ℕ) (s : State) (cs : List Choice) (n : ℕ) → (run m l p set i k s cs n ≡ Going) ⊎ (run m l p set i k s cs (suc n) ≡ run m l p set i k s cs n)
run_longer None l p set i k s cs n = inr refl
run_longer (Some m) l p set i k s cs n = run_of_longer (procedure_of p m.procedure) l p set i k m s cs n

one_more : (p : Prog) (set : ℕ → Bool) (i : Interp) (k : ℕ) (s : State) (cs : List Choice) (n : ℕ) (a : Answer) → (a ≡ Going → ⊥) → source_run p set i k s cs n ≡ a → source_run p set i k s cs (suc n) ≡ a
one_more p set i k s cs n a over e =
    ⊎_elim
    (λ g. absurd (over (sym e ∙ g)))
    (λ same. same ∙ e)
    (run_longer (slice_get p.implementations k) Turning p set i k s cs n)

-- an execution that is over stays over, with the same answer
pub stays : (p : Prog) (set : ℕ → Bool) (i : Interp) (k : ℕ) (s : State) (cs : List Choice) (n d : ℕ) (a : Answer) → (a ≡ Going → ⊥) → source_run p set i k s cs n ≡ a → source_run p set i k s cs (n + d) ≡ a
stays p set i k s cs n zero a over e =
    let z : n + 0 ≡ n = omega arith in subst (λ x. source_run p set i k s cs x ≡ a) (sym z) e
stays p set i k s cs n (suc d) a over e =
    let z : n + suc d ≡ suc (n + d) = omega arith in
    subst (λ x. source_run p set i k s cs x ≡ a) (sym z) (one_more p set i k s cs (n + d) a over (stays p set i k s cs n d a over e))
