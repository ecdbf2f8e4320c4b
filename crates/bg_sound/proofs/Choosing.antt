-- An execution that doesn't lack a choice is the same with more choices behind.
use Rattle.std.proofs.Common.{◌≡◌, ℕ, zero, suc, Bool, true, false, List, [], ◌∷◌, refl, sym, ap, ◌∙◌, subst, inl, inr, ◌++◌, length, Option, Some, None, ⊎_elim}
use Rattle.std.specs.Prelude.{◌⊎◌, if◌then◌else◌, ◌==◌, nat_lt, slice_get}
use Rattle.bg_ast.specs.Values.{Val, Ty, is_of, truth_of}
use Rattle.bg_ast.specs.Syntax.{Var, Global, Local, Ex, Clause, Guard, Star, Test, Decl, Call, St, Skip, Then, Label, Assert, Assume, Havoc, Assign, Invoke, If, While, Break, Goto, Return, Proc, Impl, Prog}
use Rattle.bg_ast.specs.Execution.{Choice, Branch, Chosen, Spot, Interp, State, AtEntry, AfterTurn, AtAssert, AtCall, AtReturn}
use Rattle.bg_sense.specs.Eval.{Scope, ev, evs}
use Rattle.bg_sense.specs.Flow.{World, BadChoice, Point, Flow, Next, Jumps, Over, and_then, point_eq, land, Answer, ToLabel, Behind, ToEnd, ended, land_all}
use Rattle.bg_sense.specs.Context.{Loops, Turning, Cut, Ctx, spend, step, scope, Calls, callee_scope}
use Rattle.bg_sense.specs.Clauses.{ensure, suppose, is_checked, check, check_all, suppose_that, suppose_all, is_free_kept, is_there, says_of}
use Rattle.bg_sense.specs.Variables.{put, put_all, type_in, decl_of, wheres_of, wheres_at, procedure_of, targets, modified}
use Rattle.bg_sense.specs.Choices.{choose_from, branch_from, forget_all, choose_all, decide}
use Rattle.bg_sense.specs.Loop.{at_head, turns, end, induct, loop}
use Rattle.bg_sense.specs.Statements.{label_at, jump, go}
use Rattle.bg_sense.specs.Calls.{call_of, by_specification}
use Rattle.bg_sense.specs.Run.{begin, run_body, context, start, run_of, run}
use Rattle.bg_sense.specs.Run.{induction_run}

module _ (extra : List Choice) where
  -- the same moment with these choices behind those that are left
  abbrev more : World → World
  more w = record { globals = w.globals; frame = w.frame; choices = w.choices ++ extra; left = w.left }

  abbrev more_flow : Flow → Flow
  more_flow (Next w) = Next (more w)
  more_flow (Jumps p w) = Jumps p (more w)
  more_flow (Over a) = Over a

  -- the second is the first with these choices behind, unless the first lacks a choice
  abbrev Longer : Flow → Flow → Type 0
  Longer f g = (f ≡ Over BadChoice) ⊎ (g ≡ more_flow f)

  and_then_longer : (f g : Flow) (k l : World → Flow) → Longer f g → ((w : World) → Longer (k w) (l (more w))) → Longer (and_then f k) (and_then g l)
  and_then_longer f g k l (inl e) h = inl (ap (λ x. and_then x k) e)
  and_then_longer (Next w) g k l (inr e) h = subst (λ x. Longer (k w) (and_then x l)) (sym e) (h w)
  and_then_longer (Jumps p w) g k l (inr e) h = inr (ap (λ x. and_then x l) e)
  and_then_longer (Over a) g k l (inr e) h = inr (ap (λ x. and_then x l) e)

  if_longer : (b : Bool) (f g h k : Flow) → Longer f g → Longer h k → Longer (if b then f else h) (if b then g else k)
  if_longer true f g h k x y = x
  if_longer false f g h k x y = y

  spend_longer : (n : ℕ) (w : World) → n ≡ w.left → Longer (spend n w) (spend n (more w))
  spend_longer zero w e = inr refl
  spend_longer (suc n) w e = inr refl

  step_longer : (l : Loops) (w : World) → Longer (step l w) (step l (more w))
  step_longer Turning w = spend_longer w.left w refl
  step_longer Cut w = inr refl

  land_jump : (b : Bool) (q : Point) (w : World) → (if b then Next (more w) else Jumps q (more w)) ≡ more_flow (if b then Next w else Jumps q w)
  land_jump true q w = refl
  land_jump false q w = refl

  land_longer : (p : Point) (f g : Flow) → Longer f g → Longer (land p f) (land p g)
  land_longer p f g (inl e) = inl (ap (land p) e)
  land_longer p (Next w) g (inr e) = inr (ap (land p) e)
  land_longer p (Jumps q w) g (inr e) = inr (ap (land p) e ∙ land_jump (point_eq p q) q w)
  land_longer p (Over a) g (inr e) = inr (ap (land p) e)

  ensure_longer : (b : Bool) (s : Spot) (w : World) → Longer (ensure b s w) (ensure b s (more w))
  ensure_longer true s w = inr refl
  ensure_longer false s w = inr refl

  suppose_longer : (b : Bool) (w : World) → Longer (suppose b w) (suppose b (more w))
  suppose_longer true w = inr refl
  suppose_longer false w = inr refl

  -- what names mean does not depend on the steps that are left
  abbrev Blind : (World → Scope) → Type 0
  Blind sees = (w : World) → sees (more w) ≡ sees w

  check_longer : (c : Ctx) (spot : ℕ → Spot) (sees : World → Scope) → Blind sees → (k : Clause) (w : World) → Longer (check c spot sees k w) (check c spot sees k (more w))
  check_longer c spot sees blind k w =
      if_longer
      (is_checked c.set k)
      (and_then (step c.loops w) (λ v. ensure (truth_of (ev k.says (sees v))) (spot k.id) v))
      (and_then (step c.loops (more w)) (λ v. ensure (truth_of (ev k.says (sees v))) (spot k.id) v))
      (Next w)
      (Next (more w))
      (and_then_longer
      (step c.loops w)
      (step c.loops (more w))
      (λ v. ensure (truth_of (ev k.says (sees v))) (spot k.id) v)
      (λ v. ensure (truth_of (ev k.says (sees v))) (spot k.id) v)
      (step_longer c.loops w)
      (λ v. subst (λ x. Longer (ensure (truth_of (ev k.says (sees v))) (spot k.id) v) (ensure (truth_of (ev k.says x)) (spot k.id) (more v))) (sym (blind v)) (ensure_longer (truth_of (ev k.says (sees v))) (spot k.id) v)))
      (inr refl)

  check_all_longer : (c : Ctx) (spot : ℕ → Spot) (sees : World → Scope) → Blind sees → (ks : List Clause) (w : World) → Longer (check_all c spot sees ks w) (check_all c spot sees ks (more w))
  check_all_longer c spot sees blind [] w = inr refl
  check_all_longer c spot sees blind (k ∷ ks) w =
      and_then_longer
      (check c spot sees k w)
      (check c spot sees k (more w))
      (check_all c spot sees ks)
      (check_all c spot sees ks)
      (check_longer c spot sees blind k w)
      (check_all_longer c spot sees blind ks)

  suppose_that_longer : (c : Ctx) (sees : World → Scope) → Blind sees → (e : Ex) (w : World) → Longer (suppose_that c sees e w) (suppose_that c sees e (more w))
  suppose_that_longer c sees blind e w =
      and_then_longer
      (step c.loops w)
      (step c.loops (more w))
      (λ v. suppose (truth_of (ev e (sees v))) v)
      (λ v. suppose (truth_of (ev e (sees v))) v)
      (step_longer c.loops w)
      (λ v. subst (λ x. Longer (suppose (truth_of (ev e (sees v))) v) (suppose (truth_of (ev e x)) (more v))) (sym (blind v)) (suppose_longer (truth_of (ev e (sees v))) v))

  suppose_all_longer : (c : Ctx) (sees : World → Scope) → Blind sees → (es : List Ex) (w : World) → Longer (suppose_all c sees es w) (suppose_all c sees es (more w))
  suppose_all_longer c sees blind [] w = inr refl
  suppose_all_longer c sees blind (e ∷ es) w =
      and_then_longer
      (suppose_that c sees e w)
      (suppose_that c sees e (more w))
      (suppose_all c sees es)
      (suppose_all c sees es)
      (suppose_that_longer c sees blind e w)
      (suppose_all_longer c sees blind es)

  choose_from_longer : (cs : List Choice) (t : Ty) (w : World) (k l : Val → World → Flow) → ((v : Val) (u : World) → Longer (k v u) (l v (more u))) → Longer (choose_from cs t w k) (choose_from (cs ++ extra) t (more w) l)
  choose_from_longer [] t w k l h = inl refl
  choose_from_longer (Branch n ∷ cs) t w k l h = inl refl
  choose_from_longer (Chosen v ∷ cs) t w k l h =
      if_longer
      (is_of t v)
      (k v (record w { choices = cs }))
      (l v (more (record w { choices = cs })))
      (Over BadChoice)
      (Over BadChoice)
      (h v (record w { choices = cs }))
      (inl refl)

  branch_from_longer : (cs : List Choice) (n : ℕ) (w : World) (k l : ℕ → World → Flow) → ((j : ℕ) (u : World) → Longer (k j u) (l j (more u))) → Longer (branch_from cs n w k) (branch_from (cs ++ extra) n (more w) l)
  branch_from_longer [] n w k l h = inl refl
  branch_from_longer (Chosen v ∷ cs) n w k l h = inl refl
  branch_from_longer (Branch j ∷ cs) n w k l h =
      if_longer
      (nat_lt j n)
      (k j (record w { choices = cs }))
      (l j (more (record w { choices = cs })))
      (Over BadChoice)
      (Over BadChoice)
      (h j (record w { choices = cs }))
      (inl refl)

  put_more : (x : Var) (v : Val) (w : World) → put x v (more w) ≡ more (put x v w)
  put_more (Global x) v w = refl
  put_more (Local x) v w = refl

  put_all_more : (xs : List Var) (vs : List Val) (w : World) → put_all xs vs (more w) ≡ more (put_all xs vs w)
  put_all_more [] vs w = refl
  put_all_more (x ∷ xs) [] w = refl
  put_all_more (x ∷ xs) (v ∷ vs) w = ap (put_all xs vs) (put_more x v w) ∙ put_all_more xs vs (put x v w)

  forget_all_longer : (c : Ctx) (xs : List Var) (w : World) → Longer (forget_all c xs w) (forget_all c xs (more w))
  forget_all_longer c [] w = inr refl
  forget_all_longer c (x ∷ xs) w =
      choose_from_longer
      w.choices
      (type_in (decl_of c x))
      w
      (λ v u. forget_all c xs (put x v u))
      (λ v u. forget_all c xs (put x v u))
      (λ v u. subst (λ y. Longer (forget_all c xs (put x v u)) (forget_all c xs y)) (sym (put_more x v u)) (forget_all_longer c xs (put x v u)))

  choose_all_longer : (ds : List Decl) (w : World) (k l : List Val → World → Flow) → ((vs : List Val) (u : World) → Longer (k vs u) (l vs (more u))) → Longer (choose_all ds w k) (choose_all ds (more w) l)
  choose_all_longer [] w k l h = h [] w
  choose_all_longer (d ∷ ds) w k l h =
      choose_from_longer
      w.choices
      d.ty
      w
      (λ v u. choose_all ds u (λ vs x. k (v ∷ vs) x))
      (λ v u. choose_all ds u (λ vs x. l (v ∷ vs) x))
      (λ v u. choose_all_longer ds u (λ vs x. k (v ∷ vs) x) (λ vs x. l (v ∷ vs) x) (λ vs x. h (v ∷ vs) x))

  decide_longer : (c : Ctx) (g : Guard) (w : World) (k l m n : World → Flow) → ((u : World) → Longer (k u) (l (more u))) → ((u : World) → Longer (m u) (n (more u))) → Longer (decide c g w k m) (decide c g (more w) l n)
  decide_longer c Star w k l m n on off =
      branch_from_longer
      w.choices
      2
      w
      (λ j u. if j == 0 then k u else m u)
      (λ j u. if j == 0 then l u else n u)
      (λ j u. if_longer (j == 0) (k u) (l (more u)) (m u) (n (more u)) (on u) (off u))
  decide_longer c (Test e) w k l m n on off =
      if_longer (truth_of (ev e (scope c w))) (k w) (l (more w)) (m w) (n (more w)) (on w) (off w)

  -- a body that keeps the relation

  -- ---- statements

  abbrev Lasting : (Flow → Flow) → Type 0
  Lasting body = (f g : Flow) → Longer f g → Longer (body f) (body g)

  next_longer : (w : World) → Longer (Next w) (Next (more w))
  next_longer w = inr refl

  at_head_longer : (c : Ctx) (g : Guard) (is : List Clause) (body : Flow → Flow) (again again' : World → Flow) (w : World) → Lasting body → ((u : World) → Longer (again u) (again' (more u))) → Longer (at_head c g is body again w) (at_head c g is body again' (more w))
  at_head_longer c g is body again again' w lasting h =
      and_then_longer
      _
      _
      (λ v. and_then (step c.loops v) (λ u. decide c g u (λ t. and_then (body (Next t)) again) Next))
      (λ v. and_then (step c.loops v) (λ u. decide c g u (λ t. and_then (body (Next t)) again') Next))
      (suppose_all_longer c (scope c) (λ v. refl) (says_of (is_free_kept c.set) is) w)
      (λ v. and_then_longer
      _
      _
      (λ u. decide c g u (λ t. and_then (body (Next t)) again) Next)
      (λ u. decide c g u (λ t. and_then (body (Next t)) again') Next)
      (step_longer c.loops v)
      (λ u. decide_longer
      c
      g
      u
      (λ t. and_then (body (Next t)) again)
      (λ t. and_then (body (Next t)) again')
      Next
      Next
      (λ t. and_then_longer (body (Next t)) (body (Next (more t))) again again' (lasting (Next t) (Next (more t)) (next_longer t)) h)
      next_longer))

  turns_longer : (n : ℕ) (c : Ctx) (spot : ℕ → Spot) (g : Guard) (is : List Clause) (body : Flow → Flow) (w : World) → Lasting body → Longer (turns n c spot g is body w) (turns n c spot g is body (more w))
  turns_longer zero c spot g is body w lasting = inr refl
  turns_longer (suc n) c spot g is body w lasting =
      and_then_longer
      _
      _
      (λ v. and_then (check_all c spot (scope c) is v) (at_head c g is body (turns n c AfterTurn g is body)))
      (λ v. and_then (check_all c spot (scope c) is v) (at_head c g is body (turns n c AfterTurn g is body)))
      (step_longer c.loops w)
      (λ v. and_then_longer
      _
      _
      (at_head c g is body (turns n c AfterTurn g is body))
      (at_head c g is body (turns n c AfterTurn g is body))
      (check_all_longer c spot (scope c) (λ u. refl) is v)
      (λ u. at_head_longer c g is body (turns n c AfterTurn g is body) (turns n c AfterTurn g is body) u lasting (λ t. turns_longer n c AfterTurn g is body t lasting)))

  induct_longer : (c : Ctx) (xs : List Var) (g : Guard) (is : List Clause) (body : Flow → Flow) (w : World) → Lasting body → Longer (induct c xs g is body w) (induct c xs g is body (more w))
  induct_longer c xs g is body w lasting =
      let last : World → Flow = λ t. and_then (check_all c AfterTurn (scope c) is t) end in
      let held = says_of (is_checked c.set) is in
      and_then_longer
      _
      _
      (λ v. and_then (forget_all c xs v) (λ u. and_then (suppose_all c (scope c) held u) (at_head c g is body last)))
      (λ v. and_then (forget_all c xs v) (λ u. and_then (suppose_all c (scope c) held u) (at_head c g is body last)))
      (check_all_longer c AtEntry (scope c) (λ u. refl) is w)
      (λ v. and_then_longer
      _
      _
      (λ u. and_then (suppose_all c (scope c) held u) (at_head c g is body last))
      (λ u. and_then (suppose_all c (scope c) held u) (at_head c g is body last))
      (forget_all_longer c xs v)
      (λ u. and_then_longer
      _
      _
      (at_head c g is body last)
      (at_head c g is body last)
      (suppose_all_longer c (scope c) (λ t. refl) held u)
      (λ t. at_head_longer c g is body last last t lasting (λ s. and_then_longer _ _ end end (check_all_longer c AfterTurn (scope c) (λ r. refl) is s) (λ r. inr refl)))))

  loop_longer : (l : Loops) (c : Ctx) (xs : List Var) (g : Guard) (is : List Clause) (body : Flow → Flow) (w : World) → Lasting body → Longer (loop l c xs g is body w) (loop l c xs g is body (more w))
  loop_longer Turning c xs g is body w lasting = turns_longer (suc w.left) c AtEntry g is body w lasting
  loop_longer Cut c xs g is body w lasting = induct_longer c xs g is body w lasting

  jump_longer : (ls : List ℕ) (w : World) → Longer (jump ls w) (jump ls (more w))
  jump_longer [] w = inr refl
  jump_longer (l ∷ []) w = inr refl
  jump_longer (l ∷ m ∷ ls) w =
      branch_from_longer
      w.choices
      (suc (suc (length ls)))
      w
      (λ k u. Jumps (label_at (l ∷ m ∷ ls) k) u)
      (λ k u. Jumps (label_at (l ∷ m ∷ ls) k) u)
      (λ k u. inr refl)

  -- calls that keep the relation
  abbrev LastingCalls : Calls → Type 0
  LastingCalls calls = (c : Ctx) (k : Call) (w : World) → Longer (calls c k w) (calls c k (more w))

  go_longer : (calls : Calls) → LastingCalls calls → (c : Ctx) (s : St) → Lasting (go calls c s)
  go_longer calls h c Skip f g r = r
  go_longer calls h c (Then a b) f g r = go_longer calls h c b _ _ (go_longer calls h c a f g r)
  go_longer calls h c (Label l) f g r = land_longer (ToLabel l) f g r
  go_longer calls h c (Assert k) f g r = and_then_longer f g _ _ r (check_longer c AtAssert (scope c) (λ u. refl) k)
  go_longer calls h c (Assume e) f g r = and_then_longer f g _ _ r (suppose_that_longer c (scope c) (λ u. refl) e)
  go_longer calls h c (Havoc xs) f g r =
      and_then_longer f g _ _ r (λ w. and_then_longer _ _ _ _ (step_longer c.loops w) (λ v. and_then_longer _ _ _ _ (forget_all_longer c xs v) (suppose_all_longer c (scope c) (λ u. refl) (wheres_at c xs))))
  go_longer calls h c (Assign xs es) f g r =
      and_then_longer f g _ _ r (λ w. and_then_longer _ _ (λ v. Next (put_all xs (evs es (scope c v)) v)) (λ v. Next (put_all xs (evs es (scope c v)) v)) (step_longer c.loops w) (λ v. inr (ap Next (put_all_more xs (evs es (scope c v)) v))))
  go_longer calls h c (Invoke k) f g r =
      and_then_longer f g _ _ r (λ w. and_then_longer _ _ (calls c k) (calls c k) (step_longer c.loops w) (h c k))
  go_longer calls h c (If n t a b) f g r =
      land_longer
      (Behind n)
      _
      _
      (and_then_longer f g _ _ r (λ w. and_then_longer _ _ (λ v. decide c t v (λ u. go calls c a (Next u)) (λ u. go calls c b (Next u))) (λ v. decide c t v (λ u. go calls c a (Next u)) (λ u. go calls c b (Next u))) (step_longer c.loops w) (λ v. decide_longer c t v _ _ _ _ (λ u. go_longer calls h c a (Next u) (Next (more u)) (next_longer u)) (λ u. go_longer calls h c b (Next u) (Next (more u)) (next_longer u)))))
  go_longer calls h c (While n t is a) f g r =
      land_longer (Behind n) _ _ (and_then_longer f g _ _ r (λ w. loop_longer c.loops c (targets c a) t is (go calls c a) w (go_longer calls h c a)))
  go_longer calls h c (Break n) f g r =
      and_then_longer f g _ _ r (λ w. and_then_longer _ _ (Jumps (Behind n)) (Jumps (Behind n)) (step_longer c.loops w) (λ v. inr refl))
  go_longer calls h c (Goto ls) f g r =
      and_then_longer f g _ _ r (λ w. and_then_longer _ _ (jump ls) (jump ls) (step_longer c.loops w) (jump_longer ls))
  go_longer calls h c Return f g r =
      and_then_longer f g _ _ r (λ w. and_then_longer _ _ (Jumps ToEnd) (Jumps ToEnd) (step_longer c.loops w) (λ v. inr refl))

  call_of_longer : (q : Option Proc) → LastingCalls (call_of q)
  call_of_longer None c k w = inr refl
  call_of_longer (Some q) c k w =
      let args = evs k.args (scope c w) in
      and_then_longer
      _
      _
      (called w args)
      (called w args)
      (check_all_longer c (AtCall k.site) (callee_scope c w.globals args) (λ u. refl) q.requires_ w)
      (λ v. and_then_longer
      _
      _
      (chosen v args)
      (chosen v args)
      (forget_all_longer c (modified c.program q) v)
      (λ u. choose_all_longer
      q.results
      u
      (stored v args)
      (stored v args)
      (λ results t. and_then_longer
      _
      _
      (λ s. Next (put_all k.takes results s))
      (λ s. Next (put_all k.takes results s))
      (suppose_all_longer c (callee_scope c v.globals (args ++ results)) (λ s. refl) _ t)
      (λ s. inr (ap Next (put_all_more k.takes results s))))))
    where
      stored : World → List Val → List Val → World → Flow
      stored v args results t =
          and_then
          (suppose_all
          c
          (callee_scope c v.globals (args ++ results))
          (wheres_at c (modified c.program q) ++ (wheres_of q.results ++ says_of (is_there c.set) q.ensures_))
          t)
          (λ s. Next (put_all k.takes results s))

      chosen : World → List Val → World → Flow
      chosen v args u = choose_all q.results u (stored v args)

      called : World → List Val → World → Flow
      called w args v = and_then (forget_all c (modified c.program q) v) (chosen v args)

  by_specification_longer : LastingCalls by_specification
  by_specification_longer c k w = call_of_longer (procedure_of c.program k.procedure) c k w

  begin_longer : (c : Ctx) (q : Proc) (w : World) → Longer (begin c q w) (begin c q (more w))
  begin_longer c q w =
      and_then_longer _ _ _ _ (step_longer c.loops w) (suppose_all_longer c (scope c) (λ u. refl) _)

  land_all_longer : (f g : Flow) → Longer f g → Longer (land_all f) (land_all g)
  land_all_longer f g (inl e) = inl (ap land_all e)
  land_all_longer (Next w) g (inr e) = inr (ap land_all e)
  land_all_longer (Jumps p w) g (inr e) = inr (ap land_all e)
  land_all_longer (Over a) g (inr e) = inr (ap land_all e)

  ended_longer : (f g : Flow) → Longer f g → (ended f ≡ BadChoice) ⊎ (ended g ≡ ended f)
  ended_longer f g (inl e) = inl (ap ended e)
  ended_longer (Next w) g (inr e) = inr (ap ended e)
  ended_longer (Jumps p w) g (inr e) = inr (ap ended e)
  ended_longer (Over a) g (inr e) = inr (ap ended e)

  run_body_longer : (calls : Calls) → LastingCalls calls → (c : Ctx) (m : Impl) (q : Proc) (w : World) → (run_body calls c m q w ≡ BadChoice) ⊎ (run_body calls c m q (more w) ≡ run_body calls c m q w)
  run_body_longer calls h c m q w =
      ended_longer
      _
      _
      (and_then_longer
      _
      _
      (check_all c (AtReturn c.implementation) (scope c) q.ensures_)
      (check_all c (AtReturn c.implementation) (scope c) q.ensures_)
      (land_all_longer _ _ (go_longer calls h c m.body _ _ (begin_longer c q w)))
      (check_all_longer c (AtReturn c.implementation) (scope c) (λ u. refl) q.ensures_))

  run_of_longer : (q : Option Proc) (l : Loops) (p : Prog) (set : ℕ → Bool) (i : Interp) (k : ℕ) (m : Impl) (s : State) (cs : List Choice) (n : ℕ) → (run_of q l p set i k m s cs n ≡ BadChoice) ⊎ (run_of q l p set i k m s (cs ++ extra) n ≡ run_of q l p set i k m s cs n)
  run_of_longer None l p set i k m s cs n = inr refl
  run_of_longer (Some q) l p set i k m s cs n =
      run_body_longer by_specification by_specification_longer (context l p set i k m q s) m q (start s cs n)

  run_longer : (m : Option Impl) (l : Loops) (p : Prog) (set : ℕ → Bool) (i : Interp) (k : ℕ) (s : State) (cs : List Choice) (n : ℕ) → (run m l p set i k s cs n ≡ BadChoice) ⊎ (run m l p set i k s (cs ++ extra) n ≡ run m l p set i k s cs n)
  run_longer None l p set i k s cs n = inr refl
  run_longer (Some m) l p set i k s cs n = run_of_longer (procedure_of p m.procedure) l p set i k m s cs n

-- a run that doesn't lack a choice does the same with more choices
pub more_choices : (p : Prog) (set : ℕ → Bool) (i : Interp) (k : ℕ) (s : State) (cs extra : List Choice) (a : Answer) → (a ≡ BadChoice → ⊥) → induction_run p set i k s cs ≡ a → induction_run p set i k s (cs ++ extra) ≡ a
more_choices p set i k s cs extra a over e =
    ⊎_elim
    (λ g. absurd (over (sym e ∙ g)))
    (λ same. same ∙ e)
    (run_longer extra (slice_get p.implementations k) Cut p set i k s cs 0)
