-- What the statements of a body keep of the variables, the source run keeps.
use Rattle.std.proofs.Common.{◌≡◌, ℕ, zero, suc, Bool, true, false, List, [], ◌∷◌, length, refl}
use Rattle.std.specs.Prelude.{if◌then◌else◌, ◌==◌, nat_lt}
use Rattle.bg_ast.specs.Values.{Val, Ty, is_of, truth_of}
use Rattle.bg_ast.specs.Syntax.{Var, Ex, Clause, Guard, Star, Test, St, Skip, Then, Label, Assert, Assume, Havoc, Assign, Invoke, If, While, Break, Goto, Return}
use Rattle.bg_ast.specs.Execution.{Choice, Branch, Chosen, Spot, AtEntry, AfterTurn, AtAssert}
use Rattle.bg_sense.specs.Eval.{Scope, ev, evs}
use Rattle.bg_sense.specs.Flow.{World, BadChoice, Point, ToLabel, Behind, ToEnd, Flow, Next, Jumps, Over, and_then, point_eq, land}
use Rattle.bg_sense.specs.Context.{Loops, Turning, Cut, Ctx, Calls, spend, step, scope}
use Rattle.bg_sense.specs.Clauses.{ensure, suppose, is_checked, check, check_all, suppose_that, suppose_all, is_free_kept, says_of}
use Rattle.bg_sense.specs.Variables.{put, put_all, type_in, decl_of, wheres_at}
use Rattle.bg_sense.specs.Choices.{choose_from, branch_from, forget_all, decide}
use Rattle.bg_sense.specs.Loop.{at_head, turns}
use Rattle.bg_sense.specs.Statements.{label_at, jump, go}

-- a fact about the values of the variables
abbrev pub Fact : Type 1
Fact = List Val → List Val → Type 0

-- the same body, with loops that turn, and with loops that are cut
abbrev pub turning : Ctx → Ctx
turning c = record c { loops = Turning }

abbrev pub cutting : Ctx → Ctx
cutting c = record c { loops = Cut }

-- the fact holds where the statement leaves off
abbrev pub Stays : Fact → Flow → Type 0
Stays P (Next w) = P w.globals w.frame
Stays P (Jumps p w) = P w.globals w.frame
Stays P (Over a) = Unit {0}

-- writing a value of its type to any of these variables keeps the fact
abbrev pub ClosedPuts : Fact → Ctx → List Var → Type 0
ClosedPuts P c [] = Unit {0}
ClosedPuts P c (x ∷ xs) =
    ((v : Val) (w : World) → is_of (type_in (decl_of c x)) v ≡ true → P w.globals w.frame → P (put x v w).globals (put x v w).frame)
    × ClosedPuts P c xs

-- each statement in this one keeps the fact
abbrev pub Closed : Calls → Fact → Ctx → St → Type 0
Closed calls P c (Then a b) = Closed calls P c a × Closed calls P c b
Closed calls P c (Havoc xs) = ClosedPuts P c xs
Closed calls P c (Assign xs es) =
    (w : World) → P w.globals w.frame →
    P (put_all xs (evs es (scope c w)) w).globals (put_all xs (evs es (scope c w)) w).frame
Closed calls P c (Invoke k) = (w : World) → P w.globals w.frame → Stays P (calls c k w)
Closed calls P c (If n g a b) = Closed calls P c a × Closed calls P c b
Closed calls P c (While n g is a) = Closed calls P c a
Closed calls P c _ = Unit {0}

module _ (P : Fact) where
  pub and_then_stays : (f : Flow) (k : World → Flow) → Stays P f → ((w : World) → P w.globals w.frame → Stays P (k w)) → Stays P (and_then f k)
  and_then_stays (Next w) k h g = g w h
  and_then_stays (Jumps p w) k h g = h
  and_then_stays (Over a) k h g = tt

  pub if_stays : (b : Bool) (f g : Flow) → Stays P f → Stays P g → Stays P (if b then f else g)
  if_stays true f g h k = h
  if_stays false f g h k = k

  spend_stays : (n : ℕ) (w : World) → P w.globals w.frame → Stays P (spend n w)
  spend_stays zero w h = tt
  spend_stays (suc n) w h = h

  pub step_stays : (l : Loops) (w : World) → P w.globals w.frame → Stays P (step l w)
  step_stays Turning w h = spend_stays w.left w h
  step_stays Cut w h = h

  ensure_stays : (b : Bool) (s : Spot) (w : World) → P w.globals w.frame → Stays P (ensure b s w)
  ensure_stays true s w h = h
  ensure_stays false s w h = tt

  suppose_stays : (b : Bool) (w : World) → P w.globals w.frame → Stays P (suppose b w)
  suppose_stays true w h = h
  suppose_stays false w h = tt

  pub check_stays : (c : Ctx) (spot : ℕ → Spot) (sees : World → Scope) (k : Clause) (w : World) → P w.globals w.frame → Stays P (check c spot sees k w)
  check_stays c spot sees k w h =
      if_stays
      (is_checked c.set k)
      (and_then (step c.loops w) (λ v. ensure (truth_of (ev k.says (sees v))) (spot k.id) v))
      (Next w)
      (and_then_stays (step c.loops w) (λ v. ensure (truth_of (ev k.says (sees v))) (spot k.id) v) (step_stays c.loops w h) (λ v g. ensure_stays (truth_of (ev k.says (sees v))) (spot k.id) v g))
      h

  pub check_all_stays : (c : Ctx) (spot : ℕ → Spot) (sees : World → Scope) (ks : List Clause) (w : World) → P w.globals w.frame → Stays P (check_all c spot sees ks w)
  check_all_stays c spot sees [] w h = h
  check_all_stays c spot sees (k ∷ ks) w h =
      and_then_stays (check c spot sees k w) (check_all c spot sees ks) (check_stays c spot sees k w h) (check_all_stays c spot sees ks)

  pub suppose_that_stays : (c : Ctx) (sees : World → Scope) (e : Ex) (w : World) → P w.globals w.frame → Stays P (suppose_that c sees e w)
  suppose_that_stays c sees e w h =
      and_then_stays (step c.loops w) (λ v. suppose (truth_of (ev e (sees v))) v) (step_stays c.loops w h) (λ v g. suppose_stays (truth_of (ev e (sees v))) v g)

  pub suppose_all_stays : (c : Ctx) (sees : World → Scope) (es : List Ex) (w : World) → P w.globals w.frame → Stays P (suppose_all c sees es w)
  suppose_all_stays c sees [] w h = h
  suppose_all_stays c sees (e ∷ es) w h =
      and_then_stays (suppose_that c sees e w) (suppose_all c sees es) (suppose_that_stays c sees e w h) (suppose_all_stays c sees es)

  choose_if_stays : (b : Bool) (t : Ty) (v : Val) (f : Flow) → is_of t v ≡ b → (is_of t v ≡ true → Stays P f) → Stays P (if b then f else Over BadChoice)
  choose_if_stays true t v f e h = h e
  choose_if_stays false t v f e h = tt

  pub choose_from_stays : (cs : List Choice) (t : Ty) (w : World) (k : Val → World → Flow) → P w.globals w.frame → ((v : Val) (u : World) → is_of t v ≡ true → P u.globals u.frame → Stays P (k v u)) → Stays P (choose_from cs t w k)
  choose_from_stays [] t w k h g = tt
  choose_from_stays (Branch n ∷ cs) t w k h g = tt
  choose_from_stays (Chosen v ∷ cs) t w k h g =
      choose_if_stays (is_of t v) t v (k v (record w { choices = cs })) refl (λ e. g v (record w { choices = cs }) e h)

  branch_from_stays : (cs : List Choice) (n : ℕ) (w : World) (k : ℕ → World → Flow) → P w.globals w.frame → ((j : ℕ) (u : World) → P u.globals u.frame → Stays P (k j u)) → Stays P (branch_from cs n w k)
  branch_from_stays [] n w k h g = tt
  branch_from_stays (Chosen v ∷ cs) n w k h g = tt
  branch_from_stays (Branch j ∷ cs) n w k h g =
      if_stays (nat_lt j n) (k j (record w { choices = cs })) (Over BadChoice) (g j (record w { choices = cs }) h) tt

  pub forget_all_stays : (c : Ctx) (xs : List Var) → ClosedPuts P c xs → (w : World) → P w.globals w.frame → Stays P (forget_all c xs w)
  forget_all_stays c [] q w h = h
  forget_all_stays c (x ∷ xs) q w h =
      choose_from_stays w.choices (type_in (decl_of c x)) w (λ v u. forget_all c xs (put x v u)) h (λ v u e g. forget_all_stays c xs q.1 (put x v u) (q.0 v u e g))

  pub decide_stays : (c : Ctx) (g : Guard) (w : World) (k l : World → Flow) → P w.globals w.frame → ((u : World) → P u.globals u.frame → Stays P (k u)) → ((u : World) → P u.globals u.frame → Stays P (l u)) → Stays P (decide c g w k l)
  decide_stays c Star w k l h on off =
      branch_from_stays w.choices 2 w (λ j u. if j == 0 then k u else l u) h (λ j u p. if_stays (j == 0) (k u) (l u) (on u p) (off u p))
  decide_stays c (Test e) w k l h on off = if_stays (truth_of (ev e (scope c w))) (k w) (l w) (on w h) (off w h)

  land_if_stays : (b : Bool) (q : Point) (w : World) → P w.globals w.frame → Stays P (if b then Next w else Jumps q w)
  land_if_stays true q w h = h
  land_if_stays false q w h = h

  pub land_stays : (p : Point) (f : Flow) → Stays P f → Stays P (land p f)
  land_stays p (Next w) h = h
  land_stays p (Jumps q w) h = land_if_stays (point_eq p q) q w h
  land_stays p (Over a) h = tt

  pub jump_stays : (ls : List ℕ) (w : World) → P w.globals w.frame → Stays P (jump ls w)
  jump_stays [] w h = h
  jump_stays (l ∷ []) w h = h
  jump_stays (l ∷ m ∷ ls) w h =
      branch_from_stays w.choices (suc (suc (length ls))) w (λ k u. Jumps (label_at (l ∷ m ∷ ls) k) u) h (λ j u p. p)

  -- a body that keeps the fact
  abbrev pub Keeps : (Flow → Flow) → Type 0
  Keeps body = (f : Flow) → Stays P f → Stays P (body f)

  at_head_stays : (c : Ctx) (g : Guard) (is : List Clause) (body : Flow → Flow) (again : World → Flow) (w : World) → Keeps body → ((u : World) → P u.globals u.frame → Stays P (again u)) → P w.globals w.frame → Stays P (at_head c g is body again w)
  at_head_stays c g is body again w keeps k h =
      and_then_stays
      (suppose_all c (scope c) (says_of (is_free_kept c.set) is) w)
      (λ v. and_then (step c.loops v) (λ u. decide c g u (λ t. and_then (body (Next t)) again) Next))
      (suppose_all_stays c (scope c) (says_of (is_free_kept c.set) is) w h)
      (λ v hv. and_then_stays
      (step c.loops v)
      (λ u. decide c g u (λ t. and_then (body (Next t)) again) Next)
      (step_stays c.loops v hv)
      (λ u hu. decide_stays c g u (λ t. and_then (body (Next t)) again) Next hu (λ t ht. and_then_stays (body (Next t)) again (keeps (Next t) ht) k) (λ t ht. ht)))

  pub turns_stays : (n : ℕ) (c : Ctx) (spot : ℕ → Spot) (g : Guard) (is : List Clause) (body : Flow → Flow) (w : World) → Keeps body → P w.globals w.frame → Stays P (turns n c spot g is body w)
  turns_stays zero c spot g is body w keeps h = tt
  turns_stays (suc n) c spot g is body w keeps h =
      and_then_stays
      (step c.loops w)
      (λ v. and_then (check_all c spot (scope c) is v) (at_head c g is body (turns n c AfterTurn g is body)))
      (step_stays c.loops w h)
      (λ v hv. and_then_stays
      (check_all c spot (scope c) is v)
      (at_head c g is body (turns n c AfterTurn g is body))
      (check_all_stays c spot (scope c) is v hv)
      (λ u hu. at_head_stays c g is body (turns n c AfterTurn g is body) u keeps (λ t ht. turns_stays n c AfterTurn g is body t keeps ht) hu))

  pub go_stays : (calls : Calls) (c : Ctx) (s : St) → Closed calls P (turning c) s → Keeps (go calls (turning c) s)
  go_stays calls c Skip q f h = h
  go_stays calls c (Then a b) q f h = go_stays calls c b q.1 _ (go_stays calls c a q.0 f h)
  go_stays calls c (Label l) q f h = land_stays (ToLabel l) f h
  go_stays calls c (Assert k) q f h = and_then_stays f _ h (λ w hw. check_stays (turning c) AtAssert (scope (turning c)) k w hw)
  go_stays calls c (Assume e) q f h = and_then_stays f _ h (λ w hw. suppose_that_stays (turning c) (scope (turning c)) e w hw)
  go_stays calls c (Havoc xs) q f h =
      and_then_stays f _ h (λ w hw. and_then_stays (step Turning w) _ (step_stays Turning w hw) (λ v hv. and_then_stays (forget_all (turning c) xs v) _ (forget_all_stays (turning c) xs q v hv) (λ u hu. suppose_all_stays (turning c) (scope (turning c)) (wheres_at (turning c) xs) u hu)))
  go_stays calls c (Assign xs es) q f h =
      and_then_stays f _ h (λ w hw. and_then_stays (step Turning w) (λ v. Next (put_all xs (evs es (scope (turning c) v)) v)) (step_stays Turning w hw) q)
  go_stays calls c (Invoke k) q f h =
      and_then_stays f _ h (λ w hw. and_then_stays (step Turning w) (calls (turning c) k) (step_stays Turning w hw) q)
  go_stays calls c (If n g a b) q f h =
      land_stays (Behind n) _ (and_then_stays f _ h (λ w hw. and_then_stays (step Turning w) (λ v. decide (turning c) g v (λ u. go calls (turning c) a (Next u)) (λ u. go calls (turning c) b (Next u))) (step_stays Turning w hw) (λ v hv. decide_stays (turning c) g v _ _ hv (λ u hu. go_stays calls c a q.0 (Next u) hu) (λ u hu. go_stays calls c b q.1 (Next u) hu))))
  go_stays calls c (While n g is a) q f h =
      land_stays (Behind n) _ (and_then_stays f _ h (λ w hw. turns_stays (suc w.left) (turning c) AtEntry g is (go calls (turning c) a) w (go_stays calls c a q) hw))
  go_stays calls c (Break n) q f h =
      and_then_stays f _ h (λ w hw. and_then_stays (step Turning w) (Jumps (Behind n)) (step_stays Turning w hw) (λ v hv. hv))
  go_stays calls c (Goto ls) q f h =
      and_then_stays f _ h (λ w hw. and_then_stays (step Turning w) (jump ls) (step_stays Turning w hw) (jump_stays ls))
  go_stays calls c Return q f h =
      and_then_stays f _ h (λ w hw. and_then_stays (step Turning w) (Jumps ToEnd) (step_stays Turning w hw) (λ v hv. hv))
