-- Cutting loops is sound: where the source run fails, some induction run fails at the same place.
use Rattle.std.proofs.Common.{suc, List, [], refl, ap, inl, inr}
use Rattle.std.specs.Prelude.{◌⊎◌}
use Rattle.bg_ast.specs.Values.{Val}
use Rattle.bg_ast.specs.Syntax.{Clause, Guard, Call, St, Skip, Then, Label, Assert, Assume, Havoc, Assign, Invoke, If, While, Break, Goto, Return}
use Rattle.bg_ast.specs.Execution.{AtEntry, AtAssert}
use Rattle.bg_sense.specs.Eval.{evs}
use Rattle.bg_sense.specs.Flow.{World, ToLabel, Behind, ToEnd, Flow, Next, Jumps, and_then}
use Rattle.bg_sense.specs.Context.{Turning, Ctx, Calls, step, scope}
use Rattle.bg_sense.specs.Clauses.{check_all, suppose_all}
use Rattle.bg_sense.specs.Variables.{put_all, wheres_at, targets}
use Rattle.bg_sense.specs.Choices.{forget_all, decide}
use Rattle.bg_sense.specs.Loop.{turns, induct}
use Rattle.bg_sense.specs.Statements.{jump, go}
use Rattle.bg_sense.proofs.Stays.{Fact, turning, cutting, Stays, Closed, step_stays, check_all_stays, go_stays}
use Rattle.bg_sense.proofs.Follows.{at, Shows, Follows, FollowsAt, and_then_follows, step_follows, check_follows, check_all_follows, suppose_that_follows, suppose_all_follows, forget_all_follows, land_follows, jump_follows, put_all_at}
use Rattle.bg_sense.proofs.LoopTurns.{Agrees, holds_after, stays_next, decide_either, onward, head, from_start}

-- at each loop the targets can be given the values that they have after any part of the body, and the body changes nothing else
abbrev pub Renewing : Calls → Fact → Ctx → St → Type 0
Renewing calls T c (Then a b) = Renewing calls T c a × Renewing calls T c b
Renewing calls T c (If n g a b) = Renewing calls T c a × Renewing calls T c b
Renewing calls T c (While n g is a) =
    ((g0 r0 g r : List Val) → T g0 r0 → Agrees (targets c a) T g0 r0 g r → Shows (forget_all (cutting c) (targets c a)) g0 r0 (Next (at g r [])))
    × ((g0 r0 : List Val) → T g0 r0 → Closed calls (Agrees (targets c a) T g0 r0) (turning c) a)
    × Renewing calls T c a
Renewing calls T c _ = Unit {0}

-- calls that follow
abbrev pub FollowingCalls : Calls → Ctx → Type 0
FollowingCalls calls c = (k : Call) (w : World) → FollowsAt (calls (cutting c) k) w (calls (turning c) k w)

module _ (calls : Calls) (T : Fact) (c : Ctx) (called : FollowingCalls calls c) where
  loop_follows : (a : St) (g : Guard) (is : List Clause) → Closed calls T (turning c) a → ((g0 r0 g r : List Val) → T g0 r0 → Agrees (targets c a) T g0 r0 g r → Shows (forget_all (cutting c) (targets c a)) g0 r0 (Next (at g r []))) → ((g0 r0 : List Val) → T g0 r0 → Closed calls (Agrees (targets c a) T g0 r0) (turning c) a) → ((w : World) → T w.globals w.frame → FollowsAt (λ t. go calls (cutting c) a (Next t)) w (go calls (turning c) a (Next w))) → (w : World) → T w.globals w.frame → FollowsAt (induct (cutting c) (targets c a) g is (go calls (cutting c) a)) w (turns (suc w.left) (turning c) AtEntry g is (go calls (turning c) a) w)
  loop_follows a g is closed self renew follow w h =
      let xs = targets c a in
      let body = go calls (turning c) a in
      let body' = go calls (cutting c) a in
      and_then_follows
      Next
      w.globals
      w.frame
      (step Turning w)
      (induct (cutting c) xs g is body')
      (λ v. and_then (check_all (turning c) AtEntry (scope (turning c)) is v) (head c xs g is body body' w.left))
      (step_follows w)
      (λ v ev'. let hv = stays_next c T _ v (step_stays T Turning w h) ev' in
      and_then_follows
      (check_all (cutting c) AtEntry (scope (cutting c)) is)
      v.globals
      v.frame
      (check_all (turning c) AtEntry (scope (turning c)) is v)
      (onward c xs g is body body')
      (head c xs g is body body' w.left)
      (check_all_follows c AtEntry (scope (turning c)) (scope (cutting c)) (λ t cs. refl) is v)
      (λ u eu. let hu = stays_next c T _ u (check_all_stays T (turning c) AtEntry (scope (turning c)) is v hv) eu in
      from_start
      c
      xs
      g
      is
      body
      body'
      T
      u.globals
      u.frame
      (λ k r y. self u.globals u.frame k r hu y)
      (go_stays (Agrees xs T u.globals u.frame) calls c a (renew u.globals u.frame hu))
      follow
      w.left
      u
      (hu, λ y n. refl)
      (holds_after c AtEntry is v u eu)))

  drop_none : {A : Type 0} → A ⊎ ⊥ → A
  drop_none (inl x) = x
  drop_none (inr y) = absurd y

  decide_known : (t : Guard) (w : World) → T w.globals w.frame → (K k L l : World → Flow) → ((u : World) → T u.globals u.frame → FollowsAt K u (k u)) → ((u : World) → T u.globals u.frame → FollowsAt L u (l u)) → FollowsAt (λ u. decide (cutting c) t u K L) w (decide (turning c) t w k l)
  decide_known t w hw K k L l on off =
      drop_none (decide_either c (λ f. ⊥) T t w K k L l hw (λ u hu. inl (on u hu)) (λ u hu. inl (off u hu)))

  pub go_follows : (s : St) → Closed calls T (turning c) s → Renewing calls T c s → (F : World → Flow) (g r : List Val) (f : Flow) → Stays T f → Follows F g r f → Follows (λ v. go calls (cutting c) s (F v)) g r (go calls (turning c) s f)
  go_follows Skip q n F g r f h x = x
  go_follows (Then a b) q n F g r f h x =
      go_follows b q.1 n.1 (λ v. go calls (cutting c) a (F v)) g r (go calls (turning c) a f) (go_stays T calls c a q.0 f h) (go_follows a q.0 n.0 F g r f h x)
  go_follows (Label l) q n F g r f h x = land_follows (ToLabel l) F g r f x
  go_follows (Assert k) q n F g r f h x =
      and_then_follows F g r f _ _ x (λ w e. check_follows c AtAssert (scope (turning c)) (scope (cutting c)) (λ t cs. refl) k w)
  go_follows (Assume e') q n F g r f h x =
      and_then_follows F g r f _ _ x (λ w e. suppose_that_follows c (scope (turning c)) (scope (cutting c)) (λ t cs. refl) e' w)
  go_follows (Havoc xs) q n F g r f h x =
      and_then_follows
      F
      g
      r
      f
      (λ w. and_then (Next w) (λ v. and_then (forget_all (cutting c) xs v) (suppose_all (cutting c) (scope (cutting c)) (wheres_at (cutting c) xs))))
      (λ w. and_then (step Turning w) (λ v. and_then (forget_all (turning c) xs v) (suppose_all (turning c) (scope (turning c)) (wheres_at (turning c) xs))))
      x
      (λ w e. and_then_follows
      Next
      w.globals
      w.frame
      (step Turning w)
      (λ v. and_then (forget_all (cutting c) xs v) (suppose_all (cutting c) (scope (cutting c)) (wheres_at (cutting c) xs)))
      (λ v. and_then (forget_all (turning c) xs v) (suppose_all (turning c) (scope (turning c)) (wheres_at (turning c) xs)))
      (step_follows w)
      (λ v ev'. and_then_follows
      (forget_all (cutting c) xs)
      v.globals
      v.frame
      (forget_all (turning c) xs v)
      (suppose_all (cutting c) (scope (cutting c)) (wheres_at (cutting c) xs))
      (suppose_all (turning c) (scope (turning c)) (wheres_at (turning c) xs))
      (forget_all_follows c xs v)
      (λ u eu. suppose_all_follows c (scope (turning c)) (scope (cutting c)) (λ t cs. refl) (wheres_at c xs) u)))
  go_follows (Assign xs es) q n F g r f h x =
      and_then_follows
      F
      g
      r
      f
      (λ w. and_then (Next w) (λ v. Next (put_all xs (evs es (scope (cutting c) v)) v)))
      (λ w. and_then (step Turning w) (λ v. Next (put_all xs (evs es (scope (turning c) v)) v)))
      x
      (λ w e. and_then_follows
      Next
      w.globals
      w.frame
      (step Turning w)
      (λ v. Next (put_all xs (evs es (scope (cutting c) v)) v))
      (λ v. Next (put_all xs (evs es (scope (turning c) v)) v))
      (step_follows w)
      (λ v ev'. inr ([], λ rest. ap Next (put_all_at xs (evs es (scope (turning c) v)) v rest))))
  go_follows (Invoke k) q n F g r f h x =
      and_then_follows
      F
      g
      r
      f
      (λ w. and_then (Next w) (calls (cutting c) k))
      (λ w. and_then (step Turning w) (calls (turning c) k))
      x
      (λ w e. and_then_follows Next w.globals w.frame (step Turning w) (calls (cutting c) k) (calls (turning c) k) (step_follows w) (λ v ev'. called k v))
  go_follows (If m t a b) q n F g r f h x =
      land_follows
      (Behind m)
      (λ v. and_then (F v) (λ w. and_then (Next w) (λ u. decide (cutting c) t u (λ y. go calls (cutting c) a (Next y)) (λ y. go calls (cutting c) b (Next y)))))
      g
      r
      (and_then f (λ w. and_then (step Turning w) (λ u. decide (turning c) t u (λ y. go calls (turning c) a (Next y)) (λ y. go calls (turning c) b (Next y)))))
      (and_then_follows
      F
      g
      r
      f
      (λ w. and_then (Next w) (λ u. decide (cutting c) t u (λ y. go calls (cutting c) a (Next y)) (λ y. go calls (cutting c) b (Next y))))
      (λ w. and_then (step Turning w) (λ u. decide (turning c) t u (λ y. go calls (turning c) a (Next y)) (λ y. go calls (turning c) b (Next y))))
      x
      (λ w e. and_then_follows
      Next
      w.globals
      w.frame
      (step Turning w)
      (λ u. decide (cutting c) t u (λ y. go calls (cutting c) a (Next y)) (λ y. go calls (cutting c) b (Next y)))
      (λ u. decide (turning c) t u (λ y. go calls (turning c) a (Next y)) (λ y. go calls (turning c) b (Next y)))
      (step_follows w)
      (λ u eu. let hu = stays_next c T _ u (step_stays T Turning w (stays_next c T f w h e)) eu in
      decide_known
      t
      u
      hu
      (λ y. go calls (cutting c) a (Next y))
      (λ y. go calls (turning c) a (Next y))
      (λ y. go calls (cutting c) b (Next y))
      (λ y. go calls (turning c) b (Next y))
      (λ y hy. go_follows a q.0 n.0 Next y.globals y.frame (Next y) hy (inr ([], λ rest. refl)))
      (λ y hy. go_follows b q.1 n.1 Next y.globals y.frame (Next y) hy (inr ([], λ rest. refl))))))
  go_follows (While m t is a) q n F g r f h x =
      land_follows
      (Behind m)
      (λ v. and_then (F v) (induct (cutting c) (targets c a) t is (go calls (cutting c) a)))
      g
      r
      (and_then f (λ w. turns (suc w.left) (turning c) AtEntry t is (go calls (turning c) a) w))
      (and_then_follows
      F
      g
      r
      f
      (induct (cutting c) (targets c a) t is (go calls (cutting c) a))
      (λ w. turns (suc w.left) (turning c) AtEntry t is (go calls (turning c) a) w)
      x
      (λ w e. loop_follows a t is q n.0 n.1 (λ u hu. go_follows a q n.2 Next u.globals u.frame (Next u) hu (inr ([], λ rest. refl))) w (stays_next c T f w h e)))
  go_follows (Break m) q n F g r f h x =
      and_then_follows F g r f (λ w. and_then (Next w) (Jumps (Behind m))) (λ w. and_then (step Turning w) (Jumps (Behind m))) x (λ w e. and_then_follows Next w.globals w.frame (step Turning w) (Jumps (Behind m)) (Jumps (Behind m)) (step_follows w) (λ v ev'. inr ([], λ rest. refl)))
  go_follows (Goto ls) q n F g r f h x =
      and_then_follows F g r f (λ w. and_then (Next w) (jump ls)) (λ w. and_then (step Turning w) (jump ls)) x (λ w e. and_then_follows Next w.globals w.frame (step Turning w) (jump ls) (jump ls) (step_follows w) (λ v ev'. jump_follows ls v))
  go_follows Return q n F g r f h x =
      and_then_follows F g r f (λ w. and_then (Next w) (Jumps ToEnd)) (λ w. and_then (step Turning w) (Jumps ToEnd)) x (λ w e. and_then_follows Next w.globals w.frame (step Turning w) (Jumps ToEnd) (Jumps ToEnd) (step_follows w) (λ v ev'. inr ([], λ rest. refl)))
