-- A body and the same without calls leave off alike, from whatever was before them.
use Rattle.std.proofs.Common.{◌≡◌, ℕ, zero, suc, Bool, true, false, List, [], ◌∷◌, ◌++◌, length, map, Option, Some, None, refl, sym, ap, ◌∙◌}
use Rattle.std.specs.Prelude.{filter, ◌&&◌, if◌then◌else◌, ◌==◌, nat_lt, slice_get, unwrap_or}
use Rattle.bg_ast.specs.Values.{Val, Ty, is_of, truth_of}
use Rattle.bg_ast.specs.Execution.{Interp, Choice, Branch, Chosen, Spot, AtAssert, AtEntry, AfterTurn, AtCall, AtReturn, State}
use Rattle.bg_sense.specs.Eval.{Scope, ev, evs}
use Rattle.bg_ast.specs.Syntax.{Prog, Proc, Impl, Var, Global, Local, Ex, Clause, Guard, Star, Test, Call, Decl, St, Skip, Then, Label, Assert, Assume, Havoc, Assign, Invoke, If, While, Break, Goto, Return}
use Rattle.bg_sense.specs.Flow.{World, BadChoice, ToLabel, Behind, Flow, Next, Jumps, Over, and_then, land, ended, land_all}
use Rattle.bg_sense.specs.Context.{Cut, Ctx, scope, callee_scope}
use Rattle.bg_sense.specs.Clauses.{ensure, suppose, is_kept, is_checked, check, check_all, suppose_all, is_free_kept, is_there, says_of}
use Rattle.bg_sense.specs.Choices.{choose_from, branch_from, forget_all, choose_all, decide}
use Rattle.bg_sense.specs.Variables.{modified, is_among, count_from, put_all, decl_of, wheres_in, wheres_of, wheres_at, targets, procedure_of}
use Rattle.bg_sense.specs.Loop.{end, induct}
use Rattle.bg_sense.specs.Statements.{label_at, jump, go}
use Rattle.bg_sense.specs.Run.{context, start, begin, run, run_of, run_body, induction_run}
use Rattle.bg_sense.specs.Calls.{call_of, by_specification}
use Rattle.bg_flow.specs.Core.{Demand, Saying, Suppose, Forget, Head, check_these, suppose_these, perform, act_all, arrival, turn, point_at, leap, follow_core, routine_run, demands_if, demands, sayings_if, sayings, the_checked, the_free, each_one, plain, still, plan_of, calls_of, head_of, to_each, desugar, frame_decls, routine_of}
use Rattle.bg_sense.proofs.Stays.{cutting}

pub then_ext : (f : Flow) (g h : World → Flow) → ((w : World) → g w ≡ h w) → and_then f g ≡ and_then f h
then_ext (Next w) g h e = e w
then_ext (Jumps p w) g h e = refl
then_ext (Over a) g h e = refl

pub then_next : (f : Flow) → and_then f Next ≡ f
then_next (Next w) = refl
then_next (Jumps p w) = refl
then_next (Over a) = refl

pub then_assoc : (f : Flow) (g h : World → Flow) → and_then (and_then f g) h ≡ and_then f (λ w. and_then (g w) h)
then_assoc (Next w) g h = refl
then_assoc (Jumps p w) g h = refl
then_assoc (Over a) g h = refl

if_ext : (b : Bool) (f g f' g' : Flow) → f ≡ f' → g ≡ g' → (if b then f else g) ≡ (if b then f' else g')
if_ext true f g f' g' e h = e
if_ext false f g f' g' e h = h

choose_ext : (cs : List Choice) (t : Ty) (w : World) (k l : Val → World → Flow) → ((v : Val) (u : World) → k v u ≡ l v u) → choose_from cs t w k ≡ choose_from cs t w l
choose_ext [] t w k l e = refl
choose_ext (Branch n ∷ cs) t w k l e = refl
choose_ext (Chosen v ∷ cs) t w k l e =
    if_ext (is_of t v) (k v (record w { choices = cs })) (Over BadChoice) (l v (record w { choices = cs })) (Over BadChoice) (e v (record w { choices = cs })) refl

choose_all_ext : (ds : List Decl) (w : World) (k l : List Val → World → Flow) → ((vs : List Val) (u : World) → k vs u ≡ l vs u) → choose_all ds w k ≡ choose_all ds w l
choose_all_ext [] w k l e = e [] w
choose_all_ext (d ∷ ds) w k l e =
    choose_ext w.choices d.ty w (λ v u. choose_all ds u (λ vs x. k (v ∷ vs) x)) (λ v u. choose_all ds u (λ vs x. l (v ∷ vs) x)) (λ v u. choose_all_ext ds u (λ vs x. k (v ∷ vs) x) (λ vs x. l (v ∷ vs) x) (λ vs x. e (v ∷ vs) x))

branch_ext : (cs : List Choice) (n : ℕ) (w : World) (k l : ℕ → World → Flow) → ((j : ℕ) (u : World) → k j u ≡ l j u) → branch_from cs n w k ≡ branch_from cs n w l
branch_ext [] n w k l e = refl
branch_ext (Chosen v ∷ cs) n w k l e = refl
branch_ext (Branch j ∷ cs) n w k l e =
    if_ext (nat_lt j n) (k j (record w { choices = cs })) (Over BadChoice) (l j (record w { choices = cs })) (Over BadChoice) (e j (record w { choices = cs })) refl

labels_nth : (ls : List ℕ) (d j : ℕ) → unwrap_or (slice_get (to_each ls) j) (ToLabel d) ≡ ToLabel (unwrap_or (slice_get ls j) d)
labels_nth [] d j = refl
labels_nth (l ∷ ls) d zero = refl
labels_nth (l ∷ ls) d (suc j) = labels_nth ls d j

labels_length : (ls : List ℕ) → length (to_each ls) ≡ length ls
labels_length [] = refl
labels_length (l ∷ ls) = ap suc' (labels_length ls)
  where
    suc' : ℕ → ℕ
    suc' n = suc n

leap_same : (ls : List ℕ) (w : World) → leap (to_each ls) w ≡ jump ls w
leap_same [] w = refl
leap_same (l ∷ []) w = refl
leap_same (l ∷ m ∷ ls) w =
    ap (λ n. branch_from w.choices (suc (suc n)) w (λ k u. Jumps (point_at (to_each (l ∷ m ∷ ls)) k) u)) (labels_length ls)
    ∙ branch_ext w.choices (suc (suc (length ls))) w (λ k u. Jumps (point_at (to_each (l ∷ m ∷ ls)) k) u) (λ k u. Jumps (label_at (l ∷ m ∷ ls) k) u) (λ k u. ap (λ p. Jumps p u) (labels_nth (l ∷ m ∷ ls) l k))

module _ (d : Ctx) where
  abbrev c : Ctx
  c = cutting d

  decide_ext : (g : Guard) (w : World) (k l k' l' : World → Flow) → ((u : World) → k u ≡ k' u) → ((u : World) → l u ≡ l' u) → decide c g w k l ≡ decide c g w k' l'
  decide_ext Star w k l k' l' on off =
      branch_ext w.choices 2 w (λ j u. if j == 0 then k u else l u) (λ j u. if j == 0 then k' u else l' u) (λ j u. if_ext (j == 0) (k u) (l u) (k' u) (l' u) (on u) (off u))
  decide_ext (Test e) w k l k' l' on off =
      if_ext (truth_of (ev e (scope c w))) (k w) (l w) (k' w) (l' w) (on w) (off w)

  module _ (sees : World → Scope) where
    check_one : (is_free : Bool) (spot : ℕ → Spot) (k : Clause) (ks : List Clause) (ds : List Demand) → ((w : World) → check_all c spot sees ks w ≡ check_these c sees ds w) → (w : World) → and_then (if (if is_free then false else true) && is_kept c.set k.candidate then ensure (truth_of (ev k.says (sees w))) (spot k.id) w else Next w) (check_all c spot sees ks) ≡ check_these c sees (demands_if is_free (record { spot = spot k.id; candidate = k.candidate; says = k.says }) ds) w
    check_one true spot k ks ds h w = h w
    check_one false spot k ks ds h w =
        then_ext (if is_kept c.set k.candidate then ensure (truth_of (ev k.says (sees w))) (spot k.id) w else Next w) (check_all c spot sees ks) (check_these c sees ds) h

    pub checks_same : (spot : ℕ → Spot) (ks : List Clause) (w : World) → check_all c spot sees ks w ≡ check_these c sees (demands spot ks) w
    checks_same spot [] w = refl
    checks_same spot (k ∷ ks) w = check_one k.is_free spot k ks (demands spot ks) (checks_same spot ks) w

    suppose_kept : (kept : Bool) (e : Ex) (es : List Ex) (ds : List Saying) → ((w : World) → suppose_all c sees es w ≡ suppose_these c sees ds w) → (w : World) → suppose_all c sees (if kept then e ∷ es else es) w ≡ and_then (if kept then suppose (truth_of (ev e (sees w))) w else Next w) (suppose_these c sees ds)
    suppose_kept true e es ds h w =
        then_ext (suppose (truth_of (ev e (sees w))) w) (suppose_all c sees es) (suppose_these c sees ds) h
    suppose_kept false e es ds h w = h w

    suppose_one : (b : Bool) (k : Clause) (es : List Ex) (ds : List Saying) → ((w : World) → suppose_all c sees es w ≡ suppose_these c sees ds w) → (w : World) → suppose_all c sees (if b && is_kept c.set k.candidate then k.says ∷ es else es) w ≡ suppose_these c sees (sayings_if b (record { candidate = k.candidate; says = k.says }) ds) w
    suppose_one true k es ds h w = suppose_kept (is_kept c.set k.candidate) k.says es ds h w
    suppose_one false k es ds h w = h w

    pub supposes_same : (which : Bool → Bool) (ks : List Clause) (w : World) → suppose_all c sees (says_of (λ k. which k.is_free && is_kept c.set k.candidate) ks) w ≡ suppose_these c sees (sayings which ks) w
    supposes_same which [] w = refl
    supposes_same which (k ∷ ks) w =
        suppose_one (which k.is_free) k (says_of (λ l. which l.is_free && is_kept c.set l.candidate) ks) (sayings which ks) (supposes_same which ks) w

    pub plain_same : (es es' : List Ex) (ds : List Saying) → ((w : World) → suppose_all c sees es' w ≡ suppose_these c sees ds w) → (w : World) → suppose_all c sees (es ++ es') w ≡ suppose_these c sees (plain es ds) w
    plain_same [] es' ds h w = h w
    plain_same (e ∷ es) es' ds h w =
        then_ext (suppose (truth_of (ev e (sees w))) w) (suppose_all c sees (es ++ es')) (suppose_these c sees (plain es ds)) (plain_same es es' ds h)

    pub only_plain : (es : List Ex) (w : World) → suppose_all c sees es w ≡ suppose_these c sees (plain es []) w
    only_plain [] w = refl
    only_plain (e ∷ es) w =
        then_ext (suppose (truth_of (ev e (sees w))) w) (suppose_all c sees es) (suppose_these c sees (plain es [])) (only_plain es)

  wheres_still : (xs : List Var) → wheres_at (still c.program c.variables) xs ≡ wheres_at c xs
  wheres_still [] = refl
  wheres_still (Global x ∷ xs) = ap (λ l. wheres_in (decl_of c (Global x)) ++ l) (wheres_still xs)
  wheres_still (Local x ∷ xs) = ap (λ l. wheres_in (decl_of c (Local x)) ++ l) (wheres_still xs)

  wheres_step : (n : ℕ) (b : Bool) (xs : List Var) → wheres_at (still c.program []) xs ≡ wheres_at c xs → wheres_at (still c.program []) (if b then Global n ∷ xs else xs) ≡ wheres_at c (if b then Global n ∷ xs else xs)
  wheres_step n true xs h = ap (λ l. wheres_in (decl_of c (Global n)) ++ l) h
  wheres_step n false xs h = h

  wheres_globals : (f : Var → Bool) (ns : List ℕ) → wheres_at (still c.program []) (filter f (map Global ns)) ≡ wheres_at c (filter f (map Global ns))
  wheres_globals f [] = refl
  wheres_globals f (n ∷ ns) = wheres_step n (f (Global n)) (filter f (map Global ns)) (wheres_globals f ns)

  pub call_same : (q : Proc) (k : Call) (w : World) → perform c (plan_of c.program q k) w ≡ call_of (Some q) c k w
  call_same q k w =
      let args = evs k.args (scope c w) in
      ap (λ f. and_then f (called args)) (sym (checks_same (callee_scope c w.globals args) (AtCall k.site) q.requires_ w))
      ∙ then_ext
      (check_all c (AtCall k.site) (callee_scope c w.globals args) q.requires_ w)
      (called args)
      (called' args)
      (λ v. then_ext
      (forget_all c (modified c.program q) v)
      (λ u. choose_all q.results u (stored v.globals args))
      (λ u. choose_all q.results u (stored' v.globals args))
      (λ u. choose_all_ext
      q.results
      u
      (stored v.globals args)
      (stored' v.globals args)
      (λ results t. ap (λ f. and_then f (λ s. Next (put_all k.takes results s))) (said_same (callee_scope c v.globals (args ++ results)) t))))
    where
      said : List Saying
      said = (plan_of c.program q k).gives

      said' : List Ex
      said' = wheres_at c (modified c.program q) ++ (wheres_of q.results ++ says_of (is_there c.set) q.ensures_)

      said_same : (sees : World → Scope) (t : World) → suppose_these c sees said t ≡ suppose_all c sees said' t
      said_same sees t =
          ap (λ l. suppose_these c sees (plain l (plain (wheres_of q.results) (sayings each_one q.ensures_))) t) (wheres_globals (is_among (map Global q.modifies)) (count_from 0 (length c.program.globals)))
          ∙ sym (plain_same sees (wheres_at c (modified c.program q)) (wheres_of q.results ++ says_of (is_there c.set) q.ensures_) (plain (wheres_of q.results) (sayings each_one q.ensures_)) (plain_same sees (wheres_of q.results) (says_of (is_there c.set) q.ensures_) (sayings each_one q.ensures_) (supposes_same sees each_one q.ensures_)) t)

      stored : List Val → List Val → List Val → World → Flow
      stored before' args results t =
          and_then (suppose_these c (callee_scope c before' (args ++ results)) said t) (λ s. Next (put_all k.takes results s))

      stored' : List Val → List Val → List Val → World → Flow
      stored' before' args results t =
          and_then (suppose_all c (callee_scope c before' (args ++ results)) said' t) (λ s. Next (put_all k.takes results s))

      called : List Val → World → Flow
      called args v = and_then (forget_all c (modified c.program q) v) (λ u. choose_all q.results u (stored v.globals args))

      called' : List Val → World → Flow
      called' args v = and_then (forget_all c (modified c.program q) v) (λ u. choose_all q.results u (stored' v.globals args))

  calls_same : (o : Option Proc) (k : Call) (w : World) → act_all c (calls_of c.program o k) w ≡ call_of o c k w
  calls_same None k w = refl
  calls_same (Some q) k w = then_next (perform c (plan_of c.program q k) w) ∙ call_same q k w

  -- a loop, from its head on
  loop_same : (is : List Clause) (xs : List Var) (g : Guard) (body body' : Flow → Flow) → ((f : Flow) → body f ≡ body' f) → (w : World) → and_then (act_all c (arrival (head_of is xs)) w) (λ v. decide c g v (λ u. and_then (body (Next u)) (act_all c (turn (head_of is xs)))) Next) ≡ induct c xs g is body' w
  loop_same is xs g body body' h w =
      then_assoc (check_these c (scope c) hd.arriving w) (act_all c (Forget xs ∷ Suppose hd.held ∷ Suppose hd.free ∷ [])) on
      ∙ ap (λ f. and_then f (λ v. and_then (act_all c (Forget xs ∷ Suppose hd.held ∷ Suppose hd.free ∷ []) v) on)) (sym (checks_same (scope c) AtEntry is w))
      ∙ then_ext (check_all c AtEntry (scope c) is w) _ _ (λ v. then_assoc (forget_all c xs v) (act_all c (Suppose hd.held ∷ Suppose hd.free ∷ [])) on
      ∙ then_ext (forget_all c xs v) _ _ (λ u. then_assoc (suppose_these c (scope c) hd.held u) (act_all c (Suppose hd.free ∷ [])) on
      ∙ ap (λ f. and_then f (λ t. and_then (act_all c (Suppose hd.free ∷ []) t) on)) (sym (supposes_same (scope c) the_checked is u))
      ∙ then_ext (suppose_all c (scope c) (says_of (is_checked c.set) is) u) _ _ (λ t. ap (λ f. and_then f on) (then_next (suppose_these c (scope c) hd.free t))
      ∙ ap (λ f. and_then f on) (sym (supposes_same (scope c) the_free is t))
      ∙ then_ext (suppose_all c (scope c) (says_of (is_free_kept c.set) is) t) _ _ (λ s. decide_ext g s _ _ _ _ (λ r. ap (λ f. and_then f (act_all c (turn hd))) (h (Next r)) ∙ then_ext (body' (Next r)) _ _ (λ q. ap (λ f. and_then f end) (sym (checks_same (scope c) AfterTurn is q)))) (λ r. refl)))))
    where
      hd : Head
      hd = head_of is xs

      on : World → Flow
      on v = decide c g v (λ u. and_then (body (Next u)) (act_all c (turn (head_of is xs)))) Next

  pub core_same : (s : St) (f : Flow) → follow_core c (desugar c.program c.variables s) f ≡ go by_specification c s f
  core_same Skip f = refl
  core_same (Then a b) f =
      ap (follow_core c (desugar c.program c.variables b)) (core_same a f) ∙ core_same b (go by_specification c a f)
  core_same (Label l) f = refl
  core_same (Assert k) f =
      then_ext f _ _ (λ w. then_next (check_these c (scope c) (demands AtAssert (k ∷ [])) w) ∙ sym (checks_same (scope c) AtAssert (k ∷ []) w) ∙ then_next (check c AtAssert (scope c) k w))
  core_same (Assume e) f =
      then_ext f _ _ (λ w. then_next (suppose_these c (scope c) (plain (e ∷ []) []) w) ∙ then_next (suppose (truth_of (ev e (scope c w))) w))
  core_same (Havoc xs) f =
      then_ext f _ _ (λ w. then_ext (forget_all c xs w) _ _ (λ v. then_next (suppose_these c (scope c) (plain (wheres_at (still c.program c.variables) xs) []) v) ∙ ap (λ l. suppose_these c (scope c) (plain l []) v) (wheres_still xs) ∙ sym (only_plain (scope c) (wheres_at c xs) v)))
  core_same (Assign xs es) f = refl
  core_same (Invoke k) f = then_ext f _ _ (λ w. calls_same (procedure_of c.program k.procedure) k w)
  core_same (If n g a b) f =
      ap (land (Behind n)) (then_ext f _ _ (λ w. decide_ext g w _ _ _ _ (λ u. core_same a (Next u)) (λ u. core_same b (Next u))))
  core_same (While n g is a) f =
      ap (land (Behind n)) (then_ext f _ _ (λ w. loop_same is (targets c a) g (follow_core c (desugar c.program c.variables a)) (go by_specification c a) (core_same a) w))
  core_same (Break n) f = refl
  core_same (Goto ls) f = then_ext f _ _ (λ w. leap_same ls w)
  core_same Return f = refl

  pub routine_same : (m : Impl) (q : Proc) (w : World) → c.variables ≡ frame_decls m q → routine_run c (routine_of c.program c.implementation m q) w ≡ run_body by_specification c m q w
  routine_same m q w e =
      ap (λ f. ended (and_then (land_all f) (check_these c (scope c) (demands (AtReturn c.implementation) q.ensures_)))) flows
      ∙ ap ended (then_ext (land_all (go by_specification c m.body (begin c q w))) _ _ (λ v. sym (checks_same (scope c) (AtReturn c.implementation) q.ensures_ v)))
    where
      first : suppose_these c (scope c) (plain (wheres_of (c.program.globals ++ frame_decls m q)) (sayings each_one q.requires_)) w ≡ begin c q w
      first =
          ap (λ ds. suppose_these c (scope c) (plain (wheres_of (c.program.globals ++ ds)) (sayings each_one q.requires_)) w) (sym e)
          ∙ sym (plain_same (scope c) (wheres_of (c.program.globals ++ c.variables)) (says_of (is_there c.set) q.requires_) (sayings each_one q.requires_) (supposes_same (scope c) each_one q.requires_) w)

      flows : follow_core c (desugar c.program (frame_decls m q) m.body) (suppose_these c (scope c) (plain (wheres_of (c.program.globals ++ frame_decls m q)) (sayings each_one q.requires_)) w) ≡ go by_specification c m.body (begin c q w)
      flows =
          ap (follow_core c (desugar c.program (frame_decls m q) m.body)) first
          ∙ ap (λ ds. follow_core c (desugar c.program ds m.body) (begin c q w)) (sym e)
          ∙ core_same m.body (begin c q w)

pub routines_same : (p : Prog) (set : ℕ → Bool) (i : Interp) (k : ℕ) (m : Impl) (q : Proc) (s : State) (cs : List Choice) → slice_get p.implementations k ≡ Some m → procedure_of p m.procedure ≡ Some q → routine_run (context Cut p set i k m q s) (routine_of p k m q) (start s cs 0) ≡ induction_run p set i k s cs
routines_same p set i k m q s cs em eq =
    routine_same (context Cut p set i k m q s) m q (start s cs 0) refl
    ∙ sym (ap (λ x. run x Cut p set i k s cs 0) em ∙ ap (λ x. run_of x Cut p set i k m s cs 0) eq)
