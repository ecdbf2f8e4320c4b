-- A run fails at places of its implementation alone.
use Rattle.std.proofs.Common.{◌≡◌, ℕ, zero, suc, ◌+◌, Bool, true, false, List, [], ◌∷◌, ◌++◌, length, Option, Some, None, refl, sym, ap, ◌∙◌, subst, arith, inl, inr}
use Rattle.std.specs.Prelude.{◌&&◌, if◌then◌else◌, ◌==◌, nat_lt, slice_get, Contains}
use Rattle.bg_ast.specs.Values.{Val, Ty, is_of, truth_of}
use Rattle.bg_ast.specs.Syntax.{Prog, Proc, Impl, Var, Ex, Clause, Guard, Star, Test, Call, Decl, St, Skip, Then, Label, Assert, Assume, Havoc, Assign, Invoke, If, While, Break, Goto, Return}
use Rattle.bg_ast.specs.Execution.{Interp, Choice, Branch, Chosen, State, Spot, AtAssert, AtEntry, AfterTurn, AtCall, AtReturn, Place}
use Rattle.bg_sense.specs.Eval.{Scope, ev, evs}
use Rattle.bg_sense.specs.Flow.{World, Going, Ended, Blocked, Failed, BadChoice, Point, ToLabel, Behind, ToEnd, Flow, Next, Jumps, Over, and_then, point_eq, land, land_all, ended}
use Rattle.bg_sense.specs.Context.{Loops, Turning, Cut, Ctx, spend, step, scope, callee_scope}
use Rattle.bg_sense.specs.Clauses.{ensure, suppose, is_kept, is_checked, is_free_kept, is_there, says_of, check, check_all, suppose_that, suppose_all}
use Rattle.bg_sense.specs.Variables.{put, put_all, type_in, decl_of, wheres_of, wheres_at, procedure_of, targets, modified}
use Rattle.bg_sense.specs.Choices.{choose_from, branch_from, forget_all, choose_all, decide}
use Rattle.bg_sense.specs.Loop.{at_head, turns, end, induct, loop}
use Rattle.bg_sense.specs.Statements.{label_at, jump, go}
use Rattle.bg_sense.specs.Calls.{call_of, by_specification}
use Rattle.bg_sense.specs.Run.{begin, run_body, context, start, run_of, run, induction_run}
use Rattle.bg_sense.specs.Claims.{IsState, Safe, Fails}
use Rattle.bg_sense.specs.Typing.{AreTypedBodies, IsTypedSt}
use Rattle.bg_sense.proofs.Sound.{safe_from_cut}
use Rattle.bg_sense.proofs.Members.{In, in_left, in_right, contained}
use Rattle.bg_sense.specs.Places.{checks_of, requires_in, ensures_in, places_in, places_from, places}

module _ (S : ℕ → Bool) (P : Spot → Type 0) where
  -- where it is over by a failure, it failed at one of these spots
  abbrev Good : Flow → Type 0
  Good (Over (Failed s)) = P s
  Good _ = Unit {0}

  then_good : (f : Flow) (k : World → Flow) → Good f → ((w : World) → Good (k w)) → Good (and_then f k)
  then_good (Next w) k h g = g w
  then_good (Jumps p w) k h g = tt
  then_good (Over (Failed s)) k h g = h
  then_good (Over Going) k h g = tt
  then_good (Over Ended) k h g = tt
  then_good (Over Blocked) k h g = tt
  then_good (Over BadChoice) k h g = tt

  if_then : (b : Bool) (f g : Flow) → (b ≡ true → Good f) → Good g → Good (if b then f else g)
  if_then true f g h k = h refl
  if_then false f g h k = k

  if_good : (b : Bool) (f g : Flow) → Good f → Good g → Good (if b then f else g)
  if_good true f g h k = h
  if_good false f g h k = k

  ensure_good : (b : Bool) (s : Spot) (w : World) → P s → Good (ensure b s w)
  ensure_good true s w h = tt
  ensure_good false s w h = h

  suppose_good : (b : Bool) (w : World) → Good (suppose b w)
  suppose_good true w = tt
  suppose_good false w = tt

  spend_good : (n : ℕ) (w : World) → Good (spend n w)
  spend_good zero w = tt
  spend_good (suc n) w = tt

  step_good : (l : Loops) (w : World) → Good (step l w)
  step_good Turning w = spend_good w.left w
  step_good Cut w = tt

  -- the spots of places whose clauses are there
  abbrev EachPlace : List Place → Type 0
  EachPlace [] = Unit {0}
  EachPlace (u ∷ us) = (is_kept S u.candidate ≡ true → P u.spot) × EachPlace us

  places_left : (us vs : List Place) → EachPlace (us ++ vs) → EachPlace us
  places_left [] vs h = tt
  places_left (u ∷ us) vs h = (h.0, places_left us vs h.1)

  places_right : (us vs : List Place) → EachPlace (us ++ vs) → EachPlace vs
  places_right [] vs h = h
  places_right (u ∷ us) vs h = places_right us vs h.1

  module _ (c : Ctx) (same : c.set ≡ S) where
    check_good : (k : Clause) (spot : Spot) (sees : World → Scope) → (is_kept S k.candidate ≡ true → P spot) → (w : World) → Good (if is_kept c.set k.candidate then and_then (step c.loops w) (λ v. ensure (truth_of (ev k.says (sees v))) spot v) else Next w)
    check_good k spot sees h w =
        if_then (is_kept c.set k.candidate) (and_then (step c.loops w) (λ v. ensure (truth_of (ev k.says (sees v))) spot v)) (Next w) (λ e. then_good (step c.loops w) (λ v. ensure (truth_of (ev k.says (sees v))) spot v) (step_good c.loops w) (λ v. ensure_good (truth_of (ev k.says (sees v))) spot v (h (subst (λ z. is_kept z k.candidate ≡ true) same e)))) tt

    checks_good : (m : ℕ) (spot : ℕ → Spot) (sees : World → Scope) (ks : List Clause) → EachPlace (checks_of m spot ks) → (w : World) → Good (check_all c spot sees ks w)
    checks_good m spot sees [] h w = tt
    checks_good m spot sees (k ∷ ks) h w = on k.is_free h (checks_good m spot sees ks)
      where
        on : (b : Bool) → EachPlace (if b then checks_of m spot ks else record { implementation = m; spot = spot k.id; candidate = k.candidate } ∷ checks_of m spot ks) → (EachPlace (checks_of m spot ks) → (u : World) → Good (check_all c spot sees ks u)) → Good (and_then (if (if b then false else true) && is_kept c.set k.candidate then and_then (step c.loops w) (λ v. ensure (truth_of (ev k.says (sees v))) (spot k.id) v) else Next w) (check_all c spot sees ks))
        on true g rest = rest g w
        on false g rest =
            then_good (if is_kept c.set k.candidate then and_then (step c.loops w) (λ v. ensure (truth_of (ev k.says (sees v))) (spot k.id) v) else Next w) (check_all c spot sees ks) (check_good k (spot k.id) sees g.0 w) (rest g.1)

    suppose_that_good : (sees : World → Scope) (e : Ex) (w : World) → Good (suppose_that c sees e w)
    suppose_that_good sees e w =
        then_good (step c.loops w) (λ v. suppose (truth_of (ev e (sees v))) v) (step_good c.loops w) (λ v. suppose_good (truth_of (ev e (sees v))) v)

    supposes_good : (sees : World → Scope) (es : List Ex) (w : World) → Good (suppose_all c sees es w)
    supposes_good sees [] w = tt
    supposes_good sees (e ∷ es) w =
        then_good (suppose_that c sees e w) (suppose_all c sees es) (suppose_that_good sees e w) (supposes_good sees es)

    choose_good : (cs : List Choice) (t : Ty) (w : World) (k : Val → World → Flow) → ((v : Val) (u : World) → Good (k v u)) → Good (choose_from cs t w k)
    choose_good [] t w k h = tt
    choose_good (Branch n ∷ cs) t w k h = tt
    choose_good (Chosen v ∷ cs) t w k h =
        if_good (is_of t v) (k v (record w { choices = cs })) (Over BadChoice) (h v (record w { choices = cs })) tt

    choose_all_good : (ds : List Decl) (w : World) (k : List Val → World → Flow) → ((vs : List Val) (u : World) → Good (k vs u)) → Good (choose_all ds w k)
    choose_all_good [] w k h = h [] w
    choose_all_good (d ∷ ds) w k h =
        choose_good w.choices d.ty w (λ v u. choose_all ds u (λ vs x. k (v ∷ vs) x)) (λ v u. choose_all_good ds u (λ vs x. k (v ∷ vs) x) (λ vs x. h (v ∷ vs) x))

    forget_good : (xs : List Var) (w : World) → Good (forget_all c xs w)
    forget_good [] w = tt
    forget_good (x ∷ xs) w =
        choose_good w.choices (type_in (decl_of c x)) w (λ v u. forget_all c xs (put x v u)) (λ v u. forget_good xs (put x v u))

    branch_good : (cs : List Choice) (n : ℕ) (w : World) (k : ℕ → World → Flow) → ((j : ℕ) (u : World) → Good (k j u)) → Good (branch_from cs n w k)
    branch_good [] n w k h = tt
    branch_good (Chosen v ∷ cs) n w k h = tt
    branch_good (Branch j ∷ cs) n w k h =
        if_good (nat_lt j n) (k j (record w { choices = cs })) (Over BadChoice) (h j (record w { choices = cs })) tt

    decide_good : (g : Guard) (w : World) (k l : World → Flow) → ((u : World) → Good (k u)) → ((u : World) → Good (l u)) → Good (decide c g w k l)
    decide_good Star w k l on off =
        branch_good w.choices 2 w (λ j u. if j == 0 then k u else l u) (λ j u. if_good (j == 0) (k u) (l u) (on u) (off u))
    decide_good (Test e) w k l on off = if_good (truth_of (ev e (scope c w))) (k w) (l w) (on w) (off w)

    land_good : (p : Point) (f : Flow) → Good f → Good (land p f)
    land_good p (Next w) h = tt
    land_good p (Jumps q w) h = if_good (point_eq p q) (Next w) (Jumps q w) tt tt
    land_good p (Over a) h = h

    jump_good : (ls : List ℕ) (w : World) → Good (jump ls w)
    jump_good [] w = tt
    jump_good (l ∷ []) w = tt
    jump_good (l ∷ n ∷ ls) w =
        branch_good w.choices (suc (suc (length ls))) w (λ k u. Jumps (label_at (l ∷ n ∷ ls) k) u) (λ k u. tt)

    stored : Proc → List Var → List Val → List Val → List Val → World → Flow
    stored q takes before' args results t =
        and_then (suppose_all c (callee_scope c before' (args ++ results)) (wheres_at c (modified c.program q) ++ (wheres_of q.results ++ says_of (is_there c.set) q.ensures_)) t) (λ s. Next (put_all takes results s))

    call_good : (m : ℕ) (o : Option Proc) (k : Call) → EachPlace (checks_of m (AtCall k.site) (requires_in o)) → (w : World) → Good (call_of o c k w)
    unfolding stored
    call_good m None k h w = tt
    call_good m (Some q) k h w =
        let args = evs k.args (scope c w) in
        then_good (check_all c (AtCall k.site) (callee_scope c w.globals args) q.requires_ w) (λ v. and_then (forget_all c (modified c.program q) v) (λ u. choose_all q.results u (stored q k.takes v.globals args))) (checks_good m (AtCall k.site) (callee_scope c w.globals args) q.requires_ h w) (λ v. then_good (forget_all c (modified c.program q) v) (λ u. choose_all q.results u (stored q k.takes v.globals args)) (forget_good (modified c.program q) v) (λ u. choose_all_good q.results u (stored q k.takes v.globals args) (λ results t. then_good (suppose_all c (callee_scope c v.globals (args ++ results)) (wheres_at c (modified c.program q) ++ (wheres_of q.results ++ says_of (is_there c.set) q.ensures_)) t) (λ s. Next (put_all k.takes results s)) (supposes_good (callee_scope c v.globals (args ++ results)) _ t) (λ s. tt))))

    head_good : (g : Guard) (is : List Clause) (body : Flow → Flow) (again : World → Flow) → ((f : Flow) → Good f → Good (body f)) → ((w : World) → Good (again w)) → (w : World) → Good (at_head c g is body again w)
    head_good g is body again b a w =
        then_good (suppose_all c (scope c) (says_of (is_free_kept c.set) is) w) (λ v. and_then (step c.loops v) (λ u. decide c g u (λ t. and_then (body (Next t)) again) Next)) (supposes_good (scope c) (says_of (is_free_kept c.set) is) w) (λ v. then_good (step c.loops v) (λ u. decide c g u (λ t. and_then (body (Next t)) again) Next) (step_good c.loops v) (λ u. decide_good g u (λ t. and_then (body (Next t)) again) Next (λ t. then_good (body (Next t)) again (b (Next t) tt) a) (λ t. tt)))

    turns_good : (n : ℕ) (m : ℕ) (spot : ℕ → Spot) (g : Guard) (is : List Clause) (body : Flow → Flow) → ((f : Flow) → Good f → Good (body f)) → EachPlace (checks_of m spot is) → EachPlace (checks_of m AfterTurn is) → (w : World) → Good (turns n c spot g is body w)
    turns_good zero m spot g is body b h k w = tt
    turns_good (suc n) m spot g is body b h k w =
        then_good (step c.loops w) (λ v. and_then (check_all c spot (scope c) is v) (at_head c g is body (turns n c AfterTurn g is body))) (step_good c.loops w) (λ v. then_good (check_all c spot (scope c) is v) (at_head c g is body (turns n c AfterTurn g is body)) (checks_good m spot (scope c) is h v) (head_good g is body (turns n c AfterTurn g is body) b (turns_good n m AfterTurn g is body b k k)))

    induct_good : (m : ℕ) (xs : List Var) (g : Guard) (is : List Clause) (body : Flow → Flow) → ((f : Flow) → Good f → Good (body f)) → EachPlace (checks_of m AtEntry is) → EachPlace (checks_of m AfterTurn is) → (w : World) → Good (induct c xs g is body w)
    induct_good m xs g is body b h k w =
        let again = λ (t : World). and_then (check_all c AfterTurn (scope c) is t) end in
        then_good (check_all c AtEntry (scope c) is w) _ (checks_good m AtEntry (scope c) is h w) (λ v. then_good (forget_all c xs v) _ (forget_good xs v) (λ u. then_good (suppose_all c (scope c) (says_of (is_checked c.set) is) u) (at_head c g is body again) (supposes_good (scope c) (says_of (is_checked c.set) is) u) (head_good g is body again b (λ t. then_good (check_all c AfterTurn (scope c) is t) end (checks_good m AfterTurn (scope c) is k t) (λ s. tt)))))

    loop_good : (l : Loops) (m : ℕ) (xs : List Var) (g : Guard) (is : List Clause) (body : Flow → Flow) → ((f : Flow) → Good f → Good (body f)) → EachPlace (checks_of m AtEntry is) → EachPlace (checks_of m AfterTurn is) → (w : World) → Good (loop l c xs g is body w)
    loop_good Turning m xs g is body b h k w = turns_good (suc w.left) m AtEntry g is body b h k w
    loop_good Cut m xs g is body b h k w = induct_good m xs g is body b h k w

    go_good : (m : ℕ) (s : St) → EachPlace (places_in c.program m s) → (f : Flow) → Good f → Good (go by_specification c s f)
    go_good m Skip h f k = k
    go_good m (Then a b) h f k =
        go_good m b (places_right (places_in c.program m a) (places_in c.program m b) h) (go by_specification c a f) (go_good m a (places_left (places_in c.program m a) (places_in c.program m b) h) f k)
    go_good m (Label l) h f k = land_good (ToLabel l) f k
    go_good m (Assert e) h f k =
        then_good f (check c AtAssert (scope c) e) k (λ w. alone (check c AtAssert (scope c) e w) (checks_good m AtAssert (scope c) (e ∷ []) h w))
      where
        alone : (f : Flow) → Good (and_then f (λ w. Next w)) → Good f
        alone (Next w) h = tt
        alone (Jumps p w) h = tt
        alone (Over a) h = h
    go_good m (Assume e) h f k = then_good f (suppose_that c (scope c) e) k (suppose_that_good (scope c) e)
    go_good m (Havoc xs) h f k =
        then_good f _ k (λ w. then_good (step c.loops w) _ (step_good c.loops w) (λ v. then_good (forget_all c xs v) (suppose_all c (scope c) (wheres_at c xs)) (forget_good xs v) (supposes_good (scope c) (wheres_at c xs))))
    go_good m (Assign xs es) h f k =
        then_good f _ k (λ w. then_good (step c.loops w) (λ v. Next (put_all xs (evs es (scope c v)) v)) (step_good c.loops w) (λ v. tt))
    go_good m (Invoke e) h f k =
        then_good f _ k (λ w. then_good (step c.loops w) (by_specification c e) (step_good c.loops w) (call_good m (procedure_of c.program e.procedure) e h))
    go_good m (If n g a b) h f k =
        land_good (Behind n) (and_then f (λ w. and_then (step c.loops w) (λ v. decide c g v (λ u. go by_specification c a (Next u)) (λ u. go by_specification c b (Next u))))) (then_good f _ k (λ w. then_good (step c.loops w) (λ v. decide c g v (λ u. go by_specification c a (Next u)) (λ u. go by_specification c b (Next u))) (step_good c.loops w) (λ v. decide_good g v (λ u. go by_specification c a (Next u)) (λ u. go by_specification c b (Next u)) (λ u. go_good m a (places_left (places_in c.program m a) (places_in c.program m b) h) (Next u) tt) (λ u. go_good m b (places_right (places_in c.program m a) (places_in c.program m b) h) (Next u) tt))))
    go_good m (While n g is a) h f k =
        let inner = places_right (checks_of m AtEntry is) (places_in c.program m a ++ checks_of m AfterTurn is) h in
        land_good (Behind n) (and_then f (loop c.loops c (targets c a) g is (go by_specification c a))) (then_good f (loop c.loops c (targets c a) g is (go by_specification c a)) k (loop_good c.loops m (targets c a) g is (go by_specification c a) (go_good m a (places_left (places_in c.program m a) (checks_of m AfterTurn is) inner)) (places_left (checks_of m AtEntry is) _ h) (places_right (places_in c.program m a) (checks_of m AfterTurn is) inner)))
    go_good m (Break n) h f k =
        then_good f _ k (λ w. then_good (step c.loops w) (Jumps (Behind n)) (step_good c.loops w) (λ v. tt))
    go_good m (Goto ls) h f k =
        then_good f _ k (λ w. then_good (step c.loops w) (jump ls) (step_good c.loops w) (jump_good ls))
    go_good m Return h f k =
        then_good f _ k (λ w. then_good (step c.loops w) (Jumps ToEnd) (step_good c.loops w) (λ v. tt))

    all_landed : (f : Flow) → Good f → Good (land_all f)
    all_landed (Next w) h = tt
    all_landed (Jumps p w) h = tt
    all_landed (Over a) h = h

    begin_good : (q : Proc) (w : World) → Good (begin c q w)
    begin_good q w = then_good (step c.loops w) _ (step_good c.loops w) (supposes_good (scope c) _)

    ended_good : (f : Flow) (t : Spot) → Good f → ended f ≡ Failed t → P t
    ended_good (Next w) t g e = absurd (let bad : ⊥ = cc in bad)
    ended_good (Jumps p w) t g e = absurd (let bad : ⊥ = cc in bad)
    ended_good (Over (Failed s)) t g e = let same : s ≡ t = cc in subst P same g
    ended_good (Over Going) t g e = absurd (let bad : ⊥ = cc in bad)
    ended_good (Over Ended) t g e = absurd (let bad : ⊥ = cc in bad)
    ended_good (Over Blocked) t g e = absurd (let bad : ⊥ = cc in bad)
    ended_good (Over BadChoice) t g e = absurd (let bad : ⊥ = cc in bad)

    body_good : (m : Impl) (q : Proc) → EachPlace (places_in c.program c.implementation m.body) → EachPlace (checks_of c.implementation (AtReturn c.implementation) q.ensures_) → (w : World) (t : Spot) → run_body by_specification c m q w ≡ Failed t → P t
    body_good m q h k w t e =
        let f = go by_specification c m.body (begin c q w) in
        ended_good (and_then (land_all f) (check_all c (AtReturn c.implementation) (scope c) q.ensures_)) t (then_good (land_all f) (check_all c (AtReturn c.implementation) (scope c) q.ensures_) (all_landed f (go_good c.implementation m.body h (begin c q w) (begin_good q w))) (checks_good c.implementation (AtReturn c.implementation) (scope c) q.ensures_ k)) e

abbrev shifted : ℕ → ℕ → ℕ
shifted n zero = n
shifted n (suc k) = shifted (suc n) k

shifted_is : (n k : ℕ) → shifted n k ≡ n + k
shifted_is n zero = omega arith
shifted_is n (suc k) = let e = shifted_is (suc n) k in omega arith

-- the places of an implementation of this number
abbrev its_places : Prog → ℕ → Impl → List Place
its_places p k m = places_in p k m.body ++ checks_of k (AtReturn k) (ensures_in (procedure_of p m.procedure))

in_all : (p : Prog) (n k : ℕ) (ms : List Impl) (m : Impl) (u : Place) → slice_get ms k ≡ Some m → In (its_places p (shifted n k) m) u → In (places_from p n ms) u
in_all p n k [] m u e h = absurd (let bad : ⊥ = cc in bad)
in_all p n zero (x ∷ ms) m u e h =
    let same : x ≡ m = cc in
    in_left (its_places p n x) (places_from p (suc n) ms) u (subst (λ y. In (its_places p n y) u) (sym same) h)
in_all p n (suc k) (x ∷ ms) m u e h =
    in_right (its_places p n x) (places_from p (suc n) ms) u (in_all p (suc n) k ms m u e h)

-- each is of this implementation
abbrev AllOf : ℕ → List Place → Type 0
AllOf k [] = Unit {0}
AllOf k (u ∷ us) = (u.implementation ≡ k) × AllOf k us

all_append : (k : ℕ) (us vs : List Place) → AllOf k us → AllOf k vs → AllOf k (us ++ vs)
all_append k [] vs a b = b
all_append k (u ∷ us) vs a b = (a.0, all_append k us vs a.1 b)

checks_all : (k : ℕ) (spot : ℕ → Spot) (ks : List Clause) → AllOf k (checks_of k spot ks)
checks_all k spot [] = tt
checks_all k spot (x ∷ ks) = on x.is_free (checks_all k spot ks)
  where
    on : (b : Bool) → AllOf k (checks_of k spot ks) → AllOf k (if b then checks_of k spot ks else record { implementation = k; spot = spot x.id; candidate = x.candidate } ∷ checks_of k spot ks)
    on true h = h
    on false h = (refl, h)

places_all : (p : Prog) (k : ℕ) (s : St) → AllOf k (places_in p k s)
places_all p k Skip = tt
places_all p k (Then a b) =
    all_append k (places_in p k a) (places_in p k b) (places_all p k a) (places_all p k b)
places_all p k (Label l) = tt
places_all p k (Assert e) = checks_all k AtAssert (e ∷ [])
places_all p k (Assume e) = tt
places_all p k (Havoc xs) = tt
places_all p k (Assign xs es) = tt
places_all p k (Invoke e) = checks_all k (AtCall e.site) (requires_in (procedure_of p e.procedure))
places_all p k (If n g a b) =
    all_append k (places_in p k a) (places_in p k b) (places_all p k a) (places_all p k b)
places_all p k (While n g is a) =
    all_append k (checks_of k AtEntry is) _ (checks_all k AtEntry is) (all_append k (places_in p k a) _ (places_all p k a) (checks_all k AfterTurn is))
places_all p k (Break n) = tt
places_all p k (Goto ls) = tt
places_all p k Return = tt

-- a place of this implementation has this spot
abbrev IsPlace : Prog → ℕ → (ℕ → Bool) → Spot → Type 0
IsPlace p k S t = (u : Place) × (Contains (places p) u × ((u.spot ≡ t) × ((u.implementation ≡ k) × (is_kept S u.candidate ≡ true))))

each_is : (p : Prog) (k : ℕ) (S : ℕ → Bool) (us : List Place) → AllOf k us → ((u : Place) → In us u → In (places p) u) → EachPlace S (IsPlace p k S) us
each_is p k S [] a h = tt
each_is p k S (u ∷ us) a h =
    (λ e. (u, (contained (places p) u (h u (inl refl)), (refl, (a.0, e)))), each_is p k S us a.1 (λ v m. h v (inr m)))

pub fails_at_places : (loops : Loops) (p : Prog) (set : ℕ → Bool) (i : Interp) (k : ℕ) (m : Impl) (q : Proc) (s : State) (cs : List Choice) (n : ℕ) (t : Spot) → slice_get p.implementations k ≡ Some m → procedure_of p m.procedure ≡ Some q → run (slice_get p.implementations k) loops p set i k s cs n ≡ Failed t → IsPlace p k set t
fails_at_places loops p set i k m q s cs n t em eq e =
    let P = IsPlace p k set in
    let at_k : shifted 0 k ≡ k = let z = shifted_is 0 k in omega arith in
    let within : (u : Place) → In (its_places p k m) u → In (places p) u = λ u h. in_all p 0 k p.implementations m u em (subst (λ n. In (its_places p n m) u) (sym at_k) h) in
    let each = each_is p k set (its_places p k m) (all_append k (places_in p k m.body) _ (places_all p k m.body) (checks_all k (AtReturn k) (ensures_in (procedure_of p m.procedure)))) within in
    let wanted = subst (λ o. EachPlace set P (checks_of k (AtReturn k) (ensures_in o))) eq (places_right set P (places_in p k m.body) _ each) in
    let same = ap (λ x. run x loops p set i k s cs n) em ∙ ap (λ x. run_of x loops p set i k m s cs n) eq in
    body_good set P (context loops p set i k m q s) refl m q (places_left set P (places_in p k m.body) _ each) wanted (start s cs n) t (sym same ∙ e)

pub induction_fails_at_places : (p : Prog) (set : ℕ → Bool) (i : Interp) (k : ℕ) (m : Impl) (q : Proc) (s : State) (cs : List Choice) (t : Spot) → slice_get p.implementations k ≡ Some m → procedure_of p m.procedure ≡ Some q → induction_run p set i k s cs ≡ Failed t → (u : Place) × (Contains (places p) u × ((u.spot ≡ t) × ((u.implementation ≡ k) × (is_kept set u.candidate ≡ true))))
induction_fails_at_places p set i k m q s cs t em eq e = fails_at_places Cut p set i k m q s cs 0 t em eq e

pub safe_at_places : (p : Prog) (set : ℕ → Bool) (k : ℕ) (m : Impl) (q : Proc) → slice_get p.implementations k ≡ Some m → procedure_of p m.procedure ≡ Some q → AreTypedBodies p → ((i : Interp) (s : State) → IsTypedSt (context Turning p set i k m q s) m.body) → ((t : Place) (i : Interp) (s : State) (cs : List Choice) → Contains (places p) t → t.implementation ≡ k → is_kept set t.candidate ≡ true → Fails p set t i s cs → ⊥) → Safe p set k
safe_at_places p set k m q em eq bodies typed none =
    safe_from_cut p set k m q em eq bodies typed (λ i s cs t meets state e. let r = induction_fails_at_places p set i k m q s cs t em eq e in
    let here : k ≡ r.0.implementation = sym r.1.1.1.0 in
    none r.0 i s cs r.1.0 r.1.1.1.0 r.1.1.1.1 (record {
      meets = meets;
      state = subst (λ j. IsState p j s) here state;
      fails = subst (λ j. induction_run p set i j s cs ≡ Failed r.0.spot) here (e ∙ ap Failed (sym r.1.1.0));
    }))
