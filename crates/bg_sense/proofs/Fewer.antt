-- An induction run that fails at a check under a set fails there under each smaller set that has the check's candidate.
use Rattle.std.proofs.Common.{◌≡◌, ℕ, zero, suc, ◌+◌, arith, Bool, true, false, List, [], ◌∷◌, ◌++◌, Option, Some, None, refl, sym, ap, ◌∙◌, subst}
use Rattle.std.specs.Prelude.{◌&&◌, if◌then◌else◌, ◌==◌, nat_lt, slice_get}
use Rattle.bg_ast.specs.Values.{Val, Ty, is_of, truth_of}
use Rattle.bg_ast.specs.Syntax.{Var, Ex, Clause, Guard, Star, Test, Call, St, Skip, Then, Label, Assert, Assume, Havoc, Assign, Invoke, If, While, Break, Goto, Return, Decl, Proc, Impl, Prog}
use Rattle.bg_ast.specs.Execution.{Interp, Choice, Branch, Chosen, State, Spot, AtEntry, AfterTurn, AtAssert, AtCall, AtReturn, Place}
use Rattle.bg_sense.specs.Eval.{Scope, ev, evs}
use Rattle.bg_sense.specs.Flow.{World, Going, Ended, Blocked, Failed, BadChoice, Point, ToLabel, Behind, Flow, Next, Jumps, Over, and_then, land, ended, land_all}
use Rattle.bg_sense.specs.Context.{Cut, Ctx, scope, callee_scope}
use Rattle.bg_sense.specs.Clauses.{is_kept, ensure, suppose, is_checked, check, check_all, suppose_that, suppose_all, is_free_kept, is_there, says_of}
use Rattle.bg_sense.specs.Variables.{put, put_all, type_in, decl_of, wheres_of, wheres_at, procedure_of, targets, modified}
use Rattle.bg_sense.specs.Choices.{choose_from, branch_from, forget_all, choose_all, decide}
use Rattle.bg_sense.specs.Loop.{at_head, end, induct}
use Rattle.bg_sense.specs.Statements.{jump, go}
use Rattle.bg_sense.specs.Calls.{call_of, by_specification}
use Rattle.bg_sense.specs.Run.{begin, context, start, run, run_of, run_body, induction_run}
use Rattle.bg_sense.specs.Places.{checks_of, requires_in, ensures_in, places_in, places_from, places}
use Rattle.bg_sense.specs.Claims.{EachAt}
use Rattle.bg_sense.proofs.Bools.{and_left, and_right, both}

-- the second goes as the first, as far as the first does not block, and fails at the target where it does
abbrev pub Fewer : Spot → Flow → Flow → Type 0
Fewer t (Next w) g = g ≡ Next w
Fewer t (Jumps p w) g = g ≡ Jumps p w
Fewer t (Over (Failed s)) g = s ≡ t → g ≡ Over (Failed t)
Fewer t (Over _) g = Unit {0}

then_fewer : (t : Spot) (f g : Flow) (k l : World → Flow) → Fewer t f g → ((w : World) → Fewer t (k w) (l w)) → Fewer t (and_then f k) (and_then g l)
then_fewer t (Next w) g k l h n = subst (λ x. Fewer t (k w) (and_then x l)) (sym h) (n w)
then_fewer t (Jumps p w) g k l h n = ap (λ x. and_then x l) h
then_fewer t (Over (Failed s)) g k l h n = λ e. ap (λ x. and_then x l) (h e)
then_fewer t (Over Going) g k l h n = tt
then_fewer t (Over Ended) g k l h n = tt
then_fewer t (Over Blocked) g k l h n = tt
then_fewer t (Over BadChoice) g k l h n = tt

self_fewer : (t : Spot) (f : Flow) → Fewer t f f
self_fewer t (Next w) = refl
self_fewer t (Jumps p w) = refl
self_fewer t (Over (Failed s)) = λ e. ap (λ x. Over (Failed x)) e
self_fewer t (Over Going) = tt
self_fewer t (Over Ended) = tt
self_fewer t (Over Blocked) = tt
self_fewer t (Over BadChoice) = tt

if_fewer : (t : Spot) (b : Bool) (f g h k : Flow) → Fewer t f g → Fewer t h k → Fewer t (if b then f else h) (if b then g else k)
if_fewer t true f g h k x y = x
if_fewer t false f g h k x y = y

land_fewer : (t : Spot) (p : Point) (f g : Flow) → Fewer t f g → Fewer t (land p f) (land p g)
land_fewer t p (Next w) g h = ap (land p) h
land_fewer t p (Jumps q w) g h =
    subst (λ x. Fewer t (land p (Jumps q w)) (land p x)) (sym h) (self_fewer t (land p (Jumps q w)))
land_fewer t p (Over (Failed s)) g h = λ e. ap (land p) (h e)
land_fewer t p (Over Going) g h = tt
land_fewer t p (Over Ended) g h = tt
land_fewer t p (Over Blocked) g h = tt
land_fewer t p (Over BadChoice) g h = tt

each_left : (t : Spot) (set : ℕ → Bool) (us vs : List Place) → EachAt t set (us ++ vs) → EachAt t set us
each_left t set [] vs h = tt
each_left t set (u ∷ us) vs h = (h.0, each_left t set us vs h.1)

each_right : (t : Spot) (set : ℕ → Bool) (us vs : List Place) → EachAt t set (us ++ vs) → EachAt t set vs
each_right t set [] vs h = h
each_right t set (u ∷ us) vs h = each_right t set us vs h.1

module _ (t : Spot) (c : Ctx) (less : ℕ → Bool) (part : (b : ℕ) → less b ≡ true → c.set b ≡ true) where
  abbrev C : Ctx
  C = record c { loops = Cut }

  abbrev D : Ctx
  D = record c { set = less; loops = Cut }

  kept_too : (o : Option ℕ) → is_kept less o ≡ true → is_kept c.set o ≡ true
  kept_too None e = refl
  kept_too (Some b) e = part b e

  -- a check: there under both, under the larger set alone, or under none
  checked_fewer : (free big small v : Bool) (s : Spot) (w : World) → (small ≡ true → big ≡ true) → (free ≡ false → s ≡ t → small ≡ true) → Fewer t (if (if free then false else true) && big then ensure v s w else Next w) (if (if free then false else true) && small then ensure v s w else Next w)
  checked_fewer true big small v s w h k = refl
  checked_fewer false true true v s w h k = self_fewer t (ensure v s w)
  checked_fewer false true false true s w h k = refl
  checked_fewer false true false false s w h k = λ e. let no = k refl e in absurd (let bad : ⊥ = cc in bad)
  checked_fewer false false true v s w h k = let no = h refl in absurd (let bad : ⊥ = cc in bad)
  checked_fewer false false false v s w h k = refl

  check_fewer : (spot : ℕ → Spot) (sees sees' : World → Scope) → ((w : World) → sees' w ≡ sees w) → (k : Clause) (w : World) → (k.is_free ≡ false → spot k.id ≡ t → is_kept less k.candidate ≡ true) → Fewer t (check C spot sees k w) (check D spot sees' k w)
  check_fewer spot sees sees' same k w h =
      let wanted : Fewer t (check C spot sees k w) (check D spot sees k w) =
      checked_fewer k.is_free (is_kept c.set k.candidate) (is_kept less k.candidate) (truth_of (ev k.says (sees w))) (spot k.id) w (kept_too k.candidate) h in
      subst (λ x. Fewer t (check C spot sees k w) (if is_checked less k then ensure (truth_of (ev k.says x)) (spot k.id) w else Next w)) (sym (same w)) wanted

  -- where a clause that is no free one has the target's spot, its candidate is in the smaller set
  abbrev Wanted : (ℕ → Spot) → List Clause → Type 0
  Wanted spot [] = Unit {0}
  Wanted spot (k ∷ ks) = (k.is_free ≡ false → spot k.id ≡ t → is_kept less k.candidate ≡ true) × Wanted spot ks

  wanted_if : (free : Bool) (m : ℕ) (spot : ℕ → Spot) (k : Clause) (ks : List Clause) → k.is_free ≡ free → EachAt t less (if free then checks_of m spot ks else record { implementation = m; spot = spot k.id; candidate = k.candidate } ∷ checks_of m spot ks) → (k.is_free ≡ false → spot k.id ≡ t → is_kept less k.candidate ≡ true) × EachAt t less (checks_of m spot ks)
  wanted_if true m spot k ks e h = (λ f. absurd (let bad : ⊥ = cc in bad), h)
  wanted_if false m spot k ks e h = (λ f. h.0, h.1)

  wanted : (m : ℕ) (spot : ℕ → Spot) (ks : List Clause) → EachAt t less (checks_of m spot ks) → Wanted spot ks
  wanted m spot [] h = tt
  wanted m spot (k ∷ ks) h =
      let both' = wanted_if k.is_free m spot k ks refl h in (both'.0, wanted m spot ks both'.1)

  check_all_fewer : (spot : ℕ → Spot) (sees sees' : World → Scope) → ((w : World) → sees' w ≡ sees w) → (ks : List Clause) → Wanted spot ks → (w : World) → Fewer t (check_all C spot sees ks w) (check_all D spot sees' ks w)
  check_all_fewer spot sees sees' same [] h w = refl
  check_all_fewer spot sees sees' same (k ∷ ks) h w =
      then_fewer t (check C spot sees k w) (check D spot sees' k w) (check_all C spot sees ks) (check_all D spot sees' ks) (check_fewer spot sees sees' same k w h.0) (check_all_fewer spot sees sees' same ks h.1)

  suppose_that_fewer : (sees sees' : World → Scope) → ((w : World) → sees' w ≡ sees w) → (e : Ex) (w : World) → Fewer t (suppose_that C sees e w) (suppose_that D sees' e w)
  suppose_that_fewer sees sees' same e w =
      subst (λ x. Fewer t (suppose (truth_of (ev e (sees w))) w) (suppose (truth_of (ev e x)) w)) (sym (same w)) (self_fewer t (suppose (truth_of (ev e (sees w))) w))

  suppose_all_fewer : (sees sees' : World → Scope) → ((w : World) → sees' w ≡ sees w) → (es : List Ex) (w : World) → Fewer t (suppose_all C sees es w) (suppose_all D sees' es w)
  suppose_all_fewer sees sees' same [] w = refl
  suppose_all_fewer sees sees' same (e ∷ es) w =
      then_fewer t (suppose_that C sees e w) (suppose_that D sees' e w) (suppose_all C sees es) (suppose_all D sees' es) (suppose_that_fewer sees sees' same e w) (suppose_all_fewer sees sees' same es)

  -- an assumption under the larger set alone
  drop_fewer : (b : Bool) (w : World) (k : World → Flow) (g : Flow) → Fewer t (k w) g → Fewer t (and_then (suppose b w) k) g
  drop_fewer true w k g h = h
  drop_fewer false w k g h = tt

  says_if : (big small : Bool) (sees sees' : World → Scope) → ((w : World) → sees' w ≡ sees w) → (k : Clause) (xs ys : List Ex) (w : World) → (small ≡ true → big ≡ true) → ((u : World) → Fewer t (suppose_all C sees xs u) (suppose_all D sees' ys u)) → Fewer t (suppose_all C sees (if big then k.says ∷ xs else xs) w) (suppose_all D sees' (if small then k.says ∷ ys else ys) w)
  says_if true true sees sees' same k xs ys w h rest =
      then_fewer t (suppose_that C sees k.says w) (suppose_that D sees' k.says w) (suppose_all C sees xs) (suppose_all D sees' ys) (suppose_that_fewer sees sees' same k.says w) rest
  says_if true false sees sees' same k xs ys w h rest =
      drop_fewer (truth_of (ev k.says (sees w))) w (suppose_all C sees xs) (suppose_all D sees' ys w) (rest w)
  says_if false true sees sees' same k xs ys w h rest = let no = h refl in absurd (let bad : ⊥ = cc in bad)
  says_if false false sees sees' same k xs ys w h rest = rest w

  says_fewer : (big small : Clause → Bool) → ((k : Clause) → small k ≡ true → big k ≡ true) → (sees sees' : World → Scope) → ((w : World) → sees' w ≡ sees w) → (ks : List Clause) (w : World) → Fewer t (suppose_all C sees (says_of big ks) w) (suppose_all D sees' (says_of small ks) w)
  says_fewer big small h sees sees' same [] w = refl
  says_fewer big small h sees sees' same (k ∷ ks) w =
      says_if (big k) (small k) sees sees' same k (says_of big ks) (says_of small ks) w (h k) (says_fewer big small h sees sees' same ks)

  append_fewer : (sees sees' : World → Scope) → ((w : World) → sees' w ≡ sees w) → (es xs ys : List Ex) → ((u : World) → Fewer t (suppose_all C sees xs u) (suppose_all D sees' ys u)) → (w : World) → Fewer t (suppose_all C sees (es ++ xs) w) (suppose_all D sees' (es ++ ys) w)
  append_fewer sees sees' same [] xs ys rest w = rest w
  append_fewer sees sees' same (e ∷ es) xs ys rest w =
      then_fewer t (suppose_that C sees e w) (suppose_that D sees' e w) (suppose_all C sees (es ++ xs)) (suppose_all D sees' (es ++ ys)) (suppose_that_fewer sees sees' same e w) (append_fewer sees sees' same es xs ys rest)

  there_too : (k : Clause) → is_there less k ≡ true → is_there c.set k ≡ true
  there_too k e = kept_too k.candidate e

  free_too : (k : Clause) → is_free_kept less k ≡ true → is_free_kept c.set k ≡ true
  free_too k e =
      both k.is_free (is_kept c.set k.candidate) (and_left k.is_free (is_kept less k.candidate) e) (kept_too k.candidate (and_right k.is_free (is_kept less k.candidate) e))

  checked_too : (k : Clause) → is_checked less k ≡ true → is_checked c.set k ≡ true
  checked_too k e =
      both (if k.is_free then false else true) (is_kept c.set k.candidate) (and_left (if k.is_free then false else true) (is_kept less k.candidate) e) (kept_too k.candidate (and_right (if k.is_free then false else true) (is_kept less k.candidate) e))

  choose_fewer : (cs : List Choice) (ty : Ty) (w : World) (k l : Val → World → Flow) → ((v : Val) (u : World) → Fewer t (k v u) (l v u)) → Fewer t (choose_from cs ty w k) (choose_from cs ty w l)
  choose_fewer [] ty w k l h = tt
  choose_fewer (Branch n ∷ cs) ty w k l h = tt
  choose_fewer (Chosen v ∷ cs) ty w k l h =
      if_fewer t (is_of ty v) (k v (record w { choices = cs })) (l v (record w { choices = cs })) (Over BadChoice) (Over BadChoice) (h v (record w { choices = cs })) tt

  branch_fewer : (cs : List Choice) (n : ℕ) (w : World) (k l : ℕ → World → Flow) → ((j : ℕ) (u : World) → Fewer t (k j u) (l j u)) → Fewer t (branch_from cs n w k) (branch_from cs n w l)
  branch_fewer [] n w k l h = tt
  branch_fewer (Chosen v ∷ cs) n w k l h = tt
  branch_fewer (Branch j ∷ cs) n w k l h =
      if_fewer t (nat_lt j n) (k j (record w { choices = cs })) (l j (record w { choices = cs })) (Over BadChoice) (Over BadChoice) (h j (record w { choices = cs })) tt

  forget_fewer : (xs : List Var) (w : World) → Fewer t (forget_all C xs w) (forget_all D xs w)
  forget_fewer [] w = refl
  forget_fewer (x ∷ xs) w =
      choose_fewer w.choices (type_in (decl_of C x)) w (λ v u. forget_all C xs (put x v u)) (λ v u. forget_all D xs (put x v u)) (λ v u. forget_fewer xs (put x v u))

  choose_all_fewer : (ds : List Decl) (w : World) (k l : List Val → World → Flow) → ((vs : List Val) (u : World) → Fewer t (k vs u) (l vs u)) → Fewer t (choose_all ds w k) (choose_all ds w l)
  choose_all_fewer [] w k l h = h [] w
  choose_all_fewer (d ∷ ds) w k l h =
      choose_fewer w.choices d.ty w (λ v u. choose_all ds u (λ vs x. k (v ∷ vs) x)) (λ v u. choose_all ds u (λ vs x. l (v ∷ vs) x)) (λ v u. choose_all_fewer ds u (λ vs x. k (v ∷ vs) x) (λ vs x. l (v ∷ vs) x) (λ vs x. h (v ∷ vs) x))

  decide_fewer : (g : Guard) (w : World) (k l m n : World → Flow) → ((u : World) → Fewer t (k u) (l u)) → ((u : World) → Fewer t (m u) (n u)) → Fewer t (decide C g w k m) (decide D g w l n)
  decide_fewer Star w k l m n on off =
      branch_fewer w.choices 2 w (λ j u. if j == 0 then k u else m u) (λ j u. if j == 0 then l u else n u) (λ j u. if_fewer t (j == 0) (k u) (l u) (m u) (n u) (on u) (off u))
  decide_fewer (Test e) w k l m n on off =
      if_fewer t (truth_of (ev e (scope C w))) (k w) (l w) (m w) (n w) (on w) (off w)

  induct_fewer : (xs : List Var) (g : Guard) (is : List Clause) (body body' : Flow → Flow) → Wanted AtEntry is → Wanted AfterTurn is → ((f h : Flow) → Fewer t f h → Fewer t (body f) (body' h)) → (w : World) → Fewer t (induct C xs g is body w) (induct D xs g is body' w)
  induct_fewer xs g is body body' entry turn h w =
      let last : World → Flow = λ v. and_then (check_all C AfterTurn (scope C) is v) end in
      let last' : World → Flow = λ v. and_then (check_all D AfterTurn (scope D) is v) end in
      then_fewer
      t
      _
      _
      (λ v. and_then (forget_all C xs v) (λ u. and_then (suppose_all C (scope C) (says_of (is_checked c.set) is) u) (at_head C g is body last)))
      (λ v. and_then (forget_all D xs v) (λ u. and_then (suppose_all D (scope D) (says_of (is_checked less) is) u) (at_head D g is body' last')))
      (check_all_fewer AtEntry (scope C) (scope D) (λ v. refl) is entry w)
      (λ v. then_fewer
      t
      _
      _
      (λ u. and_then (suppose_all C (scope C) (says_of (is_checked c.set) is) u) (at_head C g is body last))
      (λ u. and_then (suppose_all D (scope D) (says_of (is_checked less) is) u) (at_head D g is body' last'))
      (forget_fewer xs v)
      (λ u. then_fewer
      t
      _
      _
      (at_head C g is body last)
      (at_head D g is body' last')
      (says_fewer (is_checked c.set) (is_checked less) checked_too (scope C) (scope D) (λ x. refl) is u)
      (λ x. then_fewer
      t
      _
      _
      (λ y. decide C g y (λ z. and_then (body (Next z)) last) Next)
      (λ y. decide D g y (λ z. and_then (body' (Next z)) last') Next)
      (says_fewer (is_free_kept c.set) (is_free_kept less) free_too (scope C) (scope D) (λ y. refl) is x)
      (λ y. decide_fewer
      g
      y
      (λ z. and_then (body (Next z)) last)
      (λ z. and_then (body' (Next z)) last')
      Next
      Next
      (λ z. then_fewer t (body (Next z)) (body' (Next z)) last last' (h (Next z) (Next z) refl) (λ v'. then_fewer t _ _ end end (check_all_fewer AfterTurn (scope C) (scope D) (λ u'. refl) is turn v') (λ u'. tt)))
      (λ z. refl)))))

  call_fewer : (q : Option Proc) (k : Call) → Wanted (AtCall k.site) (requires_in q) → (w : World) → Fewer t (call_of q C k w) (call_of q D k w)
  call_fewer None k h w = refl
  call_fewer (Some q) k h w =
      let args = evs k.args (scope C w) in
      then_fewer
      t
      _
      _
      (called C args)
      (called D args)
      (check_all_fewer (AtCall k.site) (callee_scope C w.globals args) (callee_scope D w.globals args) (λ u. refl) q.requires_ h w)
      (λ v. then_fewer
      t
      _
      _
      (chosen C v.globals args)
      (chosen D v.globals args)
      (forget_fewer (modified c.program q) v)
      (λ u. choose_all_fewer
      q.results
      u
      (stored C v.globals args)
      (stored D v.globals args)
      (λ results x. then_fewer
      t
      _
      _
      (λ s. Next (put_all k.takes results s))
      (λ s. Next (put_all k.takes results s))
      (append_fewer (callee_scope C v.globals (args ++ results)) (callee_scope D v.globals (args ++ results)) (λ s. refl) (wheres_at c (modified c.program q)) _ _ (append_fewer (callee_scope C v.globals (args ++ results)) (callee_scope D v.globals (args ++ results)) (λ s. refl) (wheres_of q.results) _ _ (says_fewer (is_there c.set) (is_there less) there_too (callee_scope C v.globals (args ++ results)) (callee_scope D v.globals (args ++ results)) (λ s. refl) q.ensures_)) x)
      (λ s. refl))))
    where
      stored : Ctx → List Val → List Val → List Val → World → Flow
      stored c' before args results x =
          and_then
          (suppose_all c' (callee_scope c' before (args ++ results)) (wheres_at c' (modified c'.program q) ++ (wheres_of q.results ++ says_of (is_there c'.set) q.ensures_)) x)
          (λ s. Next (put_all k.takes results s))

      chosen : Ctx → List Val → List Val → World → Flow
      chosen c' before args u = choose_all q.results u (stored c' before args)

      called : Ctx → List Val → World → Flow
      called c' args v = and_then (forget_all c' (modified c'.program q) v) (chosen c' v.globals args)

  go_fewer : (m : ℕ) (s : St) → EachAt t less (places_in c.program m s) → (f g : Flow) → Fewer t f g → Fewer t (go by_specification C s f) (go by_specification D s g)
  go_fewer m Skip h f g r = r
  go_fewer m (Then a b) h f g r =
      go_fewer m b (each_right t less (places_in c.program m a) (places_in c.program m b) h) _ _ (go_fewer m a (each_left t less (places_in c.program m a) (places_in c.program m b) h) f g r)
  go_fewer m (Label l) h f g r = land_fewer t (ToLabel l) f g r
  go_fewer m (Assert k) h f g r =
      then_fewer t f g _ _ r (λ w. check_fewer AtAssert (scope C) (scope D) (λ u. refl) k w (wanted m AtAssert (k ∷ []) h).0)
  go_fewer m (Assume e) h f g r =
      then_fewer t f g _ _ r (λ w. suppose_that_fewer (scope C) (scope D) (λ u. refl) e w)
  go_fewer m (Havoc xs) h f g r =
      then_fewer t f g _ _ r (λ w. then_fewer t (forget_all C xs w) (forget_all D xs w) (suppose_all C (scope C) (wheres_at C xs)) (suppose_all D (scope D) (wheres_at D xs)) (forget_fewer xs w) (λ v. suppose_all_fewer (scope C) (scope D) (λ u. refl) (wheres_at c xs) v))
  go_fewer m (Assign xs es) h f g r = then_fewer t f g _ _ r (λ w. refl)
  go_fewer m (Invoke k) h f g r =
      then_fewer t f g _ _ r (λ w. call_fewer (procedure_of c.program k.procedure) k (wanted m (AtCall k.site) (requires_in (procedure_of c.program k.procedure)) h) w)
  go_fewer m (If n e a b) h f g r =
      land_fewer t (Behind n) _ _ (then_fewer t f g (λ w. decide C e w (λ u. go by_specification C a (Next u)) (λ u. go by_specification C b (Next u))) (λ w. decide D e w (λ u. go by_specification D a (Next u)) (λ u. go by_specification D b (Next u))) r (λ w. decide_fewer e w _ _ _ _ (λ u. go_fewer m a (each_left t less (places_in c.program m a) (places_in c.program m b) h) (Next u) (Next u) refl) (λ u. go_fewer m b (each_right t less (places_in c.program m a) (places_in c.program m b) h) (Next u) (Next u) refl)))
  go_fewer m (While n e is a) h f g r =
      let inner = each_right t less (checks_of m AtEntry is) (places_in c.program m a ++ checks_of m AfterTurn is) h in
      land_fewer t (Behind n) _ _ (then_fewer t f g _ _ r (λ w. induct_fewer (targets c a) e is (go by_specification C a) (go by_specification D a) (wanted m AtEntry is (each_left t less (checks_of m AtEntry is) _ h)) (wanted m AfterTurn is (each_right t less (places_in c.program m a) (checks_of m AfterTurn is) inner)) (go_fewer m a (each_left t less (places_in c.program m a) (checks_of m AfterTurn is) inner)) w))
  go_fewer m (Break n) h f g r = then_fewer t f g _ _ r (λ w. refl)
  go_fewer m (Goto ls) h f g r = then_fewer t f g _ _ r (λ w. self_fewer t (jump ls w))
  go_fewer m Return h f g r = then_fewer t f g _ _ r (λ w. refl)

  land_all_fewer : (f g : Flow) → Fewer t f g → Fewer t (land_all f) (land_all g)
  land_all_fewer (Next w) g h = ap land_all h
  land_all_fewer (Jumps p w) g h = ap land_all h
  land_all_fewer (Over (Failed s)) g h = λ e. ap land_all (h e)
  land_all_fewer (Over Going) g h = tt
  land_all_fewer (Over Ended) g h = tt
  land_all_fewer (Over Blocked) g h = tt
  land_all_fewer (Over BadChoice) g h = tt

  fails_fewer : (f g : Flow) → Fewer t f g → ended f ≡ Failed t → ended g ≡ Failed t
  fails_fewer (Next w) g h e = absurd (let bad : ⊥ = cc in bad)
  fails_fewer (Jumps p w) g h e = absurd (let bad : ⊥ = cc in bad)
  fails_fewer (Over (Failed s)) g h e = let same : s ≡ t = cc in ap ended (h same)
  fails_fewer (Over Going) g h e = absurd (let bad : ⊥ = cc in bad)
  fails_fewer (Over Ended) g h e = absurd (let bad : ⊥ = cc in bad)
  fails_fewer (Over Blocked) g h e = absurd (let bad : ⊥ = cc in bad)
  fails_fewer (Over BadChoice) g h e = absurd (let bad : ⊥ = cc in bad)

  begin_fewer : (q : Proc) (w : World) → Fewer t (begin C q w) (begin D q w)
  begin_fewer q w =
      append_fewer (scope C) (scope D) (λ u. refl) (wheres_of (c.program.globals ++ c.variables)) _ _ (says_fewer (is_there c.set) (is_there less) there_too (scope C) (scope D) (λ u. refl) q.requires_) w

  body_fewer : (m : Impl) (q : Proc) (w : World) → EachAt t less (places_in c.program c.implementation m.body) → Wanted (AtReturn c.implementation) q.ensures_ → run_body by_specification C m q w ≡ Failed t → run_body by_specification D m q w ≡ Failed t
  body_fewer m q w h k =
      fails_fewer
      (and_then (land_all (go by_specification C m.body (begin C q w))) (check_all C (AtReturn c.implementation) (scope C) q.ensures_))
      (and_then (land_all (go by_specification D m.body (begin D q w))) (check_all D (AtReturn c.implementation) (scope D) q.ensures_))
      (then_fewer t _ _ _ _ (land_all_fewer _ _ (go_fewer c.implementation m.body h (begin C q w) (begin D q w) (begin_fewer q w))) (check_all_fewer (AtReturn c.implementation) (scope C) (scope D) (λ u. refl) q.ensures_ k))

-- n + k, counted up from n
abbrev shifted : ℕ → ℕ → ℕ
shifted n zero = n
shifted n (suc k) = shifted (suc n) k

shifted_is : (n k : ℕ) → shifted n k ≡ n + k
shifted_is n zero = omega arith
shifted_is n (suc k) = let e = shifted_is (suc n) k in omega arith

-- the places of one implementation are among those of all
of_implementation : (t : Spot) (set : ℕ → Bool) (p : Prog) (n k : ℕ) (ms : List Impl) (m : Impl) → slice_get ms k ≡ Some m → EachAt t set (places_from p n ms) → EachAt t set (places_in p (shifted n k) m.body ++ checks_of (shifted n k) (AtReturn (shifted n k)) (ensures_in (procedure_of p m.procedure)))
of_implementation t set p n k [] m e h = absurd (let bad : ⊥ = cc in bad)
of_implementation t set p n zero (x ∷ ms) m e h =
    let same : x ≡ m = cc in
    subst (λ y. EachAt t set (places_in p n y.body ++ checks_of n (AtReturn n) (ensures_in (procedure_of p y.procedure)))) same (each_left t set (places_in p n x.body ++ checks_of n (AtReturn n) (ensures_in (procedure_of p x.procedure))) (places_from p (suc n) ms) h)
of_implementation t set p n (suc k) (x ∷ ms) m e h =
    of_implementation t set p (suc n) k ms m e (each_right t set (places_in p n x.body ++ checks_of n (AtReturn n) (ensures_in (procedure_of p x.procedure))) (places_from p (suc n) ms) h)

pub smaller_fails : (p : Prog) (set less : ℕ → Bool) (i : Interp) (k : ℕ) (m : Impl) (q : Proc) (s : State) (cs : List Choice) (t : Spot) → slice_get p.implementations k ≡ Some m → procedure_of p m.procedure ≡ Some q → ((b : ℕ) → less b ≡ true → set b ≡ true) → EachAt t less (places p) → induction_run p set i k s cs ≡ Failed t → induction_run p less i k s cs ≡ Failed t
smaller_fails p set less i k m q s cs t em eq part each e =
    let c = context Cut p set i k m q s in
    let at_k : shifted 0 k ≡ k = let z = shifted_is 0 k in omega arith in
    let all0 = of_implementation t less p 0 k p.implementations m em each in
    let all : EachAt t less (places_in p k m.body ++ checks_of k (AtReturn k) (ensures_in (procedure_of p m.procedure))) =
    subst (λ n. EachAt t less (places_in p n m.body ++ checks_of n (AtReturn n) (ensures_in (procedure_of p m.procedure)))) at_k all0 in
    let ends : EachAt t less (checks_of k (AtReturn k) q.ensures_) =
    subst (λ x. EachAt t less (checks_of k (AtReturn k) (ensures_in x))) eq (each_right t less (places_in p k m.body) _ all) in
    let here : run_body by_specification c m q (start s cs 0) ≡ Failed t =
    sym (ap (λ x. run x Cut p set i k s cs 0) em ∙ ap (λ x. run_of x Cut p set i k m s cs 0) eq) ∙ e in
    ap (λ x. run x Cut p less i k s cs 0) em
    ∙ ap (λ x. run_of x Cut p less i k m s cs 0) eq
    ∙ body_fewer t c less part m q (start s cs 0) (each_left t less (places_in p k m.body) _ all) (wanted t c less part k (AtReturn k) q.ensures_ ends) here
