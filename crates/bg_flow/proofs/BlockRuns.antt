-- An implementation without calls and its blocks have the same induction runs.
use Rattle.std.proofs.Common.{◌≡◌, ℕ, zero, suc, ◌+◌, ◌-◌, ◌≤◌, Bool, true, false, List, [], ◌∷◌, ◌++◌, length, map, Some, refl, sym, ap, ◌∙◌, arith}
use Rattle.std.specs.Prelude.{if◌then◌else◌, ◌==◌, nat_lt, slice_get, unwrap_or}
use Rattle.std.proofs.lemmas.List.{length-append}
use Rattle.bg_ast.specs.Values.{Val, Ty, is_of, truth_of}
use Rattle.bg_ast.specs.Syntax.{Prog, Proc, Impl, Var, Guard, Star, Test, Decl}
use Rattle.bg_ast.specs.Execution.{Interp, Choice, Branch, Chosen, Spot, State}
use Rattle.bg_sense.specs.Eval.{Scope, ev, evs}
use Rattle.bg_sense.specs.Flow.{World, Answer, BadChoice, Point, Behind, ToEnd, Flow, Next, Jumps, Over, and_then, point_eq, land, ended, land_all}
use Rattle.bg_sense.specs.Context.{Cut, Ctx, scope, callee_scope}
use Rattle.bg_sense.specs.Clauses.{ensure, suppose, is_kept}
use Rattle.bg_sense.specs.Choices.{choose_from, branch_from, forget_all, choose_all, decide}
use Rattle.bg_sense.specs.Variables.{put, put_all, type_in, decl_of, procedure_of}
use Rattle.bg_sense.specs.Run.{context, start, induction_run}
use Rattle.bg_flow.specs.Core.{Demand, Saying, Plan, Cmd, Check, Suppose, Forget, Put, Perform, Finish, Core, Nil, Seq, Mark, Do, To, Choose, Loop, Routine, check_that, check_these, suppose_this, suppose_these, perform, act, act_all, arrival, turn, point_at, leap, follow_core, routine_run, routine_of}
use Rattle.bg_flow.specs.Blocks.{Leap, Either, Block, Table, at_table, enter, index, nth, leave, run_block, table, Places, to_points, Coded, places, taken_in, led, doing, closed, lying, in_front, skipped, turned, code, at_end, blocks_of, blocks_run}
use Rattle.bg_flow.proofs.CoreRuns.{then_ext, then_next, then_assoc, routines_same}
use Rattle.bg_flow.proofs.Standing.{Ends, ends_same, ends_ends, ends_long, Fits, held, closed_fits, front_fits, code_ends, code_fits}

-- a flow that does not jump
abbrev NoJump : Flow → Type 0
NoJump (Jumps p w) = ⊥
NoJump _ = Unit {0}

nj_then : (f : Flow) (k : World → Flow) → NoJump f → ((w : World) → NoJump (k w)) → NoJump (and_then f k)
nj_then (Next w) k h g = g w
nj_then (Jumps p w) k h g = absurd h
nj_then (Over a) k h g = tt

nj_if : (b : Bool) (f g : Flow) → NoJump f → NoJump g → NoJump (if b then f else g)
nj_if true f g h k = h
nj_if false f g h k = k

nj_ensure : (b : Bool) (s : Spot) (w : World) → NoJump (ensure b s w)
nj_ensure true s w = tt
nj_ensure false s w = tt

nj_suppose : (b : Bool) (w : World) → NoJump (suppose b w)
nj_suppose true w = tt
nj_suppose false w = tt

module _ (c : Ctx) where
  nj_check : (sees : World → Scope) (ks : List Demand) (w : World) → NoJump (check_these c sees ks w)
  nj_check sees [] w = tt
  nj_check sees (k ∷ ks) w =
      nj_then (check_that c sees k w) (check_these c sees ks) (nj_if (is_kept c.set k.candidate) (ensure (truth_of (ev k.says (sees w))) k.spot w) (Next w) (nj_ensure (truth_of (ev k.says (sees w))) k.spot w) tt) (nj_check sees ks)

  nj_suppose_these : (sees : World → Scope) (ks : List Saying) (w : World) → NoJump (suppose_these c sees ks w)
  nj_suppose_these sees [] w = tt
  nj_suppose_these sees (k ∷ ks) w =
      nj_then (suppose_this c sees k w) (suppose_these c sees ks) (nj_if (is_kept c.set k.candidate) (suppose (truth_of (ev k.says (sees w))) w) (Next w) (nj_suppose (truth_of (ev k.says (sees w))) w) tt) (nj_suppose_these sees ks)

  nj_choose : (cs : List Choice) (t : Ty) (w : World) (k : Val → World → Flow) → ((v : Val) (u : World) → NoJump (k v u)) → NoJump (choose_from cs t w k)
  nj_choose [] t w k h = tt
  nj_choose (Branch n ∷ cs) t w k h = tt
  nj_choose (Chosen v ∷ cs) t w k h =
      nj_if (is_of t v) (k v (record w { choices = cs })) (Over BadChoice) (h v (record w { choices = cs })) tt

  nj_choose_all : (ds : List Decl) (w : World) (k : List Val → World → Flow) → ((vs : List Val) (u : World) → NoJump (k vs u)) → NoJump (choose_all ds w k)
  nj_choose_all [] w k h = h [] w
  nj_choose_all (d ∷ ds) w k h =
      nj_choose w.choices d.ty w (λ v u. choose_all ds u (λ vs x. k (v ∷ vs) x)) (λ v u. nj_choose_all ds u (λ vs x. k (v ∷ vs) x) (λ vs x. h (v ∷ vs) x))

  nj_forget : (xs : List Var) (w : World) → NoJump (forget_all c xs w)
  nj_forget [] w = tt
  nj_forget (x ∷ xs) w =
      nj_choose w.choices (type_in (decl_of c x)) w (λ v u. forget_all c xs (put x v u)) (λ v u. nj_forget xs (put x v u))

  nj_perform : (k : Plan) (w : World) → NoJump (perform c k w)
  nj_perform k w =
      let args = evs k.args (scope c w) in
      nj_then (check_these c (callee_scope c w.globals args) k.needs w) (called args) (nj_check (callee_scope c w.globals args) k.needs w) (λ v. nj_then (forget_all c k.modifies v) (λ u. choose_all k.results u (stored v.globals args)) (nj_forget k.modifies v) (λ u. nj_choose_all k.results u (stored v.globals args) (λ results t. nj_then (suppose_these c (callee_scope c v.globals (args ++ results)) k.gives t) (λ s. Next (put_all k.takes results s)) (nj_suppose_these (callee_scope c v.globals (args ++ results)) k.gives t) (λ s. tt))))
    where
      stored : List Val → List Val → List Val → World → Flow
      stored before' args results t =
          and_then (suppose_these c (callee_scope c before' (args ++ results)) k.gives t) (λ s. Next (put_all k.takes results s))

      called : List Val → World → Flow
      called args v = and_then (forget_all c k.modifies v) (λ u. choose_all k.results u (stored v.globals args))

  nj_act : (k : Cmd) (w : World) → NoJump (act c k w)
  nj_act (Check ks) w = nj_check (scope c) ks w
  nj_act (Suppose ks) w = nj_suppose_these (scope c) ks w
  nj_act (Forget xs) w = nj_forget xs w
  nj_act (Put xs es) w = tt
  nj_act (Perform k) w = nj_perform k w
  nj_act Finish w = tt

  nj_acts : (ks : List Cmd) (w : World) → NoJump (act_all c ks w)
  nj_acts [] w = tt
  nj_acts (k ∷ ks) w = nj_then (act c k w) (act_all c ks) (nj_act k w) (nj_acts ks)

  table_append : (t : Table) (xs ys : List Block) → table c t (xs ++ ys) ≡ table c (table c t ys) xs
  table_append t [] ys = refl
  table_append t (x ∷ xs) ys = ap (λ u. run_block c x u ∷ u) (table_append t xs ys)

  at_past : (t : Table) (xs : List Block) (k : ℕ) (w : World) → at_table (table c t xs) (length xs + k) w ≡ at_table t k w
  at_past t [] k w = let e : length {A = Block} [] + k ≡ k = omega arith in ap (λ n. at_table t n w) e
  at_past t (x ∷ xs) k w =
      let e : length (x ∷ xs) + k ≡ suc (length xs + k) = omega arith in
      ap (λ n. at_table (table c t (x ∷ xs)) n w) e ∙ at_past t xs k w

  -- the same first part
  then_same : (f : Flow) (k k' l : World → Flow) (t t' : Table) (i i' : Places) → NoJump f → ((w : World) → enter t i (and_then (k w) l) ≡ enter t' i' (k' w)) → enter t i (and_then (and_then f k) l) ≡ enter t' i' (and_then f k')
  then_same (Next w) k k' l t t' i i' h g = g w
  then_same (Jumps p w) k k' l t t' i i' h g = absurd h
  then_same (Over a) k k' l t t' i i' h g = refl

  if_same : (b : Bool) (f g f' g' : Flow) (t t' : Table) (i i' : Places) → enter t i f ≡ enter t' i' f' → enter t i g ≡ enter t' i' g' → enter t i (if b then f else g) ≡ enter t' i' (if b then f' else g')
  if_same true f g f' g' t t' i i' h k = h
  if_same false f g f' g' t t' i i' h k = k

  branch_same : (cs : List Choice) (n : ℕ) (w : World) (k k' : ℕ → World → Flow) (t t' : Table) (i i' : Places) → ((j : ℕ) (u : World) → enter t i (k j u) ≡ enter t' i' (k' j u)) → enter t i (branch_from cs n w k) ≡ enter t' i' (branch_from cs n w k')
  branch_same [] n w k k' t t' i i' h = refl
  branch_same (Chosen v ∷ cs) n w k k' t t' i i' h = refl
  branch_same (Branch j ∷ cs) n w k k' t t' i i' h =
      if_same (nat_lt j n) (k j (record w { choices = cs })) (Over BadChoice) (k' j (record w { choices = cs })) (Over BadChoice) t t' i i' (h j (record w { choices = cs })) refl

  decide_same : (g : Guard) (w : World) (k l k' l' : World → Flow) (t t' : Table) (i i' : Places) → ((u : World) → enter t i (k u) ≡ enter t' i' (k' u)) → ((u : World) → enter t i (l u) ≡ enter t' i' (l' u)) → enter t i (decide c g w k l) ≡ enter t' i' (decide c g w k' l')
  decide_same Star w k l k' l' t t' i i' on off =
      branch_same w.choices 2 w (λ j u. if j == 0 then k u else l u) (λ j u. if j == 0 then k' u else l' u) t t' i i' (λ j u. if_same (j == 0) (k u) (l u) (k' u) (l' u) t t' i i' (on u) (off u))
  decide_same (Test e) w k l k' l' t t' i i' on off =
      if_same (truth_of (ev e (scope c w))) (k w) (l w) (k' w) (l' w) t t' i i' (on w) (off w)

  -- ---- one block in front

  -- what stands so far from the end stands there behind other blocks too
  at_ends : (xs ys : List Block) (n : ℕ) (w : World) → Ends xs ys → n ≤ length ys → at_table (table c [] xs) (length xs - n) w ≡ at_table (table c [] ys) (length ys - n) w
  at_ends xs ys n w e h =
      let long = length-append e.0 ys in
      let far : length (e.0 ++ ys) - n ≡ length e.0 + (length ys - n) = omega (arith, long, h) in
      ap (λ l. at_table (table c [] l) (length l - n) w) e.1
      ∙ ap (λ u. at_table u (length (e.0 ++ ys) - n) w) (table_append [] e.0 ys)
      ∙ ap (λ k. at_table (table c (table c [] ys) e.0) k w) far
      ∙ at_past (table c [] ys) e.0 (length ys - n) w

  -- what a flow does from blocks on
  abbrev from_on : Coded → Flow → Answer
  from_on t f = enter (table c [] t.blocks) (places t) f

  front_same : (t u : Coded) (b : Block) (k : World → Flow) (f : Flow) → Fits t → Ends u.blocks t.blocks → ((w : World) → enter (table c [] u.blocks) index (and_then (act_all c b.cmds w) (leave c b.exit)) ≡ from_on t (k w)) → from_on (in_front t b u) f ≡ from_on t (and_then f k)
  front_same t u b k (Next w) fits e h = h w
  front_same t u b k (Jumps p w) fits e h =
      let lies = fits p in
      let long = ends_long u.blocks t.blocks e in
      let far : suc (length u.blocks) - t.from_end p ≡ suc (length u.blocks - t.from_end p) = omega (arith, lies, long) in
      ap (λ n. at_table (table c [] (b ∷ u.blocks)) n w) far
      ∙ at_ends u.blocks t.blocks (t.from_end p) w e (omega (arith, lies))
  front_same t u b k (Over a) fits e h = refl

  -- ---- commands in front

  pub acts_append : (xs ys : List Cmd) (w : World) → act_all c (xs ++ ys) w ≡ and_then (act_all c xs w) (act_all c ys)
  acts_append [] ys w = refl
  acts_append (x ∷ xs) ys w =
      then_ext (act c x w) (act_all c (xs ++ ys)) (λ v. and_then (act_all c xs v) (act_all c ys)) (acts_append xs ys)
      ∙ sym (then_assoc (act c x w) (act_all c xs) (act_all c ys))

  leads_on : (t : Table) (i : Places) (f : Flow) → NoJump f → enter t index (and_then f (Jumps (Behind 0))) ≡ enter t i f
  leads_on t i (Next w) h = refl
  leads_on t i (Jumps p w) h = absurd h
  leads_on t i (Over a) h = refl

  goes_in : (b : Block) (bs : List Block) (i : Places) (f : Flow) → NoJump f → enter (table c [] bs) index (and_then (and_then f (act_all c b.cmds)) (leave c b.exit)) ≡ enter (table c [] (b ∷ bs)) i f
  goes_in b bs i (Next w) h = refl
  goes_in b bs i (Jumps p w) h = absurd h
  goes_in b bs i (Over a) h = refl

  led_same : (o : Bool) (ks : List Cmd) (bs : List Block) (at : Point → ℕ) (f : Flow) → ((p : Point) → at p + held o ≤ length bs) → enter (table c [] (led o ks bs)) (λ p. length (led o ks bs) - at p) f ≡ enter (table c [] bs) (λ p. length bs - at p) (and_then f (act_all c ks))
  led_same false ks bs at (Next w) fits = leads_on (table c [] bs) (λ p. length bs - at p) (act_all c ks w) (nj_acts ks w)
  led_same false ks bs at (Jumps p w) fits =
      let lies = fits p in
      let far : suc (length bs) - at p ≡ suc (length bs - at p) = omega (arith, lies) in
      ap (λ n. at_table (table c [] (led false ks bs)) n w) far
  led_same false ks bs at (Over a) fits = refl
  led_same true ks [] at f fits = absurd (omega (arith, fits ToEnd))
  led_same true ks (b ∷ bs) at (Next w) fits =
      ap (λ g. enter (table c [] bs) index (and_then g (leave c b.exit))) (acts_append ks b.cmds w)
      ∙ goes_in b bs (λ p. length (b ∷ bs) - at p) (act_all c ks w) (nj_acts ks w)
  led_same true ks (b ∷ bs) at (Jumps p w) fits =
      let lies = fits p in
      let far : suc (length bs) - at p ≡ suc (length bs - at p) = omega (arith, lies) in
      ap (λ n. at_table (table c [] (taken_in ks (b ∷ bs))) n w) far ∙ sym (ap (λ n. at_table (table c [] (b ∷ bs)) n w) far)
  led_same true ks (b ∷ bs) at (Over a) fits = refl

  doing_same : (ks : List Cmd) (t : Coded) (f : Flow) → Fits t → from_on (doing ks t) f ≡ from_on t (and_then f (act_all c ks))
  doing_same ks t f fits = led_same t.takes_in ks t.blocks t.from_end f fits

  -- ---- points

  lies_if : (b : Bool) (q : Point) (w : World) (t : Table) (n : ℕ) (i : Places) → at_table t (n - (if b then n else i q)) w ≡ enter t (λ p. n - i p) (if b then Next w else Jumps q w)
  lies_if true q w t n i = let none : n - n ≡ 0 = omega arith in ap (λ k. at_table t k w) none
  lies_if false q w t n i = refl

  lying_same : (p : Point) (t : Coded) (f : Flow) → from_on (lying p t) f ≡ from_on t (land p f)
  lying_same p t (Next w) = refl
  lying_same p t (Jumps q w) = lies_if (point_eq p q) q w (table c [] t.blocks) (length t.blocks) t.from_end
  lying_same p t (Over a) = refl

  nth_map : (h : Point → ℕ) (xs : List Point) (d : Point) (j : ℕ) → unwrap_or (slice_get (map h xs) j) (h d) ≡ h (unwrap_or (slice_get xs j) d)
  nth_map h [] d j = refl
  nth_map h (x ∷ xs) d zero = refl
  nth_map h (x ∷ xs) d (suc j) = nth_map h xs d j

  length_map : (h : Point → ℕ) (xs : List Point) → length (map h xs) ≡ length xs
  length_map h [] = refl
  length_map h (x ∷ xs) = let e = length_map h xs in omega arith

  leap_same : (ps : List Point) (t : Table) (i : Places) (w : World) → enter t index (leave c (Leap (to_points i ps)) w) ≡ enter t i (leap ps w)
  leap_same [] t i w = refl
  leap_same (p ∷ []) t i w = refl
  leap_same (p ∷ q ∷ ps) t i w =
      ap (λ n. enter t index (branch_from w.choices (suc (suc n)) w (λ j u. Jumps (Behind (nth (map i (p ∷ q ∷ ps)) j)) u))) (length_map i ps)
      ∙ branch_same w.choices (suc (suc (length ps))) w (λ j u. Jumps (Behind (nth (map i (p ∷ q ∷ ps)) j)) u) (λ j u. Jumps (point_at (p ∷ q ∷ ps) j) u) t t index i (λ j u. ap (λ n. at_table t n u) (nth_map i (p ∷ q ∷ ps) p j))

  -- ---- bodies

  skipped_same : (t off : Coded) (f : Flow) → Fits t → Ends off.blocks t.blocks → from_on (skipped t off) f ≡ from_on t f
  skipped_same t off f fits e =
      let m = length off.blocks - length t.blocks in
      let none : length t.blocks - length t.blocks ≡ 0 = omega arith in
      front_same t off (record { cmds = []; exit = Leap (m ∷ []) }) Next f fits e
      (λ w. at_ends off.blocks t.blocks (length t.blocks) w e (omega arith) ∙ ap (λ n. at_table (table c [] t.blocks) n w) none)
      ∙ ap (from_on t) (then_next f)

  -- so many blocks ahead stand those that stood there before
  stands : (xs ys : List Block) (w : World) → Ends xs ys → at_table (table c [] xs) (length xs - length ys) w ≡ at_table (table c [] ys) 0 w
  stands xs ys w e =
      let none : length ys - length ys ≡ 0 = omega arith in
      at_ends xs ys (length ys) w e (omega arith) ∙ ap (λ n. at_table (table c [] ys) n w) none

  on_arrival : (f : Flow) → NoJump f → (k l k' l' : World → Flow) (t t' : Table) (g : Guard) (i : Places) → ((u : World) → enter t index (k u) ≡ enter t' i (k' u)) → ((u : World) → enter t index (l u) ≡ enter t' i (l' u)) → enter t index (and_then f (λ v. decide c g v k l)) ≡ enter t' i (and_then f (λ v. decide c g v k' l'))
  on_arrival (Next w) h k l k' l' t t' g i on off = decide_same g w k l k' l' t t' index i on off
  on_arrival (Jumps p w) h k l k' l' t t' g i on off = absurd h
  on_arrival (Over a) h k l k' l' t t' g i on off = refl

  -- from a body's blocks as from the body: behind them lies t
  pub same_runs : (s : Core) (t : Coded) (f : Flow) → Fits t → from_on (code s t) f ≡ from_on t (follow_core c s f)
  same_runs Nil t f fits = refl
  same_runs (Seq a b) t f fits =
      same_runs a (code b t) f (code_fits b t fits) ∙ same_runs b t (follow_core c a f) fits
  same_runs (Mark p) t f fits = lying_same p t f
  same_runs (Do ks) t f fits = doing_same ks t f fits
  same_runs (To ps) t f fits =
      front_same t t (record { cmds = []; exit = Leap (to_points (places t) ps) }) (leap ps) f fits (ends_same t.blocks)
      (λ w. leap_same ps (table c [] t.blocks) (places t) w)
  same_runs (Choose g a b) t f fits =
      let off = code b (closed t) in
      let skip = skipped t off in
      let on = code a skip in
      let m = length on.blocks - length off.blocks in
      let off_ends : Ends off.blocks t.blocks = code_ends b (closed t) in
      let on_ends : Ends on.blocks off.blocks = code_ends a skip in
      front_same t on (record { cmds = []; exit = Either g 0 m }) (λ w. decide c g w (λ u. follow_core c a (Next u)) (λ u. follow_core c b (Next u))) f fits
      (ends_ends on.blocks off.blocks t.blocks on_ends off_ends)
      (λ w. decide_same g w (Jumps (Behind 0)) (Jumps (Behind m)) (λ u. follow_core c a (Next u)) (λ u. follow_core c b (Next u)) (table c [] on.blocks) (table c [] t.blocks) index (places t)
      (λ u. same_runs a skip (Next u) (front_fits t off fits off_ends) ∙ skipped_same t off (follow_core c a (Next u)) fits off_ends)
      (λ u. stands on.blocks off.blocks u on_ends ∙ same_runs b (closed t) (Next u) (closed_fits t fits)))
  same_runs (Loop h g a) t f fits =
      let body = code a (turned h t) in
      let m = length body.blocks - length t.blocks in
      let ends : Ends body.blocks t.blocks = code_ends a (turned h t) in
      front_same t body (record { cmds = arrival h; exit = Either g 0 m }) (λ w. and_then (act_all c (arrival h) w) (λ v. decide c g v (λ u. and_then (follow_core c a (Next u)) (act_all c (turn h))) Next)) f fits ends
      (λ w. on_arrival (act_all c (arrival h) w) (nj_acts (arrival h) w) (Jumps (Behind 0)) (Jumps (Behind m)) (λ u. and_then (follow_core c a (Next u)) (act_all c (turn h))) Next (table c [] body.blocks) (table c [] t.blocks) g (places t)
      (λ u. same_runs a (turned h t) (Next u) (front_fits t t fits (ends_same t.blocks)) ∙ doing_same (turn h) (closed t) (follow_core c a (Next u)) (closed_fits t fits))
      (λ u. stands body.blocks t.blocks u ends))

  -- the last block
  ending : (f : Flow) → NoJump f → enter [] index (and_then (and_then f Next) Next) ≡ ended f
  ending (Next w) h = refl
  ending (Jumps p w) h = absurd h
  ending (Over a) h = refl

  end_same : (ds : List Demand) (f : Flow) → from_on (at_end ds) f ≡ ended (and_then (land_all f) (check_these c (scope c) ds))
  end_same ds (Next w) = ending (check_these c (scope c) ds w) (nj_check (scope c) ds w)
  end_same ds (Jumps p w) = ending (check_these c (scope c) ds w) (nj_check (scope c) ds w)
  end_same ds (Over a) = refl

  end_fits : (ds : List Demand) → Fits (at_end ds)
  end_fits ds p = omega arith

  pub routine_blocks : (r : Routine) (w : World) → blocks_run c (blocks_of r) w ≡ routine_run c r w
  routine_blocks r w =
      let last = at_end r.wanted in
      let given = suppose_these c (scope c) r.given w in
      doing_same (Suppose r.given ∷ []) (code r.body last) (Next w) (code_fits r.body last (end_fits r.wanted))
      ∙ ap (from_on (code r.body last)) (then_next given)
      ∙ same_runs r.body last given (end_fits r.wanted)
      ∙ end_same r.wanted (follow_core c r.body given)

pub blocks_same : (p : Prog) (set : ℕ → Bool) (i : Interp) (k : ℕ) (m : Impl) (q : Proc) (s : State) (cs : List Choice) → slice_get p.implementations k ≡ Some m → procedure_of p m.procedure ≡ Some q → blocks_run (context Cut p set i k m q s) (blocks_of (routine_of p k m q)) (start s cs 0) ≡ induction_run p set i k s cs
blocks_same p set i k m q s cs em eq =
    routine_blocks (context Cut p set i k m q s) (routine_of p k m q) (start s cs 0) ∙ routines_same p set i k m q s cs em eq
