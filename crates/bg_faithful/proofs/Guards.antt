-- Commands that declared candidates alone guard, of which each check is at a place of the program, and in the types of what calls take and give each map has an index.
use Rattle.std.proofs.Common.{◌≡◌, ℕ, zero, suc, ◌+◌, Bool, true, false, if◌then◌else◌, List, [], ◌∷◌, ◌++◌, Option, Some, None, refl, sym, subst, inl, inr, arith}
use Rattle.std.specs.Prelude.{◌&&◌, slice_get}
use Rattle.std.specs.List.{list_all}
use Rattle.bg_ast.specs.Syntax.{Ex, Clause, Call, St, Skip, Then, Label, Assert, Assume, Havoc, Assign, Invoke, If, While, Break, Goto, Return, Decl, Proc, Impl, Prog}
use Rattle.bg_ast.specs.Execution.{Spot, AtAssert, AtEntry, AfterTurn, AtCall, AtReturn, Place}
use Rattle.bg_sense.specs.Types.{types_of}
use Rattle.bg_sense.specs.Variables.{wheres_of, wheres_at, procedure_of, modified}
use Rattle.bg_sense.specs.Places.{checks_of, requires_in, ensures_in, places_in, places_from, places}
use Rattle.bg_sense.proofs.Bools.{and_left, and_right}
use Rattle.bg_sense.proofs.Members.{In, in_left, in_right, contained}
use Rattle.bg_flow.specs.Core.{Demand, Saying, Plan, Cmd, Check, Suppose, Forget, Put, Perform, Finish, Head, Core, Nil, Seq, Mark, Do, To, Choose, Loop, demands, demands_if, sayings, sayings_if, each_one, the_checked, the_free, plain, still, plan_of, calls_of, desugar}
use Rattle.bg_flow.specs.Blocks.{Block, Coded, led, closed, skipped, turned, code, at_end, blocks_of}
use Rattle.bg_fits.specs.Valued.{clause_passes, guard_passes, st_passes, any_ex}
use Rattle.bg_faithful.specs.Checks.{HasPlace}
use Rattle.bg_faithful.proofs.ValueTypes.{AreValueTypes, IsDeclared, FitClauses, fit_clause, fit_clauses, ValueProc}

-- a check at this spot, with this candidate: it is a declared one, and the program has a place with both
abbrev pub FitCheck : Prog → Spot → Option ℕ → Type 0
FitCheck p s b = IsDeclared p.candidates b × HasPlace p s b

abbrev pub FitDemands : Prog → List Demand → Type 0
FitDemands p [] = Unit {0}
FitDemands p (d ∷ ds) = FitCheck p d.spot d.candidate × FitDemands p ds

abbrev pub FitSayings : Prog → List Saying → Type 0
FitSayings p [] = Unit {0}
FitSayings p (d ∷ ds) = IsDeclared p.candidates d.candidate × FitSayings p ds

abbrev pub FitPlan : Prog → Plan → Type 0
FitPlan p k =
    FitDemands p k.needs × (FitSayings p k.gives × (AreValueTypes (types_of k.params) × AreValueTypes (types_of k.results)))

abbrev pub FitCmd : Prog → Cmd → Type 0
FitCmd p (Check ds) = FitDemands p ds
FitCmd p (Suppose ds) = FitSayings p ds
FitCmd p (Forget xs) = Unit {0}
FitCmd p (Put xs es) = Unit {0}
FitCmd p (Perform k) = FitPlan p k
FitCmd p Finish = Unit {0}

abbrev pub FitCmds : Prog → List Cmd → Type 0
FitCmds p [] = Unit {0}
FitCmds p (k ∷ ks) = FitCmd p k × FitCmds p ks

abbrev pub FitBlocks : Prog → List Block → Type 0
FitBlocks p [] = Unit {0}
FitBlocks p (b ∷ bs) = FitCmds p b.cmds × FitBlocks p bs

-- each of these is a place of the program
abbrev pub Placed : Prog → List Place → Type 0
Placed p us = (u : Place) → In us u → In (places p) u

module _ (p : Prog) where
  -- ---- what clauses demand and say

  pub fit_demands : (m : ℕ) (spot : ℕ → Spot) (ks : List Clause) → FitClauses p.candidates ks → Placed p (checks_of m spot ks) → FitDemands p (demands spot ks)
  fit_demands m spot [] h w = tt
  fit_demands m spot (k ∷ ks) h w = on k.is_free w (fit_demands m spot ks h.1)
    where
      here : Place
      here = record { implementation = m; spot = spot k.id; candidate = k.candidate }

      on : (b : Bool) → Placed p (if b then checks_of m spot ks else here ∷ checks_of m spot ks) → (Placed p (checks_of m spot ks) → FitDemands p (demands spot ks)) → FitDemands p (demands_if b (record { spot = spot k.id; candidate = k.candidate; says = k.says }) (demands spot ks))
      on true g more = more g
      on false g more =
          ((h.0, (here, (contained (places p) here (g here (inl refl)), (refl, refl)))), more (λ u i. g u (inr i)))

  saying_if : (b : Bool) (d : Saying) (ds : List Saying) → IsDeclared p.candidates d.candidate → FitSayings p ds → FitSayings p (sayings_if b d ds)
  saying_if true d ds h k = (h, k)
  saying_if false d ds h k = k

  pub fit_sayings : (which : Bool → Bool) (ks : List Clause) → FitClauses p.candidates ks → FitSayings p (sayings which ks)
  fit_sayings which [] h = tt
  fit_sayings which (k ∷ ks) h = saying_if (which k.is_free) _ _ h.0 (fit_sayings which ks h.1)

  pub fit_plain : (es : List Ex) (ds : List Saying) → FitSayings p ds → FitSayings p (plain es ds)
  fit_plain [] ds k = k
  fit_plain (e ∷ es) ds k = (refl, fit_plain es ds k)

  -- ---- blocks

  abbrev FitHead : Head → Type 0
  FitHead h = FitDemands p h.arriving × (FitSayings p h.held × (FitSayings p h.free × FitDemands p h.turned))

  abbrev FitCore : Core → Type 0
  FitCore (Seq a b) = FitCore a × FitCore b
  FitCore (Do ks) = FitCmds p ks
  FitCore (Choose e a b) = FitCore a × FitCore b
  FitCore (Loop h e a) = FitHead h × FitCore a
  FitCore _ = Unit {0}

  cmds_append : (ks ls : List Cmd) → FitCmds p ks → FitCmds p ls → FitCmds p (ks ++ ls)
  cmds_append [] ls h k = k
  cmds_append (x ∷ ks) ls h k = (h.0, cmds_append ks ls h.1 k)

  led_fits : (o : Bool) (ks : List Cmd) (bs : List Block) → FitCmds p ks → FitBlocks p bs → FitBlocks p (led o ks bs)
  led_fits false ks bs h k = (h, k)
  led_fits true ks [] h k = (h, tt)
  led_fits true ks (b ∷ bs) h k = (cmds_append ks b.cmds h k.0, k.1)

  code_fits : (s : Core) (t : Coded) → FitCore s → FitBlocks p t.blocks → FitBlocks p (code s t).blocks
  code_fits Nil t h k = k
  code_fits (Seq a b) t h k = code_fits a (code b t) h.0 (code_fits b t h.1 k)
  code_fits (Mark q) t h k = k
  code_fits (Do ks) t h k = led_fits t.takes_in ks t.blocks h k
  code_fits (To qs) t h k = (tt, k)
  code_fits (Choose e a b) t h k =
      (tt, code_fits a (skipped t (code b (closed t))) h.0 (tt, code_fits b (closed t) h.1 k))
  code_fits (Loop hd e a) t h k =
      ((h.0.0, (tt, (h.0.1.0, (h.0.1.1.0, tt)))), code_fits a (turned hd t) h.1 ((h.0.1.1.1, (tt, tt)), k))

-- ---- bodies

-- the places of either part of a list
placed_left : (p : Prog) (us vs : List Place) → Placed p (us ++ vs) → Placed p us
placed_left p us vs h u i = h u (in_left us vs u i)

placed_right : (p : Prog) (us vs : List Place) → Placed p (us ++ vs) → Placed p vs
placed_right p us vs h u i = h u (in_right us vs u i)

module _ (p : Prog) (ds : List Decl) (n : ℕ) (procs : (k : ℕ) (c : Proc) → slice_get p.procedures k ≡ Some c → ValueProc p.candidates c) where
  abbrev Q : Ex → Bool
  Q = any_ex

  abbrev st_ok : St → Bool
  st_ok = st_passes p.candidates Q

  abbrev all_ok : List Clause → Bool
  all_ok = list_all (clause_passes p.candidates Q)

  plan_fits : (k : Call) (c : Proc) → ValueProc p.candidates c → Placed p (checks_of n (AtCall k.site) c.requires_) → FitPlan p (plan_of p c k)
  plan_fits k c h w =
      (fit_demands p n (AtCall k.site) c.requires_ h.requires_ w, (fit_plain p (wheres_at (still p []) (modified p c)) _ (fit_plain p (wheres_of c.results) _ (fit_sayings p each_one c.ensures_ h.ensures_)), (h.params, h.results)))

  calls_fit : (k : Call) (o : Option Proc) → ((c : Proc) → o ≡ Some c → ValueProc p.candidates c) → Placed p (checks_of n (AtCall k.site) (requires_in o)) → FitCmds p (calls_of p o k)
  calls_fit k None f w = tt
  calls_fit k (Some c) f w = (plan_fits k c (f c refl) w, tt)

  desugar_fits : (s : St) → st_ok s ≡ true → Placed p (places_in p n s) → FitCore p (desugar p ds s)
  desugar_fits Skip o w = tt
  desugar_fits (Then a b) o w =
      (desugar_fits a (and_left (st_ok a) (st_ok b) o) (placed_left p (places_in p n a) _ w), desugar_fits b (and_right (st_ok a) (st_ok b) o) (placed_right p (places_in p n a) _ w))
  desugar_fits (Label l) o w = tt
  desugar_fits (Assert k) o w = (fit_demands p n AtAssert (k ∷ []) (fit_clause p.candidates k o, tt) w, tt)
  desugar_fits (Assume e) o w = ((refl, tt), tt)
  desugar_fits (Havoc xs) o w = (tt, (fit_plain p (wheres_at (still p ds) xs) [] tt, tt))
  desugar_fits (Assign xs es) o w = (tt, tt)
  desugar_fits (Invoke k) o w = calls_fit k (procedure_of p k.procedure) (λ c e. procs k.procedure c e) w
  desugar_fits (If t e a b) o w =
      let o1 = and_right (guard_passes Q e) (st_ok a && st_ok b) o in
      ((desugar_fits a (and_left (st_ok a) (st_ok b) o1) (placed_left p (places_in p n a) _ w), desugar_fits b (and_right (st_ok a) (st_ok b) o1) (placed_right p (places_in p n a) _ w)), tt)
  desugar_fits (While t e is a) o w =
      let o1 = and_right (guard_passes Q e) (all_ok is && st_ok a) o in
      let ks = fit_clauses p.candidates is (and_left (all_ok is) (st_ok a) o1) in
      let w1 = placed_right p (checks_of n AtEntry is) (places_in p n a ++ checks_of n AfterTurn is) w in
      (((fit_demands p n AtEntry is ks (placed_left p (checks_of n AtEntry is) _ w), (fit_sayings p the_checked is ks, (fit_sayings p the_free is ks, fit_demands p n AfterTurn is ks (placed_right p (places_in p n a) _ w1)))), desugar_fits a (and_right (all_ok is) (st_ok a) o1) (placed_left p (places_in p n a) _ w1)), tt)
  desugar_fits (Break t) o w = tt
  desugar_fits (Goto ls) o w = tt
  desugar_fits Return o w = tt

  -- the blocks of a routine with this body
  pub routine_fits : (s : St) (given : List Saying) (wanted : List Demand) → st_ok s ≡ true → Placed p (places_in p n s) → FitSayings p given → FitDemands p wanted → FitBlocks p (blocks_of (record { given = given; body = desugar p ds s; wanted = wanted }))
  routine_fits s given wanted o w a b =
      let body = code (desugar p ds s) (at_end wanted) in
      led_fits p body.takes_in (Suppose given ∷ []) body.blocks (a, tt)
      (code_fits p (desugar p ds s) (at_end wanted) (desugar_fits s o w) ((b, tt), tt))

-- ---- the places of an implementation

abbrev shifted : ℕ → ℕ → ℕ
shifted n zero = n
shifted n (suc k) = shifted (suc n) k

shifted_is : (n k : ℕ) → shifted n k ≡ n + k
shifted_is n zero = omega arith
shifted_is n (suc k) = let e = shifted_is (suc n) k in omega (arith, e)

abbrev its_places : Prog → ℕ → Impl → List Place
its_places p k m = places_in p k m.body ++ checks_of k (AtReturn k) (ensures_in (procedure_of p m.procedure))

its_among : (p : Prog) (n k : ℕ) (ms : List Impl) (m : Impl) (u : Place) → slice_get ms k ≡ Some m → In (its_places p (shifted n k) m) u → In (places_from p n ms) u
its_among p n k [] m u e h = absurd (let bad : ⊥ = cc in bad)
its_among p n zero (x ∷ ms) m u e h =
    let same : x ≡ m = cc in
    in_left (its_places p n x) (places_from p (suc n) ms) u (subst (λ y. In (its_places p n y) u) (sym same) h)
its_among p n (suc k) (x ∷ ms) m u e h =
    in_right (its_places p n x) (places_from p (suc n) ms) u (its_among p (suc n) k ms m u e h)

module _ (p : Prog) (k : ℕ) (m : Impl) (em : slice_get p.implementations k ≡ Some m) where
  its_placed : Placed p (its_places p k m)
  its_placed u h =
      let at_k : shifted 0 k ≡ k = let z = shifted_is 0 k in omega (arith, z) in
      its_among p 0 k p.implementations m u em (subst (λ n. In (its_places p n m) u) (sym at_k) h)

  pub body_placed : Placed p (places_in p k m.body)
  body_placed = placed_left p (places_in p k m.body) _ its_placed

  pub ends_placed : (q : Proc) → procedure_of p m.procedure ≡ Some q → Placed p (checks_of k (AtReturn k) q.ensures_)
  ends_placed q e =
      subst (λ o. Placed p (checks_of k (AtReturn k) (ensures_in o))) e (placed_right p (places_in p k m.body) _ its_placed)
