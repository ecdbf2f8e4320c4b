-- Calls, and commands in order.
use Rattle.std.proofs.Common.{◌≡◌, ℕ, Bool, true, false, List, [], ◌∷◌, ◌++◌, length, drop, Option, Some, None, refl, ap, ◌∙◌}
use Rattle.std.specs.Prelude.{◌&&◌, if◌then◌else◌}
use Rattle.bg_ast.specs.Values.{Val, is_of}
use Rattle.bg_ast.specs.Syntax.{Var, Decl, Prog}
use Rattle.bg_ast.specs.Execution as e
use Rattle.bg_ast.specs.Execution.{Choice, Branch, Chosen}
use Rattle.bg_sense.specs.Eval.{evs, functions_of}
use Rattle.bg_sense.specs.Flow as f
use Rattle.bg_sense.specs.Flow.{World, BadChoice, Flow, Next, and_then}
use Rattle.bg_sense.specs.Context.{Ctx, scope, callee_scope}
use Rattle.bg_sense.specs.Variables as v
use Rattle.bg_sense.specs.Choices.{forget_all, choose_all}
use Rattle.bg_sense.specs.Types.{types_of}
use Rattle.bg_flow.specs.Core.{Saying, Plan, Cmd, Check, Suppose, Forget, Put, Perform, Finish, check_these, suppose_these, act, act_all}
use Rattle.bg_scalar.specs.Worths.{Seen}
use Rattle.bg_scalar.specs.Lists.{Listed, Are, Leave, NoValues, worths}
use Rattle.bg_scalar.specs.Values.{MeanTables}
use Rattle.bg_scalar.proofs.Agreeing.{AllAgree, all_agree}
use Rattle.bg_replay.specs.Moments.{Moment, Around, Goes, and_so, world_of, seen_at}
use Rattle.bg_replay.specs.Said.{on_said, checks, supposes}
use Rattle.bg_replay.specs.Acts.{put_each, forgotten, assigned, cons_o, chosen, skipped, given_back, called_with, called, acts}
use Rattle.bg_replay.specs.Ways.{acts_each}
use Rattle.bg_replay.proofs.Agreeing.{Agrees, so_then, put_each_is, ctx, Declares, checks_are, supposes_are, forgets}

-- what follows once these values are chosen
abbrev after : Option (List Val) → List Choice → Moment → (List Val → World → Flow) → Flow
after None cs m go_on = f.Over BadChoice
after (Some xs) cs m go_on = go_on xs (world_of (record m { choices = drop (length xs) cs }))

after_cons : (x : Val) (o : Option (List Val)) (c : Choice) (cs : List Choice) (m : Moment) (go_on : List Val → World → Flow) → after o cs m (λ vs y. go_on (x ∷ vs) y) ≡ after (cons_o (Some x) o) (c ∷ cs) m go_on
after_cons x None c cs m go_on = refl
after_cons x (Some xs) c cs m go_on = refl

after_if : (b : Bool) (x : Val) (o : Option (List Val)) (c : Choice) (cs : List Choice) (m : Moment) (go_on : List Val → World → Flow) (w : Flow) → w ≡ after o cs m (λ vs y. go_on (x ∷ vs) y) → (if b then w else f.Over BadChoice) ≡ after (cons_o (if b then Some x else None) o) (c ∷ cs) m go_on
after_if true x o c cs m go_on w h = h ∙ after_cons x o c cs m go_on
after_if false x o c cs m go_on w h = refl

chooses : (ds : List Decl) (cs : List Choice) (m : Moment) (go_on : List Val → World → Flow) → choose_all ds (world_of (record m { choices = cs })) go_on ≡ after (chosen (types_of ds) cs) cs m go_on
chooses [] cs m go_on = refl
chooses (d ∷ ds) [] m go_on = refl
chooses (d ∷ ds) (Branch k ∷ cs) m go_on = refl
chooses (d ∷ ds) (Chosen x ∷ cs) m go_on =
    after_if (is_of d.ty x) x (chosen (types_of ds) cs) (Chosen x) cs m go_on (choose_all ds (world_of (record m { choices = cs })) (λ vs y. go_on (x ∷ vs) y))
    (chooses ds cs m (λ vs y. go_on (x ∷ vs) y))

pub both_true : (a b : Bool) → (a && b) ≡ true → (a ≡ true) × (b ≡ true)
both_true true b h = (refl, h)
both_true false b h = absurd cc

module _ (p : Prog) (i : e.Interp) (number : ℕ) (ds : List Decl) (a : Around) (mean : MeanTables (functions_of p i) a.tables) where
  abbrev c : Ctx
  c = ctx p i number ds a

  -- the end of a call
  abbrev gives : List Val → List Val → List Saying → List Var → List Val → World → Flow
  gives was args qs takes results t =
      and_then (suppose_these c (callee_scope c was (args ++ results)) qs t) (λ s. Next (v.put_all takes results s))

  gives_is : (o : Option (List Val)) (was args : List Val) (qs : List Saying) (takes : List Var) (u : Moment) → Agrees (given_back o a was args qs takes u) (after o u.choices u (gives was args qs takes))
  gives_is None was args qs takes u = refl
  gives_is (Some xs) was args qs takes u =
      let t = skipped xs u in
      let s : Seen = record { tables = a.tables; globals = t.globals; before = was; frame = args ++ xs } in
      let sees = callee_scope c was (args ++ xs) in
      so_then (on_said (supposes a.set s qs) t) (suppose_these c sees qs (world_of t)) (λ n. Goes (put_each takes xs n)) (λ n. Next (v.put_all takes xs n))
      (supposes_are p i number ds a s mean sees qs t refl)
      (λ n. ap Next (put_each_is takes xs n))

  abbrev performs : Plan → List Val → World → Flow
  performs k args w =
      and_then (check_these c (callee_scope c w.globals args) k.needs w) (λ x. and_then (forget_all c k.modifies x) (λ u. choose_all k.results u (gives x.globals args k.gives k.takes)))

  calls_with : Declares p i number ds a → (o : Listed) (vs : List Val) (k : Plan) (m : Moment) → AllAgree o vs → Agrees (called_with o a k.needs k.modifies (types_of k.results) k.gives k.takes m) (performs k vs (world_of m))
  calls_with d (Leave l) vs k m h = tt
  calls_with d NoValues vs k m h = tt
  calls_with d (Are xs) vs k m h =
      let s : Seen = record { tables = a.tables; globals = m.globals; before = m.globals; frame = xs } in
      let sees = callee_scope c m.globals xs in
      rw h
      (so_then (on_said (checks a.set s k.needs) m) (check_these c sees k.needs (world_of m))
      (λ n. and_so (forgotten a k.modifies n) (λ u. given_back (chosen (types_of k.results) u.choices) a n.globals xs k.gives k.takes u))
      (λ x. and_then (forget_all c k.modifies x) (λ u. choose_all k.results u (gives x.globals xs k.gives k.takes)))
      (checks_are p i number ds a s mean sees k.needs m refl)
      (λ n. so_then (forgotten a k.modifies n) (forget_all c k.modifies (world_of n))
      (λ u. given_back (chosen (types_of k.results) u.choices) a n.globals xs k.gives k.takes u)
      (λ u. choose_all k.results u (gives n.globals xs k.gives k.takes))
      (forgets p i number ds a d k.modifies n)
      (λ u. rw (chooses k.results u.choices u (gives n.globals xs k.gives k.takes))
      (gives_is (chosen (types_of k.results) u.choices) n.globals xs k.gives k.takes u))))

  calls : Declares p i number ds a → (k : Plan) (m : Moment) → Agrees (called a k.args k.needs k.modifies (types_of k.results) k.gives k.takes m) (performs k (evs k.args (scope c (world_of m))) (world_of m))
  calls d k m =
      calls_with d (worths k.args (seen_at a m)) (evs k.args (scope c (world_of m))) k m (all_agree (functions_of p i) i.constants k.args (seen_at a m) mean)

  assigns : (o : Listed) (vs : List Val) (xs : List Var) (m : Moment) → AllAgree o vs → Agrees (assigned o xs m) (Next (v.put_all xs vs (world_of m)))
  assigns (Leave l) vs xs m h = tt
  assigns NoValues vs xs m h = tt
  assigns (Are ys) vs xs m h = rw h (ap Next (put_each_is xs ys m))

  acts_agree : Declares p i number ds a → (k : Cmd) (m : Moment) → Agrees (acts a k m) (act c k (world_of m))
  acts_agree d (Check qs) m = checks_are p i number ds a (seen_at a m) mean (scope c) qs m refl
  acts_agree d (Suppose qs) m = supposes_are p i number ds a (seen_at a m) mean (scope c) qs m refl
  acts_agree d (Forget xs) m = forgets p i number ds a d xs m
  acts_agree d (Put xs es) m =
      assigns (worths es (seen_at a m)) (evs es (scope c (world_of m))) xs m (all_agree (functions_of p i) i.constants es (seen_at a m) mean)
  acts_agree d (Perform k) m = calls d k m
  acts_agree d Finish m = refl

  pub all_acts_agree : Declares p i number ds a → (ks : List Cmd) (m : Moment) → Agrees (acts_each a ks m) (act_all c ks (world_of m))
  all_acts_agree d [] m = refl
  all_acts_agree d (k ∷ ks) m =
      so_then (acts a k m) (act c k (world_of m)) (acts_each a ks) (act_all c ks) (acts_agree d k m) (all_acts_agree d ks)
