-- Bodies without calls: each statement is commands, and each name of a procedure, a declaration or a loop's targets is resolved.
use Rattle.std.specs.Prelude.{ℕ, suc, Bool, true, false, if◌then◌else◌, List, [], ◌∷◌, ◌++◌, length, Option, Some, None, slice_get, unwrap_or}
use Rattle.bg_ast.specs.Values.{truth_of}
use Rattle.bg_ast.specs.Syntax.{Var, Ex, Exs, Clause, Guard, Call, Decl, Proc, Impl, Prog, St, Skip, Then, Label, Assert, Assume, Havoc, Assign, Invoke, If, While, Break, Goto, Return}
use Rattle.bg_sense.specs.Eval.{Scope, ev, evs}
use Rattle.bg_sense.specs.Flow.{World, Answer, Point, ToLabel, Behind, ToEnd, Flow, Next, Jumps, and_then, land, ended, land_all}
use Rattle.bg_ast.specs.Execution.{Spot, AtAssert, AtEntry, AfterTurn, AtCall, AtReturn}
use Rattle.bg_sense.specs.Context.{Cut, Ctx, scope, callee_scope}
use Rattle.bg_sense.specs.Clauses.{ensure, suppose, is_kept}
use Rattle.bg_sense.specs.Variables.{modified, put_all, wheres_of, wheres_at, targets, procedure_of}
use Rattle.bg_sense.specs.Choices.{forget_all, choose_all, decide, branch}
use Rattle.bg_sense.specs.Loop.{end}

-- what is checked, at this spot, where its candidate is there
pub record Demand : Type 0 where
  pub spot : Spot
  pub candidate : Option ℕ
  pub says : Ex

-- what is assumed, where its candidate is there
pub record Saying : Type 0 where
  pub candidate : Option ℕ
  pub says : Ex

-- a call, with its procedure's specification in place of the procedure. Parameters and results are the frame of what `needs` and `gives` say
pub record Plan : Type 0 where
  pub args : Exs
  pub params : List Decl
  pub needs : List Demand
  pub modifies : List Var
  pub results : List Decl
  pub gives : List Saying
  pub takes : List Var

pub data Cmd : Type 0 where
  Check : List Demand → Cmd
  Suppose : List Saying → Cmd
  Forget : List Var → Cmd
  Put : List Var → Exs → Cmd
  Perform : Plan → Cmd
  Finish : Cmd

-- a loop: what is checked on arrival and after a turn, what is forgotten, and what is assumed then
pub record Head : Type 0 where
  pub arriving : List Demand
  pub forgotten : List Var
  pub held : List Saying
  pub free : List Saying
  pub turned : List Demand

-- a body. A `Mark` is where jumps to its point end
pub data Core : Type 0 where
  Nil : Core
  Seq : Core → Core → Core
  Mark : Point → Core
  Do : List Cmd → Core
  To : List Point → Core
  Choose : Guard → Core → Core → Core
  Loop : Head → Guard → Core → Core

-- an implementation without calls: what is assumed at first, the body, and what is checked at the end
pub record Routine : Type 0 where
  pub given : List Saying
  pub body : Core
  pub wanted : List Demand

-- what commands do
abbrev pub check_that : Ctx → (World → Scope) → Demand → World → Flow
check_that c sees d w = if is_kept c.set d.candidate then ensure (truth_of (ev d.says (sees w))) d.spot w else Next w

abbrev pub check_these : Ctx → (World → Scope) → List Demand → World → Flow
check_these c sees [] w = Next w
check_these c sees (d ∷ ds) w = and_then (check_that c sees d w) (check_these c sees ds)

abbrev pub suppose_this : Ctx → (World → Scope) → Saying → World → Flow
suppose_this c sees d w = if is_kept c.set d.candidate then suppose (truth_of (ev d.says (sees w))) w else Next w

abbrev pub suppose_these : Ctx → (World → Scope) → List Saying → World → Flow
suppose_these c sees [] w = Next w
suppose_these c sees (d ∷ ds) w = and_then (suppose_this c sees d w) (suppose_these c sees ds)

abbrev pub perform : Ctx → Plan → World → Flow
perform c k w =
    let args = evs k.args (scope c w) in
    and_then
    (check_these c (callee_scope c w.globals args) k.needs w)
    (λ v. and_then
    (forget_all c k.modifies v)
    (λ u. choose_all k.results u
    (λ results t. and_then
    (suppose_these c (callee_scope c v.globals (args ++ results)) k.gives t)
    (λ s. Next (put_all k.takes results s)))))

abbrev pub act : Ctx → Cmd → World → Flow
act c (Check ds) w = check_these c (scope c) ds w
act c (Suppose ds) w = suppose_these c (scope c) ds w
act c (Forget xs) w = forget_all c xs w
act c (Put xs es) w = Next (put_all xs (evs es (scope c w)) w)
act c (Perform k) w = perform c k w
act c Finish w = end w

abbrev pub act_all : Ctx → List Cmd → World → Flow
act_all c [] w = Next w
act_all c (k ∷ ks) w = and_then (act c k w) (act_all c ks)

-- a loop's commands, where it is cut
abbrev pub arrival : Head → List Cmd
arrival h = Check h.arriving ∷ Forget h.forgotten ∷ Suppose h.held ∷ Suppose h.free ∷ []

abbrev pub turn : Head → List Cmd
turn h = Check h.turned ∷ Finish ∷ []

abbrev pub point_at : List Point → ℕ → Point
point_at [] k = ToEnd
point_at (p ∷ ps) k = unwrap_or (slice_get (p ∷ ps) k) p

abbrev pub leap : List Point → World → Flow
leap [] w = Jumps ToEnd w
leap (p ∷ []) w = Jumps p w
leap (p ∷ q ∷ ps) w = branch (suc (suc (length ps))) w (λ k u. Jumps (point_at (p ∷ q ∷ ps) k) u)

-- what a body makes of how what is before it left off
abbrev pub follow_core : Ctx → Core → Flow → Flow
follow_core c Nil f = f
follow_core c (Seq a b) f = follow_core c b (follow_core c a f)
follow_core c (Mark p) f = land p f
follow_core c (Do ks) f = and_then f (act_all c ks)
follow_core c (To ps) f = and_then f (leap ps)
follow_core c (Choose g a b) f =
    and_then f (λ w. decide c g w (λ u. follow_core c a (Next u)) (λ u. follow_core c b (Next u)))
follow_core c (Loop h g a) f =
    and_then f (λ w. and_then
    (act_all c (arrival h) w)
    (λ v. decide c g v (λ u. and_then (follow_core c a (Next u)) (act_all c (turn h))) Next))

abbrev pub routine_run : Ctx → Routine → World → Answer
routine_run c r w =
    ended (and_then (land_all (follow_core c r.body (suppose_these c (scope c) r.given w))) (check_these c (scope c) r.wanted))

-- the checked ones of these clauses
abbrev pub demands_if : Bool → Demand → List Demand → List Demand
demands_if true d ds = ds
demands_if false d ds = d ∷ ds

abbrev pub demands : (ℕ → Spot) → List Clause → List Demand
demands spot [] = []
demands spot (k ∷ ks) =
    demands_if k.is_free (record { spot = spot k.id; candidate = k.candidate; says = k.says }) (demands spot ks)

-- which of these clauses are assumed
abbrev pub sayings_if : Bool → Saying → List Saying → List Saying
sayings_if true d ds = d ∷ ds
sayings_if false d ds = ds

abbrev pub sayings : (Bool → Bool) → List Clause → List Saying
sayings which [] = []
sayings which (k ∷ ks) =
    sayings_if (which k.is_free) (record { candidate = k.candidate; says = k.says }) (sayings which ks)

abbrev pub the_checked : Bool → Bool
the_checked is_free = if is_free then false else true

abbrev pub the_free : Bool → Bool
the_free is_free = is_free

abbrev pub each_one : Bool → Bool
each_one is_free = true

abbrev pub plain : List Ex → List Saying → List Saying
plain [] ds = ds
plain (e ∷ es) ds = record { candidate = None; says = e } ∷ plain es ds

-- the declarations alone: nothing that is resolved depends on a set of candidates, an interpretation or a state
abbrev pub still : Prog → List Decl → Ctx
still p ds =
    record {
      program = p;
      interp = record { constants = []; tables = [] };
      set = λ b. false;
      implementation = 0;
      variables = ds;
      before = [];
      loops = Cut;
    }

abbrev pub plan_of : Prog → Proc → Call → Plan
plan_of p q k =
    record {
      args = k.args;
      params = q.params;
      needs = demands (AtCall k.site) q.requires_;
      modifies = modified p q;
      results = q.results;
      gives = plain (wheres_at (still p []) (modified p q)) (plain (wheres_of q.results) (sayings each_one q.ensures_));
      takes = k.takes;
    }

abbrev pub calls_of : Prog → Option Proc → Call → List Cmd
calls_of p None k = []
calls_of p (Some q) k = Perform (plan_of p q k) ∷ []

abbrev pub head_of : List Clause → List Var → Head
head_of is xs =
    record {
      arriving = demands AtEntry is;
      forgotten = xs;
      held = sayings the_checked is;
      free = sayings the_free is;
      turned = demands AfterTurn is;
    }

abbrev pub to_each : List ℕ → List Point
to_each [] = []
to_each (l ∷ ls) = ToLabel l ∷ to_each ls

-- a body without its calls
abbrev pub desugar : Prog → List Decl → St → Core
desugar p ds Skip = Nil
desugar p ds (Then a b) = Seq (desugar p ds a) (desugar p ds b)
desugar p ds (Label l) = Mark (ToLabel l)
desugar p ds (Assert k) = Do (Check (demands AtAssert (k ∷ [])) ∷ [])
desugar p ds (Assume e) = Do (Suppose (plain (e ∷ []) []) ∷ [])
desugar p ds (Havoc xs) = Do (Forget xs ∷ Suppose (plain (wheres_at (still p ds) xs) []) ∷ [])
desugar p ds (Assign xs es) = Do (Put xs es ∷ [])
desugar p ds (Invoke k) = Do (calls_of p (procedure_of p k.procedure) k)
desugar p ds (If n g a b) = Seq (Choose g (desugar p ds a) (desugar p ds b)) (Mark (Behind n))
desugar p ds (While n g is a) =
    Seq (Loop (head_of is (targets (still p ds) a)) g (desugar p ds a)) (Mark (Behind n))
desugar p ds (Break n) = To (Behind n ∷ [])
desugar p ds (Goto ls) = To (to_each ls)
desugar p ds Return = To (ToEnd ∷ [])

abbrev pub frame_decls : Impl → Proc → List Decl
frame_decls m q = q.params ++ (q.results ++ m.locals)

-- an implementation without calls
abbrev pub routine_of : Prog → ℕ → Impl → Proc → Routine
routine_of p number m q =
    record {
      given = plain (wheres_of (p.globals ++ frame_decls m q)) (sayings each_one q.requires_);
      body = desugar p (frame_decls m q) m.body;
      wanted = demands (AtReturn number) q.ensures_;
    }
