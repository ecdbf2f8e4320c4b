-- Commands whose operations stay within the range do what they do.
use Rattle.std.proofs.Common.{◌≡◌, ℕ, zero, suc, Bool, true, false, List, [], ◌∷◌, Some, None, refl, ap, ◌∙◌}
use Rattle.std.specs.Prelude.{if◌then◌else◌, slice_get}
use Rattle.bg_ast.specs.Values.{Val, Num, Truth, Element, Default, Entry, Ty, is_of, truth_of}
use Rattle.bg_ast.specs.Syntax.{Var, Global, Local, Decl, Prog}
use Rattle.bg_ast.specs.Execution as e
use Rattle.bg_ast.specs.Execution.{Choice, Branch, Chosen}
use Rattle.bg_sense.specs.Eval.{Scope, ev, functions_of}
use Rattle.bg_sense.specs.Flow as f
use Rattle.bg_sense.specs.Flow.{World, Blocked, Failed, BadChoice, Flow, Next, and_then}
use Rattle.bg_sense.specs.Types.{types_of}
use Rattle.bg_sense.specs.Context.{Cut, Ctx}
use Rattle.bg_sense.specs.Clauses.{ensure, suppose, is_kept}
use Rattle.bg_sense.specs.Variables as v
use Rattle.bg_sense.specs.Choices.{choose, choose_from, forget_all}
use Rattle.bg_flow.specs.Core.{Demand, Saying, check_that, check_these, suppose_this, suppose_these}
use Rattle.bg_scalar.specs.Worths as worths
use Rattle.bg_scalar.specs.Worths.{Seen, WorthOf, worth}
use Rattle.bg_scalar.specs.Values.{MeanTables, scope_in}
use Rattle.bg_scalar.proofs.Agreeing as scalar
use Rattle.bg_replay.specs.Holds.{type_at, variable_type}
use Rattle.bg_replay.specs.Moments.{Moment, Around, Out, Goes, Over, Outside, Unknown, and_so, world_of}
use Rattle.bg_replay.specs.Said.{Said, Fine, Stops, Leaves, Unsaid, then_said, on_said, or_stops, check_one, checks, suppose_one, supposes}
use Rattle.bg_replay.specs.Acts.{taken, behind_one, choose_by, choose_for, put, put_each, forgotten}

-- how a part leaves off is how it leaves off in the execution, where that is known
abbrev pub Agrees : Out → Flow → Type 0
Agrees (Goes m) w = w ≡ Next (world_of m)
Agrees (Over a) w = w ≡ f.Over a
Agrees (Outside o) w = Unit {0}
Agrees Unknown w = Unit {0}

pub so_then : (o : Out) (w : Flow) (g : Moment → Out) (h : World → Flow) → Agrees o w → ((m : Moment) → Agrees (g m) (h (world_of m))) → Agrees (and_so o g) (and_then w h)
so_then (Goes m) w g h a k = rw a (k m)
so_then (Over x) w g h a k = rw a refl
so_then (Outside o) w g h a k = tt
so_then Unknown w g h a k = tt

-- a part that agrees, before others
abbrev Said_is : Said → Flow → Moment → Type 0
Said_is s w m = Agrees (on_said s m) w

said_then : (s t : Said) (w : Flow) (h : World → Flow) (m : Moment) → Said_is s w m → Said_is t (h (world_of m)) m → Said_is (then_said s t) (and_then w h) m
said_then Fine t w h m a k = rw a k
said_then (Stops x) t w h m a k = rw a refl
said_then (Leaves o) t w h m a k = tt
said_then Unsaid t w h m a k = tt

ensure_is : (o : WorthOf) (x : Val) (s : e.Spot) (m : Moment) → scalar.Agrees o x → Said_is (or_stops (Failed s) o) (ensure (truth_of x) s (world_of m)) m
ensure_is (worths.Is (Truth true)) x s m h = rw h refl
ensure_is (worths.Is (Truth false)) x s m h = rw h refl
ensure_is (worths.Is (Num z)) x s m h = tt
ensure_is (worths.Is (Element u z)) x s m h = tt
ensure_is (worths.Is (Default d)) x s m h = tt
ensure_is (worths.Is (Entry q u n)) x s m h = tt
ensure_is (worths.Leaves o) x s m h = tt
ensure_is worths.NoValue x s m h = tt

suppose_is : (o : WorthOf) (x : Val) (m : Moment) → scalar.Agrees o x → Said_is (or_stops Blocked o) (suppose (truth_of x) (world_of m)) m
suppose_is (worths.Is (Truth true)) x m h = rw h refl
suppose_is (worths.Is (Truth false)) x m h = rw h refl
suppose_is (worths.Is (Num z)) x m h = tt
suppose_is (worths.Is (Element u z)) x m h = tt
suppose_is (worths.Is (Default d)) x m h = tt
suppose_is (worths.Is (Entry q u n)) x m h = tt
suppose_is (worths.Leaves o) x m h = tt
suppose_is worths.NoValue x m h = tt

if_is : (b : Bool) (s : Said) (w : Flow) (m : Moment) → Said_is s w m → Said_is (if b then s else Fine) (if b then w else Next (world_of m)) m
if_is true s w m h = h
if_is false s w m h = refl

put_is : (x : Var) (y : Val) (m : Moment) → v.put x y (world_of m) ≡ world_of (put x y m)
put_is (Global x) y m = refl
put_is (Local x) y m = refl

pub put_each_is : (xs : List Var) (ys : List Val) (m : Moment) → v.put_all xs ys (world_of m) ≡ world_of (put_each xs ys m)
put_each_is [] ys m = refl
put_each_is (x ∷ xs) [] m = refl
put_each_is (x ∷ xs) (y ∷ ys) m = ap (v.put_all xs ys) (put_is x y m) ∙ put_each_is xs ys (put x y m)

take_if : (b : Bool) (x : Val) (m : Moment) (g : Val → Moment → Out) (w : Flow) → Agrees (g x m) w → Agrees (choose_by (if b then Some x else None) m g) (if b then w else f.Over BadChoice)
take_if true x m g w k = k
take_if false x m g w k = refl

choose_from_is : (t : Ty) (cs : List Choice) (m : Moment) (g : Val → Moment → Out) (h : Val → World → Flow) → ((y : Val) (n : Moment) → Agrees (g y n) (h y (world_of n))) → Agrees (choose_by (taken t cs) (record m { choices = behind_one cs }) g) (choose_from cs t (world_of m) h)
choose_from_is t [] m g h k = refl
choose_from_is t (Branch j ∷ cs) m g h k = refl
choose_from_is t (Chosen x ∷ cs) m g h k =
    let n : Moment = record m { choices = cs } in
    take_if (is_of t x) x n g (h x (world_of n)) (k x n)

choose_is : (t : Ty) (m : Moment) (g : Val → Moment → Out) (h : Val → World → Flow) → ((y : Val) (n : Moment) → Agrees (g y n) (h y (world_of n))) → Agrees (choose_for t m g) (choose t (world_of m) h)
choose_is t m g h k = choose_from_is t m.choices m g h k

-- what is declared with this number
pub type_is : (ds : List Decl) (x : ℕ) → type_at (types_of ds) x ≡ v.type_in (slice_get ds x)
type_is [] x = refl
type_is (d ∷ ds) zero = refl
type_is (d ∷ ds) (suc x) = type_is ds x

module _ (p : Prog) (i : e.Interp) (number : ℕ) (ds : List Decl) (a : Around) where
  -- what stays the same during the run
  abbrev pub ctx : Ctx
  ctx =
      record {
        program = p;
        interp = i;
        set = a.set;
        implementation = number;
        variables = ds;
        before = a.before;
        loops = Cut;
      }

  abbrev here : Seen → Scope
  here = scope_in (functions_of p i) i.constants

  pub checks_are : (s : Seen) → MeanTables (functions_of p i) s.tables → (sees : World → Scope) (qs : List Demand) (m : Moment) → sees (world_of m) ≡ here s → Said_is (checks a.set s qs) (check_these ctx sees qs (world_of m)) m
  checks_are s mean sees [] m h = refl
  checks_are s mean sees (d ∷ qs) m h =
      said_then (check_one a.set s d) (checks a.set s qs) (check_that ctx sees d (world_of m)) (check_these ctx sees qs) m
      (if_is (is_kept a.set d.candidate) (or_stops (Failed d.spot) (worth d.says s)) (ensure (truth_of (ev d.says (sees (world_of m)))) d.spot (world_of m)) m
      (rw h (ensure_is (worth d.says s) (ev d.says (here s)) d.spot m (scalar.agrees (functions_of p i) i.constants d.says s mean))))
      (checks_are s mean sees qs m h)

  pub supposes_are : (s : Seen) → MeanTables (functions_of p i) s.tables → (sees : World → Scope) (qs : List Saying) (m : Moment) → sees (world_of m) ≡ here s → Said_is (supposes a.set s qs) (suppose_these ctx sees qs (world_of m)) m
  supposes_are s mean sees [] m h = refl
  supposes_are s mean sees (d ∷ qs) m h =
      said_then (suppose_one a.set s d) (supposes a.set s qs) (suppose_this ctx sees d (world_of m)) (suppose_these ctx sees qs) m
      (if_is (is_kept a.set d.candidate) (or_stops Blocked (worth d.says s)) (suppose (truth_of (ev d.says (sees (world_of m)))) (world_of m)) m
      (rw h (suppose_is (worth d.says s) (ev d.says (here s)) m (scalar.agrees (functions_of p i) i.constants d.says s mean))))
      (supposes_are s mean sees qs m h)

  -- variables hold what their types stand for
  abbrev pub Declares : Type 0
  Declares = (x : Var) → variable_type a x ≡ v.type_in (v.decl_of ctx x)

  pub forgets : Declares → (xs : List Var) (m : Moment) → Agrees (forgotten a xs m) (forget_all ctx xs (world_of m))
  forgets h [] m = refl
  forgets h (x ∷ xs) m =
      rw (h x)
      (choose_is (v.type_in (v.decl_of ctx x)) m (λ y n. forgotten a xs (put x y n)) (λ y u. forget_all ctx xs (v.put x y u))
      (λ y n. rw (put_is x y n) (forgets h xs (put x y n))))

  -- a program and declarations of the frame
  pub declares : a.globals ≡ types_of p.globals → a.frame ≡ types_of ds → Declares
  declares g h (Global x) = ap (λ l. type_at l x) g ∙ type_is p.globals x
  declares g h (Local x) = ap (λ l. type_at l x) h ∙ type_is ds x
