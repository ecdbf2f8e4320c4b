-- Commands of the program: one assumption, and a call's plan.
use Rattle.std.proofs.Common.{◌≡◌, ℕ, zero, suc, Bool, true, false, List, [], ◌∷◌, map, refl, sym, ap, ◌∙◌}
use Rattle.std.specs.Prelude.{slice_get}
use Rattle.bg_ast.specs.Values as v
use Rattle.bg_ast.specs.Syntax as s
use Rattle.bg_ast.specs.Syntax.{Var}
use Rattle.bg_ast.specs.Resolved as r
use Rattle.bg_ast.specs.Meaning as m
use Rattle.bg_ast.specs.Execution.{AtCall}
use Rattle.bg_ast.specs.Views.{call_of, proc_of, declared_of, exs_in, placed_of, var_of}
use Rattle.bg_ast.specs.declared.resolved.Call.{Call}
use Rattle.bg_ast.specs.declared.resolved.Procedure.{Procedure}
use Rattle.bg_ast.specs.declared.resolved.Variable.{Variable}
use Rattle.bg_sense.specs.Flow.{Blocked}
use Rattle.bg_sense.specs.Variables.{wheres_of, wheres_at, wheres_in, modified}
use Rattle.bg_ast.specs.Values.{Val, Num, Truth, Element, Default, Entry, Ty}
use Rattle.bg_flow.specs.Core.{Demand, Saying, Plan, Perform, demands, sayings, plain, each_one, plan_of, still}
use Rattle.bg_blocks.specs.Views.{clauses_in, procedure_in}
use Rattle.bg_scalar.specs.Worths.{Seen, WorthOf, Is, Leaves, NoValue, worth}
use Rattle.bg_scalar.specs.Lists.{Are}
use Rattle.bg_replay.specs.Holds.{results_in}
use Rattle.bg_replay.specs.Moments.{Moment, Around, Out, and_so}
use Rattle.bg_replay.specs.Said.{Said, or_stops, then_said, Fine, checks, supposes, on_said}
use Rattle.bg_replay.specs.Acts.{forgotten, chosen, given_back, called_with, called, acts}
use Rattle.bg_replay.specs.Views.{said_by}
use Rattle.bg_replay.specs.declared.ending.Ending.{Ending}
use Rattle.bg_replay.specs.declared.ending.Ending.TheVariants as ends

-- a run that is over goes no further
pub so_over : (e : Ending) (n : Moment) (g : Moment → Out) → and_so (on_said (said_by e) n) g ≡ on_said (said_by e) n
so_over ends.Ended n g = refl
so_over ends.Blocked n g = refl
so_over (ends.Failed x) n g = refl
so_over ends.BadChoice n g = refl
so_over (ends.OutOfRange o) n g = refl
so_over ends.NoValues n g = refl

then_fine : (a : WorthOf) → then_said (or_stops Blocked a) Fine ≡ or_stops Blocked a
then_fine (Is (Truth true)) = refl
then_fine (Is (Truth false)) = refl
then_fine (Is (Num z)) = refl
then_fine (Is (Element u z)) = refl
then_fine (Is (Default d)) = refl
then_fine (Is (Entry q u n)) = refl
then_fine (Leaves o) = refl
then_fine NoValue = refl

-- one assumption
pub assumes_one : (set : ℕ → Bool) (w : Seen) (e : s.Ex) → supposes set w (plain (e ∷ []) []) ≡ or_stops Blocked (worth e w)
assumes_one set w e = then_fine (worth e w)

-- a resolved program has no `where` clauses
no_wheres_of : (named : ℕ → v.Ty) (ds : List r.Declared) → wheres_of (map (m.decl_of named) ds) ≡ []
no_wheres_of named [] = refl
no_wheres_of named (d ∷ ds) = no_wheres_of named ds

no_wheres_in : (named : ℕ → v.Ty) (ds : List r.Declared) (k : ℕ) → wheres_in (slice_get (map (m.decl_of named) ds) k) ≡ []
no_wheres_in named [] k = refl
no_wheres_in named (d ∷ ds) zero = refl
no_wheres_in named (d ∷ ds) (suc k) = no_wheres_in named ds k

no_wheres_at : (p : r.Program) (xs : List s.Var) → wheres_at (still (m.meaning_of p) []) xs ≡ []
no_wheres_at p [] = refl
no_wheres_at p (s.Global k ∷ xs) = rw (no_wheres_in (m.named_of p.types) p.globals k) (no_wheres_at p xs)
no_wheres_at p (s.Local k ∷ xs) = no_wheres_at p xs

gives_is : (xs ys : List s.Ex) (gives : List Saying) → xs ≡ [] → ys ≡ [] → plain xs (plain ys gives) ≡ gives
gives_is xs ys gives h k = rw (h, k) refl

-- a call, where no `where` clause is left
pub plan_called : (p : r.Program) (k : Call) (q : Procedure) (xs : List Variable) (a : Around) (n : Moment) → called a (m.exs_of (exs_in k.args.items)) (demands (AtCall k.site) (clauses_in q.requires_.items)) (map var_of xs) (results_in p (map declared_of q.results.items)) (sayings each_one (clauses_in q.ensures_.items)) (map m.variable_of (map placed_of k.takes.items)) n ≡ acts a (Perform (record (plan_of (m.meaning_of p) (procedure_in p (proc_of q)) (m.call_of (call_of k))) { modifies = map var_of xs })) n
plan_called p k q xs a n =
    let named = m.named_of p.types in
    let plan : Plan = plan_of (m.meaning_of p) (procedure_in p (proc_of q)) (m.call_of (call_of k)) in
    let says = sayings each_one (clauses_in q.ensures_.items) in
    let gives : plan.gives ≡ says =
    gives_is _ _ says (no_wheres_at p (modified (m.meaning_of p) (procedure_in p (proc_of q)))) (no_wheres_of named (map declared_of q.results.items)) in
    ap (λ (l : List Saying). called a plan.args plan.needs (map var_of xs) (results_in p (map declared_of q.results.items)) l plan.takes n) (sym gives)

-- a call whose clauses hold and whose globals are forgotten goes on with its results
pub call_goes : (a : Around) (args was : List Val) (needs : List Demand) (modifies : List Var) (results : List Ty) (gives : List Saying) (takes : List Var) (n u : Moment) (checked forgot : Said) → checked ≡ checks a.set (record { tables = a.tables; globals = n.globals; before = n.globals; frame = args }) needs → checked ≡ Fine → on_said forgot u ≡ forgotten a modifies n → forgot ≡ Fine → was ≡ n.globals → given_back (chosen results u.choices) a was args gives takes u ≡ called_with (Are args) a needs modifies results gives takes n
call_goes a args was needs modifies results gives takes n u checked forgot c cf f ff w =
    let back : Moment → Moment → Out = λ t v. given_back (chosen results v.choices) a t.globals args gives takes v in
    let on : Moment → Out = λ t. and_so (forgotten a modifies t) (back t) in
    ap (λ gs. given_back (chosen results u.choices) a gs args gives takes u) w
    ∙ (ap (λ x. and_so (on_said x u) (back n)) (sym ff)
    ∙ (ap (λ o. and_so o (back n)) f ∙ ap (λ x. and_so (on_said x n) on) (sym cf ∙ c)))

-- a call one of whose clauses doesn't hold is over
pub call_stops : (a : Around) (args : List Val) (needs : List Demand) (modifies : List Var) (results : List Ty) (gives : List Saying) (takes : List Var) (n : Moment) (e : Ending) (checked : Said) → checked ≡ checks a.set (record { tables = a.tables; globals = n.globals; before = n.globals; frame = args }) needs → checked ≡ said_by e → on_said (said_by e) n ≡ called_with (Are args) a needs modifies results gives takes n
call_stops a args needs modifies results gives takes n e checked c is =
    let back : Moment → Moment → Out = λ t v. given_back (chosen results v.choices) a t.globals args gives takes v in
    let on : Moment → Out = λ t. and_so (forgotten a modifies t) (back t) in
    sym (so_over e n on) ∙ ap (λ x. and_so (on_said x n) on) (sym is ∙ c)
