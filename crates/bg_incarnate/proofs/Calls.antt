-- A call over incarnations, step by step.
use Rattle.std.proofs.Common.{◌≡◌, ℕ, zero, suc, ◌+◌, List, [], ◌∷◌, ◌++◌, map, length, refl, sym, ap, ◌∙◌, append_assoc, arith}
use Rattle.std.specs.Prelude.{slice_get}
use Rattle.bg_ast.specs.Values as v
use Rattle.bg_ast.specs.Syntax as s
use Rattle.bg_ast.specs.Resolved as r
use Rattle.bg_ast.specs.Meaning as m
use Rattle.bg_ast.specs.Views.{call_of, proc_of, declared_of, exs_in, placed_of, var_of}
use Rattle.bg_ast.specs.Execution.{AtCall}
use Rattle.bg_ast.specs.declared.resolved.Declared.{Declared}
use Rattle.bg_ast.specs.declared.resolved.Call.{Call}
use Rattle.bg_ast.specs.declared.resolved.Procedure.{Procedure}
use Rattle.bg_ast.specs.declared.resolved.Variable.{Variable}
use Rattle.bg_sense.specs.Variables.{wheres_of, wheres_at, wheres_in, count_from, modified}
use Rattle.bg_flow.specs.Core.{Demand, Saying, Plan, Perform, demands, sayings, plain, each_one, still}
use Rattle.bg_blocks.specs.Views.{clauses_in, procedure_in}
use Rattle.bg_passive.specs.Passive.{PassiveCmd}
use Rattle.bg_passive.specs.Incarnations.{Env, Passed, pass, pass_call, set_to, each_ex, after_exs, hold_next, hold_all, after_vars, each_decl, after_decls, claims_in, supposes_in}
use Rattle.bg_incarnate.specs.Views.{onto, plan_in}
use Rattle.bg_incarnate.proofs.Passing.{same_passed}

-- a resolved program has no `where` clauses
no_wheres_of : (named : ℕ → v.Ty) (ds : List r.Declared) → wheres_of (map (m.decl_of named) ds) ≡ []
no_wheres_of named [] = refl
no_wheres_of named (d ∷ ds) = no_wheres_of named ds

no_wheres_in : (named : ℕ → v.Ty) (ds : List r.Declared) (k : ℕ) → wheres_in (slice_get (map (m.decl_of named) ds) k) ≡ []
no_wheres_in named [] k = refl
no_wheres_in named (d ∷ ds) zero = refl
no_wheres_in named (d ∷ ds) (suc k) = no_wheres_in named ds k

no_wheres_at : (p : r.Program) (xs : List s.Var) → wheres_at (still (m.meaning_of p) []) xs ≡ []
no_wheres_at p [] = refl
no_wheres_at p (s.Global k ∷ xs) = rw (no_wheres_in (m.named_of p.types) p.globals k) (no_wheres_at p xs)
no_wheres_at p (s.Local k ∷ xs) = no_wheres_at p xs

gives_is : (xs ys : List s.Ex) (gives : List Saying) → xs ≡ [] → ys ≡ [] → plain xs (plain ys gives) ≡ gives
gives_is xs ys gives h k = rw (h, k) refl

each_result : (named : ℕ → v.Ty) (rs : List Declared) (n : ℕ) → each_decl n (map (m.decl_of named) (map declared_of rs)) ≡ count_from n (length rs)
each_result named [] n = refl
each_result named (d ∷ rs) n = ap (λ l. n ∷ l) (each_result named rs (suc n))

after_result : (named : ℕ → v.Ty) (rs : List Declared) (n : ℕ) → after_decls (map (m.decl_of named) (map declared_of rs)) n ≡ n + length rs
after_result named [] n = omega arith
after_result named (d ∷ rs) n = let h = after_result named rs (suc n) in omega (arith, h)

-- a call, where no `where` clause is left and so many results are declared
abbrev pub called : s.Exs → List Demand → List s.Var → List Saying → List s.Var → ℕ → Env → ℕ → Passed
called args needs modifies gives takes many v n =
    let n1 = after_exs args n in
    let v2 = hold_next modifies n1 v in
    let n2 = after_vars modifies n1 in
    record {
      cmds =
          set_to n args v
          ++ (claims_in (record { globals = v.globals; before = v.globals; frame = each_ex n args }) needs
          ++ supposes_in (record { globals = v2.globals; before = v.globals; frame = each_ex n args ++ count_from n2 many }) gives);
      env = hold_all takes (count_from n2 many) v2;
      next = n2 + many;
    }

call_is : (k : Plan) (many : ℕ) (gives : List Saying) (v : Env) (n : ℕ) → ((j : ℕ) → each_decl j k.results ≡ count_from j many) → ((j : ℕ) → after_decls k.results j ≡ j + many) → k.gives ≡ gives → pass_call k v n ≡ called k.args k.needs k.modifies gives k.takes many v n
call_is k many gives v n each after g = rw (each (after_vars k.modifies (after_exs k.args n)), after (after_vars k.modifies (after_exs k.args n)), g) refl

pub plan_is : (p : r.Program) (k : Call) (q : Procedure) (xs : List Variable) (v : Env) (n : ℕ) → pass (Perform (plan_in p (call_of k) (proc_of q) xs)) v n ≡ called (m.exs_of (exs_in k.args.items)) (demands (AtCall k.site) (clauses_in q.requires_.items)) (map var_of xs) (sayings each_one (clauses_in q.ensures_.items)) (map m.variable_of (map placed_of k.takes.items)) (length q.results.items) v n
plan_is p k q xs v n =
    let named = m.named_of p.types in
    call_is (plan_in p (call_of k) (proc_of q) xs) (length q.results.items) (sayings each_one (clauses_in q.ensures_.items)) v n
    (each_result named q.results.items)
    (after_result named q.results.items)
    (gives_is _ _ _ (no_wheres_at p (modified (m.meaning_of p) (procedure_in p (proc_of q)))) (no_wheres_of named (map declared_of q.results.items)))

-- the steps of a call, in order
pub called_steps : (A : s.Exs) (needs : List Demand) (M : List s.Var) (E : List Saying) (takes : List s.Var) (many : ℕ) (c0 c1 c2 c3 : List PassiveCmd) (v v2 v3 : Env) (n0 n1 n2 n3 : ℕ) (args was frame made : List ℕ) → c1 ≡ c0 ++ set_to n0 A v → args ≡ each_ex n0 A → n1 ≡ after_exs A n0 → was ≡ v.globals → c2 ≡ c1 ++ claims_in (record { globals = was; before = was; frame = args }) needs → v2 ≡ hold_next M n1 v → n2 ≡ after_vars M n1 → made ≡ count_from n2 many → frame ≡ args ++ count_from n2 many → n3 ≡ n2 + many → c3 ≡ c2 ++ supposes_in (record { globals = v2.globals; before = was; frame = frame }) E → v3 ≡ hold_all takes made v2 → (let a : Passed = record { cmds = c3; env = v3; next = n3 } in a) ≡ onto (called A needs M E takes many) (record { cmds = c0; env = v; next = n0 })
called_steps A needs M E takes many c0 c1 c2 c3 v v2 v3 n0 n1 n2 n3 args was frame made h1 h2 h3 h4 h5 h6 h7 h8 h9 h10 h11 h12 =
    let set = set_to n0 A v in
    let checked = claims_in (record { globals = v.globals; before = v.globals; frame = each_ex n0 A }) needs in
    let given = supposes_in (record { globals = (hold_next M (after_exs A n0) v).globals; before = v.globals; frame = each_ex n0 A ++ count_from (after_vars M (after_exs A n0)) many }) E in
    same_passed _ _ _ _ _ _
    (h11 ∙ rw (h5, h1, h9, h6, h4, h2, h7, h3) (append_assoc (c0 ++ set) checked given ∙ append_assoc c0 set (checked ++ given)))
    (h12 ∙ rw (h8, h6, h7, h3) refl)
    (h10 ∙ rw (h7, h3) refl)

pub onto_plan : (p : r.Program) (k : Call) (q : Procedure) (xs : List Variable) (s : Passed) → onto (called (m.exs_of (exs_in k.args.items)) (demands (AtCall k.site) (clauses_in q.requires_.items)) (map var_of xs) (sayings each_one (clauses_in q.ensures_.items)) (map m.variable_of (map placed_of k.takes.items)) (length q.results.items)) s ≡ onto (pass (Perform (plan_in p (call_of k) (proc_of q) xs))) s
onto_plan p k q xs s =
    ap (λ (d : Passed). (let r : Passed = record { cmds = s.cmds ++ d.cmds; env = d.env; next = d.next } in r)) (sym (plan_is p k q xs s.env s.next))
