-- What commands have of their block's passive commands and of the incarnations.
use Rattle.std.proofs.Common.{◌≡◌, ℕ, zero, suc, ◌+◌, List, [], ◌∷◌, ◌++◌, length, map, refl, sym, ap, ◌∙◌, arith, length-append}
use Rattle.std.specs.Prelude.{min}
use Rattle.std.proofs.lemmas.List.{length-map}
use Rattle.bg_ast.specs.Values as v
use Rattle.bg_ast.specs.Values.{Val}
use Rattle.bg_ast.specs.Syntax as s
use Rattle.bg_ast.specs.Resolved as r
use Rattle.bg_ast.specs.Meaning as m
use Rattle.bg_ast.specs.Views.{call_of, proc_of, declared_of, exs_in, placed_of, var_of, target_of}
use Rattle.bg_ast.specs.Execution as e
use Rattle.bg_ast.specs.Execution.{AtCall}
use Rattle.bg_ast.specs.declared.resolved.Clause.{Clause}
use Rattle.bg_ast.specs.declared.resolved.Expr.{Expr}
use Rattle.bg_ast.specs.declared.resolved.Target.{Target}
use Rattle.bg_ast.specs.declared.resolved.Call.{Call}
use Rattle.bg_ast.specs.declared.resolved.Procedure.{Procedure}
use Rattle.bg_ast.specs.declared.resolved.Variable.{Variable}
use Rattle.bg_flow.specs.Core.{Plan, Forget, Put, Perform, demands, sayings, each_one}
use Rattle.bg_blocks.specs.Views.{clauses_in}
use Rattle.bg_passive.specs.Incarnations.{Env, Passed, hold_next, after_vars, after_exs, each_ex, claims_in, supposes_in, set_to, pass}
use Rattle.bg_passive.specs.ReadBack.{vars_choices, decls_choices, cmd_choices}
use Rattle.bg_sense.specs.Eval.{value_at}
use Rattle.bg_sense.specs.Variables.{count_from}
use Rattle.bg_incarnate.specs.Even.{how_many}
use Rattle.bg_incarnate.specs.Views.{plan_in}
use Rattle.bg_incarnate.proofs.Calls.{called, plan_is}
use Rattle.bg_model.specs.declared.share.Share.{Share}
use Rattle.bg_model.specs.Fronts.{chosen_from}
use Rattle.bg_model.specs.Turns.{width, next_after}
use Rattle.bg_model.specs.Shares.{IsShare, assigned}
use Rattle.bg_model.proofs.Aligned.{length_claims, length_supposes, length_sets, width_is}

vars_next : (xs : List s.Var) (n : ℕ) → after_vars xs n ≡ n + length xs
vars_next [] n = omega arith
vars_next (x ∷ xs) n = let h = vars_next xs (suc n) in omega (arith, h)

exs_next : (es : s.Exs) (n : ℕ) → after_exs es n ≡ n + how_many es
exs_next s.NoMore n = omega arith
exs_next (s.More e es) n = let h = exs_next es (suc n) in omega (arith, h)

plus_none : (n : ℕ) → n + 0 ≡ n
plus_none n = omega arith

-- what variables and results choose are the values of incarnations in a row
vars_chosen : (xs : List s.Var) (n : ℕ) (vs : List Val) → vars_choices xs n vs ≡ chosen_from vs n (length xs)
vars_chosen [] n vs = refl
vars_chosen (x ∷ xs) n vs = ap (λ l. e.Chosen (value_at vs n) ∷ l) (vars_chosen xs (suc n) vs)

decls_chosen : (ds : List s.Decl) (n : ℕ) (vs : List Val) → decls_choices ds n vs ≡ chosen_from vs n (length ds)
decls_chosen [] n vs = refl
decls_chosen (d ∷ ds) n vs = ap (λ l. e.Chosen (value_at vs n) ∷ l) (decls_chosen ds (suc n) vs)

-- variables that take any values
pub forget_is : (xs : List Variable) (n : ℕ) → n ≡ length xs → IsShare (Forget (map var_of xs)) (record { cmds = 0; skips = 0; chooses = n })
forget_is xs n e =
    let l : length (map var_of xs) ≡ n = length-map xs var_of ∙ sym e in
    record {
      cmds = refl;
      next = λ k. let h = vars_next (map var_of xs) k in omega (arith, h, l);
      chosen = λ vs k. vars_chosen (map var_of xs) k vs ∙ (ap (chosen_from vs k) l ∙ ap (λ j. chosen_from vs j n) (sym (plus_none k)));
    }

exs_many : (es : List Expr) → how_many (m.exs_of (exs_in es)) ≡ length es
exs_many [] = refl
exs_many (e ∷ es) = ap (λ n. suc n) (exs_many es)

values_many : (ts : List Target) (es : List Expr) → how_many (m.values_of (map target_of ts) (exs_in es)) ≡ min (length ts) (length es)
values_many [] es = omega arith
values_many (t ∷ ts) [] = omega arith
values_many (t ∷ ts) (e ∷ es) = let h = values_many ts es in omega (arith, h)

-- an assignment
pub put_is : (xs : List s.Var) (ts : List Target) (es : List Expr) (n : ℕ) → n ≡ min (length ts) (length es) → IsShare (Put xs (m.values_of (map target_of ts) (exs_in es))) (assigned n)
put_is xs ts es n e =
    let l : how_many (m.values_of (map target_of ts) (exs_in es)) ≡ n = values_many ts es ∙ sym e in
    record {
      cmds = l;
      next = λ k. let h = exs_next (m.values_of (map target_of ts) (exs_in es)) k in omega (arith, h, l);
      chosen = λ vs k. refl;
    }

says_many : (cs : List Clause) → length (sayings each_one (clauses_in cs)) ≡ length cs
says_many [] = refl
says_many (c ∷ cs) = ap (λ n. suc n) (says_many cs)

chosen_append : (vs : List Val) (n a b : ℕ) → chosen_from vs n a ++ chosen_from vs (n + a) b ≡ chosen_from vs n (a + b)
chosen_append vs n zero b =
    ap (λ j. chosen_from vs j b) (plus_none n) ∙ ap (chosen_from vs n) (let h : b ≡ 0 + b = omega arith in h)
chosen_append vs n (suc a) b =
    let h : n + suc a ≡ suc n + a = omega arith in
    let k : suc (a + b) ≡ suc a + b = omega arith in
    ap (λ j. chosen_from vs n (suc a) ++ chosen_from vs j b) h
    ∙ ap (λ l. e.Chosen (value_at vs n) ∷ l) (chosen_append vs (suc n) a b)
    ∙ ap (chosen_from vs n) k

two_chosen : (vs : List Val) (n1 n2 a b j c : ℕ) → n1 ≡ j → n2 ≡ n1 + a → a + b ≡ c → chosen_from vs n1 a ++ chosen_from vs n2 b ≡ chosen_from vs j c
two_chosen vs n1 n2 a b j c e f g =
    ap (λ n. chosen_from vs n1 a ++ chosen_from vs n b) f
    ∙ (chosen_append vs n1 a b ∙ (ap (chosen_from vs n1) g ∙ ap (λ n. chosen_from vs n c) e))

-- a call
pub call_is : (p : r.Program) (k : Call) (q : Procedure) (xs : List Variable) (sh : Share) (n : ℕ) → length (demands (AtCall k.site) (clauses_in q.requires_.items)) ≡ n → sh.skips ≡ length k.args.items → sh.cmds ≡ length k.args.items + n + length q.ensures_.items → sh.chooses ≡ length xs + length q.results.items → IsShare (Perform (plan_in p (call_of k) (proc_of q) xs)) sh
call_is p k q xs sh n needs skips cmds chooses =
    record { cmds = width_of; next = next_of; chosen = chosen_of }
  where
    plan : Plan
    plan = plan_in p (call_of k) (proc_of q) xs

    args : s.Exs
    args = m.exs_of (exs_in k.args.items)

    no_env : Env
    no_env = record { globals = []; before = []; frame = [] }

    made : ℕ → Passed
    made j =
        called args (demands (AtCall k.site) (clauses_in q.requires_.items)) (map var_of xs) (sayings each_one (clauses_in q.ensures_.items)) (map m.variable_of (map placed_of k.takes.items)) (length q.results.items) no_env j

    named : ℕ → v.Ty
    named = m.named_of p.types

    env : ℕ → Env
    env j =
        record {
          globals = (hold_next (map var_of xs) (after_exs args j) no_env).globals;
          before = [];
          frame = each_ex j args ++ count_from (after_vars (map var_of xs) (after_exs args j)) (length q.results.items);
        }

    vc : Env
    vc = record { globals = []; before = []; frame = each_ex 0 args }

    width_of : width (Perform plan) ≡ sh.cmds
    width_of =
        let ds = demands (AtCall k.site) (clauses_in q.requires_.items) in
        let ss = sayings each_one (clauses_in q.ensures_.items) in
        let a : length (pass (Perform plan) no_env 0).cmds ≡ width (Perform plan) = width_is (Perform plan) no_env 0 in
        let b : length (pass (Perform plan) no_env 0).cmds ≡ length (made 0).cmds = ap (λ (d : Passed). length d.cmds) (plan_is p k q xs no_env 0) in
        let l1 = length-append (set_to 0 args no_env) (claims_in vc ds ++ supposes_in (env 0) ss) in
        let l2 = length-append (claims_in vc ds) (supposes_in (env 0) ss) in
        let l3 = length_sets 0 args no_env in
        let l4 = length_claims vc ds in
        let l5 = length_supposes (env 0) ss in
        let l6 = exs_many k.args.items in
        let l7 = says_many q.ensures_.items in
        omega (arith, a, b, l1, l2, l3, l4, l5, l6, l7, needs, cmds)

    next_of : (j : ℕ) → next_after (Perform plan) j ≡ j + sh.skips + sh.chooses
    next_of j =
        let b : next_after (Perform plan) j ≡ (made j).next = ap (λ (d : Passed). d.next) (plan_is p k q xs no_env j) in
        let h1 = exs_next args j in
        let h2 = vars_next (map var_of xs) (after_exs args j) in
        let h3 = exs_many k.args.items in
        let h4 = length-map xs var_of in
        omega (arith, b, h1, h2, h3, h4, skips, chooses)

    chosen_of : (vs : List Val) (j : ℕ) → cmd_choices (Perform plan) j vs ≡ chosen_from vs (j + sh.skips) sh.chooses
    chosen_of vs j =
        let h1 = exs_next args j in
        let h2 = vars_next (map var_of xs) (after_exs args j) in
        let h3 = exs_many k.args.items in
        let h4 = length-map xs var_of in
        let h5 = length-map (map declared_of q.results.items) (m.decl_of named) in
        let h6 = length-map q.results.items declared_of in
        let n1 = after_exs args j in
        let n2 = after_vars (map var_of xs) n1 in
        let results = map (m.decl_of named) (map declared_of q.results.items) in
        ap (λ l. l ++ decls_choices results n2 vs) (vars_chosen (map var_of xs) n1 vs)
        ∙ ap (λ l. chosen_from vs n1 (length (map var_of xs)) ++ l) (decls_chosen results n2 vs)
        ∙ two_chosen vs n1 n2 (length (map var_of xs)) (length results) (j + sh.skips) sh.chooses (omega (arith, h1, h3, skips)) h2 (omega (arith, h4, h5, h6, chooses))
