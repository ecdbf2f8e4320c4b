-- Programs over values, without constants, axioms and bodies of functions: what passes a test of types and one of expressions.
use Rattle.std.specs.Prelude.{ℕ, nat_lt, Bool, true, false, not, ◌&&◌, List, [], ◌∷◌, Option, Some, None}
use Rattle.std.specs.List.{list_all}
use Rattle.bg_ast.specs.Values.{Ty, IntTy, BoolTy, UserTy, MapTy}
use Rattle.bg_ast.specs.Syntax.{Ex, Exs, NoMore, More, Clause, Guard, Star, Test, St, Skip, Then, Label, Assert, Assume, Havoc, Assign, Invoke, If, While, Break, Goto, Return, Decl, Fun, Proc, Impl, Prog}
use Rattle.bg_sense.specs.Tables.{has_body}

abbrev pub is_empty : {A : Type 0} → List A → Bool
is_empty [] = true
is_empty (x ∷ xs) = false

-- there is no candidate, or it is one of the first n
abbrev pub is_declared : ℕ → Option ℕ → Bool
is_declared n None = true
is_declared n (Some b) = nat_lt b n

-- each of a list passes
abbrev pub exs_pass : (Ex → Bool) → Exs → Bool
exs_pass ex NoMore = true
exs_pass ex (More e es) = ex e && exs_pass ex es

-- a candidate that guards the clause is one of the first n, and what the clause says passes
abbrev pub clause_passes : ℕ → (Ex → Bool) → Clause → Bool
clause_passes n ex k = is_declared n k.candidate && ex k.says

-- a free choice, or a test that passes
abbrev pub guard_passes : (Ex → Bool) → Guard → Bool
guard_passes ex Star = true
guard_passes ex (Test e) = ex e

-- each expression of the statement passes, and each of its clauses
abbrev pub st_passes : ℕ → (Ex → Bool) → St → Bool
st_passes n ex Skip = true
st_passes n ex (Then a b) = st_passes n ex a && st_passes n ex b
st_passes n ex (Label l) = true
st_passes n ex (Assert k) = clause_passes n ex k
st_passes n ex (Assume e) = ex e
st_passes n ex (Havoc xs) = true
st_passes n ex (Assign xs es) = exs_pass ex es
st_passes n ex (Invoke k) = exs_pass ex k.args
st_passes n ex (If t g a b) = guard_passes ex g && (st_passes n ex a && st_passes n ex b)
st_passes n ex (While t g invariants a) =
    guard_passes ex g && (list_all (clause_passes n ex) invariants && st_passes n ex a)
st_passes n ex (Break t) = true
st_passes n ex (Goto ls) = true
st_passes n ex Return = true

-- a variable of a type that passes, and what its `where` clauses say
abbrev pub decl_passes : (Ty → Bool) → (Ex → Bool) → Decl → Bool
decl_passes ty ex d = ty d.ty && list_all ex d.wheres

abbrev pub decls_pass : (Ty → Bool) → (Ex → Bool) → List Decl → Bool
decls_pass ty ex ds = list_all (decl_passes ty ex) ds

abbrev pub proc_passes : ℕ → (Ty → Bool) → (Ex → Bool) → Proc → Bool
proc_passes n ty ex q =
    decls_pass ty ex q.params
    && (decls_pass ty ex q.results && (list_all (clause_passes n ex) q.requires_ && list_all (clause_passes n ex) q.ensures_))

abbrev pub impl_passes : ℕ → (Ty → Bool) → (Ex → Bool) → Impl → Bool
impl_passes n ty ex m = decls_pass ty ex m.locals && st_passes n ex m.body

-- a function without a body, between types that pass
abbrev pub fun_passes : (Ty → Bool) → Fun → Bool
fun_passes ty f = list_all ty f.params && (ty f.result && not (has_body f.body))

-- variables, functions, procedures and implementations that pass, candidates, and nothing else
abbrev pub passes : (Ty → Bool) → (Ex → Bool) → Prog → Bool
passes ty ex p =
    decls_pass ty ex p.globals
    && (is_empty p.constants && (list_all (fun_passes ty) p.functions && (is_empty p.axioms && (list_all (proc_passes p.candidates ty ex) p.procedures && list_all (impl_passes p.candidates ty ex) p.implementations))))

-- a type of which each map has an index
abbrev pub is_value_type : Ty → Bool
is_value_type BoolTy = true
is_value_type IntTy = true
is_value_type (UserTy u) = true
is_value_type (MapTy ks t) = not (is_empty ks) && is_value_type t

-- each expression
abbrev pub any_ex : Ex → Bool
any_ex e = true

-- a program of variables, functions without a body, procedures and implementations, in which each map has an index
abbrev pub is_over_values : Prog → Bool
is_over_values p = passes is_value_type any_ex p
