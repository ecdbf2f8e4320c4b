-- The program that a resolved program means: each form of writing is taken to the few forms that have a meaning.
use Rattle.std.specs.Prelude.{ℕ, zero, suc, List, [], ◌∷◌, map, length, Option, Some, None, slice_get}
use Rattle.bg_base.specs.declared.pos.Pos.{Pos}
use Rattle.bg_text.specs.declared.expr.InfixSign.{InfixSign}
use Rattle.bg_text.specs.declared.expr.InfixSign.TheVariants as op
use Rattle.bg_text.specs.declared.expr.PrefixSign.{PrefixSign}
use Rattle.bg_text.specs.declared.expr.PrefixSign.TheVariants as prefix
use Rattle.bg_text.specs.declared.expr.TreePrefix.{TreePrefix}
use Rattle.bg_ast.specs.Values as v
use Rattle.bg_ast.specs.Syntax as s
use Rattle.bg_ast.specs.Resolved as r

-- an index type: `int`, or a user type; others are none, and a fault
abbrev pub key_of : v.Ty → v.KeyType
key_of (v.UserTy t) = v.UserKey t
key_of _ = v.IntKey

abbrev mutual
  -- a written type, where each declared one is what the first argument says
  pub type_in : (ℕ → v.Ty) → r.Ty → v.Ty
  type_in named (r.IntType p) = v.IntTy
  type_in named (r.BoolType p) = v.BoolTy
  type_in named (r.DeclaredType p k) = named k
  type_in named (r.InParens p t) = type_in named t
  type_in named (r.MapType is t) = map_type named is (type_in named t)

  -- a row of map brackets: the first is the outermost map
  pub map_type : (ℕ → v.Ty) → r.Indices → v.Ty → v.Ty
  map_type named r.NoIndex t = t
  map_type named (r.Index p ts is) t = v.MapTy (keys_in named ts) (map_type named is t)

  pub keys_in : (ℕ → v.Ty) → r.Tys → List v.KeyType
  keys_in named r.NoType = []
  keys_in named (r.OneType t ts) = key_of (type_in named t) ∷ keys_in named ts

abbrev pub synonym_by : v.Ty → (r.Ty → v.Ty) → Option r.Ty → v.Ty
synonym_by other read None = other
synonym_by other read (Some t) = read t

abbrev pub synonym_or : v.Ty → (r.Ty → v.Ty) → Option r.TypeName → v.Ty
synonym_or other read None = other
synonym_or other read (Some d) = synonym_by other read d.synonym

-- what a declared type stands for, with synonyms unfolded at most so often
abbrev pub named_within : ℕ → List r.TypeName → ℕ → v.Ty
named_within zero ds k = v.UserTy k
named_within (suc n) ds k = synonym_or (v.UserTy k) (type_in (named_within n ds)) (slice_get ds k)

-- as often as there are types, and once more, which is deep enough where no synonym reaches itself
abbrev pub named_of : List r.TypeName → ℕ → v.Ty
named_of ds = named_within (suc (length ds)) ds

abbrev pub infix_of : InfixSign → s.Ex → s.Ex → s.Ex
infix_of op.Iff a b = s.Binary s.Iff a b
infix_of op.Implies a b = s.Binary s.Implies a b
infix_of op.Explies a b = s.Binary s.Implies b a
infix_of op.And a b = s.Binary s.And a b
infix_of op.Or a b = s.Binary s.Or a b
infix_of op.Equal a b = s.Binary s.Equal a b
infix_of op.Unequal a b = s.Binary s.Unequal a b
infix_of op.Less a b = s.Binary s.Less a b
infix_of op.AtMost a b = s.Binary s.AtMost a b
infix_of op.Greater a b = s.Binary s.Greater a b
infix_of op.AtLeast a b = s.Binary s.AtLeast a b
infix_of op.Plus a b = s.Binary s.Plus a b
infix_of op.Minus a b = s.Binary s.Minus a b
infix_of op.Times a b = s.Binary s.Times a b

abbrev pub prefix_of : PrefixSign → s.Ex → s.Ex
prefix_of prefix.Not e = s.Not e
prefix_of prefix.Minus e = s.Negative e

-- a row of prefix signs: the first is the outermost
abbrev pub signed : List TreePrefix → s.Ex → s.Ex
signed [] e = e
signed (x ∷ xs) e = prefix_of x.sign (signed xs e)

abbrev mutual
  pub ex_of : r.Ex → s.Ex
  ex_of (r.Number p z) = s.Number z
  ex_of (r.Truth p b) = s.Fact b
  ex_of (r.Constant p k) = s.Constant k
  ex_of (r.Read p x) = s.Read x
  ex_of (r.Apply p f es) = s.Apply f (exs_of es)
  ex_of (r.Old p e) = s.Old (ex_of e)
  ex_of (r.Parens p e) = ex_of e
  ex_of (r.Prefix signs e) = signed signs (ex_of e)
  ex_of (r.Postfix e bs) = behind (ex_of e) bs
  ex_of (r.Chain e ls) = chained (ex_of e) ls

  pub exs_of : r.Exs → s.Exs
  exs_of r.NoMore = s.NoMore
  exs_of (r.More e es) = s.More (ex_of e) (exs_of es)

  -- a row of brackets: the first is the innermost
  pub behind : s.Ex → r.Brackets → s.Ex
  behind m r.NoBracket = m
  behind m (r.Select p es bs) = behind (s.Select m (exs_of es)) bs
  behind m (r.Update p es e bs) = behind (s.Update m (exs_of es) (ex_of e)) bs

  -- a chain: `==>` groups to the right, all others to the left
  pub chained : s.Ex → r.Links → s.Ex
  chained a r.NoLink = a
  chained a (r.Link p op.Implies e ls) = s.Binary s.Implies a (chained (ex_of e) ls)
  chained a (r.Link p sign e ls) = chained (infix_of sign a (ex_of e)) ls

abbrev pub clause_of : r.Clause → s.Clause
clause_of k = record { id = k.id; is_free = k.is_free; candidate = k.candidate; says = ex_of k.says }

abbrev pub guard_of : r.Guard → s.Guard
guard_of r.Star = s.Star
guard_of (r.Test e) = s.Test (ex_of e)

abbrev pub variable_of : r.Placed → s.Var
variable_of x = x.variable

-- `m[i][j] := e` writes `m[i := m[i][j := e]]` to m
abbrev pub written : s.Ex → List (Pos × r.Exs) → s.Ex → s.Ex
written m [] e = e
written m (b ∷ bs) e = s.Update m (exs_of b.1) (written (s.Select m (exs_of b.1)) bs e)

abbrev pub values_of : List r.Target → r.Exs → s.Exs
values_of [] es = s.NoMore
values_of (t ∷ ts) r.NoMore = s.NoMore
values_of (t ∷ ts) (r.More e es) = s.More (written (s.Read t.placed.variable) t.brackets (ex_of e)) (values_of ts es)

abbrev pub call_of : r.Call → s.Call
call_of k = record { site = k.site; procedure = k.procedure; args = exs_of k.args; takes = map variable_of k.takes }

abbrev mutual
  pub st_of : r.St → s.St
  st_of (r.Label l) = s.Label l
  st_of (r.Assert k) = s.Assert (clause_of k)
  st_of (r.Assume e) = s.Assume (ex_of e)
  st_of (r.Havoc xs) = s.Havoc (map variable_of xs)
  st_of (r.Assign p ts es) = s.Assign (map (λ t. t.placed.variable) ts) (values_of ts es)
  st_of (r.Invoke k) = s.Invoke (call_of k)
  st_of (r.If n arms otherwise) = arms_of n arms (sts_of otherwise)
  st_of (r.While n p g is body) = s.While n (guard_of g) (map clause_of is) (sts_of body)
  st_of (r.Break n) = s.Break n
  st_of (r.Goto ls) = s.Goto ls
  st_of r.Return = s.Return

  pub sts_of : r.Sts → s.St
  sts_of r.NoSt = s.Skip
  sts_of (r.Then a b) = s.Then (st_of a) (sts_of b)

  -- a chain of `else if` from the arm with this number on
  pub arms_of : ℕ → r.Arms → s.St → s.St
  arms_of n r.NoArm otherwise = otherwise
  arms_of n (r.Arm g body arms) otherwise = s.If n (guard_of g) (sts_of body) (arms_of (suc n) arms otherwise)

abbrev pub decl_of : (ℕ → v.Ty) → r.Declared → s.Decl
decl_of named d = record { ty = type_in named d.ty; wheres = [] }

abbrev pub const_of : (ℕ → v.Ty) → r.Const → s.Const
const_of named c = record { ty = type_in named c.ty; is_unique = c.is_unique }

abbrev pub body_of : Option r.Ex → Option s.Ex
body_of None = None
body_of (Some e) = Some (ex_of e)

abbrev pub fun_of : (ℕ → v.Ty) → r.Fun → s.Fun
fun_of named f = record { params = map (type_in named) f.params; result = type_in named f.result; body = body_of f.body }

abbrev pub proc_of : (ℕ → v.Ty) → r.Proc → s.Proc
proc_of named q =
    record {
      params = map (decl_of named) q.params;
      results = map (decl_of named) q.results;
      modifies = q.modifies;
      requires_ = map clause_of q.requires_;
      ensures_ = map clause_of q.ensures_;
    }

abbrev pub impl_of : (ℕ → v.Ty) → r.Impl → s.Impl
impl_of named m = record { procedure = m.procedure; locals = map (decl_of named) m.locals; body = sts_of m.body }

-- the program with a meaning
abbrev pub meaning_of : r.Program → s.Prog
meaning_of p =
    record {
      globals = map (decl_of (named_of p.types)) p.globals;
      constants = map (const_of (named_of p.types)) p.constants;
      functions = map (fun_of (named_of p.types)) p.functions;
      axioms = map ex_of p.axioms;
      procedures = map (proc_of (named_of p.types)) p.procedures;
      implementations = map (impl_of (named_of p.types)) p.implementations;
      candidates = length p.candidates;
    }
