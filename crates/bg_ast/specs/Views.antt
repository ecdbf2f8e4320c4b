-- How the code's resolved programs are read.
use Rattle.std.specs.Prelude.{ℕ, List, [], ◌∷◌, map, Option, Some, None}
use Rattle.bg_base.specs.declared.pos.Pos.{Pos}
use Rattle.bg_base.specs.declared.ids.CandId.{CandId}
use Rattle.bg_text.specs.declared.expr.InfixSign.{InfixSign}
use Rattle.bg_text.specs.Views.{id_of, option_of}
use Rattle.bg_ast.specs.declared.resolved.Variable.{Variable}
use Rattle.bg_ast.specs.declared.resolved.Variable.TheVariants as variable
use Rattle.bg_ast.specs.declared.resolved.WrittenType.{WrittenType, Row_of-WrittenType, end_of-WrittenType, more_of-WrittenType, Row_of-IndexTypes, end_of-IndexTypes, more_of-IndexTypes}
use Rattle.bg_ast.specs.declared.resolved.WrittenType.TheVariants as type
use Rattle.bg_ast.specs.declared.resolved.IndexTypes.{IndexTypes}
use Rattle.bg_ast.specs.declared.resolved.Expr.{Expr, Row_of-Expr, end_of-Expr, more_of-Expr, Row_of-Link, end_of-Link, more_of-Link, Row_of-Bracket, end_of-Bracket, more_of-Bracket}
use Rattle.bg_ast.specs.declared.resolved.Expr.TheVariants as expr
use Rattle.bg_ast.specs.declared.resolved.Bracket.{Bracket}
use Rattle.bg_ast.specs.declared.resolved.Bracket.TheVariants as bracket
use Rattle.bg_ast.specs.declared.resolved.Link.{Link}
use Rattle.bg_ast.specs.declared.resolved.Clause.{Clause}
use Rattle.bg_ast.specs.declared.resolved.Guard.{Guard}
use Rattle.bg_ast.specs.declared.resolved.Guard.TheVariants as guard
use Rattle.bg_ast.specs.declared.resolved.Placed.{Placed}
use Rattle.bg_ast.specs.declared.resolved.Target.{Target}
use Rattle.bg_ast.specs.declared.resolved.Indices.{Indices}
use Rattle.bg_ast.specs.declared.resolved.Call.{Call}
use Rattle.bg_ast.specs.declared.resolved.Arm.{Arm}
use Rattle.bg_ast.specs.declared.resolved.Stmt.{Stmt, Row_of-Stmt, end_of-Stmt, more_of-Stmt, Row_of-Arm, end_of-Arm, more_of-Arm}
use Rattle.bg_ast.specs.declared.resolved.Stmt.TheVariants as stmt
use Rattle.bg_ast.specs.declared.resolved.TypeName.{TypeName}
use Rattle.bg_ast.specs.declared.resolved.Declared.{Declared}
use Rattle.bg_ast.specs.declared.resolved.Constant.{Constant}
use Rattle.bg_ast.specs.declared.resolved.Function.{Function}
use Rattle.bg_ast.specs.declared.resolved.Procedure.{Procedure}
use Rattle.bg_ast.specs.declared.resolved.Implementation.{Implementation}
use Rattle.bg_ast.specs.declared.resolved.Resolved.{Resolved}
use Rattle.bg_ast.specs.Syntax as s
use Rattle.bg_ast.specs.Resolved as r

abbrev pub var_of : Variable → s.Var
var_of (variable.Global x) = s.Global x
var_of (variable.Local x) = s.Local x

abbrev mutual
  pub type_of : WrittenType → r.Ty
  type_of (type.Int p) = r.IntType p
  type_of (type.Bool p) = r.BoolType p
  type_of (type.Declared p k) = r.DeclaredType p k
  type_of (type.Parens' q p e) = r.InParens q (type_of e)
  type_of (type.Map' shape brackets p e) = r.MapType (indices_of brackets) (type_of e)

  pub types_of : {n : _} → Row_of-WrittenType n → r.Tys
  types_of end_of-WrittenType = r.NoType
  types_of (more_of-WrittenType e es) = r.OneType (type_of e) (types_of es)

  pub indices_of : {n : _} → Row_of-IndexTypes n → r.Indices
  indices_of end_of-IndexTypes = r.NoIndex
  indices_of (more_of-IndexTypes q shape es bs) = r.Index q (types_of es) (indices_of bs)

abbrev pub tys_of : List r.Ty → r.Tys
tys_of [] = r.NoType
tys_of (e ∷ es) = r.OneType e (tys_of es)

abbrev pub Indexed : Type 0
Indexed = Pos × r.Tys

abbrev pub indexed_of : List Indexed → r.Indices
indexed_of [] = r.NoIndex
indexed_of (i ∷ is) = r.Index i.0 i.1 (indexed_of is)

-- a bracket of a map type
abbrev pub index_view : IndexTypes → Indexed
index_view b = (b.pos, tys_of (map type_of b.indices.items))

abbrev mutual
  pub ex_of : Expr → r.Ex
  ex_of (expr.Number p z) = r.Number p z
  ex_of (expr.Truth p b) = r.Truth p b
  ex_of (expr.Constant p k) = r.Constant p k
  ex_of (expr.Read p x) = r.Read p (var_of x)
  ex_of (expr.Apply' q f shape args) = r.Apply q f (row_of args)
  ex_of (expr.Old' q p e) = r.Old q (ex_of e)
  ex_of (expr.Parens' q p e) = r.Parens q (ex_of e)
  ex_of (expr.Prefix' signs p e) = r.Prefix signs.items (ex_of e)
  ex_of (expr.Postfix' p e shape brackets) = r.Postfix (ex_of e) (behind_of brackets)
  ex_of (expr.Chain' p e shape links) = r.Chain (ex_of e) (chain_of links)

  pub row_of : {n : _} → Row_of-Expr n → r.Exs
  row_of end_of-Expr = r.NoMore
  row_of (more_of-Expr e es) = r.More (ex_of e) (row_of es)

  pub chain_of : {n : _} → Row_of-Link n → r.Links
  chain_of end_of-Link = r.NoLink
  chain_of (more_of-Link q s e links) = r.Link q s (ex_of e) (chain_of links)

  pub with_bracket : Bracket → r.Brackets → r.Brackets
  with_bracket (bracket.Select' q shape es) bs = r.Select q (row_of es) bs
  with_bracket (bracket.Update' q shape es e) bs = r.Update q (row_of es) (ex_of e) bs

  pub behind_of : {n : _} → Row_of-Bracket n → r.Brackets
  behind_of end_of-Bracket = r.NoBracket
  behind_of (more_of-Bracket b bs) = with_bracket b (behind_of bs)

-- expressions of a list
abbrev pub exs_of : List r.Ex → r.Exs
exs_of [] = r.NoMore
exs_of (e ∷ es) = r.More e (exs_of es)

abbrev pub exs_in : List Expr → r.Exs
exs_in es = exs_of (map ex_of es)

-- a link of a chain, and the links of a list
abbrev pub link_view : Link → Pos × InfixSign × r.Ex
link_view l = (l.pos, l.sign, ex_of l.operand)

abbrev pub links_of : List (Pos × InfixSign × r.Ex) → r.Links
links_of [] = r.NoLink
links_of (l ∷ ls) = r.Link l.0 l.1 l.2 (links_of ls)

-- a bracket, and the value of an update
abbrev pub Behind : Type 0
Behind = Pos × r.Exs × Option r.Ex

abbrev pub behind_parts : Pos → r.Exs → Option r.Ex → r.Brackets → r.Brackets
behind_parts p es None bs = r.Select p es bs
behind_parts p es (Some e) bs = r.Update p es e bs

abbrev pub brackets_of : List Behind → r.Brackets
brackets_of [] = r.NoBracket
brackets_of (b ∷ bs) = behind_parts b.0 b.1 b.2 (brackets_of bs)

abbrev pub bracket_view : Bracket → Behind
bracket_view (bracket.Select' q shape es) = (q, row_of es, None)
bracket_view (bracket.Update' q shape es e) = (q, row_of es, Some (ex_of e))

abbrev pub candidate_of : CandId → ℕ
candidate_of b = b.0

abbrev pub clause_of : Clause → r.Clause
clause_of k =
    record {
      pos = k.pos;
      id = k.id;
      is_free = k.is_free;
      candidate = option_of candidate_of k.candidate;
      says = ex_of k.formula;
    }

abbrev pub guard_of : Guard → r.Guard
guard_of guard.Star = r.Star
guard_of (guard.Test e) = r.Test (ex_of e)

abbrev pub placed_of : Placed → r.Placed
placed_of x = record { pos = x.pos; variable = var_of x.variable }

abbrev pub bracket_of : Indices → Pos × r.Exs
bracket_of i = (i.pos, exs_in i.indices.items)

abbrev pub target_of : Target → r.Target
target_of t = record { placed = placed_of t.placed; brackets = map bracket_of t.brackets.items }

abbrev pub call_of : Call → r.Call
call_of k =
    record {
      pos = k.pos;
      site = k.site;
      name_pos = k.name_pos;
      procedure = k.procedure;
      args = exs_in k.args.items;
      takes = map placed_of k.takes.items;
    }

abbrev mutual
  pub st_of : Stmt → r.St
  st_of (stmt.Label l) = r.Label l
  st_of (stmt.Assert k) = r.Assert (clause_of k)
  st_of (stmt.Assume e) = r.Assume (ex_of e)
  st_of (stmt.Havoc xs) = r.Havoc (map placed_of xs.items)
  st_of (stmt.Assign p ts es) = r.Assign p (map target_of ts.items) (exs_in es.items)
  st_of (stmt.Invoke k) = r.Invoke (call_of k)
  st_of (stmt.If' n shape arms shape' otherwise) = r.If n (arms_of arms) (sts_of otherwise)
  st_of (stmt.While' n q g is shape body) = r.While n q (guard_of g) (map clause_of is.items) (sts_of body)
  st_of (stmt.Break n) = r.Break n
  st_of (stmt.Goto ls) = r.Goto ls.items
  st_of stmt.Return = r.Return

  pub sts_of : {n : _} → Row_of-Stmt n → r.Sts
  sts_of end_of-Stmt = r.NoSt
  sts_of (more_of-Stmt s ss) = r.Then (st_of s) (sts_of ss)

  pub arms_of : {n : _} → Row_of-Arm n → r.Arms
  arms_of end_of-Arm = r.NoArm
  arms_of (more_of-Arm g shape ss arms) = r.Arm (guard_of g) (sts_of ss) (arms_of arms)

-- the statements of a list
abbrev pub sts_from : List r.St → r.Sts
sts_from [] = r.NoSt
sts_from (s ∷ ss) = r.Then s (sts_from ss)

abbrev pub sts_in : List Stmt → r.Sts
sts_in ss = sts_from (map st_of ss)

-- an arm: its guard, and its statements
abbrev pub Armed : Type 0
Armed = r.Guard × r.Sts

abbrev pub arms_from : List Armed → r.Arms
arms_from [] = r.NoArm
arms_from (a ∷ rest) = r.Arm a.0 a.1 (arms_from rest)

abbrev pub arm_view : Arm → Armed
arm_view a = (guard_of a.guard, sts_in a.body.items)

abbrev pub type_name_of : TypeName → r.TypeName
type_name_of d = record { name = id_of d.name; synonym = option_of type_of d.synonym }

abbrev pub declared_of : Declared → r.Declared
declared_of d = record { name = id_of d.name; ty = type_of d.ty }

abbrev pub const_of : Constant → r.Const
const_of c = record { name = id_of c.name; is_unique = c.is_unique; ty = type_of c.ty }

abbrev pub fun_of : Function → r.Fun
fun_of f =
    record {
      name = id_of f.name;
      params = map type_of f.params.items;
      result = type_of f.result;
      body = option_of ex_of f.body;
    }

abbrev pub proc_of : Procedure → r.Proc
proc_of q =
    record {
      pos = q.pos;
      name = id_of q.name;
      params = map declared_of q.params.items;
      results = map declared_of q.results.items;
      modifies = q.modifies.items;
      requires_ = map clause_of q.requires_.items;
      ensures_ = map clause_of q.ensures_.items;
    }

abbrev pub impl_of : Implementation → r.Impl
impl_of m =
    record {
      pos = m.pos;
      name = id_of m.name;
      procedure = m.procedure;
      params = map declared_of m.params.items;
      results = map declared_of m.results.items;
      locals = map declared_of m.locals.items;
      body = sts_in m.body.items;
    }

-- the program that the data type holds
abbrev pub program_of : Resolved → r.Program
program_of p =
    record {
      types = map type_name_of p.types.items;
      constants = map const_of p.constants.items;
      candidates = map id_of p.candidates.items;
      globals = map declared_of p.globals.items;
      functions = map fun_of p.functions.items;
      axioms = map ex_of p.axioms.items;
      procedures = map proc_of p.procedures.items;
      implementations = map impl_of p.implementations.items;
    }
