-- How the code's trees are read.
use Rattle.std.specs.Prelude.{List, [], ◌∷◌, map, Option, Some, None}
use Rattle.bg_base.specs.declared.pos.Pos.{Pos}
use Rattle.bg_text.specs.declared.expr.Name.{Name}
use Rattle.bg_text.specs.declared.expr.InfixSign.{InfixSign}
use Rattle.bg_text.specs.declared.expr.TreeExpr.{TreeExpr, Row_of-TreeExpr, end_of-TreeExpr, more_of-TreeExpr, Row_of-TreeLink, end_of-TreeLink, more_of-TreeLink, Row_of-TreeBracket, end_of-TreeBracket, more_of-TreeBracket}
use Rattle.bg_text.specs.declared.expr.TreeExpr.TheVariants as expr
use Rattle.bg_text.specs.declared.expr.TreeBracket.{TreeBracket}
use Rattle.bg_text.specs.declared.expr.TreeBracket.TheVariants as bracket
use Rattle.bg_text.specs.declared.expr.TreeLink.{TreeLink}
use Rattle.bg_text.specs.declared.tree.TreeType.{TreeType, Row_of-TreeType, end_of-TreeType, more_of-TreeType, Row_of-TypeBracket, end_of-TypeBracket, more_of-TypeBracket}
use Rattle.bg_text.specs.declared.tree.TreeType.TheVariants as type
use Rattle.bg_text.specs.declared.tree.TypeBracket.{TypeBracket}
use Rattle.bg_text.specs.declared.tree.AttributeArg.{AttributeArg}
use Rattle.bg_text.specs.declared.tree.AttributeArg.TheVariants as arg
use Rattle.bg_text.specs.declared.tree.Attribute.{Attribute}
use Rattle.bg_text.specs.declared.tree.Formals.{Formals}
use Rattle.bg_text.specs.declared.tree.TreeClause.{TreeClause}
use Rattle.bg_text.specs.declared.tree.TreeGuard.{TreeGuard}
use Rattle.bg_text.specs.declared.tree.TreeGuard.TheVariants as guard
use Rattle.bg_text.specs.declared.tree.TreeTarget.{TreeTarget}
use Rattle.bg_text.specs.declared.tree.TreeIndices.{TreeIndices}
use Rattle.bg_text.specs.declared.tree.TreeCall.{TreeCall}
use Rattle.bg_text.specs.declared.tree.TreeArm.{TreeArm}
use Rattle.bg_text.specs.declared.tree.TreeStmt.{TreeStmt, Row_of-TreeStmt, end_of-TreeStmt, more_of-TreeStmt, Row_of-TreeArm, end_of-TreeArm, more_of-TreeArm}
use Rattle.bg_text.specs.declared.tree.TreeStmt.TheVariants as stmt
use Rattle.bg_text.specs.declared.tree.TypeDecl.{TypeDecl}
use Rattle.bg_text.specs.declared.tree.FunctionArg.{FunctionArg}
use Rattle.bg_text.specs.declared.tree.FunctionResult.{FunctionResult}
use Rattle.bg_text.specs.declared.tree.FunctionResult.TheVariants as result_
use Rattle.bg_text.specs.declared.tree.Signature.{Signature}
use Rattle.bg_text.specs.declared.tree.Spec.{Spec}
use Rattle.bg_text.specs.declared.tree.Spec.TheVariants as spec
use Rattle.bg_text.specs.declared.tree.Variables.{Variables}
use Rattle.bg_text.specs.declared.tree.Body.{Body}
use Rattle.bg_text.specs.declared.tree.Constants.{Constants}
use Rattle.bg_text.specs.declared.tree.Function.{Function}
use Rattle.bg_text.specs.declared.tree.Procedure.{Procedure}
use Rattle.bg_text.specs.declared.tree.Implementation.{Implementation}
use Rattle.bg_text.specs.declared.tree.Decl.{Decl}
use Rattle.bg_text.specs.declared.tree.Decl.TheVariants as decl
use Rattle.bg_text.specs.Trees as t

-- a name as it is written
abbrev pub id_of : Name → t.Id
id_of x = record { pos = x.pos; text = x.text.items }

abbrev mutual
  pub ex_of : TreeExpr → t.Ex
  ex_of (expr.Number p z) = t.Number p z
  ex_of (expr.Truth p b) = t.Truth p b
  ex_of (expr.Named name) = t.Named name.pos name.text.items
  ex_of (expr.Apply' name shape args) = t.Apply name.pos name.text.items (row_of args)
  ex_of (expr.Old' q p e) = t.Old q (ex_of e)
  ex_of (expr.Parens' q p e) = t.Parens q (ex_of e)
  ex_of (expr.Prefix' r p e) = t.Prefix r.items (ex_of e)
  ex_of (expr.Postfix' p e shape brackets) = t.Postfix (ex_of e) (behind_of brackets)
  ex_of (expr.Chain' p e shape links) = t.Chain (ex_of e) (chain_of links)

  pub row_of : {n : _} → Row_of-TreeExpr n → t.Exs
  row_of end_of-TreeExpr = t.NoMore
  row_of (more_of-TreeExpr e es) = t.More (ex_of e) (row_of es)

  pub chain_of : {n : _} → Row_of-TreeLink n → t.Links
  chain_of end_of-TreeLink = t.NoLink
  chain_of (more_of-TreeLink q s e links) = t.Link q s (ex_of e) (chain_of links)

  pub with_bracket : TreeBracket → t.Brackets → t.Brackets
  with_bracket (bracket.Select' q shape es) bs = t.Select q (row_of es) bs
  with_bracket (bracket.Update' q shape es e) bs = t.Update q (row_of es) (ex_of e) bs

  pub behind_of : {n : _} → Row_of-TreeBracket n → t.Brackets
  behind_of end_of-TreeBracket = t.NoBracket
  behind_of (more_of-TreeBracket b bs) = with_bracket b (behind_of bs)

-- expressions of a list
abbrev pub exs_of : List t.Ex → t.Exs
exs_of [] = t.NoMore
exs_of (e ∷ es) = t.More e (exs_of es)

abbrev pub exs_in : List TreeExpr → t.Exs
exs_in es = exs_of (map ex_of es)

-- a link of a chain, and the links of a list
abbrev pub link_view : TreeLink → Pos × InfixSign × t.Ex
link_view l = (l.pos, l.sign, ex_of l.operand)

abbrev pub links_of : List (Pos × InfixSign × t.Ex) → t.Links
links_of [] = t.NoLink
links_of (l ∷ ls) = t.Link l.0 l.1 l.2 (links_of ls)

-- a bracket, and the value of an update
abbrev pub Bracket : Type 0
Bracket = Pos × t.Exs × Option t.Ex

abbrev pub bracket_of_parts : Pos → t.Exs → Option t.Ex → t.Brackets → t.Brackets
bracket_of_parts p es None bs = t.Select p es bs
bracket_of_parts p es (Some e) bs = t.Update p es e bs

abbrev pub brackets_of : List Bracket → t.Brackets
brackets_of [] = t.NoBracket
brackets_of (b ∷ bs) = bracket_of_parts b.0 b.1 b.2 (brackets_of bs)

abbrev pub bracket_view : TreeBracket → Bracket
bracket_view (bracket.Select' q shape es) = (q, row_of es, None)
bracket_view (bracket.Update' q shape es e) = (q, row_of es, Some (ex_of e))

abbrev mutual
  pub type_of : TreeType → t.Ty
  type_of (type.Int p) = t.IntType p
  type_of (type.Bool p) = t.BoolType p
  type_of (type.Named name) = t.NamedType name.pos name.text.items
  type_of (type.Parens' q p e) = t.InParens q (type_of e)
  type_of (type.Map' shape brackets p e) = t.MapType (indices_of brackets) (type_of e)

  pub types_of : {n : _} → Row_of-TreeType n → t.Tys
  types_of end_of-TreeType = t.NoType
  types_of (more_of-TreeType e es) = t.OneType (type_of e) (types_of es)

  pub indices_of : {n : _} → Row_of-TypeBracket n → t.Indices
  indices_of end_of-TypeBracket = t.NoIndex
  indices_of (more_of-TypeBracket q shape es bs) = t.Index q (types_of es) (indices_of bs)

abbrev pub tys_of : List t.Ty → t.Tys
tys_of [] = t.NoType
tys_of (e ∷ es) = t.OneType e (tys_of es)

abbrev pub Indexed : Type 0
Indexed = Pos × t.Tys

abbrev pub indexed_of : List Indexed → t.Indices
indexed_of [] = t.NoIndex
indexed_of (i ∷ is) = t.Index i.0 i.1 (indexed_of is)

-- a bracket of a map type
abbrev pub index_view : TypeBracket → Indexed
index_view b = (b.pos, tys_of (map type_of b.indices.items))

-- a part that may be left out
abbrev pub option_of : {A B : Type 0} → (A → B) → Option A → Option B
option_of f None = None
option_of f (Some a) = Some (f a)

abbrev pub arg_of : AttributeArg → t.Arg
arg_of (arg.Formula e) = t.Formula (ex_of e)
arg_of (arg.Quoted text) = t.Quoted text.items

abbrev pub attr_of : Attribute → t.Attr
attr_of a = record { name = id_of a.name; args = map arg_of a.args.items }

abbrev pub group_of : Formals → t.Group
group_of g = record { attrs = map attr_of g.attributes.items; names = map id_of g.names.items; ty = type_of g.ty }

abbrev pub clause_of : TreeClause → t.Clause
clause_of c = record { pos = c.pos; is_free = c.is_free; attrs = map attr_of c.attributes.items; says = ex_of c.formula }

abbrev pub guard_of : TreeGuard → t.Guard
guard_of (guard.Star p) = t.Star p
guard_of (guard.Test e) = t.Test (ex_of e)

abbrev pub bracket_of : TreeIndices → Pos × t.Exs
bracket_of i = (i.pos, exs_in i.indices.items)

abbrev pub target_of : TreeTarget → t.Target
target_of x = record { name = id_of x.name; brackets = map bracket_of x.brackets.items }

abbrev pub call_of : TreeCall → t.Call
call_of c =
    record {
      pos = c.pos;
      attrs = map attr_of c.attributes.items;
      takes = map id_of c.takes.items;
      procedure = id_of c.procedure;
      args = exs_in c.args.items;
    }

abbrev mutual
  pub st_of : TreeStmt → t.St
  st_of (stmt.Label x) = t.Label (id_of x)
  st_of (stmt.Assert c) = t.Assert (clause_of c)
  st_of (stmt.Assume c) = t.Assume (clause_of c)
  st_of (stmt.Havoc p xs) = t.Havoc p (map id_of xs.items)
  st_of (stmt.Assign p ts es) = t.Assign p (map target_of ts.items) (exs_in es.items)
  st_of (stmt.Call c) = t.Invoke (call_of c)
  st_of (stmt.If' p shape arms) = t.If p (arms_of arms)
  st_of (stmt.IfElse' p shape arms shape' ss) = t.IfElse p (arms_of arms) (sts_of ss)
  st_of (stmt.While' p g cs shape ss) = t.While p (guard_of g) (map clause_of cs.items) (sts_of ss)
  st_of (stmt.Break p x) = t.Break p (option_of id_of x)
  st_of (stmt.Goto p xs) = t.Goto p (map id_of xs.items)
  st_of (stmt.Return p) = t.Return p

  pub sts_of : {n : _} → Row_of-TreeStmt n → t.Sts
  sts_of end_of-TreeStmt = t.NoSt
  sts_of (more_of-TreeStmt s ss) = t.Then (st_of s) (sts_of ss)

  pub arms_of : {n : _} → Row_of-TreeArm n → t.Arms
  arms_of end_of-TreeArm = t.NoArm
  arms_of (more_of-TreeArm g shape ss arms) = t.Arm (guard_of g) (sts_of ss) (arms_of arms)

-- the statements of a list
abbrev pub sts_from : List t.St → t.Sts
sts_from [] = t.NoSt
sts_from (s ∷ ss) = t.Then s (sts_from ss)

abbrev pub sts_in : List TreeStmt → t.Sts
sts_in ss = sts_from (map st_of ss)

-- an arm: its guard, and its statements
abbrev pub Armed : Type 0
Armed = t.Guard × t.Sts

abbrev pub arms_from : List Armed → t.Arms
arms_from [] = t.NoArm
arms_from (a ∷ rest) = t.Arm a.0 a.1 (arms_from rest)

abbrev pub arm_view : TreeArm → Armed
arm_view a = (guard_of a.guard, sts_in a.block.items)

abbrev pub new_type_of : TypeDecl → t.NewType
new_type_of d = record { name = id_of d.name; synonym = option_of type_of d.synonym }

abbrev pub fun_arg_of : FunctionArg → t.FunArg
fun_arg_of a = record { name = option_of id_of a.name; ty = type_of a.ty }

abbrev pub fun_result_of : FunctionResult → t.FunResult
fun_result_of (result_.Returns a) = t.Returns (fun_arg_of a)
fun_result_of (result_.Colon e) = t.Colon (type_of e)

abbrev pub groups_of : List Formals → List t.Group
groups_of = map group_of

abbrev pub sig_of : Signature → t.Sig
sig_of s = record { params = groups_of s.params.items; results = option_of (λ gs. groups_of gs.items) s.results }

abbrev pub spec_of : Spec → t.Spec
spec_of (spec.Requires c) = t.Requires (clause_of c)
spec_of (spec.Ensures c) = t.Ensures (clause_of c)
spec_of (spec.Modifies p xs) = t.Modifies p (map id_of xs.items)

abbrev pub vars_of : Variables → t.Vars
vars_of v = record { pos = v.pos; groups = groups_of v.groups.items }

abbrev pub body_of : Body → t.Body
body_of b = record { locals = map vars_of b.locals.items; stmts = sts_in b.stmts.items }

abbrev pub consts_of : Constants → t.Consts
consts_of c = record { pos = c.pos; is_unique = c.is_unique; group = group_of c.formals }

abbrev pub fun_of : Function → t.Fun
fun_of f =
    record {
      pos = f.pos;
      attrs = map attr_of f.attributes.items;
      name = id_of f.name;
      args = map fun_arg_of f.args.items;
      result = fun_result_of f.result;
      body = option_of ex_of f.body;
    }

abbrev pub proc_of : Procedure → t.Proc
proc_of q =
    record {
      pos = q.pos;
      attrs = map attr_of q.attributes.items;
      name = id_of q.name;
      sig = sig_of q.signature;
      specs = map spec_of q.specs.items;
      body = option_of body_of q.body;
    }

abbrev pub impl_of : Implementation → t.Impl
impl_of q =
    record {
      pos = q.pos;
      attrs = map attr_of q.attributes.items;
      name = id_of q.name;
      sig = sig_of q.signature;
      body = body_of q.body;
    }

abbrev pub decl_of : Decl → t.Decl
decl_of (decl.Types p attrs ds) = t.Types p (map attr_of attrs.items) (map new_type_of ds.items)
decl_of (decl.Constants c) = t.Constants (consts_of c)
decl_of (decl.Function f) = t.Function (fun_of f)
decl_of (decl.Axiom p attrs e) = t.Axiom p (map attr_of attrs.items) (ex_of e)
decl_of (decl.Variables v) = t.Globals (vars_of v)
decl_of (decl.Procedure q) = t.Procedure (proc_of q)
decl_of (decl.Implementation q) = t.Implementation (impl_of q)

-- the declarations of a list
abbrev pub decls_of : List Decl → List t.Decl
decls_of = map decl_of
