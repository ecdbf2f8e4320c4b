-- Programs, positions apart.
use Rattle.std.specs.Prelude.{List, map, option_map}
use Rattle.bg_text.specs.Trees.{Id, Exs, Ty, IntType, BoolType, NamedType, InParens, MapType, Tys, NoType, OneType, Indices, NoIndex, Index, Arg, Formula, Quoted, Attr, Group, Clause, Guard, Star, Test, Target, Call, St, Label, Assert, Assume, Havoc, Assign, Invoke, If, IfElse, While, Break, Goto, Return, Sts, NoSt, Then, Arms, NoArm, Arm, NewType, FunArg, FunResult, Returns, Colon, Sig, Spec, Requires, Ensures, Modifies, Vars, Body, Consts, Fun, Proc, Impl, Decl, Types, Constants, Function, Axiom, Globals, Procedure, Implementation}
use Rattle.bg_base.specs.declared.pos.Pos.{Pos}
use Rattle.bg_expr.specs.Bare.{nowhere, bare, bare_list}

-- a name without its position
abbrev pub bare_id : Id → Id
bare_id x = record { pos = nowhere; text = x.text }

abbrev mutual
  -- a type without its positions
  pub bare_type : Ty → Ty
  bare_type (IntType p) = IntType nowhere
  bare_type (BoolType p) = BoolType nowhere
  bare_type (NamedType p x) = NamedType nowhere x
  bare_type (InParens p t) = InParens nowhere (bare_type t)
  bare_type (MapType is t) = MapType (bare_indices is) (bare_type t)

  pub bare_types : Tys → Tys
  bare_types NoType = NoType
  bare_types (OneType t ts) = OneType (bare_type t) (bare_types ts)

  pub bare_indices : Indices → Indices
  bare_indices NoIndex = NoIndex
  bare_indices (Index p ts is) = Index nowhere (bare_types ts) (bare_indices is)

-- an argument of an attribute; a string has no position
abbrev pub bare_arg : Arg → Arg
bare_arg (Formula e) = Formula (bare e)
bare_arg (Quoted text) = Quoted text

-- an attribute
abbrev pub bare_attr : Attr → Attr
bare_attr a = record { name = bare_id a.name; args = map bare_arg a.args }

-- names with one type
abbrev pub bare_group : Group → Group
bare_group g = record { attrs = map bare_attr g.attrs; names = map bare_id g.names; ty = bare_type g.ty }

-- a clause; whether it is free stays
abbrev pub bare_clause : Clause → Clause
bare_clause c = record { pos = nowhere; is_free = c.is_free; attrs = map bare_attr c.attrs; says = bare c.says }

-- a guard
abbrev pub bare_guard : Guard → Guard
bare_guard (Star p) = Star nowhere
bare_guard (Test e) = Test (bare e)

-- a bracket of a target
abbrev pub bare_bracket : Pos × Exs → Pos × Exs
bare_bracket b = (nowhere, bare_list b.1)

-- the left side of an assignment
abbrev pub bare_target : Target → Target
bare_target t = record { name = bare_id t.name; brackets = map bare_bracket t.brackets }

-- a call
abbrev pub bare_call : Call → Call
bare_call c = record { pos = nowhere; attrs = map bare_attr c.attrs; takes = map bare_id c.takes; procedure = bare_id c.procedure; args = bare_list c.args }

abbrev mutual
  -- a statement without its positions
  pub bare_st : St → St
  bare_st (Label x) = Label (bare_id x)
  bare_st (Assert c) = Assert (bare_clause c)
  bare_st (Assume c) = Assume (bare_clause c)
  bare_st (Havoc p xs) = Havoc nowhere (map bare_id xs)
  bare_st (Assign p ts es) = Assign nowhere (map bare_target ts) (bare_list es)
  bare_st (Invoke c) = Invoke (bare_call c)
  bare_st (If p arms) = If nowhere (bare_arms arms)
  bare_st (IfElse p arms ss) = IfElse nowhere (bare_arms arms) (bare_sts ss)
  bare_st (While p g cs ss) = While nowhere (bare_guard g) (map bare_clause cs) (bare_sts ss)
  bare_st (Break p x) = Break nowhere (option_map bare_id x)
  bare_st (Goto p xs) = Goto nowhere (map bare_id xs)
  bare_st (Return p) = Return nowhere

  pub bare_sts : Sts → Sts
  bare_sts NoSt = NoSt
  bare_sts (Then s ss) = Then (bare_st s) (bare_sts ss)

  pub bare_arms : Arms → Arms
  bare_arms NoArm = NoArm
  bare_arms (Arm g ss arms) = Arm (bare_guard g) (bare_sts ss) (bare_arms arms)

-- a declared type
abbrev pub bare_new_type : NewType → NewType
bare_new_type d = record { name = bare_id d.name; synonym = option_map bare_type d.synonym }

-- an argument of a function
abbrev pub bare_fun_arg : FunArg → FunArg
bare_fun_arg a = record { name = option_map bare_id a.name; ty = bare_type a.ty }

-- a function's result
abbrev pub bare_fun_result : FunResult → FunResult
bare_fun_result (Returns a) = Returns (bare_fun_arg a)
bare_fun_result (Colon t) = Colon (bare_type t)

-- parameters and results
abbrev pub bare_sig : Sig → Sig
bare_sig s = record { params = map bare_group s.params; results = option_map (map bare_group) s.results }

-- a part of a specification
abbrev pub bare_spec : Spec → Spec
bare_spec (Requires c) = Requires (bare_clause c)
bare_spec (Ensures c) = Ensures (bare_clause c)
bare_spec (Modifies p xs) = Modifies nowhere (map bare_id xs)

-- one `var`
abbrev pub bare_vars : Vars → Vars
bare_vars v = record { pos = nowhere; groups = map bare_group v.groups }

-- a body
abbrev pub bare_body : Body → Body
bare_body b = record { locals = map bare_vars b.locals; stmts = bare_sts b.stmts }

-- constants
abbrev pub bare_consts : Consts → Consts
bare_consts c = record { pos = nowhere; is_unique = c.is_unique; group = bare_group c.group }

-- a function
abbrev pub bare_fun : Fun → Fun
bare_fun f = record { pos = nowhere; attrs = map bare_attr f.attrs; name = bare_id f.name; args = map bare_fun_arg f.args; result = bare_fun_result f.result; body = option_map bare f.body }

-- a procedure
abbrev pub bare_proc : Proc → Proc
bare_proc q = record { pos = nowhere; attrs = map bare_attr q.attrs; name = bare_id q.name; sig = bare_sig q.sig; specs = map bare_spec q.specs; body = option_map bare_body q.body }

-- an implementation
abbrev pub bare_impl : Impl → Impl
bare_impl q = record { pos = nowhere; attrs = map bare_attr q.attrs; name = bare_id q.name; sig = bare_sig q.sig; body = bare_body q.body }

-- a declaration without its positions
abbrev pub bare_decl : Decl → Decl
bare_decl (Types p attrs ds) = Types nowhere (map bare_attr attrs) (map bare_new_type ds)
bare_decl (Constants c) = Constants (bare_consts c)
bare_decl (Function f) = Function (bare_fun f)
bare_decl (Axiom p attrs e) = Axiom nowhere (map bare_attr attrs) (bare e)
bare_decl (Globals v) = Globals (bare_vars v)
bare_decl (Procedure q) = Procedure (bare_proc q)
bare_decl (Implementation q) = Implementation (bare_impl q)

-- a program without its positions
abbrev pub bare_decls : List Decl → List Decl
bare_decls = map bare_decl
