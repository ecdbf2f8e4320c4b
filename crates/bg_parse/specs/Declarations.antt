-- Reading declarations and programs.
use Rattle.std.specs.Prelude.{ℕ, List, [], ◌∷◌, Bool, true, false, Option, Some, None}
use Rattle.bg_base.specs.declared.pos.Pos.{Pos}
use Rattle.bg_text.specs.declared.token.Kind.{Kind}
use Rattle.bg_text.specs.declared.token.Kind.TheVariants as kinds
use Rattle.bg_text.specs.Trees.{Id, Ty, NamedType, Ex, Attr, Group, NewType, FunArg, FunResult, Returns, Colon, Sig, Spec, Requires, Ensures, Modifies, Vars, Body, Decl, Types, Constants, Function, Axiom, Globals, Procedure, Implementation}
use Rattle.bg_reader.specs.Reading.{Reader, with_read, both, one, a_sign, a_text, nothing}
use Rattle.bg_expr.specs.Exprs.{expr_at}
use Rattle.bg_grammar.specs.Rules.{a_kind, choose, rows, after, before, commas_at, opened, inside, shut, list_closed, below, room}
use Rattle.bg_parts.specs.Types.{id_at, unnamed_at, type_in}
use Rattle.bg_parts.specs.Parts.{attrs_at, ids_at, group_at, says_at, clause, clause_at}
use Rattle.bg_stmts.specs.Statements.{stmts_in}

-- a type that is declared
unfoldable pub new_type_at : ℕ → ℕ → Reader NewType
new_type_at n d ts =
    with_read (λ v. record { name = v.0; synonym = v.1 })
    (both id_at (choose (a_sign kinds.Sets) (λ ts. with_read Some (after kinds.Sets (type_in n d) ts)) (nothing None)) ts)

unfoldable pub types_at : ℕ → ℕ → Reader Decl
types_at n d ts =
    with_read (λ v. Types v.0 v.1.0 v.1.1) (both (one (a_sign kinds.Type)) (both (attrs_at n d) (before (commas_at (new_type_at n d) n) kinds.Semicolon)) ts)

-- whether `unique` stands
unfoldable pub unique_at : Reader Bool
unique_at = choose (a_sign kinds.Unique) (shut kinds.Unique true) (nothing false)

abbrev pub constants : Pos → List Attr → Bool → List Id → Ty → Decl
constants p attrs unique xs t = Constants (record { pos = p; is_unique = unique; group = record { attrs = attrs; names = xs; ty = t } })

unfoldable pub constants_at : ℕ → ℕ → Reader Decl
constants_at n d ts =
    with_read (λ v. constants v.0 v.1.0 v.1.1.0 v.1.1.1.0 v.1.1.1.1)
    (both (one (a_sign kinds.Const)) (both (attrs_at n d) (both unique_at (both (ids_at n) (after kinds.Colon (before (type_in n d) kinds.Semicolon))))) ts)

-- An argument of a function begins with a name or not. A name without a colon behind it is a type.
abbrev pub named_arg : Pos → List ℕ → Option Ty → FunArg
named_arg p x None = record { name = None; ty = NamedType p x }
named_arg p x (Some ty) = record { name = Some (record { pos = p; text = x }); ty = ty }

unfoldable pub fun_arg_at : ℕ → ℕ → Reader FunArg
fun_arg_at n d =
    choose (a_text kinds.Name)
    (λ ts. with_read (λ v. named_arg v.0.0 v.0.1 v.1) (both (one (a_text kinds.Name)) (choose (a_sign kinds.Colon) (λ ts. with_read Some (after kinds.Colon (type_in n d) ts)) (nothing None)) ts))
    (λ ts. with_read (λ ty. record { name = None; ty = ty }) (unnamed_at n (room (type_in n) (below d)) ts))

-- the arguments in their parentheses
unfoldable pub fun_args_in : ℕ → ℕ → Reader (List FunArg)
fun_args_in n d = list_closed kinds.Close (fun_arg_at n d) n

unfoldable pub fun_args_at : ℕ → ℕ → Reader (List FunArg)
fun_args_at n d ts = with_read (λ v. v.1) (opened kinds.Open (room (fun_args_in n) (below d)) ts)

unfoldable pub fun_result_at : ℕ → ℕ → Reader FunResult
fun_result_at n d =
    choose (a_sign kinds.Returns) (λ ts. with_read Returns (after kinds.Returns (inside kinds.Open kinds.Close (room (fun_arg_at n) (below d))) ts))
    (λ ts. with_read Colon (after kinds.Colon (type_in n d) ts))

unfoldable pub fun_end_at : ℕ → ℕ → Reader (Option Ex)
fun_end_at n d = choose (a_sign kinds.Semicolon) (shut kinds.Semicolon None) (λ ts. with_read Some (inside kinds.OpenBrace kinds.CloseBrace (room (expr_at n) (below d)) ts))

abbrev pub function : Pos → List Attr → Id → List FunArg → FunResult → Option Ex → Decl
function p attrs x args r e = Function (record { pos = p; attrs = attrs; name = x; args = args; result = r; body = e })

unfoldable pub function_at : ℕ → ℕ → Reader Decl
function_at n d ts =
    with_read (λ v. function v.0 v.1.0 v.1.1.0 v.1.1.1.0 v.1.1.1.1.0 v.1.1.1.1.1)
    (both (one (a_sign kinds.Function)) (both (attrs_at n d) (both id_at (both (fun_args_at n d) (both (fun_result_at n d) (fun_end_at n d))))) ts)

unfoldable pub axiom_at : ℕ → ℕ → Reader Decl
axiom_at n d ts = with_read (λ v. Axiom v.0 v.1.0 v.1.1) (both (one (a_sign kinds.Axiom)) (says_at n d) ts)

unfoldable pub vars_at : ℕ → ℕ → Reader Vars
vars_at n d ts = with_read (λ v. record { pos = v.0; groups = v.1 }) (both (one (a_sign kinds.Var)) (before (commas_at (group_at n d) n) kinds.Semicolon) ts)

-- parameters or results in their parentheses
unfoldable pub params_in : ℕ → ℕ → Reader (List Group)
params_in n d = list_closed kinds.Close (group_at n d) n

unfoldable pub params_at : ℕ → ℕ → Reader (List Group)
params_at n d ts = with_read (λ v. v.1) (opened kinds.Open (room (params_in n) (below d)) ts)

unfoldable pub sig_at : ℕ → ℕ → Reader Sig
sig_at n d ts =
    with_read (λ v. record { params = v.0; results = v.1 })
    (both (params_at n d) (choose (a_sign kinds.Returns) (λ ts. with_read Some (after kinds.Returns (params_at n d) ts)) (nothing None)) ts)

-- a part of a specification behind `free`, whose position is given
unfoldable pub free_at : ℕ → ℕ → Reader (Bool × (List Attr × Ex))
free_at n d =
    choose (a_sign kinds.Requires) (λ ts. with_read (λ v. (true, v)) (after kinds.Requires (says_at n d) ts))
    (λ ts. with_read (λ v. (false, v)) (after kinds.Ensures (says_at n d) ts))

abbrev pub free_spec : Pos → Bool → List Attr × Ex → Spec
free_spec p true v = Requires (clause true p v)
free_spec p false v = Ensures (clause true p v)

-- the kinds with which a part of a specification begins
abbrev pub spec_kinds : List Kind
spec_kinds = kinds.Modifies ∷ kinds.Free ∷ kinds.Requires ∷ kinds.Ensures ∷ []

unfoldable pub modifies_at : ℕ → Reader (List Id)
modifies_at n = list_closed kinds.Semicolon id_at n

unfoldable pub spec_at : ℕ → ℕ → Reader Spec
spec_at n d =
    choose (a_sign kinds.Modifies) (λ ts. with_read (λ v. Modifies v.0 v.1) (both (one (a_sign kinds.Modifies)) (modifies_at n) ts))
    (choose (a_sign kinds.Free) (λ ts. with_read (λ v. free_spec v.0 v.1.0 v.1.1) (both (one (a_sign kinds.Free)) (free_at n d) ts))
    (choose (a_sign kinds.Requires) (λ ts. with_read Requires (clause_at n d kinds.Requires ts))
    (λ ts. with_read Ensures (clause_at n d kinds.Ensures ts))))

unfoldable pub specs_at : ℕ → ℕ → Reader (List Spec)
specs_at n d = rows (a_kind spec_kinds) (spec_at n d) n

-- a body behind its brace
unfoldable pub body_in : ℕ → ℕ → Reader Body
body_in n d ts = with_read (λ v. record { locals = v.0; stmts = v.1 }) (both (rows (a_sign kinds.Var) (vars_at n d) n) (stmts_in n d) ts)

unfoldable pub body_at : ℕ → ℕ → Reader Body
body_at n d = inside kinds.OpenBrace kinds.CloseBrace (room (body_in n) (below d))

-- a procedure behind its signature: a semicolon and its specification, or its specification and its body
abbrev pub Tail : Type 0
Tail = List Spec × Option Body

unfoldable pub tail_at : ℕ → ℕ → Reader Tail
tail_at n d =
    choose (a_sign kinds.Semicolon) (λ ts. with_read (λ specs. (specs, None)) (after kinds.Semicolon (specs_at n d) ts))
    (λ ts. with_read (λ v. (v.0, Some v.1)) (both (specs_at n d) (body_at n d) ts))

abbrev pub procedure : Pos → List Attr → Id → Sig → Tail → Decl
procedure p attrs x s t = Procedure (record { pos = p; attrs = attrs; name = x; sig = s; specs = t.0; body = t.1 })

unfoldable pub procedure_at : ℕ → ℕ → Reader Decl
procedure_at n d ts =
    with_read (λ v. procedure v.0 v.1.0 v.1.1.0 v.1.1.1.0 v.1.1.1.1)
    (both (one (a_sign kinds.Procedure)) (both (attrs_at n d) (both id_at (both (sig_at n d) (tail_at n d)))) ts)

abbrev pub implementation : Pos → List Attr → Id → Sig → Body → Decl
implementation p attrs x s b = Implementation (record { pos = p; attrs = attrs; name = x; sig = s; body = b })

unfoldable pub implementation_at : ℕ → ℕ → Reader Decl
implementation_at n d ts =
    with_read (λ v. implementation v.0 v.1.0 v.1.1.0 v.1.1.1.0 v.1.1.1.1)
    (both (one (a_sign kinds.Implementation)) (both (attrs_at n d) (both id_at (both (sig_at n d) (body_at n d)))) ts)

-- the kinds with which a declaration begins
abbrev pub decl_kinds : List Kind
decl_kinds = kinds.Type ∷ kinds.Const ∷ kinds.Function ∷ kinds.Axiom ∷ kinds.Var ∷ kinds.Procedure ∷ kinds.Implementation ∷ []

-- a declaration of a variable, a procedure or an implementation
unfoldable pub big_at : ℕ → ℕ → Reader Decl
big_at n d =
    choose (a_sign kinds.Var) (λ ts. with_read Globals (vars_at n d ts))
    (choose (a_sign kinds.Procedure) (procedure_at n d)
    (implementation_at n d))

unfoldable pub decl_at : ℕ → ℕ → Reader Decl
decl_at n d =
    choose (a_sign kinds.Type) (types_at n d)
    (choose (a_sign kinds.Const) (constants_at n d)
    (choose (a_sign kinds.Function) (function_at n d)
    (choose (a_sign kinds.Axiom) (axiom_at n d)
    (big_at n d))))

-- declarations one after the other
unfoldable pub decls_at : ℕ → ℕ → Reader (List Decl)
decls_at n d = rows (a_kind decl_kinds) (decl_at n d) n
