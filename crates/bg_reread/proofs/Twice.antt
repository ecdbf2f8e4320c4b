-- A tree without its positions is without them already.
use Rattle.std.proofs.Common.{◌≡◌, List, [], ◌∷◌, map, refl, ap, Option, Some, None}
use Rattle.std.specs.Prelude.{option_map}
use Rattle.bg_base.specs.declared.pos.Pos.{Pos}
use Rattle.bg_text.specs.Trees.{Ex, Number, Truth, Named, Apply, Old, Parens, Prefix, Postfix, Chain, Exs, NoMore, More, Brackets, NoBracket, Select, Update, Links, NoLink, Link, Id, Ty, IntType, BoolType, NamedType, InParens, MapType, Tys, NoType, OneType, Indices, NoIndex, Index, Arg, Formula, Quoted, Attr, Group, Clause, Guard, Star, Test, Target, Call, St, Label, Assert, Assume, Havoc, Assign, Invoke, If, IfElse, While, Break, Goto, Return, Sts, NoSt, Then, Arms, NoArm, Arm, NewType, FunArg, FunResult, Returns, Colon, Sig, Spec, Requires, Ensures, Modifies, Vars, Body, Decl, Types, Constants, Function, Axiom, Globals, Procedure, Implementation}
use Rattle.bg_expr.specs.Bare.{bare, bare_list, bare_brackets, bare_links, bare_sign}
use Rattle.bg_reread.specs.Bare.{bare_id, bare_type, bare_types, bare_indices, bare_arg, bare_attr, bare_group, bare_clause, bare_guard, bare_bracket, bare_target, bare_call, bare_st, bare_sts, bare_arms, bare_new_type, bare_fun_arg, bare_fun_result, bare_sig, bare_spec, bare_vars, bare_body, bare_decl, bare_decls}

map_twice : {A : Type 0} (g : A → A) → ((a : A) → g (g a) ≡ g a) → (xs : List A) → map g (map g xs) ≡ map g xs
map_twice g h [] = refl
map_twice g h (a ∷ rest) = rw (h a, map_twice g h rest) refl

there_twice : {A : Type 0} (g : A → A) → ((a : A) → g (g a) ≡ g a) → (x : Option A) → option_map g (option_map g x) ≡ option_map g x
there_twice g h None = refl
there_twice g h (Some a) = ap (λ b. Some b) (h a)

mutual
  ex_twice : (e : Ex) → bare (bare e) ≡ bare e
  ex_twice (Number p z) = refl
  ex_twice (Truth p b) = refl
  ex_twice (Named p x) = refl
  ex_twice (Apply p x es) = rw (exs_twice es) refl
  ex_twice (Old p e) = rw (ex_twice e) refl
  ex_twice (Parens p e) = rw (ex_twice e) refl
  ex_twice (Prefix signs e) = rw (map_twice bare_sign (λ s. refl) signs, ex_twice e) refl
  ex_twice (Postfix e bs) = rw (ex_twice e, brackets_twice bs) refl
  ex_twice (Chain e links) = rw (ex_twice e, links_twice links) refl

  exs_twice : (es : Exs) → bare_list (bare_list es) ≡ bare_list es
  exs_twice NoMore = refl
  exs_twice (More e es) = rw (ex_twice e, exs_twice es) refl

  brackets_twice : (bs : Brackets) → bare_brackets (bare_brackets bs) ≡ bare_brackets bs
  brackets_twice NoBracket = refl
  brackets_twice (Select p es bs) = rw (exs_twice es, brackets_twice bs) refl
  brackets_twice (Update p es e bs) = rw (exs_twice es, ex_twice e, brackets_twice bs) refl

  links_twice : (ls : Links) → bare_links (bare_links ls) ≡ bare_links ls
  links_twice NoLink = refl
  links_twice (Link p s e ls) = rw (ex_twice e, links_twice ls) refl

mutual
  type_twice : (t : Ty) → bare_type (bare_type t) ≡ bare_type t
  type_twice (IntType p) = refl
  type_twice (BoolType p) = refl
  type_twice (NamedType p x) = refl
  type_twice (InParens p t) = rw (type_twice t) refl
  type_twice (MapType is t) = rw (indices_twice is, type_twice t) refl

  types_twice : (ts : Tys) → bare_types (bare_types ts) ≡ bare_types ts
  types_twice NoType = refl
  types_twice (OneType t ts) = rw (type_twice t, types_twice ts) refl

  indices_twice : (is : Indices) → bare_indices (bare_indices is) ≡ bare_indices is
  indices_twice NoIndex = refl
  indices_twice (Index p ts is) = rw (types_twice ts, indices_twice is) refl

ids_twice : (xs : List Id) → map bare_id (map bare_id xs) ≡ map bare_id xs
ids_twice xs = map_twice bare_id (λ x. refl) xs

arg_twice : (a : Arg) → bare_arg (bare_arg a) ≡ bare_arg a
arg_twice (Formula e) = rw (ex_twice e) refl
arg_twice (Quoted text) = refl

attr_twice : (a : Attr) → bare_attr (bare_attr a) ≡ bare_attr a
attr_twice a = rw (map_twice bare_arg arg_twice a.args) refl

attrs_twice : (xs : List Attr) → map bare_attr (map bare_attr xs) ≡ map bare_attr xs
attrs_twice xs = map_twice bare_attr attr_twice xs

group_twice : (g : Group) → bare_group (bare_group g) ≡ bare_group g
group_twice g = rw (attrs_twice g.attrs, ids_twice g.names, type_twice g.ty) refl

groups_twice : (gs : List Group) → map bare_group (map bare_group gs) ≡ map bare_group gs
groups_twice gs = map_twice bare_group group_twice gs

clause_twice : (c : Clause) → bare_clause (bare_clause c) ≡ bare_clause c
clause_twice c = rw (attrs_twice c.attrs, ex_twice c.says) refl

guard_twice : (g : Guard) → bare_guard (bare_guard g) ≡ bare_guard g
guard_twice (Star p) = refl
guard_twice (Test e) = rw (ex_twice e) refl

bracket_twice : (b : Pos × Exs) → bare_bracket (bare_bracket b) ≡ bare_bracket b
bracket_twice b = rw (exs_twice b.1) refl

target_twice : (t : Target) → bare_target (bare_target t) ≡ bare_target t
target_twice t = rw (map_twice bare_bracket bracket_twice t.brackets) refl

call_twice : (c : Call) → bare_call (bare_call c) ≡ bare_call c
call_twice c = rw (attrs_twice c.attrs, ids_twice c.takes, exs_twice c.args) refl

mutual
  st_twice : (s : St) → bare_st (bare_st s) ≡ bare_st s
  st_twice (Label x) = refl
  st_twice (Assert c) = rw (clause_twice c) refl
  st_twice (Assume c) = rw (clause_twice c) refl
  st_twice (Havoc p xs) = rw (ids_twice xs) refl
  st_twice (Assign p ts es) = rw (map_twice bare_target target_twice ts, exs_twice es) refl
  st_twice (Invoke c) = rw (call_twice c) refl
  st_twice (If p arms) = rw (arms_twice arms) refl
  st_twice (IfElse p arms ss) = rw (arms_twice arms, sts_twice ss) refl
  st_twice (While p g cs ss) = rw (guard_twice g, map_twice bare_clause clause_twice cs, sts_twice ss) refl
  st_twice (Break p x) = rw (there_twice bare_id (λ y. refl) x) refl
  st_twice (Goto p xs) = rw (ids_twice xs) refl
  st_twice (Return p) = refl

  sts_twice : (ss : Sts) → bare_sts (bare_sts ss) ≡ bare_sts ss
  sts_twice NoSt = refl
  sts_twice (Then s ss) = rw (st_twice s, sts_twice ss) refl

  arms_twice : (as' : Arms) → bare_arms (bare_arms as') ≡ bare_arms as'
  arms_twice NoArm = refl
  arms_twice (Arm g ss arms) = rw (guard_twice g, sts_twice ss, arms_twice arms) refl

new_type_twice : (d : NewType) → bare_new_type (bare_new_type d) ≡ bare_new_type d
new_type_twice d = rw (there_twice bare_type type_twice d.synonym) refl

fun_arg_twice : (a : FunArg) → bare_fun_arg (bare_fun_arg a) ≡ bare_fun_arg a
fun_arg_twice a = rw (there_twice bare_id (λ y. refl) a.name, type_twice a.ty) refl

fun_result_twice : (r : FunResult) → bare_fun_result (bare_fun_result r) ≡ bare_fun_result r
fun_result_twice (Returns a) = rw (fun_arg_twice a) refl
fun_result_twice (Colon t) = rw (type_twice t) refl

sig_twice : (s : Sig) → bare_sig (bare_sig s) ≡ bare_sig s
sig_twice s = rw (groups_twice s.params, there_twice (map bare_group) groups_twice s.results) refl

spec_twice : (s : Spec) → bare_spec (bare_spec s) ≡ bare_spec s
spec_twice (Requires c) = rw (clause_twice c) refl
spec_twice (Ensures c) = rw (clause_twice c) refl
spec_twice (Modifies p xs) = rw (ids_twice xs) refl

vars_twice : (v : Vars) → bare_vars (bare_vars v) ≡ bare_vars v
vars_twice v = rw (groups_twice v.groups) refl

body_twice : (b : Body) → bare_body (bare_body b) ≡ bare_body b
body_twice b = rw (map_twice bare_vars vars_twice b.locals, sts_twice b.stmts) refl

decl_twice : (d : Decl) → bare_decl (bare_decl d) ≡ bare_decl d
decl_twice (Types p attrs ds) = rw (attrs_twice attrs, map_twice bare_new_type new_type_twice ds) refl
decl_twice (Constants c) = rw (group_twice c.group) refl
decl_twice (Function f) = rw (attrs_twice f.attrs, map_twice bare_fun_arg fun_arg_twice f.args, fun_result_twice f.result, there_twice bare ex_twice f.body) refl
decl_twice (Axiom p attrs e) = rw (attrs_twice attrs, ex_twice e) refl
decl_twice (Globals v) = rw (vars_twice v) refl
decl_twice (Procedure q) = rw (attrs_twice q.attrs, sig_twice q.sig, map_twice bare_spec spec_twice q.specs, there_twice bare_body body_twice q.body) refl
decl_twice (Implementation q) = rw (attrs_twice q.attrs, sig_twice q.sig, body_twice q.body) refl

-- so it is with a program
pub decls_twice : (ds : List Decl) → bare_decls (bare_decls ds) ≡ bare_decls ds
decls_twice ds = map_twice bare_decl decl_twice ds
