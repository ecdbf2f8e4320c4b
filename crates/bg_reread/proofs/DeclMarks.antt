-- Declarations without their positions have their marks, at no place.
use Rattle.std.proofs.Common.{Bool, true, false, List, [], ◌∷◌, map, Option, Some, None}
use Rattle.std.specs.Prelude.{option_map}
use Rattle.bg_text.specs.declared.token.Kind.TheVariants as kinds
use Rattle.bg_text.specs.Trees.{Ex, Group, NewType, FunArg, FunResult, Returns, Colon, Sig, Spec, Requires, Ensures, Modifies, Vars, Body, Decl, Types, Constants, Function, Axiom, Globals, Procedure, Implementation}
use Rattle.bg_text.specs.Marks.{sign, sign_at, id_mark, each}
use Rattle.bg_text.specs.Types.{type_marks, group_marks}
use Rattle.bg_text.specs.Declarations.{new_type_marks, fun_arg_marks, fun_result_marks, in_parens, sig_marks, spec_marks, vars_marks, body_marks, tail_marks, unique_marks, fun_end_marks, decl_marks}
use Rattle.bg_expr.specs.Bare.{bare}
use Rattle.bg_reread.specs.Bare.{bare_id, bare_type, bare_group, bare_new_type, bare_fun_arg, bare_fun_result, bare_sig, bare_spec, bare_vars, bare_body, bare_decl, bare_decls}
use Rattle.bg_reread.proofs.Stripped.{Strips, none, put, last, join, braces, each_strips, commas_strip, if_there_strips}
use Rattle.bg_reread.proofs.ExMarks.{ex_strips}
use Rattle.bg_reread.proofs.TypeMarks.{type_strips, ids_strip, attrs_strip, group_strips}
use Rattle.bg_reread.proofs.StMarks.{clause_strips, sts_strip}

new_type_strips : (d : NewType) → Strips (new_type_marks (bare_new_type d)) (new_type_marks d)
new_type_strips d = put (id_mark d.name) (if_there_strips (λ t. sign kinds.Sets ∷ type_marks t) bare_type (λ t. put (sign kinds.Sets) (type_strips t)) d.synonym)

fun_arg_strips : (a : FunArg) → Strips (fun_arg_marks (bare_fun_arg a)) (fun_arg_marks a)
fun_arg_strips a = join (if_there_strips (λ x. id_mark x ∷ sign kinds.Colon ∷ []) bare_id (λ x. put (id_mark x) (last (sign kinds.Colon))) a.name) (type_strips a.ty)

fun_result_strips : (r : FunResult) → Strips (fun_result_marks (bare_fun_result r)) (fun_result_marks r)
fun_result_strips (Returns a) = join (put (sign kinds.Returns) (put (sign kinds.Open) (fun_arg_strips a))) (last (sign kinds.Close))
fun_result_strips (Colon t) = put (sign kinds.Colon) (type_strips t)

parens_strip : (gs : List Group) → Strips (in_parens (map bare_group gs)) (in_parens gs)
parens_strip gs = join (put (sign kinds.Open) (commas_strip group_marks bare_group group_strips gs)) (last (sign kinds.Close))

sig_strips : (s : Sig) → Strips (sig_marks (bare_sig s)) (sig_marks s)
sig_strips s = join (parens_strip s.params) (if_there_strips (λ gs. sign kinds.Returns ∷ in_parens gs) (map bare_group) (λ gs. put (sign kinds.Returns) (parens_strip gs)) s.results)

spec_strips : (s : Spec) → Strips (spec_marks (bare_spec s)) (spec_marks s)
spec_strips (Requires c) = clause_strips kinds.Requires c
spec_strips (Ensures c) = clause_strips kinds.Ensures c
spec_strips (Modifies p xs) = join (put (sign_at p kinds.Modifies) (ids_strip xs)) (last (sign kinds.Semicolon))

specs_strip : (xs : List Spec) → Strips (each spec_marks (map bare_spec xs)) (each spec_marks xs)
specs_strip xs = each_strips spec_marks bare_spec spec_strips xs

vars_strip : (v : Vars) → Strips (vars_marks (bare_vars v)) (vars_marks v)
vars_strip v = join (put (sign_at v.pos kinds.Var) (commas_strip group_marks bare_group group_strips v.groups)) (last (sign kinds.Semicolon))

body_strips : (b : Body) → Strips (body_marks (bare_body b)) (body_marks b)
body_strips b = braces (join (each_strips vars_marks bare_vars vars_strip b.locals) (sts_strip b.stmts))

tail_strips : (specs : List Spec) (b : Option Body) → Strips (tail_marks (map bare_spec specs) (option_map bare_body b)) (tail_marks specs b)
tail_strips specs None = put (sign kinds.Semicolon) (specs_strip specs)
tail_strips specs (Some b) = join (specs_strip specs) (body_strips b)

unique_strips : (b : Bool) → Strips (unique_marks b) (unique_marks b)
unique_strips true = last (sign kinds.Unique)
unique_strips false = none

end_strips : (e : Option Ex) → Strips (fun_end_marks (option_map bare e)) (fun_end_marks e)
end_strips None = last (sign kinds.Semicolon)
end_strips (Some e) = braces (ex_strips e)

decl_strips : (d : Decl) → Strips (decl_marks (bare_decl d)) (decl_marks d)
decl_strips (Types p attrs ds) = join (join (put (sign_at p kinds.Type) (attrs_strip attrs)) (commas_strip new_type_marks bare_new_type new_type_strips ds)) (last (sign kinds.Semicolon))
decl_strips (Constants c) =
    join (join (join (join (put (sign_at c.pos kinds.Const) (attrs_strip c.group.attrs)) (unique_strips c.is_unique)) (ids_strip c.group.names)) (put (sign kinds.Colon) (type_strips c.group.ty)))
    (last (sign kinds.Semicolon))
decl_strips (Function f) =
    join (join (join (put (sign_at f.pos kinds.Function) (attrs_strip f.attrs)) (put (id_mark f.name) (put (sign kinds.Open) (commas_strip fun_arg_marks bare_fun_arg fun_arg_strips f.args))))
    (put (sign kinds.Close) (fun_result_strips f.result))) (end_strips f.body)
decl_strips (Axiom p attrs e) = join (join (put (sign_at p kinds.Axiom) (attrs_strip attrs)) (ex_strips e)) (last (sign kinds.Semicolon))
decl_strips (Globals v) = vars_strip v
decl_strips (Procedure q) = join (join (put (sign_at q.pos kinds.Procedure) (attrs_strip q.attrs)) (put (id_mark q.name) (sig_strips q.sig))) (tail_strips q.specs q.body)
decl_strips (Implementation q) = join (join (put (sign_at q.pos kinds.Implementation) (attrs_strip q.attrs)) (put (id_mark q.name) (sig_strips q.sig))) (body_strips q.body)

-- a program without its positions has its marks, at no place
pub decls_strip : (ds : List Decl) → Strips (each decl_marks (bare_decls ds)) (each decl_marks ds)
decls_strip ds = each_strips decl_marks bare_decl decl_strips ds
