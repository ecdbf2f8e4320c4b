-- Declarations are ones of the grammar where they are without their positions.
use Rattle.std.proofs.Common.{List, map}
use Rattle.bg_text.specs.Trees.{NewType, FunArg, FunResult, Returns, Colon, Sig, Spec, Requires, Ensures, Modifies, Vars, Body, Decl, Types, Constants, Function, Axiom, Globals, Procedure, Implementation}
use Rattle.bg_text.specs.Spelling.{IsEx}
use Rattle.bg_text.specs.Types.{All, IsType, IsGroup}
use Rattle.bg_text.specs.Declarations.{IsNewType, IsFunArg, IsFunResult, IsSig, IsSpec, IsVars, IsBody, IsDecl}
use Rattle.bg_expr.specs.Bare.{bare}
use Rattle.bg_reread.specs.Bare.{bare_type, bare_group, bare_new_type, bare_fun_arg, bare_fun_result, bare_sig, bare_spec, bare_vars, bare_body, bare_decl, bare_decls}
use Rattle.bg_reread.proofs.Same.{Same, itself, both, three, four, some_same, all_same, there_same}
use Rattle.bg_reread.proofs.ExRules.{ex_same}
use Rattle.bg_reread.proofs.TypeRules.{type_same, attrs_same, groups_same, group_same}
use Rattle.bg_reread.proofs.StRules.{clause_same, sts_same}

new_type_same : (d : NewType) → Same (IsNewType (bare_new_type d)) (IsNewType d)
new_type_same d = there_same IsType bare_type type_same d.synonym

fun_arg_same : (a : FunArg) → Same (IsFunArg (bare_fun_arg a)) (IsFunArg a)
fun_arg_same a = type_same a.ty

fun_result_same : (r : FunResult) → Same (IsFunResult (bare_fun_result r)) (IsFunResult r)
fun_result_same (Returns a) = fun_arg_same a
fun_result_same (Colon t) = type_same t

sig_same : (s : Sig) → Same (IsSig (bare_sig s)) (IsSig s)
sig_same s = both (groups_same s.params) (there_same (All IsGroup) (map bare_group) groups_same s.results)

spec_same : (s : Spec) → Same (IsSpec (bare_spec s)) (IsSpec s)
spec_same (Requires c) = clause_same c
spec_same (Ensures c) = clause_same c
spec_same (Modifies p xs) = itself (Unit {0})

vars_same : (v : Vars) → Same (IsVars (bare_vars v)) (IsVars v)
vars_same v = both (some_same bare_group v.groups) (groups_same v.groups)

body_same : (b : Body) → Same (IsBody (bare_body b)) (IsBody b)
body_same b = both (all_same IsVars bare_vars vars_same b.locals) (sts_same b.stmts)

decl_same : (d : Decl) → Same (IsDecl (bare_decl d)) (IsDecl d)
decl_same (Types p attrs ds) = three (attrs_same attrs) (some_same bare_new_type ds) (all_same IsNewType bare_new_type new_type_same ds)
decl_same (Constants c) = group_same c.group
decl_same (Function f) = four (attrs_same f.attrs) (all_same IsFunArg bare_fun_arg fun_arg_same f.args) (fun_result_same f.result) (there_same IsEx bare ex_same f.body)
decl_same (Axiom p attrs e) = both (attrs_same attrs) (ex_same e)
decl_same (Globals v) = vars_same v
decl_same (Procedure q) = four (attrs_same q.attrs) (sig_same q.sig) (all_same IsSpec bare_spec spec_same q.specs) (there_same IsBody bare_body body_same q.body)
decl_same (Implementation q) = three (attrs_same q.attrs) (sig_same q.sig) (body_same q.body)

-- a program is one of the grammar where it is one without its positions
pub decls_same : (ds : List Decl) → Same (All IsDecl (bare_decls ds)) (All IsDecl ds)
decls_same ds = all_same IsDecl bare_decl decl_same ds
