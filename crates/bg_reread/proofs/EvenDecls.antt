-- Each bracket of a declaration is closed.
use Rattle.std.proofs.Common.{Bool, true, false, List, [], ◌∷◌, Option, Some, None, refl}
use Rattle.bg_text.specs.declared.token.Kind.TheVariants as kinds
use Rattle.bg_text.specs.Trees.{Ex, Group, NewType, FunArg, FunResult, Returns, Colon, Sig, Spec, Requires, Ensures, Modifies, Vars, Body, Decl, Types, Constants, Function, Axiom, Globals, Procedure, Implementation}
use Rattle.bg_text.specs.Marks.{sign, sign_at, id_mark, each, commas}
use Rattle.bg_text.specs.Types.{type_marks, attr_marks, group_marks}
use Rattle.bg_text.specs.Declarations.{new_type_marks, fun_arg_marks, fun_result_marks, in_parens, sig_marks, spec_marks, vars_marks, body_marks, tail_marks, unique_marks, fun_end_marks, decl_marks}
use Rattle.bg_reread.proofs.Even.{Even, calm, plain, chain, regroup, round, curly, ended, each_even, commas_even, there_even}
use Rattle.bg_reread.proofs.EvenParts.{ex_even, type_even, ids_even, attrs_even, group_even}
use Rattle.bg_reread.proofs.EvenSts.{clause_even, sts_even}

new_type_even : (d : NewType) → Even (new_type_marks d)
new_type_even d = plain (id_mark d.name) refl (there_even (λ t. sign kinds.Sets ∷ type_marks t) (λ t. plain (sign kinds.Sets) refl (type_even t)) d.synonym)

fun_arg_even : (a : FunArg) → Even (fun_arg_marks a)
fun_arg_even a = chain (there_even (λ x. id_mark x ∷ sign kinds.Colon ∷ []) (λ x. plain (id_mark x) refl (plain (sign kinds.Colon) refl calm)) a.name) (type_even a.ty)

fun_result_even : (r : FunResult) → Even (fun_result_marks r)
fun_result_even (Returns a) = plain (sign kinds.Returns) refl (round (fun_arg_even a) calm)
fun_result_even (Colon t) = plain (sign kinds.Colon) refl (type_even t)

parens_even : (gs : List Group) → Even (in_parens gs)
parens_even gs = round (commas_even group_marks group_even gs) calm

sig_even : (s : Sig) → Even (sig_marks s)
sig_even s = chain (parens_even s.params) (there_even (λ gs. sign kinds.Returns ∷ in_parens gs) (λ gs. plain (sign kinds.Returns) refl (parens_even gs)) s.results)

spec_even : (s : Spec) → Even (spec_marks s)
spec_even (Requires c) = clause_even kinds.Requires refl c
spec_even (Ensures c) = clause_even kinds.Ensures refl c
spec_even (Modifies p xs) = chain (plain (sign_at p kinds.Modifies) refl (ids_even xs)) ended

vars_even : (v : Vars) → Even (vars_marks v)
vars_even v = chain (plain (sign_at v.pos kinds.Var) refl (commas_even group_marks group_even v.groups)) ended

body_even : (b : Body) → Even (body_marks b)
body_even b = curly (chain (each_even vars_marks vars_even b.locals) (sts_even b.stmts))

tail_even : (specs : List Spec) (b : Option Body) → Even (tail_marks specs b)
tail_even specs None = plain (sign kinds.Semicolon) refl (each_even spec_marks spec_even specs)
tail_even specs (Some b) = chain (each_even spec_marks spec_even specs) (body_even b)

unique_even : (b : Bool) → Even (unique_marks b)
unique_even true = plain (sign kinds.Unique) refl calm
unique_even false = calm

end_even : (e : Option Ex) → Even (fun_end_marks e)
end_even None = ended
end_even (Some e) = curly (ex_even e)

decl_even : (d : Decl) → Even (decl_marks d)
decl_even (Types p attrs ds) = chain (chain (plain (sign_at p kinds.Type) refl (attrs_even attrs)) (commas_even new_type_marks new_type_even ds)) ended
decl_even (Constants c) =
    chain (chain (chain (chain (plain (sign_at c.pos kinds.Const) refl (attrs_even c.group.attrs)) (unique_even c.is_unique)) (ids_even c.group.names)) (plain (sign kinds.Colon) refl (type_even c.group.ty))) ended
decl_even (Function f) =
    chain
    (regroup (sign_at f.pos kinds.Function ∷ each attr_marks f.attrs) (id_mark f.name ∷ sign kinds.Open ∷ commas fun_arg_marks f.args) (sign kinds.Close ∷ fun_result_marks f.result)
    (chain (plain (sign_at f.pos kinds.Function) refl (attrs_even f.attrs)) (plain (id_mark f.name) refl (round (commas_even fun_arg_marks fun_arg_even f.args) (fun_result_even f.result))))) (end_even f.body)
decl_even (Axiom p attrs e) = chain (chain (plain (sign_at p kinds.Axiom) refl (attrs_even attrs)) (ex_even e)) ended
decl_even (Globals v) = vars_even v
decl_even (Procedure q) = chain (chain (plain (sign_at q.pos kinds.Procedure) refl (attrs_even q.attrs)) (plain (id_mark q.name) refl (sig_even q.sig))) (tail_even q.specs q.body)
decl_even (Implementation q) = chain (chain (plain (sign_at q.pos kinds.Implementation) refl (attrs_even q.attrs)) (plain (id_mark q.name) refl (sig_even q.sig))) (body_even q.body)

-- each bracket of a program is closed
pub decls_even : (ds : List Decl) → Even (each decl_marks ds)
decls_even ds = each_even decl_marks decl_even ds
