-- The tokens of declarations and programs, rule by rule.
use Rattle.std.specs.Prelude.{◌≢◌, List, [], ◌∷◌, ◌++◌, Bool, true, false, Option, Some, None}
use Rattle.bg_text.specs.declared.token.Kind.TheVariants as kinds
use Rattle.bg_text.specs.Tokens.{Tok}
use Rattle.bg_text.specs.Trees.{Ex, Group, NewType, FunArg, FunResult, Returns, Colon, Sig, Spec, Requires, Ensures, Modifies, Vars, Body, Decl, Types, Constants, Function, Axiom, Globals, Procedure, Implementation}
use Rattle.bg_text.specs.Marks.{Mark, sign, sign_at, id_mark, each, commas, if_there, Fits, Words}
use Rattle.bg_text.specs.Spelling.{ex_marks, IsEx}
use Rattle.bg_text.specs.Types.{All, IfThere, type_marks, IsType, ids_marks, attr_marks, IsAttr, group_marks, IsGroup}
use Rattle.bg_text.specs.Statements.{clause_marks, IsClause, in_braces, sts_marks, AreSts}

abbrev pub new_type_marks : NewType → List Mark
new_type_marks d = id_mark d.name ∷ if_there (λ t. sign kinds.Sets ∷ type_marks t) d.synonym

abbrev pub IsNewType : NewType → Type 0
IsNewType d = IfThere IsType d.synonym

abbrev pub fun_arg_marks : FunArg → List Mark
fun_arg_marks a = if_there (λ x. id_mark x ∷ sign kinds.Colon ∷ []) a.name ++ type_marks a.ty

abbrev pub IsFunArg : FunArg → Type 0
IsFunArg a = IsType a.ty

abbrev pub fun_result_marks : FunResult → List Mark
fun_result_marks (Returns a) = sign kinds.Returns ∷ sign kinds.Open ∷ fun_arg_marks a ++ sign kinds.Close ∷ []
fun_result_marks (Colon t) = sign kinds.Colon ∷ type_marks t

abbrev pub IsFunResult : FunResult → Type 0
IsFunResult (Returns a) = IsFunArg a
IsFunResult (Colon t) = IsType t

abbrev pub in_parens : List Group → List Mark
in_parens gs = sign kinds.Open ∷ commas group_marks gs ++ sign kinds.Close ∷ []

abbrev pub sig_marks : Sig → List Mark
sig_marks s = in_parens s.params ++ if_there (λ gs. sign kinds.Returns ∷ in_parens gs) s.results

abbrev pub IsSig : Sig → Type 0
IsSig s = All IsGroup s.params × IfThere (All IsGroup) s.results

abbrev pub spec_marks : Spec → List Mark
spec_marks (Requires c) = clause_marks kinds.Requires c
spec_marks (Ensures c) = clause_marks kinds.Ensures c
spec_marks (Modifies p xs) = sign_at p kinds.Modifies ∷ ids_marks xs ++ sign kinds.Semicolon ∷ []

abbrev pub IsSpec : Spec → Type 0
IsSpec (Requires c) = IsClause c
IsSpec (Ensures c) = IsClause c
IsSpec (Modifies p xs) = Unit {0}

abbrev pub vars_marks : Vars → List Mark
vars_marks v = sign_at v.pos kinds.Var ∷ commas group_marks v.groups ++ sign kinds.Semicolon ∷ []

abbrev pub IsVars : Vars → Type 0
IsVars v = (v.groups ≢ []) × All IsGroup v.groups

abbrev pub body_marks : Body → List Mark
body_marks b = in_braces (each vars_marks b.locals ++ sts_marks b.stmts)

abbrev pub IsBody : Body → Type 0
IsBody b = All IsVars b.locals × AreSts b.stmts

-- a procedure without a body has a semicolon before its specification
abbrev pub tail_marks : List Spec → Option Body → List Mark
tail_marks specs None = sign kinds.Semicolon ∷ each spec_marks specs
tail_marks specs (Some b) = each spec_marks specs ++ body_marks b

abbrev pub unique_marks : Bool → List Mark
unique_marks true = sign kinds.Unique ∷ []
unique_marks false = []

-- what ends a function: a semicolon, or its body
abbrev pub fun_end_marks : Option Ex → List Mark
fun_end_marks None = sign kinds.Semicolon ∷ []
fun_end_marks (Some e) = in_braces (ex_marks e)

abbrev pub decl_marks : Decl → List Mark
decl_marks (Types p attrs ds) = sign_at p kinds.Type ∷ each attr_marks attrs ++ commas new_type_marks ds ++ sign kinds.Semicolon ∷ []
decl_marks (Constants c) =
    sign_at c.pos kinds.Const ∷ each attr_marks c.group.attrs ++ unique_marks c.is_unique ++ ids_marks c.group.names ++ sign kinds.Colon
    ∷ type_marks c.group.ty ++ sign kinds.Semicolon ∷ []
decl_marks (Function f) =
    sign_at f.pos kinds.Function ∷ each attr_marks f.attrs ++ id_mark f.name ∷ sign kinds.Open ∷ commas fun_arg_marks f.args
    ++ sign kinds.Close ∷ fun_result_marks f.result ++ fun_end_marks f.body
decl_marks (Axiom p attrs e) = sign_at p kinds.Axiom ∷ each attr_marks attrs ++ ex_marks e ++ sign kinds.Semicolon ∷ []
decl_marks (Globals v) = vars_marks v
decl_marks (Procedure q) = sign_at q.pos kinds.Procedure ∷ each attr_marks q.attrs ++ id_mark q.name ∷ sig_marks q.sig ++ tail_marks q.specs q.body
decl_marks (Implementation q) = sign_at q.pos kinds.Implementation ∷ each attr_marks q.attrs ++ id_mark q.name ∷ sig_marks q.sig ++ body_marks q.body

abbrev pub IsDecl : Decl → Type 0
IsDecl (Types p attrs ds) = All IsAttr attrs × (ds ≢ []) × All IsNewType ds
IsDecl (Constants c) = IsGroup c.group
IsDecl (Function f) = All IsAttr f.attrs × All IsFunArg f.args × IsFunResult f.result × IfThere IsEx f.body
IsDecl (Axiom p attrs e) = All IsAttr attrs × IsEx e
IsDecl (Globals v) = IsVars v
IsDecl (Procedure q) = All IsAttr q.attrs × IsSig q.sig × All IsSpec q.specs × IfThere IsBody q.body
IsDecl (Implementation q) = All IsAttr q.attrs × IsSig q.sig × IsBody q.body

-- the program is spelled by these tokens
abbrev pub SpellsTree : List Decl → List Tok → Type 0
SpellsTree ds ts = All IsDecl ds × Words ts (each decl_marks ds)

-- and it has their positions
abbrev pub SpellsTreeAt : List Decl → List Tok → Type 0
SpellsTreeAt ds ts = All IsDecl ds × Fits ts (each decl_marks ds)
