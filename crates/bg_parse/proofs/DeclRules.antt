-- Declarations are rules, and so are programs.
use Rattle.std.proofs.Common.{◌≡◌, ◌≢◌, ℕ, zero, suc, List, [], ◌∷◌, ◌++◌, Bool, true, false, Option, Some, None, refl, sym, ap, subst, arith, ◌⊎◌, inl, inr, append_assoc}
use Rattle.bg_base.specs.declared.pos.Pos.{Pos}
use Rattle.bg_text.specs.declared.token.Kind.{Kind}
use Rattle.bg_text.specs.declared.token.Kind.TheVariants as kinds
use Rattle.bg_text.specs.Tokens.{Tok}
use Rattle.bg_text.specs.Trees.{Id, Ty, IntType, BoolType, NamedType, InParens, MapType, Ex, Truth, Attr, Group, Clause, NewType, FunArg, FunResult, Returns, Colon, Sig, Spec, Requires, Ensures, Modifies, Vars, Body, Sts, NoSt, Decl, Types, Constants, Function, Axiom, Globals, Procedure, Implementation}
use Rattle.bg_text.specs.Marks.{Mark, sign, sign_at, name_at, id_mark, each, commas, if_there}
use Rattle.bg_text.specs.Spelling.{ex_marks, IsEx}
use Rattle.bg_text.specs.Types.{All, IfThere, type_marks, IsType, ids_marks, attr_marks, IsAttr, group_marks, IsGroup}
use Rattle.bg_text.specs.Statements.{IsClause, IsPlain, sts_marks}
use Rattle.bg_text.specs.Declarations.{new_type_marks, IsNewType, fun_arg_marks, IsFunArg, fun_result_marks, IsFunResult, in_parens, sig_marks, IsSig, spec_marks, IsSpec, vars_marks, IsVars, body_marks, IsBody, tail_marks, unique_marks, fun_end_marks, decl_marks, IsDecl}
use Rattle.bg_reader.specs.Reading.{Reader, with_read, a_sign, a_text, nothing}
use Rattle.bg_reader.specs.Exact.{Begins}
use Rattle.bg_reader.proofs.Samples.{sample}
use Rattle.bg_expr.specs.Exprs.{expr_at}
use Rattle.bg_grammar.specs.Rules.{a_kind, choose, below, room}
use Rattle.bg_grammar.proofs.Rule.{nowhere, Spelled, Rule, Image, text_rule, both_rule, image_rule, iff_rule, via_rule, choose_rule, parts_ways, less_rule, Picker, sign_picker, text_picker, kind_picker, row_ok, rows_rule, at_rule, after_rule, before_rule, shut_rule, nothing_rule, commas_rule, list_closed_rule, Behind, NoRoom, Rooms, behind_rule, Within, Full, Room, inside_rule}
use Rattle.bg_parts.specs.Parts.{clause}
use Rattle.bg_parse.specs.Declarations.{new_type_at, types_at, unique_at, constants, constants_at, named_arg, fun_arg_at, fun_args_in, fun_args_at, fun_result_at, fun_end_at, function, function_at, axiom_at, vars_at, params_in, params_at, sig_at, free_at, free_spec, spec_kinds, modifies_at, spec_at, specs_at, body_in, body_at, Tail, tail_at, procedure, procedure_at, implementation, implementation_at, decl_kinds, big_at, decl_at, decls_at}
use Rattle.bg_parts.proofs.TypeRules.{id_rule, type_rule, UnnamedType, unnamed_rule}
use Rattle.bg_parts.proofs.ExprRule.{expr_rule}
use Rattle.bg_parts.proofs.PartRules.{attrs_rule, SomeIds, ids_rule, group_firsts, group_rule, SaysWell, says_marks, says_rule, clause_rule}
use Rattle.bg_stmts.proofs.StatementRules.{stmt_firsts, stmts_rule}

-- a part that may be left out
opt_to : {A : Type 0} (I : A → Type 0) (o : Option A) → Image Some I o ⊎ (o ≡ None) → IfThere I o
opt_to I o (inl i) = subst (IfThere I) i.1 i.2
opt_to I o (inr i) = subst (IfThere I) (sym i) tt

opt_back : {A : Type 0} (I : A → Type 0) (o : Option A) → IfThere I o → Image Some I o ⊎ (o ≡ None)
opt_back I None i = inr refl
opt_back I (Some a) i = inl (a, refl, i)

optional_rule : {A B : Type 0} {n d : ℕ} {F S H : List Kind} {I : A → Type 0} {m : A → List Mark} {P : Reader A} (g : Tok → Option B) (K : List Kind) → Picker g K → Rule n d d F S H false I m P → parts_ways K H S [] true F ≡ true → Rule n d d F (S ++ []) (H ++ []) true (IfThere I) (if_there m) (choose g (λ ts. with_read Some (P ts)) (nothing None))
optional_rule {n = n} {d = d} {F = F} {I = I} {m = m} g K pick p ok = iff_rule (choose_rule g K pick (image_rule p Some (if_there m) (λ v i. refl)) (nothing_rule n d F None (if_there m) refl) ok) (IfThere I) (opt_to I) (opt_back I)

-- regrouped
three : (a b c : List Mark) → (a ++ b) ++ c ≡ a ++ (b ++ c)
three a b c = simp append_assoc

five : (a b c d e : List Mark) → (((a ++ b) ++ c) ++ d) ++ e ≡ a ++ (b ++ (c ++ (d ++ e)))
five a b c d e = simp append_assoc

called : (a b c d : List Mark) (x y z : Mark) → ((a ++ (x ∷ y ∷ b)) ++ (z ∷ c)) ++ d ≡ a ++ (x ∷ ((y ∷ (b ++ z ∷ [])) ++ (c ++ d)))
called a b c d x y z = simp append_assoc

-- types
abbrev new_type_ends : List Kind
new_type_ends = kinds.Comma ∷ kinds.Semicolon ∷ []

new_type_rule : (n d : ℕ) → Rule n d d new_type_ends (kinds.Name ∷ []) (kinds.Name ∷ []) false IsNewType new_type_marks (new_type_at n d)
unfolding new_type_at
new_type_rule n d =
    via_rule (both_rule (id_rule n d (kinds.Sets ∷ new_type_ends)) (optional_rule (a_sign kinds.Sets) (kinds.Sets ∷ []) (sign_picker kinds.Sets) (after_rule kinds.Sets refl refl (less_rule (type_rule n d) n (omega arith) new_type_ends refl)) refl) refl)
    (λ (v : Id × Option Ty). record { name = v.0; synonym = v.1 }) IsNewType new_type_marks (λ v i. refl) (λ v i. i.1) (λ w i. ((w.name, w.synonym), refl, (tt, i)))

abbrev TypesParts : Type 0
TypesParts = Pos × (List Attr × List NewType)

abbrev IsTypes : Decl → Type 0
IsTypes = Image (λ (v : TypesParts). Types v.0 v.1.0 v.1.1) (λ v. All IsAttr v.1.0 × ((v.1.1 ≢ []) × All IsNewType v.1.1))

types_rule : (n d : ℕ) → Rule n d d decl_kinds (kinds.Type ∷ []) (kinds.Type ∷ []) false IsTypes decl_marks (types_at n d)
unfolding types_at
types_rule n d =
    image_rule (at_rule kinds.Type refl refl (both_rule (attrs_rule n d (kinds.Name ∷ []) refl) (before_rule d decl_kinds kinds.Semicolon refl refl (commas_rule (new_type_rule n d) (kinds.Semicolon ∷ []) refl) refl) refl))
    (λ (v : TypesParts). Types v.0 v.1.0 v.1.1) decl_marks (λ v i. ap (λ l. sign_at v.0 kinds.Type ∷ l) (three (each attr_marks v.1.0) (commas new_type_marks v.1.1) (sign kinds.Semicolon ∷ [])))

-- constants
bool_back : (b : Bool) → Unit {0} → (b ≡ true) ⊎ (b ≡ false)
bool_back true i = inl refl
bool_back false i = inr refl

unique_rule : (n d : ℕ) → Rule n d d (kinds.Name ∷ []) (kinds.Unique ∷ []) (kinds.Unique ∷ []) true (λ b. Unit {0}) unique_marks unique_at
unfolding unique_at
unique_rule n d =
    iff_rule (choose_rule (a_sign kinds.Unique) (kinds.Unique ∷ []) (sign_picker kinds.Unique) (shut_rule n d d (kinds.Name ∷ []) kinds.Unique refl refl true unique_marks refl) (nothing_rule n d (kinds.Name ∷ []) false unique_marks refl) refl)
    (λ b. Unit {0}) (λ b i. tt) bool_back

abbrev ConstParts : Type 0
ConstParts = Pos × (List Attr × (Bool × (List Id × Ty)))

abbrev const_from : ConstParts → Decl
const_from v = constants v.0 v.1.0 v.1.1.0 v.1.1.1.0 v.1.1.1.1

abbrev IsConstants : Decl → Type 0
IsConstants = Image const_from (λ v. All IsAttr v.1.0 × (Unit {0} × (SomeIds v.1.1.1.0 × IsType v.1.1.1.1)))

constants_rule : (n d : ℕ) → Rule n d d decl_kinds (kinds.Const ∷ []) (kinds.Const ∷ []) false IsConstants decl_marks (constants_at n d)
unfolding constants_at
constants_rule n d =
    image_rule (at_rule kinds.Const refl refl (both_rule (attrs_rule n d (kinds.Unique ∷ kinds.Name ∷ []) refl) (both_rule (unique_rule n d) (both_rule (ids_rule n d (kinds.Colon ∷ []) refl) (after_rule kinds.Colon refl refl (before_rule d decl_kinds kinds.Semicolon refl refl (type_rule n d) refl)) refl) refl) refl))
    const_from decl_marks (λ v i. ap (λ l. sign_at v.0 kinds.Const ∷ l) (five (each attr_marks v.1.0) (unique_marks v.1.1.0) (ids_marks v.1.1.1.0) (sign kinds.Colon ∷ type_marks v.1.1.1.1) (sign kinds.Semicolon ∷ [])))

-- functions
abbrev type_kinds : List Kind
type_kinds = kinds.Name ∷ kinds.OpenBracket ∷ kinds.Int ∷ kinds.Bool ∷ kinds.Open ∷ []

abbrev arg_ends : List Kind
arg_ends = kinds.Comma ∷ kinds.Close ∷ []

abbrev ArgParts : Type 0
ArgParts = (Pos × List ℕ) × Option Ty

abbrev arg_from : ArgParts → FunArg
arg_from v = named_arg v.0.0 v.0.1 v.1

abbrev NamedArg : FunArg → Type 0
NamedArg = Image arg_from (λ v. IfThere IsType v.1)

abbrev PlainArg : FunArg → Type 0
PlainArg = Image (λ (ty : Ty). record { name = None; ty = ty }) UnnamedType

arg_same : (p : Pos) (x : List ℕ) (o : Option Ty) → fun_arg_marks (named_arg p x o) ≡ name_at p x ∷ if_there (λ t. sign kinds.Colon ∷ type_marks t) o
arg_same p x None = refl
arg_same p x (Some t) = refl

named_to : (p : Pos) (x : List ℕ) (o : Option Ty) → IfThere IsType o → IsFunArg (named_arg p x o)
named_to p x None i = tt
named_to p x (Some t) i = i

arg_to : (a : FunArg) → NamedArg a ⊎ PlainArg a → IsFunArg a
arg_to a (inl i) = subst IsFunArg i.1 (named_to i.0.0.0 i.0.0.1 i.0.1 i.2)
arg_to a (inr i) = subst IsFunArg i.1 i.2.0

abbrev of_parts : Option Id → Ty → FunArg
of_parts o t = record { name = o; ty = t }

arg_back_by : (o : Option Id) (t : Ty) → IsType t → NamedArg (of_parts o t) ⊎ PlainArg (of_parts o t)
arg_back_by (Some x) t i = inl (((x.pos, x.text), Some t), refl, i)
arg_back_by None (NamedType p x) i = inl (((p, x), None), refl, tt)
arg_back_by None (IntType p) i = inr (IntType p, refl, (i, refl))
arg_back_by None (BoolType p) i = inr (BoolType p, refl, (i, refl))
arg_back_by None (InParens p t) i = inr (InParens p t, refl, (i, refl))
arg_back_by None (MapType bs t) i = inr (MapType bs t, refl, (i, refl))

fun_arg_rule : (n d : ℕ) → Rule n d d arg_ends type_kinds type_kinds false IsFunArg fun_arg_marks (fun_arg_at n d)
unfolding fun_arg_at
fun_arg_rule n d =
    iff_rule (choose_rule (a_text kinds.Name) (kinds.Name ∷ []) (text_picker kinds.Name)
    (image_rule (iff_rule (both_rule (text_rule n d d (kinds.Colon ∷ arg_ends) kinds.Name refl refl) (optional_rule (a_sign kinds.Colon) (kinds.Colon ∷ []) (sign_picker kinds.Colon) (after_rule kinds.Colon refl refl (less_rule (type_rule n d) n (omega arith) arg_ends refl)) refl) refl) (λ v. IfThere IsType v.1) (λ v i. i.1) (λ v i. (tt, i))) arg_from fun_arg_marks (λ v i. arg_same v.0.0 v.0.1 v.1))
    (image_rule (less_rule (unnamed_rule n d) n (omega arith) arg_ends refl) (λ (ty : Ty). record { name = None; ty = ty }) fun_arg_marks (λ v i. refl)) refl)
    IsFunArg arg_to (λ a i. arg_back_by a.name a.ty i)

fun_args_in_rule : (n d : ℕ) (F : List Kind) → Rule n d (suc d) F (kinds.Close ∷ type_kinds) (kinds.Close ∷ type_kinds) false (All IsFunArg) (λ l. commas fun_arg_marks l ++ sign kinds.Close ∷ []) (fun_args_in n d)
unfolding fun_args_in
fun_args_in_rule n d F = list_closed_rule (suc d) F kinds.Close refl refl (fun_arg_rule n d) refl

no_args : {A : Type 0} (I : A → Type 0) (m : A → List Mark) → Begins (Spelled (All I) (λ l. commas m l ++ sign kinds.Close ∷ [])) []
no_args I m = ([], sample kinds.Close refl nowhere ∷ [], (tt, ((refl, tt, tt), tt)))

fun_args_behind : (n d : ℕ) (F : List Kind) → Behind n d F (All IsFunArg) (λ l. commas fun_arg_marks l ++ sign kinds.Close ∷ []) (room (fun_args_in n) (below d))
fun_args_behind n zero F = NoRoom refl (no_args IsFunArg fun_arg_marks)
fun_args_behind n (suc d) F = Rooms d refl (fun_args_in_rule n d F)

fun_args_rule : (n d : ℕ) (F : List Kind) → Rule n d d F (kinds.Open ∷ []) (kinds.Open ∷ []) false (All IsFunArg) (λ l. sign kinds.Open ∷ (commas fun_arg_marks l ++ sign kinds.Close ∷ [])) (fun_args_at n d)
unfolding fun_args_at
fun_args_rule n d F = behind_rule (All IsFunArg) (λ l. commas fun_arg_marks l ++ sign kinds.Close ∷ []) F kinds.Open refl refl (fun_args_behind n d F)

int_arg : Begins (Spelled IsFunArg fun_arg_marks) []
int_arg = (of_parts None (IntType nowhere), sample kinds.Int refl nowhere ∷ [], (tt, ((refl, tt, refl), tt)))

fun_arg_within : (n d : ℕ) → Within n d kinds.Close IsFunArg fun_arg_marks (room (fun_arg_at n) (below d))
fun_arg_within n zero = Full refl int_arg
fun_arg_within n (suc d) = Room d refl refl (fun_arg_rule n d)

result_to : (r : FunResult) → Image Returns IsFunArg r ⊎ Image Colon IsType r → IsFunResult r
result_to r (inl i) = subst IsFunResult i.1 i.2
result_to r (inr i) = subst IsFunResult i.1 i.2

result_back : (r : FunResult) → IsFunResult r → Image Returns IsFunArg r ⊎ Image Colon IsType r
result_back (Returns a) i = inl (a, refl, i)
result_back (Colon t) i = inr (t, refl, i)

abbrev result_ends : List Kind
result_ends = kinds.Semicolon ∷ kinds.OpenBrace ∷ []

fun_result_rule : (n d : ℕ) → Rule n d d result_ends (kinds.Returns ∷ kinds.Colon ∷ []) (kinds.Returns ∷ kinds.Colon ∷ []) false IsFunResult fun_result_marks (fun_result_at n d)
unfolding fun_result_at
fun_result_rule n d =
    iff_rule (choose_rule (a_sign kinds.Returns) (kinds.Returns ∷ []) (sign_picker kinds.Returns)
    (image_rule (after_rule kinds.Returns refl refl (inside_rule IsFunArg fun_arg_marks result_ends kinds.Open kinds.Close refl refl refl (λ b. refl) (fun_arg_within n d))) Returns fun_result_marks (λ v i. refl))
    (image_rule (after_rule kinds.Colon refl refl (less_rule (type_rule n d) n (omega arith) result_ends refl)) Colon fun_result_marks (λ v i. refl)) refl)
    IsFunResult result_to result_back

true_word : Begins (Spelled IsEx ex_marks) []
true_word = (Truth nowhere true, sample kinds.True refl nowhere ∷ [], (tt, ((refl, tt, refl), tt)))

expr_within : (n d : ℕ) → Within n d kinds.CloseBrace IsEx ex_marks (room (expr_at n) (below d))
expr_within n zero = Full refl true_word
expr_within n (suc d) = Room d refl refl (expr_rule n d)

end_back : (o : Option Ex) → IfThere IsEx o → (o ≡ None) ⊎ Image Some IsEx o
end_back None i = inl refl
end_back (Some e) i = inr (e, refl, i)

end_to : (o : Option Ex) → (o ≡ None) ⊎ Image Some IsEx o → IfThere IsEx o
end_to o (inl i) = subst (IfThere IsEx) (sym i) tt
end_to o (inr i) = subst (IfThere IsEx) i.1 i.2

fun_end_rule : (n d : ℕ) → Rule n d d decl_kinds result_ends result_ends false (IfThere IsEx) fun_end_marks (fun_end_at n d)
unfolding fun_end_at
fun_end_rule n d =
    iff_rule (choose_rule (a_sign kinds.Semicolon) (kinds.Semicolon ∷ []) (sign_picker kinds.Semicolon)
    (shut_rule n d d decl_kinds kinds.Semicolon refl refl None fun_end_marks refl)
    (image_rule (inside_rule IsEx ex_marks decl_kinds kinds.OpenBrace kinds.CloseBrace refl refl refl (λ b. refl) (expr_within n d)) Some fun_end_marks (λ v i. refl)) refl)
    (IfThere IsEx) end_to end_back

abbrev FunParts : Type 0
FunParts = Pos × (List Attr × (Id × (List FunArg × (FunResult × Option Ex))))

abbrev fun_from : FunParts → Decl
fun_from v = function v.0 v.1.0 v.1.1.0 v.1.1.1.0 v.1.1.1.1.0 v.1.1.1.1.1

abbrev IsFunction : Decl → Type 0
IsFunction = Image fun_from (λ v. All IsAttr v.1.0 × (Unit {0} × (All IsFunArg v.1.1.1.0 × (IsFunResult v.1.1.1.1.0 × IfThere IsEx v.1.1.1.1.1))))

function_rule : (n d : ℕ) → Rule n d d decl_kinds (kinds.Function ∷ []) (kinds.Function ∷ []) false IsFunction decl_marks (function_at n d)
unfolding function_at
function_rule n d =
    image_rule (at_rule kinds.Function refl refl (both_rule (attrs_rule n d (kinds.Name ∷ []) refl) (both_rule (id_rule n d (kinds.Open ∷ [])) (both_rule (fun_args_rule n d (kinds.Returns ∷ kinds.Colon ∷ [])) (both_rule (fun_result_rule n d) (fun_end_rule n d) refl) refl) refl) refl))
    fun_from decl_marks (λ v i. ap (λ l. sign_at v.0 kinds.Function ∷ l) (called (each attr_marks v.1.0) (commas fun_arg_marks v.1.1.1.0) (fun_result_marks v.1.1.1.1.0) (fun_end_marks v.1.1.1.1.1) (id_mark v.1.1.0) (sign kinds.Open) (sign kinds.Close)))

-- axioms
abbrev AxiomParts : Type 0
AxiomParts = Pos × (List Attr × Ex)

abbrev IsAxiom : Decl → Type 0
IsAxiom = Image (λ (v : AxiomParts). Axiom v.0 v.1.0 v.1.1) (λ v. SaysWell v.1)

axiom_rule : (n d : ℕ) → Rule n d d decl_kinds (kinds.Axiom ∷ []) (kinds.Axiom ∷ []) false IsAxiom decl_marks (axiom_at n d)
unfolding axiom_at
axiom_rule n d = image_rule (at_rule kinds.Axiom refl refl (says_rule n d decl_kinds)) (λ (v : AxiomParts). Axiom v.0 v.1.0 v.1.1) decl_marks (λ v i. ap (λ l. sign_at v.0 kinds.Axiom ∷ l) (three (each attr_marks v.1.0) (ex_marks v.1.1) (sign kinds.Semicolon ∷ [])))

-- variables
vars_rule : (n d : ℕ) (F : List Kind) → Rule n d d F (kinds.Var ∷ []) (kinds.Var ∷ []) false IsVars vars_marks (vars_at n d)
unfolding vars_at
vars_rule n d F =
    via_rule (at_rule kinds.Var refl refl (before_rule d F kinds.Semicolon refl refl (commas_rule (group_rule n d) (kinds.Semicolon ∷ []) refl) refl)) (λ (v : Pos × List Group). record { pos = v.0; groups = v.1 }) IsVars vars_marks
    (λ v i. refl) (λ v i. i) (λ w i. ((w.pos, w.groups), refl, i))

-- signatures
params_in_rule : (n d : ℕ) (F : List Kind) → Rule n d (suc d) F (kinds.Close ∷ group_firsts) (kinds.Close ∷ []) false (All IsGroup) (λ l. commas group_marks l ++ sign kinds.Close ∷ []) (params_in n d)
unfolding params_in
params_in_rule n d F = list_closed_rule (suc d) F kinds.Close refl refl (group_rule n d) refl

params_behind : (n d : ℕ) (F : List Kind) → Behind n d F (All IsGroup) (λ l. commas group_marks l ++ sign kinds.Close ∷ []) (room (params_in n) (below d))
params_behind n zero F = NoRoom refl (no_args IsGroup group_marks)
params_behind n (suc d) F = Rooms d refl (params_in_rule n d F)

params_rule : (n d : ℕ) (F : List Kind) → Rule n d d F (kinds.Open ∷ []) (kinds.Open ∷ []) false (All IsGroup) in_parens (params_at n d)
unfolding params_at
params_rule n d F = behind_rule (All IsGroup) (λ l. commas group_marks l ++ sign kinds.Close ∷ []) F kinds.Open refl refl (params_behind n d F)

abbrev sig_ends : List Kind
sig_ends = kinds.Semicolon ∷ kinds.OpenBrace ∷ spec_kinds

sig_rule : (n d : ℕ) → Rule n d d sig_ends (kinds.Open ∷ []) (kinds.Open ∷ []) false IsSig sig_marks (sig_at n d)
unfolding sig_at
sig_rule n d =
    via_rule (both_rule (params_rule n d (kinds.Returns ∷ sig_ends)) (optional_rule (a_sign kinds.Returns) (kinds.Returns ∷ []) (sign_picker kinds.Returns) (after_rule kinds.Returns refl refl (params_rule n d sig_ends)) refl) refl)
    (λ (v : List Group × Option (List Group)). record { params = v.0; results = v.1 }) IsSig sig_marks (λ v i. refl) (λ v i. i) (λ w i. ((w.params, w.results), refl, i))

-- specifications
abbrev Frees : Type 0
Frees = Bool × (List Attr × Ex)

abbrev word_of : Bool → Mark
word_of true = sign kinds.Requires
word_of false = sign kinds.Ensures

abbrev free_marks : Frees → List Mark
free_marks v = word_of v.0 ∷ says_marks v.1

abbrev FreeWell : Frees → Type 0
FreeWell v = SaysWell v.1

abbrev IsLeft : Frees → Type 0
IsLeft = Image (λ (v : List Attr × Ex). (true, v)) SaysWell

abbrev IsRight : Frees → Type 0
IsRight = Image (λ (v : List Attr × Ex). (false, v)) SaysWell

free_to : (v : Frees) → IsLeft v ⊎ IsRight v → FreeWell v
free_to v (inl i) = subst FreeWell i.1 i.2
free_to v (inr i) = subst FreeWell i.1 i.2

free_back : (b : Bool) (v : List Attr × Ex) → SaysWell v → IsLeft (b, v) ⊎ IsRight (b, v)
free_back true v i = inl (v, refl, i)
free_back false v i = inr (v, refl, i)

free_rule : (n d : ℕ) (F : List Kind) → Rule n d d F (kinds.Requires ∷ kinds.Ensures ∷ []) (kinds.Requires ∷ kinds.Ensures ∷ []) false FreeWell free_marks (free_at n d)
unfolding free_at
free_rule n d F =
    iff_rule (choose_rule (a_sign kinds.Requires) (kinds.Requires ∷ []) (sign_picker kinds.Requires)
    (image_rule (after_rule kinds.Requires refl refl (says_rule n d F)) (λ (v : List Attr × Ex). (true, v)) free_marks (λ v i. refl))
    (image_rule (after_rule kinds.Ensures refl refl (says_rule n d F)) (λ (v : List Attr × Ex). (false, v)) free_marks (λ v i. refl)) refl)
    FreeWell free_to (λ v i. free_back v.0 v.1 i)

all_ids : (xs : List Id) → All (λ x. Unit {0}) xs
all_ids [] = tt
all_ids (x ∷ xs) = (tt, all_ids xs)

modifies_rule : (n d : ℕ) (F : List Kind) → Rule n d d F (kinds.Semicolon ∷ kinds.Name ∷ []) (kinds.Semicolon ∷ kinds.Name ∷ []) false (λ xs. Unit {0}) (λ xs. ids_marks xs ++ sign kinds.Semicolon ∷ []) (modifies_at n)
unfolding modifies_at
modifies_rule n d F = iff_rule (list_closed_rule d F kinds.Semicolon refl refl (id_rule n d (kinds.Comma ∷ kinds.Semicolon ∷ [])) refl) (λ xs. Unit {0}) (λ v i. tt) (λ v i. all_ids v)

abbrev IsModifies : Spec → Type 0
IsModifies = Image (λ (v : Pos × List Id). Modifies v.0 v.1) (λ v. Unit {0})

abbrev FreeParts : Type 0
FreeParts = Pos × Frees

abbrev IsFree : Spec → Type 0
IsFree = Image (λ (v : FreeParts). free_spec v.0 v.1.0 v.1.1) (λ v. FreeWell v.1)

abbrev IsRequires : Spec → Type 0
IsRequires = Image Requires IsPlain

abbrev IsEnsures : Spec → Type 0
IsEnsures = Image Ensures IsPlain

abbrev AnySpec : Spec → Type 0
AnySpec s = IsModifies s ⊎ (IsFree s ⊎ (IsRequires s ⊎ IsEnsures s))

free_same : (p : Pos) (b : Bool) (v : List Attr × Ex) → spec_marks (free_spec p b v) ≡ sign_at p kinds.Free ∷ free_marks (b, v)
free_same p true v = ap (λ l. sign_at p kinds.Free ∷ sign kinds.Requires ∷ l) (three (each attr_marks v.0) (ex_marks v.1) (sign kinds.Semicolon ∷ []))
free_same p false v = ap (λ l. sign_at p kinds.Free ∷ sign kinds.Ensures ∷ l) (three (each attr_marks v.0) (ex_marks v.1) (sign kinds.Semicolon ∷ []))

free_spec_to : (p : Pos) (b : Bool) (v : List Attr × Ex) → SaysWell v → IsSpec (free_spec p b v)
free_spec_to p true v i = i
free_spec_to p false v i = i

spec_to : (s : Spec) → AnySpec s → IsSpec s
spec_to s (inl i) = subst IsSpec i.1 tt
spec_to s (inr (inl i)) = subst IsSpec i.1 (free_spec_to i.0.0 i.0.1.0 i.0.1.1 i.2)
spec_to s (inr (inr (inl i))) = subst IsSpec i.1 i.2.1
spec_to s (inr (inr (inr i))) = subst IsSpec i.1 i.2.1

freed : (c : Clause) (b : Bool) → c.is_free ≡ b → clause b c.pos (c.attrs, c.says) ≡ c
freed c b h = ap (λ (f : Bool). record { pos = c.pos; is_free = f; attrs = c.attrs; says = c.says }) (sym h)

requires_back : (c : Clause) (b : Bool) → c.is_free ≡ b → IsClause c → AnySpec (Requires c)
requires_back c true h i = inr (inl ((c.pos, (true, (c.attrs, c.says))), ap Requires (freed c true h), i))
requires_back c false h i = inr (inr (inl (c, refl, (h, i))))

ensures_back : (c : Clause) (b : Bool) → c.is_free ≡ b → IsClause c → AnySpec (Ensures c)
ensures_back c true h i = inr (inl ((c.pos, (false, (c.attrs, c.says))), ap Ensures (freed c true h), i))
ensures_back c false h i = inr (inr (inr (c, refl, (h, i))))

spec_back : (s : Spec) → IsSpec s → AnySpec s
spec_back (Requires c) i = requires_back c c.is_free refl i
spec_back (Ensures c) i = ensures_back c c.is_free refl i
spec_back (Modifies p xs) i = inl ((p, xs), refl, tt)

spec_rule : (n d : ℕ) (F : List Kind) → Rule n d d F spec_kinds spec_kinds false IsSpec spec_marks (spec_at n d)
unfolding spec_at
spec_rule n d F =
    iff_rule (choose_rule (a_sign kinds.Modifies) (kinds.Modifies ∷ []) (sign_picker kinds.Modifies)
    (image_rule (at_rule kinds.Modifies refl refl (modifies_rule n d F)) (λ (v : Pos × List Id). Modifies v.0 v.1) spec_marks (λ v i. refl))
    (choose_rule (a_sign kinds.Free) (kinds.Free ∷ []) (sign_picker kinds.Free)
    (image_rule (at_rule kinds.Free refl refl (free_rule n d F)) (λ (v : FreeParts). free_spec v.0 v.1.0 v.1.1) spec_marks (λ v i. free_same v.0 v.1.0 v.1.1))
    (choose_rule (a_sign kinds.Requires) (kinds.Requires ∷ []) (sign_picker kinds.Requires)
    (image_rule (clause_rule n d F kinds.Requires refl refl) Requires spec_marks (λ v i. refl))
    (image_rule (clause_rule n d F kinds.Ensures refl refl) Ensures spec_marks (λ v i. refl)) refl) refl) refl)
    IsSpec spec_to spec_back

specs_rule : (n d : ℕ) (G : List Kind) → row_ok spec_kinds spec_kinds spec_kinds (spec_kinds ++ G) G ≡ true → Rule n d d G spec_kinds [] true (All IsSpec) (each spec_marks) (specs_at n d)
unfolding specs_at
specs_rule n d G ok = rows_rule (a_kind spec_kinds) spec_kinds (kind_picker spec_kinds) (spec_rule n d (spec_kinds ++ G)) G ok n (omega arith)

-- bodies
abbrev body_inner : Body → List Mark
body_inner b = each vars_marks b.locals ++ sts_marks b.stmts

abbrev stmts_ends : List Kind
stmts_ends = kinds.CloseBrace ∷ stmt_firsts

body_in_rule : (n d : ℕ) → Rule n d d (kinds.CloseBrace ∷ []) (kinds.Var ∷ stmt_firsts) [] true IsBody body_inner (body_in n d)
unfolding body_in
body_in_rule n d =
    via_rule (both_rule (rows_rule (a_sign kinds.Var) (kinds.Var ∷ []) (sign_picker kinds.Var) (vars_rule n d (kinds.Var ∷ stmts_ends)) stmts_ends refl n (omega arith)) (stmts_rule n d) refl)
    (λ (v : List Vars × Sts). record { locals = v.0; stmts = v.1 }) IsBody body_inner (λ v i. refl) (λ v i. i) (λ w i. ((w.locals, w.stmts), refl, i))

no_body : Begins (Spelled IsBody body_inner) []
no_body = (record { locals = []; stmts = NoSt }, [], ((tt, tt), tt))

body_within : (n d : ℕ) → Within n d kinds.CloseBrace IsBody body_inner (room (body_in n) (below d))
body_within n zero = Full refl no_body
body_within n (suc d) = Room d refl refl (body_in_rule n d)

body_rule : (n d : ℕ) (F : List Kind) → Rule n d d F (kinds.OpenBrace ∷ []) (kinds.OpenBrace ∷ []) false IsBody body_marks (body_at n d)
unfolding body_at
body_rule n d F = inside_rule IsBody body_inner F kinds.OpenBrace kinds.CloseBrace refl refl refl (λ b. refl) (body_within n d)

-- procedures
abbrev tail_of : Tail → List Mark
tail_of t = tail_marks t.0 t.1

abbrev TailWell : Tail → Type 0
TailWell t = All IsSpec t.0 × IfThere IsBody t.1

abbrev NoBody : Tail → Type 0
NoBody = Image (λ (specs : List Spec). (specs, None)) (All IsSpec)

abbrev SomeBody : Tail → Type 0
SomeBody = Image (λ (v : List Spec × Body). (v.0, Some v.1)) (λ v. All IsSpec v.0 × IsBody v.1)

tail_to : (t : Tail) → NoBody t ⊎ SomeBody t → TailWell t
tail_to t (inl i) = subst TailWell i.1 (i.2, tt)
tail_to t (inr i) = subst TailWell i.1 i.2

tail_back : (specs : List Spec) (o : Option Body) → All IsSpec specs → IfThere IsBody o → NoBody (specs, o) ⊎ SomeBody (specs, o)
tail_back specs None i j = inl (specs, refl, i)
tail_back specs (Some b) i j = inr ((specs, b), refl, (i, j))

tail_rule : (n d : ℕ) → Rule n d d decl_kinds (kinds.Semicolon ∷ kinds.Modifies ∷ kinds.Free ∷ kinds.Requires ∷ kinds.Ensures ∷ kinds.OpenBrace ∷ []) (kinds.Semicolon ∷ []) false TailWell tail_of (tail_at n d)
unfolding tail_at
tail_rule n d =
    iff_rule (choose_rule (a_sign kinds.Semicolon) (kinds.Semicolon ∷ []) (sign_picker kinds.Semicolon)
    (image_rule (after_rule kinds.Semicolon refl refl (specs_rule n d decl_kinds refl)) (λ (specs : List Spec). (specs, None)) tail_of (λ v i. refl))
    (image_rule (both_rule (specs_rule n d (kinds.OpenBrace ∷ []) refl) (body_rule n d decl_kinds) refl) (λ (v : List Spec × Body). (v.0, Some v.1)) tail_of (λ v i. refl)) refl)
    TailWell tail_to (λ v i. tail_back v.0 v.1 i.0 i.1)

abbrev ProcParts : Type 0
ProcParts = Pos × (List Attr × (Id × (Sig × Tail)))

abbrev proc_from : ProcParts → Decl
proc_from v = procedure v.0 v.1.0 v.1.1.0 v.1.1.1.0 v.1.1.1.1

abbrev IsProcedure : Decl → Type 0
IsProcedure = Image proc_from (λ v. All IsAttr v.1.0 × (Unit {0} × (IsSig v.1.1.1.0 × TailWell v.1.1.1.1)))

procedure_rule : (n d : ℕ) → Rule n d d decl_kinds (kinds.Procedure ∷ []) (kinds.Procedure ∷ []) false IsProcedure decl_marks (procedure_at n d)
unfolding procedure_at
procedure_rule n d =
    image_rule (at_rule kinds.Procedure refl refl (both_rule (attrs_rule n d (kinds.Name ∷ []) refl) (both_rule (id_rule n d (kinds.Open ∷ [])) (both_rule (sig_rule n d) (tail_rule n d) refl) refl) refl))
    proc_from decl_marks (λ v i. ap (λ l. sign_at v.0 kinds.Procedure ∷ l) (three (each attr_marks v.1.0) (id_mark v.1.1.0 ∷ sig_marks v.1.1.1.0) (tail_of v.1.1.1.1)))

abbrev ImplParts : Type 0
ImplParts = Pos × (List Attr × (Id × (Sig × Body)))

abbrev impl_from : ImplParts → Decl
impl_from v = implementation v.0 v.1.0 v.1.1.0 v.1.1.1.0 v.1.1.1.1

abbrev IsImplementation : Decl → Type 0
IsImplementation = Image impl_from (λ v. All IsAttr v.1.0 × (Unit {0} × (IsSig v.1.1.1.0 × IsBody v.1.1.1.1)))

implementation_rule : (n d : ℕ) → Rule n d d decl_kinds (kinds.Implementation ∷ []) (kinds.Implementation ∷ []) false IsImplementation decl_marks (implementation_at n d)
unfolding implementation_at
implementation_rule n d =
    image_rule (at_rule kinds.Implementation refl refl (both_rule (attrs_rule n d (kinds.Name ∷ []) refl) (both_rule (id_rule n d (kinds.Open ∷ [])) (both_rule (sig_rule n d) (body_rule n d decl_kinds) refl) refl) refl))
    impl_from decl_marks (λ v i. ap (λ l. sign_at v.0 kinds.Implementation ∷ l) (three (each attr_marks v.1.0) (id_mark v.1.1.0 ∷ sig_marks v.1.1.1.0) (body_marks v.1.1.1.1)))

-- all of them
abbrev BigDecl : Decl → Type 0
BigDecl w = Image Globals IsVars w ⊎ (IsProcedure w ⊎ IsImplementation w)

abbrev AnyDecl : Decl → Type 0
AnyDecl w = IsTypes w ⊎ (IsConstants w ⊎ (IsFunction w ⊎ (IsAxiom w ⊎ BigDecl w)))

big_to : (w : Decl) → BigDecl w → IsDecl w
big_to w (inl i) = subst IsDecl i.1 i.2
big_to w (inr (inl i)) = subst IsDecl i.1 (i.2.0, i.2.1.1.0, i.2.1.1.1.0, i.2.1.1.1.1)
big_to w (inr (inr i)) = subst IsDecl i.1 (i.2.0, i.2.1.1.0, i.2.1.1.1)

decl_to : (w : Decl) → AnyDecl w → IsDecl w
decl_to w (inl i) = subst IsDecl i.1 (i.2.0, i.2.1.0, i.2.1.1)
decl_to w (inr (inl i)) = subst IsDecl i.1 (i.2.0, i.2.1.1.0, i.2.1.1.1)
decl_to w (inr (inr (inl i))) = subst IsDecl i.1 (i.2.0, i.2.1.1.0, i.2.1.1.1.0, i.2.1.1.1.1)
decl_to w (inr (inr (inr (inl i)))) = subst IsDecl i.1 i.2
decl_to w (inr (inr (inr (inr i)))) = big_to w i

decl_back : (w : Decl) → IsDecl w → AnyDecl w
decl_back (Types p attrs ds) h = inl ((p, (attrs, ds)), refl, (h.0, (h.1, h.2)))
decl_back (Constants c) h = inr (inl ((c.pos, (c.group.attrs, (c.is_unique, (c.group.names, c.group.ty)))), refl, (h.0, (tt, (h.1, h.2)))))
decl_back (Function f) h = inr (inr (inl ((f.pos, (f.attrs, (f.name, (f.args, (f.result, f.body))))), refl, (h.0, (tt, (h.1, (h.2, h.3)))))))
decl_back (Axiom p attrs e) h = inr (inr (inr (inl ((p, (attrs, e)), refl, h))))
decl_back (Globals v) h = inr (inr (inr (inr (inl (v, refl, h)))))
decl_back (Procedure q) h = inr (inr (inr (inr (inr (inl ((q.pos, (q.attrs, (q.name, (q.sig, (q.specs, q.body))))), refl, (h.0, (tt, (h.1, (h.2, h.3))))))))))
decl_back (Implementation q) h = inr (inr (inr (inr (inr (inr ((q.pos, (q.attrs, (q.name, (q.sig, q.body)))), refl, (h.0, (tt, (h.1, h.2)))))))))

abbrev big_kinds : List Kind
big_kinds = kinds.Var ∷ kinds.Procedure ∷ kinds.Implementation ∷ []

big_rule : (n d : ℕ) → Rule n d d decl_kinds big_kinds big_kinds false BigDecl decl_marks (big_at n d)
unfolding big_at
big_rule n d =
    choose_rule (a_sign kinds.Var) (kinds.Var ∷ []) (sign_picker kinds.Var) (image_rule (vars_rule n d decl_kinds) Globals decl_marks (λ v i. refl))
    (choose_rule (a_sign kinds.Procedure) (kinds.Procedure ∷ []) (sign_picker kinds.Procedure) (procedure_rule n d) (implementation_rule n d) refl) refl

decl_rule : (n d : ℕ) → Rule n d d decl_kinds decl_kinds decl_kinds false IsDecl decl_marks (decl_at n d)
unfolding decl_at
decl_rule n d =
    iff_rule (choose_rule (a_sign kinds.Type) (kinds.Type ∷ []) (sign_picker kinds.Type) (types_rule n d)
    (choose_rule (a_sign kinds.Const) (kinds.Const ∷ []) (sign_picker kinds.Const) (constants_rule n d)
    (choose_rule (a_sign kinds.Function) (kinds.Function ∷ []) (sign_picker kinds.Function) (function_rule n d)
    (choose_rule (a_sign kinds.Axiom) (kinds.Axiom ∷ []) (sign_picker kinds.Axiom) (axiom_rule n d)
    (big_rule n d) refl) refl) refl) refl) IsDecl decl_to decl_back

-- A program ends at the end of the tokens alone.
pub decls_rule : (n d : ℕ) → Rule n d d [] decl_kinds [] true (All IsDecl) (each decl_marks) (decls_at n d)
unfolding decls_at
decls_rule n d = rows_rule (a_kind decl_kinds) decl_kinds (kind_picker decl_kinds) (decl_rule n d) [] refl n (omega arith)
