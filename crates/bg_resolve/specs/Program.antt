-- Whole programs: what each name is declared as, the faults of names, and the program with numbers for names.
use Rattle.std.specs.Prelude.{ℕ, ◌+◌, Bool, true, false, not, ◌&&◌, ◌||◌, List, [], ◌∷◌, ◌++◌, map, flat_map, length, Option, Some, None, if◌then◌else◌}
use Rattle.bg_base.specs.declared.pos.Pos.{Pos}
use Rattle.bg_text.specs.Trees as t
use Rattle.bg_text.specs.Views.{option_of}
use Rattle.bg_ast.specs.Resolved as r
use Rattle.bg_names.specs.declared.error.FaultKind.TheVariants as kinds
use Rattle.bg_names.specs.Faults.{Fault, fault, unless}
use Rattle.bg_names.specs.Spaces.{Scope, names_of, place, or_zero, use_faults, repeats}
use Rattle.bg_names.specs.Exprs.{ex_faults, named_ex, ty_faults, named_ty}
use Rattle.bg_names.specs.Clauses.{clause_faults}
use Rattle.bg_names.specs.Inside.{Inside}
use Rattle.bg_bodies.specs.Bodies.{changes_at, sts_faults, named_sts, sts_count, sts_labels}
use Rattle.bg_spaces.specs.Declarations.{vars_ids, result_groups, param_ids, result_ids, are_candidates, candidate_ids_of, Spaces, modifies_of, spaces_of, scope_in, group_faults, sig_faults, modified_faults, repeated, named_groups, named_requires, named_ensures, specs_count}

abbrev pub is_bool : t.Ty → Bool
is_bool (t.BoolType p) = true
is_bool _ = false

-- where a type begins
abbrev pub type_pos : t.Ty → Pos
type_pos (t.IntType p) = p
type_pos (t.BoolType p) = p
type_pos (t.NamedType p x) = p
type_pos (t.InParens p e) = p
type_pos (t.MapType t.NoIndex e) = type_pos e
type_pos (t.MapType (t.Index p es is) e) = p

abbrev pub synonym_faults : Spaces → t.NewType → List Fault
synonym_faults g d = faults_in d.synonym
  where
    faults_in : Option t.Ty → List Fault
    faults_in None = []
    faults_in (Some e) = ty_faults g.types e

-- a candidate isn't unique, and its type is the word `bool`
abbrev pub candidate_faults : t.Consts → t.Id → List Fault
candidate_faults c x =
    unless (not (are_candidates c) || (not c.is_unique && is_bool c.group.ty)) (fault kinds.BadCandidateUse x.pos x.text)

abbrev pub consts_faults : Spaces → t.Consts → List Fault
consts_faults g c = group_faults g c.group ++ flat_map (candidate_faults c) c.group.names

abbrev pub arg_ids : t.FunArg → List t.Id
arg_ids a = ids a.name
  where
    ids : Option t.Id → List t.Id
    ids None = []
    ids (Some x) = x ∷ []

abbrev pub has_arg_name : t.FunArg → Bool
has_arg_name a = is_there a.name
  where
    is_there : Option t.Id → Bool
    is_there None = false
    is_there (Some x) = true

-- an argument, of a function with a body or without
abbrev pub arg_faults : Spaces → (has_body : Bool) → t.FunArg → List Fault
arg_faults g has_body a =
    unless (not has_body || has_arg_name a) (fault kinds.UnnamedArgument (type_pos a.ty) []) ++ ty_faults g.types a.ty

abbrev pub result_type : t.FunResult → t.Ty
result_type (t.Returns a) = a.ty
result_type (t.Colon e) = e

abbrev pub function_scope : Spaces → t.Fun → Scope
function_scope g f = scope_in g (names_of (flat_map arg_ids f.args)) false false

abbrev pub has_body : Option t.Ex → Bool
has_body None = false
has_body (Some e) = true

abbrev pub body_faults : Scope → Option t.Ex → List Fault
body_faults s None = []
body_faults s (Some e) = ex_faults s e

abbrev pub function_faults : Spaces → t.Fun → List Fault
function_faults g f =
    repeats [] (flat_map arg_ids f.args)
    ++ flat_map (arg_faults g (has_body f.body)) f.args
    ++ ty_faults g.types (result_type f.result)
    ++ body_faults (function_scope g f) f.body

abbrev pub vars_faults : Spaces → t.Vars → List Fault
vars_faults g v = flat_map (group_faults g) v.groups

-- what preconditions see, and what postconditions see
abbrev pub requires_scope : Spaces → t.Sig → Scope
requires_scope g s = scope_in g (names_of (param_ids s)) true false

abbrev pub ensures_scope : Spaces → t.Sig → Scope
ensures_scope g s = scope_in g (names_of (param_ids s ++ result_ids s)) true true

abbrev pub spec_faults : Spaces → t.Sig → t.Spec → List Fault
spec_faults g s (t.Requires k) = clause_faults (requires_scope g s) k
spec_faults g s (t.Ensures k) = clause_faults (ensures_scope g s) k
spec_faults g s (t.Modifies p xs) = flat_map (modified_faults g) xs

abbrev pub local_ids : t.Body → List t.Id
local_ids b = flat_map vars_ids b.locals

abbrev pub frame_ids : t.Sig → t.Body → List t.Id
frame_ids s b = param_ids s ++ result_ids s ++ local_ids b

-- what a body of this procedure sees
abbrev pub inside : Spaces → t.Id → t.Sig → t.Body → Inside
inside g q s b =
    record {
      scope = scope_in g (names_of (frame_ids s b)) true true;
      inputs = length (names_of (param_ids s));
      modifies = changes_at g.changes (place g.procedures q.text);
      globals = g.globals;
      procedures = g.procedures;
      changes = g.changes;
      labels = names_of (sts_labels b.stmts);
    }

-- the declarations and statements of a body; its frame is judged with its signature
abbrev pub code_faults : Spaces → t.Id → t.Sig → t.Body → List Fault
code_faults g q s b =
    repeats [] (frame_ids s b)
    ++ flat_map (vars_faults g) b.locals
    ++ repeats [] (sts_labels b.stmts)
    ++ sts_faults (inside g q s b) [] false [] [] b.stmts

abbrev pub option_faults : Spaces → t.Id → t.Sig → Option t.Body → List Fault
option_faults g q s None = repeats [] (param_ids s ++ result_ids s)
option_faults g q s (Some b) = code_faults g q s b

abbrev pub procedure_faults : Spaces → t.Proc → List Fault
procedure_faults g q = sig_faults g q.sig ++ flat_map (spec_faults g q.sig) q.specs ++ option_faults g q.name q.sig q.body

abbrev pub implementation_faults : Spaces → t.Impl → List Fault
implementation_faults g m = use_faults g.procedures m.name ++ sig_faults g m.sig ++ code_faults g m.name m.sig m.body

abbrev pub axiom_scope : Spaces → Scope
axiom_scope g = scope_in g [] false false

abbrev pub decl_faults : Spaces → t.Decl → List Fault
decl_faults g (t.Types p attrs ds) = flat_map (synonym_faults g) ds
decl_faults g (t.Constants c) = consts_faults g c
decl_faults g (t.Function f) = function_faults g f
decl_faults g (t.Axiom p attrs e) = ex_faults (axiom_scope g) e
decl_faults g (t.Globals v) = vars_faults g v
decl_faults g (t.Procedure q) = procedure_faults g q
decl_faults g (t.Implementation m) = implementation_faults g m

-- all faults but those of recursion
abbrev pub plain_faults : List t.Decl → List Fault
plain_faults ds = repeated ds ++ flat_map (decl_faults (spaces_of ds)) ds

abbrev pub named_new : Spaces → t.NewType → r.TypeName
named_new g d = record { name = d.name; synonym = option_of (named_ty g.types) d.synonym }

abbrev pub named_types : Spaces → t.Decl → List r.TypeName
named_types g (t.Types p attrs ds) = map (named_new g) ds
named_types g _ = []

abbrev pub constant_as : Spaces → t.Consts → t.Id → r.Const
constant_as g c x = record { name = x; is_unique = c.is_unique; ty = named_ty g.types c.group.ty }

abbrev pub named_constants : Spaces → t.Decl → List r.Const
named_constants g (t.Constants c) = if are_candidates c then [] else map (constant_as g c) c.group.names
named_constants g _ = []

abbrev pub named_vars : Spaces → t.Vars → List r.Declared
named_vars g v = named_groups g v.groups

abbrev pub named_globals : Spaces → t.Decl → List r.Declared
named_globals g (t.Globals v) = named_vars g v
named_globals g _ = []

abbrev pub arg_type : Spaces → t.FunArg → r.Ty
arg_type g a = named_ty g.types a.ty

abbrev pub named_function : Spaces → t.Fun → r.Fun
named_function g f =
    record {
      name = f.name;
      params = map (arg_type g) f.args;
      result = named_ty g.types (result_type f.result);
      body = option_of (named_ex (function_scope g f)) f.body;
    }

abbrev pub named_functions : Spaces → t.Decl → List r.Fun
named_functions g (t.Function f) = named_function g f ∷ []
named_functions g _ = []

abbrev pub named_axioms : Spaces → t.Decl → List r.Ex
named_axioms g (t.Axiom p attrs e) = named_ex (axiom_scope g) e ∷ []
named_axioms g _ = []

abbrev pub named_procedure : Spaces → ℕ → t.Proc → r.Proc
named_procedure g n q =
    record {
      pos = q.pos;
      name = q.name;
      params = named_groups g q.sig.params;
      results = named_groups g (result_groups q.sig.results);
      modifies = modifies_of g.values g.meanings (length g.globals) q.specs;
      requires_ = named_requires (requires_scope g q.sig) n q.specs;
      ensures_ = named_ensures (ensures_scope g q.sig) n q.specs;
    }

abbrev pub named_procedures : Spaces → ℕ → t.Decl → List r.Proc
named_procedures g n (t.Procedure q) = named_procedure g n q ∷ []
named_procedures g n _ = []

abbrev pub named_code : Spaces → ℕ → Pos → t.Id → t.Sig → t.Body → r.Impl
named_code g n p q s b =
    record {
      pos = p;
      name = q;
      procedure = or_zero (place g.procedures q.text);
      params = named_groups g s.params;
      results = named_groups g (result_groups s.results);
      locals = flat_map (named_vars g) b.locals;
      body = named_sts (inside g q s b) n 0 [] [] b.stmts;
    }

abbrev pub named_option : Spaces → ℕ → Pos → t.Id → t.Sig → Option t.Body → List r.Impl
named_option g n p q s None = []
named_option g n p q s (Some b) = named_code g n p q s b ∷ []

abbrev pub named_implementations : Spaces → ℕ → t.Decl → List r.Impl
named_implementations g n (t.Procedure q) = named_option g (n + specs_count q.specs) q.pos q.name q.sig q.body
named_implementations g n (t.Implementation m) = named_code g n m.pos m.name m.sig m.body ∷ []
named_implementations g n _ = []

abbrev pub option_count : Option t.Body → ℕ
option_count None = 0
option_count (Some b) = sts_count b.stmts

-- how many numbers a declaration takes
abbrev pub decl_count : t.Decl → ℕ
decl_count (t.Procedure q) = specs_count q.specs + option_count q.body
decl_count (t.Implementation m) = sts_count m.body.stmts
decl_count _ = 0

-- what each declaration gives, with numbers from n on
abbrev pub in_turn : {A : Type 0} → (ℕ → t.Decl → List A) → ℕ → List t.Decl → List A
in_turn some n [] = []
in_turn some n (d ∷ ds) = some n d ++ in_turn some (n + decl_count d) ds

abbrev pub named_in : Spaces → List t.Decl → r.Program
named_in g ds =
    record {
      types = flat_map (named_types g) ds;
      constants = flat_map (named_constants g) ds;
      candidates = flat_map candidate_ids_of ds;
      globals = flat_map (named_globals g) ds;
      functions = flat_map (named_functions g) ds;
      axioms = flat_map (named_axioms g) ds;
      procedures = in_turn (named_procedures g) 0 ds;
      implementations = in_turn (named_implementations g) 0 ds;
    }

-- the program with numbers for names
abbrev pub named : List t.Decl → r.Program
named ds = named_in (spaces_of ds) ds
