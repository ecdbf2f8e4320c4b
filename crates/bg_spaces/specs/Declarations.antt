-- What a program declares: the names of each space, and what each value is.
use Rattle.std.specs.Prelude.{ℕ, zero, suc, ◌+◌, Bool, true, false, ◌&&◌, List, [], ◌∷◌, ◌++◌, map, flat_map, length, Option, Some, None, if◌then◌else◌}
use Rattle.std.specs.List.{list_any}
use Rattle.std.specs.Str.{bytes_eq}
use Rattle.bg_text.specs.Trees as t
use Rattle.bg_ast.specs.Resolved as r
use Rattle.bg_names.specs.declared.error.FaultKind.TheVariants as kinds
use Rattle.bg_names.specs.declared.scope.Meaning.{Meaning}
use Rattle.bg_names.specs.declared.scope.Meaning.TheVariants as means
use Rattle.bg_names.specs.Faults.{Fault, fault, unless}
use Rattle.bg_names.specs.Spaces.{Scope, has_name, with_name, names_of, place, repeats, value_at}
use Rattle.bg_names.specs.Exprs.{ty_faults, named_ty}
use Rattle.bg_names.specs.Clauses.{named_clause}
use Rattle.bg_names.specs.Inside.{has_number}

-- the names of groups, in order
abbrev pub group_ids : t.Group → List t.Id
group_ids g = g.names

abbrev pub ids_in : List t.Group → List t.Id
ids_in = flat_map group_ids

abbrev pub vars_ids : t.Vars → List t.Id
vars_ids v = ids_in v.groups

abbrev pub result_groups : Option (List t.Group) → List t.Group
result_groups None = []
result_groups (Some gs) = gs

abbrev pub param_ids : t.Sig → List t.Id
param_ids s = ids_in s.params

abbrev pub result_ids : t.Sig → List t.Id
result_ids s = ids_in (result_groups s.results)

-- `{:existential true}`
abbrev pub is_true : t.Arg → Bool
is_true (t.Formula (t.Truth p b)) = b
is_true _ = false

abbrev pub is_only_true : List t.Arg → Bool
is_only_true (a ∷ []) = is_true a
is_only_true _ = false

-- the word `existential`
abbrev pub existential : List ℕ
existential = 101 ∷ 120 ∷ 105 ∷ 115 ∷ 116 ∷ 101 ∷ 110 ∷ 116 ∷ 105 ∷ 97 ∷ 108 ∷ []

abbrev pub is_existential : t.Attr → Bool
is_existential a = bytes_eq a.name.text existential && is_only_true a.args

-- constants that are candidates
abbrev pub are_candidates : t.Consts → Bool
are_candidates c = list_any is_existential c.group.attrs

abbrev pub type_name : t.NewType → t.Id
type_name d = d.name

-- the types that a declaration declares
abbrev pub type_ids_of : t.Decl → List t.Id
type_ids_of (t.Types p attrs ds) = map type_name ds
type_ids_of _ = []

abbrev pub function_ids_of : t.Decl → List t.Id
function_ids_of (t.Function f) = f.name ∷ []
function_ids_of _ = []

abbrev pub procedure_ids_of : t.Decl → List t.Id
procedure_ids_of (t.Procedure q) = q.name ∷ []
procedure_ids_of _ = []

abbrev pub constant_ids_of : t.Decl → List t.Id
constant_ids_of (t.Constants c) = if are_candidates c then [] else c.group.names
constant_ids_of _ = []

abbrev pub candidate_ids_of : t.Decl → List t.Id
candidate_ids_of (t.Constants c) = if are_candidates c then c.group.names else []
candidate_ids_of _ = []

abbrev pub global_ids_of : t.Decl → List t.Id
global_ids_of (t.Globals v) = vars_ids v
global_ids_of _ = []

-- the constants, candidates and globals that a declaration declares
abbrev pub value_ids_of : t.Decl → List t.Id
value_ids_of (t.Constants c) = c.group.names
value_ids_of (t.Globals v) = vars_ids v
value_ids_of _ = []

-- how many constants, candidates and globals there are so far
pub record Counts : Type 0 where
  pub constants : ℕ
  pub candidates : ℕ
  pub globals : ℕ

-- a name with what it is
abbrev pub Entry : Type 0
Entry = t.Id × Meaning

abbrev pub entry_id : Entry → t.Id
entry_id e = e.0

-- names with numbers from n on
abbrev pub numbered : (ℕ → Meaning) → ℕ → List t.Id → List Entry
numbered make n [] = []
numbered make n (x ∷ xs) = (x, make n) ∷ numbered make (n + 1) xs

abbrev pub constant_entries : Bool → Counts → List t.Id → List Entry
constant_entries false k xs = numbered (λ n. means.Constant n) k.constants xs
constant_entries true k xs = numbered (λ n. means.Candidate n) k.candidates xs

abbrev pub entries_of : Counts → t.Decl → List Entry
entries_of k (t.Constants c) = constant_entries (are_candidates c) k c.group.names
entries_of k (t.Globals v) = numbered (λ n. means.Global n) k.globals (vars_ids v)
entries_of k _ = []

abbrev pub counts_after : Counts → t.Decl → Counts
counts_after k d =
    record {
      constants = k.constants + length (constant_ids_of d);
      candidates = k.candidates + length (candidate_ids_of d);
      globals = k.globals + length (global_ids_of d);
    }

-- constants, candidates and globals in order, with what each is
abbrev pub entries_from : Counts → List t.Decl → List Entry
entries_from k [] = []
entries_from k (d ∷ ds) = entries_of k d ++ entries_from (counts_after k d) ds

abbrev pub no_counts : Counts
no_counts = record { constants = 0; candidates = 0; globals = 0 }

abbrev pub if_new : Bool → Meaning → List Meaning
if_new true m = []
if_new false m = m ∷ []

-- what the names mean that are declared here for the first time
abbrev pub meanings_from : List (List ℕ) → List Entry → List Meaning
meanings_from names [] = []
meanings_from names (e ∷ es) = if_new (has_name names e.0.text) e.1 ++ meanings_from (with_name names e.0.text) es

-- the spaces of a program
pub record Spaces : Type 0 where
  pub types : List (List ℕ)
  pub values : List (List ℕ)
  pub meanings : List Meaning
  pub functions : List (List ℕ)
  pub procedures : List (List ℕ)
  -- the names of the globals, and what each procedure modifies
  pub globals : List (List ℕ)
  pub changes : List (List ℕ)

-- a global that a `modifies` names
abbrev pub global_in : Meaning → List ℕ
global_in (means.Global k) = k ∷ []
global_in _ = []

abbrev pub is_global : Meaning → Bool
is_global (means.Global k) = true
is_global _ = false

abbrev pub value_of : List (List ℕ) → List Meaning → List ℕ → Meaning
value_of values meanings x = value_at meanings (place values x)

abbrev pub modified_in : List (List ℕ) → List Meaning → t.Spec → List ℕ
modified_in values meanings (t.Modifies p xs) = flat_map (λ x. global_in (value_of values meanings x.text)) xs
modified_in values meanings _ = []

-- those below n, from the least on
abbrev pub rising : ℕ → List ℕ → List ℕ
rising zero ks = []
rising (suc n) ks = rising n ks ++ (if has_number ks n then n ∷ [] else [])

-- the globals that a specification modifies, by declaration
abbrev pub modifies_of : List (List ℕ) → List Meaning → ℕ → List t.Spec → List ℕ
modifies_of values meanings globals specs = rising globals (flat_map (modified_in values meanings) specs)

abbrev pub changes_of : List (List ℕ) → List Meaning → ℕ → t.Decl → List (List ℕ)
changes_of values meanings globals (t.Procedure q) = modifies_of values meanings globals q.specs ∷ []
changes_of values meanings globals _ = []

abbrev pub text_of : t.Id → List ℕ
text_of x = x.text

abbrev pub type_ids : List t.Decl → List t.Id
type_ids = flat_map type_ids_of

abbrev pub value_ids : List t.Decl → List t.Id
value_ids = flat_map value_ids_of

abbrev pub function_ids : List t.Decl → List t.Id
function_ids = flat_map function_ids_of

abbrev pub procedure_ids : List t.Decl → List t.Id
procedure_ids = flat_map procedure_ids_of

abbrev pub global_ids : List t.Decl → List t.Id
global_ids = flat_map global_ids_of

-- what a program declares
abbrev pub spaces_of : List t.Decl → Spaces
spaces_of ds =
    let values = names_of (value_ids ds) in
    let meanings = meanings_from [] (entries_from no_counts ds) in
    record {
      types = names_of (type_ids ds);
      values = values;
      meanings = meanings;
      functions = names_of (function_ids ds);
      procedures = names_of (procedure_ids ds);
      globals = map text_of (global_ids ds);
      changes = flat_map (changes_of values meanings (length (global_ids ds))) ds;
    }

-- an expression's names under a frame
abbrev pub scope_in : Spaces → List (List ℕ) → (sees_globals has_old : Bool) → Scope
scope_in g frame sees_globals has_old =
    record {
      values = g.values;
      meanings = g.meanings;
      functions = g.functions;
      frame = frame;
      sees_globals = sees_globals;
      has_old = has_old;
    }

abbrev pub group_faults : Spaces → t.Group → List Fault
group_faults g x = ty_faults g.types x.ty

abbrev pub sig_faults : Spaces → t.Sig → List Fault
sig_faults g s = flat_map (group_faults g) s.params ++ flat_map (group_faults g) (result_groups s.results)

abbrev pub modified_faults : Spaces → t.Id → List Fault
modified_faults g x = unless (is_global (value_of g.values g.meanings x.text)) (fault kinds.UnknownName x.pos x.text)

-- second declarations
abbrev pub repeated : List t.Decl → List Fault
repeated ds = repeats [] (type_ids ds) ++ repeats [] (value_ids ds) ++ repeats [] (function_ids ds) ++ repeats [] (procedure_ids ds)

-- declarations with numbers for names
abbrev pub declared_as : Spaces → t.Ty → t.Id → r.Declared
declared_as g e x = record { name = x; ty = named_ty g.types e }

abbrev pub named_group : Spaces → t.Group → List r.Declared
named_group g x = map (declared_as g x.ty) x.names

abbrev pub named_groups : Spaces → List t.Group → List r.Declared
named_groups g = flat_map (named_group g)

-- the preconditions and postconditions, with numbers from n on in the order of the text
abbrev pub named_requires : Scope → ℕ → List t.Spec → List r.Clause
named_requires s n [] = []
named_requires s n (t.Requires k ∷ specs) = named_clause s n k ∷ named_requires s (n + 1) specs
named_requires s n (t.Ensures k ∷ specs) = named_requires s (n + 1) specs
named_requires s n (t.Modifies p xs ∷ specs) = named_requires s n specs

abbrev pub named_ensures : Scope → ℕ → List t.Spec → List r.Clause
named_ensures s n [] = []
named_ensures s n (t.Requires k ∷ specs) = named_ensures s (n + 1) specs
named_ensures s n (t.Ensures k ∷ specs) = named_clause s n k ∷ named_ensures s (n + 1) specs
named_ensures s n (t.Modifies p xs ∷ specs) = named_ensures s n specs

abbrev pub specs_count : List t.Spec → ℕ
specs_count [] = 0
specs_count (t.Requires k ∷ specs) = 1 + specs_count specs
specs_count (t.Ensures k ∷ specs) = 1 + specs_count specs
specs_count (t.Modifies p xs ∷ specs) = specs_count specs
