-- A program with numbers for names has the declarations of each kind in the order of its text.
use Rattle.std.proofs.Common.{◌≡◌, ℕ, ◌+◌, Bool, true, false, List, [], ◌∷◌, map, flat_map, refl, ap, ◌∙◌, if◌then◌else◌}
use Rattle.std.proofs.lemmas.List.{map-append}
use Rattle.bg_text.specs.Trees as t
use Rattle.bg_spaces.specs.Declarations.{Spaces, spaces_of, type_name, type_ids_of, type_ids, constant_ids_of, global_ids_of, global_ids, function_ids_of, function_ids, procedure_ids, are_candidates, group_ids, ids_in, vars_ids, named_group, named_groups, declared_as}
use Rattle.bg_resolve.specs.Program.{named_new, named_types, constant_as, named_constants, named_vars, named_globals, named_functions, named_procedures, in_turn, named, decl_count}
use Rattle.bg_named.specs.Numbers.{type_id, constant_id, declared_id, function_id, procedure_id}

flat_names : {X A : Type 0} (name : A → t.Id) (f : X → List A) (ids : X → List t.Id) → ((x : X) → map name (f x) ≡ ids x) → (xs : List X) → map name (flat_map f xs) ≡ flat_map ids xs
flat_names name f ids e [] = refl
flat_names name f ids e (x ∷ xs) = map-append name (f x) (flat_map f xs) ∙ rw (e x, flat_names name f ids e xs) refl

types_of : (g : Spaces) (ds : List t.NewType) → map type_id (map (named_new g) ds) ≡ map type_name ds
types_of g [] = refl
types_of g (d ∷ ds) = ap (λ (l : List t.Id). d.name ∷ l) (types_of g ds)

constants_of : (g : Spaces) (c : t.Consts) (xs : List t.Id) → map constant_id (map (constant_as g c) xs) ≡ xs
constants_of g c [] = refl
constants_of g c (x ∷ xs) = ap (λ (l : List t.Id). x ∷ l) (constants_of g c xs)

declared_of : (g : Spaces) (e : t.Ty) (xs : List t.Id) → map declared_id (map (declared_as g e) xs) ≡ xs
declared_of g e [] = refl
declared_of g e (x ∷ xs) = ap (λ (l : List t.Id). x ∷ l) (declared_of g e xs)

-- the names of groups
pub groups_names : (g : Spaces) (gs : List t.Group) → map declared_id (named_groups g gs) ≡ ids_in gs
groups_names g gs = flat_names declared_id (named_group g) group_ids (λ c. declared_of g c.ty c.names) gs

pub vars_names : (g : Spaces) (vs : List t.Vars) → map declared_id (flat_map (named_vars g) vs) ≡ flat_map vars_ids vs
vars_names g vs = flat_names declared_id (named_vars g) vars_ids (λ v. groups_names g v.groups) vs

type_names_of : (g : Spaces) (d : t.Decl) → map type_id (named_types g d) ≡ type_ids_of d
type_names_of g (t.Types p attrs ds) = types_of g ds
type_names_of g (t.Constants c) = refl
type_names_of g (t.Function f) = refl
type_names_of g (t.Axiom p attrs e) = refl
type_names_of g (t.Globals v) = refl
type_names_of g (t.Procedure q) = refl
type_names_of g (t.Implementation m) = refl

constants_unless : (g : Spaces) (c : t.Consts) (b : Bool) → map constant_id (if b then [] else map (constant_as g c) c.group.names) ≡ (if b then [] else c.group.names)
constants_unless g c true = refl
constants_unless g c false = constants_of g c c.group.names

constant_names_of : (g : Spaces) (d : t.Decl) → map constant_id (named_constants g d) ≡ constant_ids_of d
constant_names_of g (t.Types p attrs ds) = refl
constant_names_of g (t.Constants c) = constants_unless g c (are_candidates c)
constant_names_of g (t.Function f) = refl
constant_names_of g (t.Axiom p attrs e) = refl
constant_names_of g (t.Globals v) = refl
constant_names_of g (t.Procedure q) = refl
constant_names_of g (t.Implementation m) = refl

global_names_of : (g : Spaces) (d : t.Decl) → map declared_id (named_globals g d) ≡ global_ids_of d
global_names_of g (t.Types p attrs ds) = refl
global_names_of g (t.Constants c) = refl
global_names_of g (t.Function f) = refl
global_names_of g (t.Axiom p attrs e) = refl
global_names_of g (t.Globals v) = groups_names g v.groups
global_names_of g (t.Procedure q) = refl
global_names_of g (t.Implementation m) = refl

function_names_of : (g : Spaces) (d : t.Decl) → map function_id (named_functions g d) ≡ function_ids_of d
function_names_of g (t.Types p attrs ds) = refl
function_names_of g (t.Constants c) = refl
function_names_of g (t.Function f) = refl
function_names_of g (t.Axiom p attrs e) = refl
function_names_of g (t.Globals v) = refl
function_names_of g (t.Procedure q) = refl
function_names_of g (t.Implementation m) = refl

procedure_names_from : (g : Spaces) (n : ℕ) (ds : List t.Decl) → map procedure_id (in_turn (named_procedures g) n ds) ≡ procedure_ids ds
procedure_names_from g n [] = refl
procedure_names_from g n (t.Types p attrs es ∷ ds) = procedure_names_from g (n + 0) ds
procedure_names_from g n (t.Constants c ∷ ds) = procedure_names_from g (n + 0) ds
procedure_names_from g n (t.Function f ∷ ds) = procedure_names_from g (n + 0) ds
procedure_names_from g n (t.Axiom p attrs e ∷ ds) = procedure_names_from g (n + 0) ds
procedure_names_from g n (t.Globals v ∷ ds) = procedure_names_from g (n + 0) ds
procedure_names_from g n (t.Procedure q ∷ ds) =
    ap (λ (l : List t.Id). q.name ∷ l) (procedure_names_from g (n + decl_count (t.Procedure q)) ds)
procedure_names_from g n (t.Implementation m ∷ ds) = procedure_names_from g (n + decl_count (t.Implementation m)) ds

pub type_names : (ds : List t.Decl) → map type_id (named ds).types ≡ type_ids ds
type_names ds = flat_names type_id (named_types (spaces_of ds)) type_ids_of (type_names_of (spaces_of ds)) ds

pub constant_names : (ds : List t.Decl) → map constant_id (named ds).constants ≡ flat_map constant_ids_of ds
constant_names ds = flat_names constant_id (named_constants (spaces_of ds)) constant_ids_of (constant_names_of (spaces_of ds)) ds

pub global_names : (ds : List t.Decl) → map declared_id (named ds).globals ≡ global_ids ds
global_names ds = flat_names declared_id (named_globals (spaces_of ds)) global_ids_of (global_names_of (spaces_of ds)) ds

pub function_names : (ds : List t.Decl) → map function_id (named ds).functions ≡ function_ids ds
function_names ds = flat_names function_id (named_functions (spaces_of ds)) function_ids_of (function_names_of (spaces_of ds)) ds

pub procedure_names : (ds : List t.Decl) → map procedure_id (named ds).procedures ≡ procedure_ids ds
procedure_names ds = procedure_names_from (spaces_of ds) 0 ds
