-- Functions of a program without faults of names and without recursion do not recur.
use Rattle.std.proofs.Common.{◌≡◌, ℕ, ◌<◌, List, [], ◌∷◌, ◌≤◌, map, flat_map, length, Option, Some, None, refl, sym, ap, ◌∙◌, subst, arith}
use Rattle.std.specs.Prelude.{Contains, slice_get}
use Rattle.std.proofs.lemmas.List.{length-map, map-append}
use Rattle.std.proofs.lemmas.Option.{slice_get-map, get_or_from_slice_get}
use Rattle.std.specs.Option.{option_map}
use Rattle.bg_text.specs.Trees as t
use Rattle.bg_text.specs.Types.{All as Each}
use Rattle.bg_text.specs.Views.{option_of}
use Rattle.bg_ast.specs.Syntax as x
use Rattle.bg_ast.specs.Resolved as r
use Rattle.bg_ast.specs.Meaning as m
use Rattle.bg_graph.specs.Graphs.{Graph, IsEdge, IsGraph, IsAcyclic, targets}
use Rattle.bg_names.specs.Spaces.{names_of, repeats}
use Rattle.bg_names.specs.Exprs.{named_ex}
use Rattle.bg_spaces.specs.Declarations.{Spaces, spaces_of, function_ids, function_ids_of}
use Rattle.bg_resolve.specs.Program.{body_faults, function_scope, function_faults, decl_faults, plain_faults, named_function, named_functions, named}
use Rattle.bg_resolve.specs.Resolves.{Recursion}
use Rattle.bg_resolve.specs.Calls.{fun_id, funs_of, functions_in, body_calls, calls_of, calls_in, IsRecursion}
use Rattle.bg_resolve.specs.Calls.IsRecursion.{never}
use Rattle.bg_sense.specs.Recursion.{AppliesBelow, HasNoRecursion}
use Rattle.bg_named.proofs.SpacesOnce.{empty_parts, functions_once}
use Rattle.bg_named.proofs.SpacesEntries.{each_append, each_at}
use Rattle.bg_named.proofs.SpacesNumbers.{get_small, made_from, are_once}
use Rattle.bg_named.proofs.ProgramsEach.{each_from, once_of}
use Rattle.bg_named.proofs.RecursionCalls.{Below, ex_below}

function_ids_are : (d : t.Decl) → map fun_id (funs_of d) ≡ function_ids_of d
function_ids_are (t.Types p attrs ds) = refl
function_ids_are (t.Constants c) = refl
function_ids_are (t.Function f) = refl
function_ids_are (t.Axiom p attrs e) = refl
function_ids_are (t.Globals v) = refl
function_ids_are (t.Procedure q) = refl
function_ids_are (t.Implementation i) = refl

pub all_function_ids : (ds : List t.Decl) → map fun_id (flat_map funs_of ds) ≡ function_ids ds
all_function_ids [] = refl
all_function_ids (d ∷ ds) = map-append fun_id (funs_of d) (flat_map funs_of ds) ∙ rw (function_ids_are d, all_function_ids ds) refl

only_never : (names : List (List ℕ)) (ds : List t.Decl) → IsRecursion names ds [] → IsAcyclic (calls_in names ds)
only_never names ds (never h) = h

pub functions_are : (g : Spaces) (ds : List t.Decl) → flat_map (named_functions g) ds ≡ map (named_function g) (flat_map funs_of ds)
functions_are g [] = refl
functions_are g (t.Types p attrs es ∷ ds) = functions_are g ds
functions_are g (t.Constants c ∷ ds) = functions_are g ds
functions_are g (t.Function f ∷ ds) = ap (λ (l : List r.Fun). named_function g f ∷ l) (functions_are g ds)
functions_are g (t.Axiom p attrs e ∷ ds) = functions_are g ds
functions_are g (t.Globals v ∷ ds) = functions_are g ds
functions_are g (t.Procedure q ∷ ds) = functions_are g ds
functions_are g (t.Implementation i ∷ ds) = functions_are g ds

functions_of : (g : Spaces) (d : t.Decl) → decl_faults g d ≡ [] → Each (λ f. function_faults g f ≡ []) (funs_of d)
functions_of g (t.Types p attrs es) h = tt
functions_of g (t.Constants c) h = tt
functions_of g (t.Function f) h = (h, tt)
functions_of g (t.Axiom p attrs e) h = tt
functions_of g (t.Globals v) h = tt
functions_of g (t.Procedure q) h = tt
functions_of g (t.Implementation i) h = tt

functions_faultless : (g : Spaces) (ds : List t.Decl) → flat_map (decl_faults g) ds ≡ [] → Each (λ f. function_faults g f ≡ []) (flat_map funs_of ds)
functions_faultless g [] h = tt
functions_faultless g (d ∷ ds) h =
    let parts = empty_parts (decl_faults g d) (flat_map (decl_faults g) ds) h in
    each_append (λ f. function_faults g f ≡ []) (funs_of d) (flat_map funs_of ds) (functions_of g d parts.0) (functions_faultless g ds parts.1)

module _ (ds : List t.Decl) (h : plain_faults ds ≡ []) where
  abbrev graph : Graph
  graph = calls_in (names_of (function_ids ds)) ds

  numbered_once : functions_in ds ≡ flat_map funs_of ds
  numbered_once =
      functions_once [] (flat_map funs_of ds) (ap (repeats []) (all_function_ids ds) ∙ (are_once ds (once_of ds h)).functions)

  graph_is : calls_in (names_of (function_ids ds)) ds ≡ map (calls_of (names_of (function_ids ds))) (flat_map funs_of ds)
  graph_is = ap (map (calls_of (names_of (function_ids ds)))) numbered_once

  -- the function with a number
  declared_at : (k : ℕ) (fn : x.Fun) → slice_get (m.meaning_of (named ds)).functions k ≡ Some fn → (f : t.Fun) × (slice_get (flat_map funs_of ds) k ≡ Some f) × (m.fun_of (m.named_of (named ds).types) (named_function (spaces_of ds) f) ≡ fn)
  declared_at k fn e =
      let outer = made_from (m.fun_of (m.named_of (named ds).types)) (named ds).functions k fn e in
      let inner = made_from (named_function (spaces_of ds)) (flat_map funs_of ds) k outer.0 (ap (λ (l : List r.Fun). slice_get l k) (sym (functions_are (spaces_of ds) ds)) ∙ outer.1) in
      (inner.0, inner.1, ap (m.fun_of (m.named_of (named ds).types)) inner.2 ∙ outer.2)

  faultless_at : (k : ℕ) (f : t.Fun) → slice_get (flat_map funs_of ds) k ≡ Some f → body_faults (function_scope (spaces_of ds) f) f.body ≡ []
  faultless_at k f e =
      let all = functions_faultless (spaces_of ds) ds (empty_parts _ (flat_map (decl_faults (spaces_of ds)) ds) h).1 in
      (empty_parts _ (body_faults (function_scope (spaces_of ds) f) f.body) (each_at (λ f. function_faults (spaces_of ds) f ≡ []) (flat_map funs_of ds) k f all e)).1

  -- a function's calls are its edges
  edges : (k : ℕ) (f : t.Fun) → slice_get (flat_map funs_of ds) k ≡ Some f → (n : ℕ) → Contains (body_calls (names_of (function_ids ds)) f.body) n → IsEdge graph k n
  edges k f e n c =
      let names = names_of (function_ids ds) in
      let row : slice_get graph k ≡ Some (calls_of names f) =
      ap (λ (l : Graph). slice_get l k) graph_is
      ∙ (slice_get-map (calls_of names) (flat_map funs_of ds) k ∙ ap (option_map (calls_of names)) e) in
      let same : targets graph k ≡ calls_of names f = get_or_from_slice_get graph k (calls_of names f) [] row in
      subst (λ (l : List ℕ). Contains l n) (sym same) c

  applies : (rank : ℕ → ℕ) → ((f n : ℕ) → IsEdge graph f n → rank n < rank f) → (k : ℕ) (fn : x.Fun) (e : x.Ex) → slice_get (m.meaning_of (named ds)).functions k ≡ Some fn → fn.body ≡ Some e → AppliesBelow rank (rank k) e
  applies rank falls k fn e is_there body =
      let found = declared_at k fn is_there in
      let f = found.0 in
      let calls = each_from (λ n. rank n < rank k) (body_calls (names_of (function_ids ds)) f.body) (λ n c. falls k n (edges k f found.1 n c)) in
      by f f.body (ap (λ (g : x.Fun). g.body) found.2 ∙ body) (faultless_at k f found.1) calls
    where
      by : (f : t.Fun) (o : Option t.Ex) → m.body_of (option_of (named_ex (function_scope (spaces_of ds) f)) o) ≡ Some e → body_faults (function_scope (spaces_of ds) f) o ≡ [] → Below rank (rank k) (body_calls (names_of (function_ids ds)) o) → AppliesBelow rank (rank k) e
      by f None same n b = absurd (let bad : None ≡ Some e = same in cc)
      by f (Some a) same n b =
          let one : m.ex_of (named_ex (function_scope (spaces_of ds) f) a) ≡ e = (let whole : Some (m.ex_of (named_ex (function_scope (spaces_of ds) f) a)) ≡ Some e = same in cc) in
          subst (λ (y : x.Ex). AppliesBelow rank (rank k) y) one (ex_below rank (rank k) (function_scope (spaces_of ds) f) a n b)

  graph_long : length graph ≡ length (m.meaning_of (named ds)).functions
  graph_long =
      let nodes = ap length graph_is in
      let calls = length-map (flat_map funs_of ds) (calls_of (names_of (function_ids ds))) in
      let named_ = ap length (functions_are (spaces_of ds) ds) in
      let each = length-map (flat_map funs_of ds) (named_function (spaces_of ds)) in
      let meant = length-map (named ds).functions (m.fun_of (m.named_of (named ds).types)) in
      omega (arith, nodes, calls, named_, each, meant)

-- each call goes to a function, and an acyclic graph has ranks
pub no_recursion :
    ((ds : List t.Decl) → IsGraph (calls_in (names_of (function_ids ds)) ds)) →
    ((g : Graph) → IsAcyclic g → (rank : ℕ → ℕ) × ((f t : ℕ) → IsEdge g f t → rank t < rank f) × ((f : ℕ) → rank f ≤ length g) × (IsGraph g → (f : ℕ) → f < length g → rank f < length g)) →
    (ds : List t.Decl) → plain_faults ds ≡ [] → Recursion ds [] → HasNoRecursion (m.meaning_of (named ds))
no_recursion goes ranks ds h never_recurs =
    let order = ranks (calls_in (names_of (function_ids ds)) ds) (only_never (names_of (function_ids ds)) ds never_recurs) in
    let long = graph_long ds h in
    record {
      rank = order.0;
      is_place = λ f fn e.
          (let lt = get_small (m.meaning_of (named ds)).functions f fn e in
          let below = order.3 (goes ds) f (omega (arith, lt, long)) in
          omega (arith, below, long));
      falls = applies ds h order.0 order.1;
    }
