-- Calls between functions as a graph.
use Rattle.std.proofs.Common.{◌≡◌, ℕ, zero, suc, ◌<◌, ◌+◌, Bool, true, false, List, [], ◌∷◌, ◌++◌, map, flat_map, length, Option, Some, None, refl, sym, ap, ◌∙◌, subst, arith, length-append, if◌then◌else◌, get_or, Vec, Global}
use Rattle.std.specs.Prelude.{All, Contains, option_map, slice_get, slice_index_or}
use Rattle.std.specs.Str.{bytes_eq}
use Rattle.std.proofs.lemmas.List.{length-map, map-append}
use Rattle.std.proofs.lemmas.Option.{slice_get-map, slice_get_read}
use Rattle.std.proofs.lemmas.List.Elements.{All-nil, All-cons, All-append, All-contains}
use Rattle.std.proofs.lemmas.List.Quantifiers.{position-Some}
use denote.Bor.{Bor}
use Rattle.bg_text.specs.Trees as t
use Rattle.bg_text.specs.declared.tree.Function.{Function}
use Rattle.bg_graph.specs.declared.order.Order.{Order}
use Rattle.bg_graph.specs.declared.order.Order.TheVariants.{Acyclic, Cyclic}
use Rattle.bg_graph.specs.Graphs.{Graph, IsGraph, IsAcyclic, IsFirstOnCycle}
use Rattle.bg_graph.specs.Answers.{IsAnswer}
use Rattle.bg_names.specs.Spaces.{has_name, with_name, with_names, names_of, place}
use Rattle.bg_spaces.specs.Declarations.{function_ids, function_ids_of}
use Rattle.bg_resolve.specs.Calls.{called, ex_calls, exs_calls, brackets_calls, links_calls, body_calls, calls_of, funs_of, if_first, once, fun_id, fun_in, functions_in, calls_in}

place-small : (names : List (List ℕ)) (x : List ℕ) (k : ℕ) → place names x ≡ Some k → k < length names
unfolding place
place-small names x k h = (position-Some (bytes_eq x) names k [] h).0

module _ (fs : List (List ℕ)) where
  abbrev IsSmall : List ℕ → Type 0
  IsSmall = All (λ k. k < length fs)

  both-small : (xs ys : List ℕ) → IsSmall xs → IsSmall ys → IsSmall (xs ++ ys)
  both-small = All-append (λ k. k < length fs)

  called-small : (x : List ℕ) → IsSmall (called (place fs x))
  called-small x = by (place fs x) refl
    where
      by : (o : Option ℕ) → place fs x ≡ o → IsSmall (called o)
      by None h = All-nil (λ k. k < length fs)
      by (Some k) h = All-cons (λ k. k < length fs) k [] (place-small fs x k h) (All-nil (λ k. k < length fs))

  mutual
    ex-small : (e : t.Ex) → IsSmall (ex_calls fs e)
    ex-small (t.Number p z) = All-nil (λ k. k < length fs)
    ex-small (t.Truth p b) = All-nil (λ k. k < length fs)
    ex-small (t.Named p x) = All-nil (λ k. k < length fs)
    ex-small (t.Apply p f es) = both-small (called (place fs f)) (exs_calls fs es) (called-small f) (exs-small es)
    ex-small (t.Old p e) = ex-small e
    ex-small (t.Parens p e) = ex-small e
    ex-small (t.Prefix signs e) = ex-small e
    ex-small (t.Postfix e bs) = both-small (ex_calls fs e) (brackets_calls fs bs) (ex-small e) (brackets-small bs)
    ex-small (t.Chain e ls) = both-small (ex_calls fs e) (links_calls fs ls) (ex-small e) (links-small ls)

    exs-small : (es : t.Exs) → IsSmall (exs_calls fs es)
    exs-small t.NoMore = All-nil (λ k. k < length fs)
    exs-small (t.More e es) = both-small (ex_calls fs e) (exs_calls fs es) (ex-small e) (exs-small es)

    brackets-small : (bs : t.Brackets) → IsSmall (brackets_calls fs bs)
    brackets-small t.NoBracket = All-nil (λ k. k < length fs)
    brackets-small (t.Select p es bs) = both-small (exs_calls fs es) (brackets_calls fs bs) (exs-small es) (brackets-small bs)
    brackets-small (t.Update p es e bs) = both-small (exs_calls fs es ++ ex_calls fs e) (brackets_calls fs bs) (both-small (exs_calls fs es) (ex_calls fs e) (exs-small es) (ex-small e)) (brackets-small bs)

    links-small : (ls : t.Links) → IsSmall (links_calls fs ls)
    links-small t.NoLink = All-nil (λ k. k < length fs)
    links-small (t.Link p sign e ls) = both-small (ex_calls fs e) (links_calls fs ls) (ex-small e) (links-small ls)

  body-small : (o : Option t.Ex) → IsSmall (body_calls fs o)
  body-small None = All-nil (λ k. k < length fs)
  body-small (Some e) = ex-small e

  target-small : (xs : List t.Fun) (f n : ℕ) → Contains (slice_index_or (map (calls_of fs) xs) f []) n → n < length fs
  target-small [] f n h = absurd (omega (arith, h.1))
  target-small (x ∷ xs) zero n h = All-contains (λ k. k < length fs) (body_calls fs x.body) n (body-small x.body) h
  target-small (x ∷ xs) (suc f) n h = target-small xs f n h

-- a list has as many names as functions
many : (names : List (List ℕ)) (xs : List t.Fun) → length (with_names names (map fun_id xs)) ≡ length names + length (once names xs)
unfolding with_name
many names [] = omega arith
many names (x ∷ xs) = by (has_name names x.name.text) (λ ns. many ns xs)
  where
    by : (b : Bool) → ((ns : List (List ℕ)) → length (with_names ns (map fun_id xs)) ≡ length ns + length (once ns xs)) → length (with_names (if b then names else names ++ x.name.text ∷ []) (map fun_id xs)) ≡ length names + length (if_first b x ++ once (if b then names else names ++ x.name.text ∷ []) xs)
    by true h = h names
    by false h = let more = h (names ++ x.name.text ∷ []) in let long = length-append names (x.name.text ∷ []) in omega (arith, more, long)

decl-ids : (d : t.Decl) → map fun_id (funs_of d) ≡ function_ids_of d
decl-ids (t.Types p attrs ds) = refl
decl-ids (t.Constants c) = refl
decl-ids (t.Function f) = refl
decl-ids (t.Axiom p attrs e) = refl
decl-ids (t.Globals v) = refl
decl-ids (t.Procedure q) = refl
decl-ids (t.Implementation m) = refl

pub funs-ids : (ds : List t.Decl) → map fun_id (flat_map funs_of ds) ≡ function_ids ds
funs-ids [] = refl
funs-ids (d ∷ ds) = map-append fun_id (funs_of d) (flat_map funs_of ds) ∙ rw (decl-ids d, funs-ids ds) refl

as-many : (ds : List t.Decl) → length (names_of (function_ids ds)) ≡ length (functions_in ds)
as-many ds =
    let same = ap (λ l. length (names_of l)) (funs-ids ds) in
    let all = many [] (flat_map funs_of ds) in
    omega (arith, same, all)

pub calls-graph : (ds : List t.Decl) → IsGraph (calls_in (names_of (function_ids ds)) ds)
calls-graph ds f n h =
    let names = names_of (function_ids ds) in
    let small = target-small names (functions_in ds) f n h in
    let long : length (calls_in names ds) ≡ length (functions_in ds) = length-map (functions_in ds) (calls_of names) in
    let same = as-many ds in
    omega (arith, small, long, same)

-- the rows are those of the functions that have numbers
pub rows-are : (ds : List t.Decl) (rows : Graph) (names none : List (List ℕ)) (all made : List t.Fun) → none ≡ [] → all ≡ flat_map funs_of ds → names ≡ with_names none (map fun_id all) → made ≡ once none all → rows ≡ map (calls_of names) made → rows ≡ calls_in (names_of (function_ids ds)) ds
rows-are ds rows names none all made h0 hall hnames hmade hrows =
    let same : names ≡ names_of (function_ids ds) = hnames ∙ rw (h0, hall, funs-ids ds) refl in
    hrows ∙ rw (same, hmade, h0, hall) refl

pub acyclic : (g h : Graph) (o : Order) (ranks : Vec ℕ Global) → g ≡ h → o ≡ Acyclic ranks → IsAnswer g o → IsAcyclic h
acyclic g h o ranks same e answer = subst IsAcyclic same (subst (IsAnswer g) e answer).1

pub on_cycle : (g h : Graph) (o : Order) (k : ℕ) → g ≡ h → o ≡ Cyclic k → IsAnswer g o → IsFirstOnCycle h k
on_cycle g h o k same e answer = subst (λ x. IsFirstOnCycle x k) same (subst (IsAnswer g) e answer)

-- the function at a place of the graph
pub function_at : (ds : List t.Decl) (names : List (List ℕ)) (fs : List (Bor Function)) (k : ℕ) (f : Bor Function) → map fun_in fs ≡ functions_in ds → k < length (calls_in names ds) → f ≡ get_or fs k f → slice_get (functions_in ds) k ≡ Some (fun_in f)
function_at ds names fs k f same lt at =
    let long : length (calls_in names ds) ≡ length (functions_in ds) = length-map (functions_in ds) (calls_of names) in
    let all = ap length same in
    let each : length (map fun_in fs) ≡ length fs = length-map fs fun_in in
    let in' : k < length fs = omega (arith, lt, long, all, each) in
    ap (λ l. slice_get l k) (sym same) ∙ slice_get-map fun_in fs k ∙ ap (option_map fun_in) (slice_get_read fs (length fs) k f refl in' at)
