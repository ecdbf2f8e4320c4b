-- What an expression's text calls is what it applies, so functions in an order have no cycle of calls.
use Rattle.std.proofs.Common.{◌≡◌, ℕ, zero, suc, ◌<◌, List, [], ◌∷◌, ◌++◌, map, flat_map, Option, Some, None, refl, sym, ap, ◌∙◌, subst, arith, inl, inr}
use Rattle.std.specs.Prelude.{slice_get, slice_index_or, Contains}
use Rattle.std.specs.Option.{option_map}
use Rattle.std.proofs.lemmas.Option.{slice_get-map, get_or_from_slice_get}
use Rattle.bg_text.specs.declared.expr.InfixSign.{InfixSign}
use Rattle.bg_text.specs.declared.expr.InfixSign.TheVariants as op
use Rattle.bg_text.specs.declared.expr.PrefixSign.{PrefixSign}
use Rattle.bg_text.specs.declared.expr.PrefixSign.TheVariants as prefix
use Rattle.bg_text.specs.declared.expr.TreePrefix.{TreePrefix}
use Rattle.bg_text.specs.Trees as t
use Rattle.bg_text.specs.Types.{All as Each}
use Rattle.bg_text.specs.Views.{option_of}
use Rattle.bg_ast.specs.Syntax as x
use Rattle.bg_ast.specs.Resolved as r
use Rattle.bg_ast.specs.Meaning as m
use Rattle.bg_graph.specs.Graphs.{Graph, IsEdge, IsAcyclic, Reaches, targets}
use Rattle.bg_graph.specs.Graphs.Reaches.{edge, through}
use Rattle.bg_names.specs.Spaces.{Scope, place, or_zero, names_of, repeats}
use Rattle.bg_names.specs.Exprs.{named_ex, named_exs, named_brackets, named_links}
use Rattle.bg_spaces.specs.Declarations.{spaces_of, function_ids}
use Rattle.bg_resolve.specs.Program.{function_scope, named_function, named}
use Rattle.bg_resolve.specs.Calls.{called, ex_calls, exs_calls, brackets_calls, links_calls, funs_of, body_calls, calls_of, calls_in}
use Rattle.bg_sense.specs.Recursion.{AppliesBelow, EachAppliesBelow, HasNoRecursion}
use Rattle.bg_sense.proofs.Members.{In, member}
use Rattle.bg_named.proofs.SpacesOnce.{functions_once}
use Rattle.bg_named.proofs.SpacesEntries.{each_append}
use Rattle.bg_named.proofs.RecursionCalls.{Below}
use Rattle.bg_named.proofs.Recursion.{all_function_ids, functions_are}

module _ (rank : ℕ → ℕ) (r : ℕ) where
  unprefixed : (sign : PrefixSign) (a : x.Ex) → AppliesBelow rank r (m.prefix_of sign a) → AppliesBelow rank r a
  unprefixed prefix.Not a h = h
  unprefixed prefix.Minus a h = h

  unsigned : (signs : List TreePrefix) (a : x.Ex) → AppliesBelow rank r (m.signed signs a) → AppliesBelow rank r a
  unsigned [] a h = h
  unsigned (y ∷ ys) a h = unsigned ys a (unprefixed y.sign (m.signed ys a) h)

  sides : (sign : InfixSign) (a b : x.Ex) → AppliesBelow rank r (m.infix_of sign a b) → AppliesBelow rank r a × AppliesBelow rank r b
  sides op.Explies a b h = (h.1, h.0)
  sides _ a b h = (h.0, h.1)

  one_called : (o : Option ℕ) → rank (or_zero o) < r → Below rank r (called o)
  one_called None h = tt
  one_called (Some k) h = (h, tt)

  module _ (s : Scope) where
    mutual
      pub ex_calls_below : (e : t.Ex) → AppliesBelow rank r (m.ex_of (named_ex s e)) → Below rank r (ex_calls s.functions e)
      ex_calls_below (t.Number p z) h = tt
      ex_calls_below (t.Truth p z) h = tt
      ex_calls_below (t.Named p y) h = tt
      ex_calls_below (t.Apply p f es) h =
          each_append (λ k. rank k < r) (called (place s.functions f)) (exs_calls s.functions es) (one_called (place s.functions f) h.0) (exs_calls_below es h.1)
      ex_calls_below (t.Old p e) h = ex_calls_below e h
      ex_calls_below (t.Parens p e) h = ex_calls_below e h
      ex_calls_below (t.Prefix signs e) h = ex_calls_below e (unsigned signs (m.ex_of (named_ex s e)) h)
      ex_calls_below (t.Postfix e bs) h =
          let w = brackets_calls_below (m.ex_of (named_ex s e)) bs h in
          each_append (λ k. rank k < r) (ex_calls s.functions e) (brackets_calls s.functions bs) (ex_calls_below e w.0) w.1
      ex_calls_below (t.Chain e ls) h =
          let w = links_calls_below (m.ex_of (named_ex s e)) ls h in
          each_append (λ k. rank k < r) (ex_calls s.functions e) (links_calls s.functions ls) (ex_calls_below e w.0) w.1

      exs_calls_below : (es : t.Exs) → EachAppliesBelow rank r (m.exs_of (named_exs s es)) → Below rank r (exs_calls s.functions es)
      exs_calls_below t.NoMore h = tt
      exs_calls_below (t.More e es) h =
          each_append (λ k. rank k < r) (ex_calls s.functions e) (exs_calls s.functions es) (ex_calls_below e h.0) (exs_calls_below es h.1)

      brackets_calls_below : (a : x.Ex) (bs : t.Brackets) → AppliesBelow rank r (m.behind a (named_brackets s bs)) → AppliesBelow rank r a × Below rank r (brackets_calls s.functions bs)
      brackets_calls_below a t.NoBracket h = (h, tt)
      brackets_calls_below a (t.Select p es bs) h =
          let w = brackets_calls_below (x.Select a (m.exs_of (named_exs s es))) bs h in
          (w.0.0, each_append (λ k. rank k < r) (exs_calls s.functions es) (brackets_calls s.functions bs) (exs_calls_below es w.0.1) w.1)
      brackets_calls_below a (t.Update p es e bs) h =
          let w = brackets_calls_below (x.Update a (m.exs_of (named_exs s es)) (m.ex_of (named_ex s e))) bs h in (
            w.0.0,
            each_append
                (λ k. rank k < r)
                (exs_calls s.functions es ++ ex_calls s.functions e)
                (brackets_calls s.functions bs)
                (each_append (λ k. rank k < r) (exs_calls s.functions es) (ex_calls s.functions e) (exs_calls_below es w.0.1) (ex_calls_below e w.0.2))
                w.1,
          )

      links_calls_below : (a : x.Ex) (ls : t.Links) → AppliesBelow rank r (m.chained a (named_links s ls)) → AppliesBelow rank r a × Below rank r (links_calls s.functions ls)
      links_calls_below a t.NoLink h = (h, tt)
      links_calls_below a (t.Link p op.Implies e ls) h =
          let w = links_calls_below (m.ex_of (named_ex s e)) ls h.1 in
          (h.0, each_append (λ k. rank k < r) (ex_calls s.functions e) (links_calls s.functions ls) (ex_calls_below e w.0) w.1)
      links_calls_below a (t.Link p sign e ls) h =
          let w = links_calls_below (m.infix_of sign a (m.ex_of (named_ex s e))) ls h in
          let v = sides sign a (m.ex_of (named_ex s e)) w.0 in
          (v.0, each_append (λ k. rank k < r) (ex_calls s.functions e) (links_calls s.functions ls) (ex_calls_below e v.1) w.1)

each_in : {A : Type 0} (P : A → Type 0) (xs : List A) (y : A) → Each P xs → In xs y → P y
each_in P [] y h i = absurd i
each_in P (z ∷ zs) y h (inl e) = subst P e h.0
each_in P (z ∷ zs) y h (inr i) = each_in P zs y h.1 i

no_targets : (g : Graph) (f : ℕ) → slice_get g f ≡ None → slice_index_or g f [] ≡ []
no_targets [] f h = refl
no_targets (l ∷ ls) zero h = absurd (let bad : Some l ≡ None = h in cc)
no_targets (l ∷ ls) (suc f) h = no_targets ls f h

falling : (g : Graph) (rank : ℕ → ℕ) → ((f n : ℕ) → IsEdge g f n → rank n < rank f) → (f n : ℕ) → Reaches g f n → rank n < rank f
falling g rank falls _ _ (edge f n e) = falls f n e
falling g rank falls _ _ (through f k n e h) =
    let first = falls f k e in
    let rest = falling g rank falls k n h in
    omega (arith, first, rest)

module _ (ds : List t.Decl) (once : repeats [] (function_ids ds) ≡ []) (order : HasNoRecursion (m.meaning_of (named ds))) where
  abbrev names : List (List ℕ)
  names = names_of (function_ids ds)

  abbrev funs : List t.Fun
  funs = flat_map funs_of ds

  graph_is : calls_in names ds ≡ map (calls_of names) funs
  graph_is = ap (map (calls_of names)) (functions_once [] funs (ap (repeats []) (all_function_ids ds) ∙ once))

  body_below : (k : ℕ) (f : t.Fun) → slice_get funs k ≡ Some f → Below order.rank (order.rank k) (calls_of names f)
  body_below k f e = by f.body refl
    where
      meant : slice_get (m.meaning_of (named ds)).functions k ≡ Some (m.fun_of (m.named_of (named ds).types) (named_function (spaces_of ds) f))
      meant =
          slice_get-map (m.fun_of (m.named_of (named ds).types)) (named ds).functions k
          ∙ ap (option_map (m.fun_of (m.named_of (named ds).types)))
          (ap (λ (l : List r.Fun). slice_get l k) (functions_are (spaces_of ds) ds) ∙ (slice_get-map (named_function (spaces_of ds)) funs k ∙ ap (option_map (named_function (spaces_of ds))) e))

      by : (o : Option t.Ex) → f.body ≡ o → Below order.rank (order.rank k) (body_calls names f.body)
      by None q = subst (λ (o : Option t.Ex). Below order.rank (order.rank k) (body_calls names o)) (sym q) tt
      by (Some a) q =
          let body : m.body_of (option_of (named_ex (function_scope (spaces_of ds) f)) f.body) ≡ Some (m.ex_of (named_ex (function_scope (spaces_of ds) f) a)) = ap (λ (o : Option t.Ex). m.body_of (option_of (named_ex (function_scope (spaces_of ds) f)) o)) q in
          let low = order.falls k (m.fun_of (m.named_of (named ds).types) (named_function (spaces_of ds) f)) (m.ex_of (named_ex (function_scope (spaces_of ds) f) a)) meant body in
          subst (λ (o : Option t.Ex). Below order.rank (order.rank k) (body_calls names o)) (sym q) (ex_calls_below order.rank (order.rank k) (function_scope (spaces_of ds) f) a low)

  falls : (k n : ℕ) → IsEdge (calls_in names ds) k n → order.rank n < order.rank k
  falls k n c = by (slice_get funs k) refl
    where
      row : slice_get (calls_in names ds) k ≡ option_map (calls_of names) (slice_get funs k)
      row = ap (λ (l : Graph). slice_get l k) graph_is ∙ slice_get-map (calls_of names) funs k

      by : (o : Option t.Fun) → slice_get funs k ≡ o → order.rank n < order.rank k
      by None q =
          let same = no_targets (calls_in names ds) k (row ∙ ap (option_map (calls_of names)) q) in
          absurd (member [] n (subst (λ (l : List ℕ). Contains l n) same c))
      by (Some f) q =
          let same : targets (calls_in names ds) k ≡ calls_of names f = get_or_from_slice_get (calls_in names ds) k (calls_of names f) [] (row ∙ ap (option_map (calls_of names)) q) in
          each_in (λ j. order.rank j < order.rank k) (calls_of names f) n (body_below k f q) (member (calls_of names f) n (subst (λ (l : List ℕ). Contains l n) same c))

  pub has_no_cycle : IsAcyclic (calls_in names ds)
  has_no_cycle f h = let down = falling (calls_in names ds) order.rank falls f f h in omega (arith, down)
