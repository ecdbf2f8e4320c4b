-- The nodes of an expression in which bodies are put in are those that are counted without.
use Rattle.std.proofs.Common.{◌≡◌, ℕ, zero, suc, ◌+◌, List, [], ◌∷◌, get_or, Option, Some, None, refl, ap, ◌∙◌, arith}
use Rattle.bg_base.specs.declared.pos.Pos.{Pos}
use Rattle.bg_ast.specs.Syntax.{Global, Local}
use Rattle.bg_ast.specs.Resolved as r
use Rattle.bg_places.specs.Counts.{nodes, nodes_of, nodes_behind, nodes_linked}
use Rattle.bg_opened.specs.Changed.{changed, all_changed, brackets_changed, links_changed, ex_at, putting, applied, bodies_in, opening, opened_within}
use Rattle.bg_expanded.specs.Weights.{Weigher, total, weight, weights, weight_behind, weight_linked, plain, weigh_body, opened_weigher}

two : (a b c d : ℕ) → a ≡ c → b ≡ d → a + b ≡ c + d
two a b c d h k = omega (arith, h, k)

more : (a b : ℕ) (vs ws : List ℕ) → a ≡ b → vs ≡ ws → a ∷ vs ≡ b ∷ ws
more a b vs ws h k = rw (h, k) refl

-- nothing is put in
abbrev bare : Weigher
bare f ws = plain ws

mutual
  nodes_are : (e : r.Ex) → nodes e ≡ weight bare [] e
  nodes_are (r.Number p z) = refl
  nodes_are (r.Truth p b) = refl
  nodes_are (r.Constant p k) = refl
  nodes_are (r.Read p (Global x)) = refl
  nodes_are (r.Read p (Local j)) = refl
  nodes_are (r.Apply p f es) = ap suc (all_are es)
  nodes_are (r.Old p e) = ap suc (nodes_are e)
  nodes_are (r.Parens p e) = nodes_are e
  nodes_are (r.Prefix signs e) = ap suc (nodes_are e)
  nodes_are (r.Postfix e bs) = ap suc (two (nodes e) (nodes_behind bs) _ _ (nodes_are e) (behind_are bs))
  nodes_are (r.Chain e ls) = ap suc (two (nodes e) (nodes_linked ls) _ _ (nodes_are e) (linked_are ls))

  all_are : (es : r.Exs) → nodes_of es ≡ total (weights bare [] es)
  all_are r.NoMore = refl
  all_are (r.More e es) = two (nodes e) (nodes_of es) _ _ (nodes_are e) (all_are es)

  behind_are : (bs : r.Brackets) → nodes_behind bs ≡ weight_behind bare [] bs
  behind_are r.NoBracket = refl
  behind_are (r.Select p es bs) = two (nodes_of es) (nodes_behind bs) _ _ (all_are es) (behind_are bs)
  behind_are (r.Update p es e bs) = two (nodes_of es + nodes e) (nodes_behind bs) _ _ (two (nodes_of es) (nodes e) _ _ (all_are es) (nodes_are e)) (behind_are bs)

  linked_are : (ls : r.Links) → nodes_linked ls ≡ weight_linked bare [] ls
  linked_are r.NoLink = refl
  linked_are (r.Link p sign e ls) = two (nodes e) (nodes_linked ls) _ _ (nodes_are e) (linked_are ls)

-- arguments stand in the place of parameters
module _ (app : Weigher) (ws : List ℕ) (xs : r.Exs) where
  abbrev Put : r.Ex → ℕ
  Put e = weight app ws (changed (putting xs) e)

  abbrev In : r.Ex → ℕ
  In e = weight app (weights app ws xs) e

  at : (p : Pos) (ys : r.Exs) (j : ℕ) → weight app ws (ex_at p ys j) ≡ get_or (weights app ws ys) j 1
  at p r.NoMore j = refl
  at p (r.More y ys) zero = refl
  at p (r.More y ys) (suc j) = at p ys j

  mutual
    put_in : (e : r.Ex) → Put e ≡ In e
    put_in (r.Number p z) = refl
    put_in (r.Truth p b) = refl
    put_in (r.Constant p k) = refl
    put_in (r.Read p (Global x)) = refl
    put_in (r.Read p (Local j)) = at p xs j
    put_in (r.Apply p f es) = ap (app f) (all_put_in es)
    put_in (r.Old p e) = ap suc (put_in e)
    put_in (r.Parens p e) = put_in e
    put_in (r.Prefix signs e) = ap suc (put_in e)
    put_in (r.Postfix e bs) = ap suc (two (Put e) _ (In e) _ (put_in e) (behind_put_in bs))
    put_in (r.Chain e ls) = ap suc (two (Put e) _ (In e) _ (put_in e) (linked_put_in ls))

    all_put_in : (es : r.Exs) → weights app ws (all_changed (putting xs) es) ≡ weights app (weights app ws xs) es
    all_put_in r.NoMore = refl
    all_put_in (r.More e es) = more (Put e) (In e) _ _ (put_in e) (all_put_in es)

    behind_put_in : (bs : r.Brackets) → weight_behind app ws (brackets_changed (putting xs) bs) ≡ weight_behind app (weights app ws xs) bs
    behind_put_in r.NoBracket = refl
    behind_put_in (r.Select p es bs) = two (total (weights app ws (all_changed (putting xs) es))) _ (total (weights app (weights app ws xs) es)) _ (ap total (all_put_in es)) (behind_put_in bs)
    behind_put_in (r.Update p es e bs) =
        two (total (weights app ws (all_changed (putting xs) es)) + Put e) _ (total (weights app (weights app ws xs) es) + In e) _
        (two (total (weights app ws (all_changed (putting xs) es))) (Put e) (total (weights app (weights app ws xs) es)) (In e) (ap total (all_put_in es)) (put_in e))
        (behind_put_in bs)

    linked_put_in : (ls : r.Links) → weight_linked app ws (links_changed (putting xs) ls) ≡ weight_linked app (weights app ws xs) ls
    linked_put_in r.NoLink = refl
    linked_put_in (r.Link p sign e ls) = two (Put e) _ (In e) _ (put_in e) (linked_put_in ls)

-- one pass over an expression
module _ (g : ℕ) (fs : List r.Fun) (app : Weigher) (none : (f : ℕ) (ws : List ℕ) → bodies_in fs f ≡ None → app f ws ≡ plain ws) (ws : List ℕ) where
  abbrev deeper : Weigher
  deeper f vs = weigh_body app (bodies_in fs f) vs

  abbrev Passed : r.Ex → ℕ
  Passed e = weight app ws (changed (opening g fs) e)

  abbrev Before : r.Ex → ℕ
  Before e = weight deeper ws e

  body_passed : (o : Option r.Ex) (p : Pos) (f : ℕ) (xs : r.Exs) (vs : List ℕ) → bodies_in fs f ≡ o → weights app ws xs ≡ vs → weight app ws (applied o p f xs) ≡ weigh_body app o vs
  body_passed None p f xs vs q h = ap (app f) h ∙ none f vs q
  body_passed (Some b) p f xs vs q h = put_in app ws xs b ∙ ap (λ l. weight app l b) h

  mutual
    pass : (e : r.Ex) → Passed e ≡ Before e
    pass (r.Number p z) = refl
    pass (r.Truth p b) = refl
    pass (r.Constant p k) = refl
    pass (r.Read p x) = refl
    pass (r.Apply p f es) = body_passed (bodies_in fs f) p f (all_changed (opening g fs) es) (weights deeper ws es) refl (all_pass es)
    pass (r.Old p e) = ap suc (pass e)
    pass (r.Parens p e) = pass e
    pass (r.Prefix signs e) = ap suc (pass e)
    pass (r.Postfix e bs) = ap suc (two (Passed e) _ (Before e) _ (pass e) (behind_pass bs))
    pass (r.Chain e ls) = ap suc (two (Passed e) _ (Before e) _ (pass e) (linked_pass ls))

    all_pass : (es : r.Exs) → weights app ws (all_changed (opening g fs) es) ≡ weights deeper ws es
    all_pass r.NoMore = refl
    all_pass (r.More e es) = more (Passed e) (Before e) _ _ (pass e) (all_pass es)

    behind_pass : (bs : r.Brackets) → weight_behind app ws (brackets_changed (opening g fs) bs) ≡ weight_behind deeper ws bs
    behind_pass r.NoBracket = refl
    behind_pass (r.Select p es bs) = two (total (weights app ws (all_changed (opening g fs) es))) _ (total (weights deeper ws es)) _ (ap total (all_pass es)) (behind_pass bs)
    behind_pass (r.Update p es e bs) =
        two (total (weights app ws (all_changed (opening g fs) es)) + Passed e) _ (total (weights deeper ws es) + Before e) _
        (two (total (weights app ws (all_changed (opening g fs) es))) (Passed e) (total (weights deeper ws es)) (Before e) (ap total (all_pass es)) (pass e))
        (behind_pass bs)

    linked_pass : (ls : r.Links) → weight_linked app ws (links_changed (opening g fs) ls) ≡ weight_linked deeper ws ls
    linked_pass r.NoLink = refl
    linked_pass (r.Link p sign e ls) = two (Passed e) _ (Before e) _ (pass e) (linked_pass ls)

without_body : (fs : List r.Fun) (depth f : ℕ) (ws : List ℕ) → bodies_in fs f ≡ None → opened_weigher fs depth f ws ≡ plain ws
without_body fs zero f ws h = refl
without_body fs (suc depth) f ws h = ap (λ o. weigh_body (opened_weigher fs depth) o ws) h

pub opened_nodes_are : (depth g : ℕ) (fs : List r.Fun) (e : r.Ex) → nodes (opened_within depth g fs e) ≡ weight (opened_weigher fs depth) [] e
opened_nodes_are zero g fs e = nodes_are (changed (opening g []) e) ∙ pass g [] bare (λ f ws h. refl) [] e
opened_nodes_are (suc depth) g fs e =
    opened_nodes_are depth g fs (changed (opening g fs) e) ∙ pass g fs (opened_weigher fs depth) (without_body fs depth) [] e
