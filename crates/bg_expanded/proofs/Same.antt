-- Expressions have as many nodes, as far as one is too many, where applications do.
use Rattle.std.proofs.Common.{ℕ, suc, ◌+◌, ◌*◌, min, List, [], ◌∷◌, Option, Some, None, slice_get, refl, ap, ◌∙◌, arith, mul_comm}
use Rattle.bg_ast.specs.Resolved as r
use Rattle.bg_opened.specs.Changed.{bodies_in}
use Rattle.bg_expanded.specs.Weights.{Weigher, total, weight, weights, weight_behind, weight_linked, weigh_body, opened_weigher}
use Rattle.bg_expanded.specs.Bodies.{IsAlike, product, worth_of, known_in, weigher, IsTable}
use Rattle.bg_expanded.specs.declared.count.Count.{Count}
use Rattle.bg_expanded.proofs.Alike.{alike_sum, alike_times}

abbrev pub AllAlike : List ℕ → List ℕ → Type 0
AllAlike [] [] = Unit {0}
AllAlike (v ∷ vs) (w ∷ ws) = IsAlike v w × AllAlike vs ws
AllAlike _ _ = ⊥

total_same : (vs ws : List ℕ) → AllAlike vs ws → IsAlike (total vs) (total ws)
total_same [] [] h = refl
total_same [] (w ∷ ws) h = absurd h
total_same (v ∷ vs) [] h = absurd h
total_same (v ∷ vs) (w ∷ ws) h = alike_sum v (total vs) w (total ws) h.0 (total_same vs ws h.1)

times_same : (t a b : ℕ) → IsAlike a b → IsAlike (t * a) (t * b)
times_same t a b h = ap (min 1000001) (mul_comm t a) ∙ (alike_times a b t h ∙ ap (min 1000001) (mul_comm b t))

product_same : (rs vs ws : List ℕ) → AllAlike vs ws → IsAlike (product rs vs) (product rs ws)
product_same [] vs ws h = refl
product_same (r ∷ rs) [] [] h = refl
product_same (r ∷ rs) [] (w ∷ ws) h = absurd h
product_same (r ∷ rs) (v ∷ vs) [] h = absurd h
product_same (r ∷ rs) (v ∷ vs) (w ∷ ws) h = alike_sum (r * v) (product rs vs) (r * w) (product rs ws) (times_same r v w h.0) (product_same rs vs ws h.1)

worth_same : (o : Option Count) (vs ws : List ℕ) → AllAlike vs ws → IsAlike (worth_of o vs) (worth_of o ws)
worth_same None vs ws h = let k = total_same vs ws h in omega (arith, k)
worth_same (Some c) vs ws h = alike_sum c.own (product c.reads.items vs) c.own (product c.reads.items ws) refl (product_same c.reads.items vs ws h)

module _ (app : Weigher) (table : List (Option Count)) (same : (f : ℕ) (ws : List ℕ) → IsAlike (weigher table f ws) (app f ws)) (ws : List ℕ) where
  abbrev A : r.Ex → ℕ
  A = weight (weigher table) ws

  abbrev B : r.Ex → ℕ
  B = weight app ws

  one_more : (a b : ℕ) → IsAlike a b → IsAlike (suc a) (suc b)
  one_more a b h = omega (arith, h)

  mutual
    pub weight_same : (e : r.Ex) → IsAlike (A e) (B e)
    weight_same (r.Number p z) = refl
    weight_same (r.Truth p b) = refl
    weight_same (r.Constant p k) = refl
    weight_same (r.Read p x) = refl
    weight_same (r.Apply p f es) =
        worth_same (known_in (slice_get table f)) (weights (weigher table) ws es) (weights app ws es) (weights_same es) ∙ same f (weights app ws es)
    weight_same (r.Old p e) = one_more (A e) (B e) (weight_same e)
    weight_same (r.Parens p e) = weight_same e
    weight_same (r.Prefix signs e) = one_more (A e) (B e) (weight_same e)
    weight_same (r.Postfix e bs) =
        one_more (A e + weight_behind (weigher table) ws bs) (B e + weight_behind app ws bs)
        (alike_sum (A e) (weight_behind (weigher table) ws bs) (B e) (weight_behind app ws bs) (weight_same e) (behind_same bs))
    weight_same (r.Chain e ls) =
        one_more (A e + weight_linked (weigher table) ws ls) (B e + weight_linked app ws ls)
        (alike_sum (A e) (weight_linked (weigher table) ws ls) (B e) (weight_linked app ws ls) (weight_same e) (linked_same ls))

    weights_same : (es : r.Exs) → AllAlike (weights (weigher table) ws es) (weights app ws es)
    weights_same r.NoMore = tt
    weights_same (r.More e es) = (weight_same e, weights_same es)

    behind_same : (bs : r.Brackets) → IsAlike (weight_behind (weigher table) ws bs) (weight_behind app ws bs)
    behind_same r.NoBracket = refl
    behind_same (r.Select p es bs) =
        alike_sum (total (weights (weigher table) ws es)) (weight_behind (weigher table) ws bs) (total (weights app ws es)) (weight_behind app ws bs)
        (total_same (weights (weigher table) ws es) (weights app ws es) (weights_same es)) (behind_same bs)
    behind_same (r.Update p es e bs) =
        alike_sum (total (weights (weigher table) ws es) + A e) (weight_behind (weigher table) ws bs) (total (weights app ws es) + B e) (weight_behind app ws bs)
        (alike_sum (total (weights (weigher table) ws es)) (A e) (total (weights app ws es)) (B e)
        (total_same (weights (weigher table) ws es) (weights app ws es) (weights_same es)) (weight_same e))
        (behind_same bs)

    linked_same : (ls : r.Links) → IsAlike (weight_linked (weigher table) ws ls) (weight_linked app ws ls)
    linked_same r.NoLink = refl
    linked_same (r.Link p sign e ls) = alike_sum (A e) (weight_linked (weigher table) ws ls) (B e) (weight_linked app ws ls) (weight_same e) (linked_same ls)

body_same : (app : Weigher) (table : List (Option Count)) → ((f : ℕ) (ws : List ℕ) → IsAlike (weigher table f ws) (app f ws)) → (o : Option r.Ex) (ws : List ℕ) → IsAlike (weigh_body (weigher table) o ws) (weigh_body app o ws)
body_same app table h None ws = refl
body_same app table h (Some b) ws = weight_same app table h ws b

-- a table of bodies that are opened one deeper
pub table_deeper : (fs : List r.Fun) (depth : ℕ) (table made : List (Option Count)) → IsTable fs depth table →
    ((f : ℕ) (ws : List ℕ) → IsAlike (weigher made f ws) (weigh_body (weigher table) (bodies_in fs f) ws)) → IsTable fs (suc depth) made
table_deeper fs depth table made h k f ws = k f ws ∙ body_same (opened_weigher fs depth) table h (bodies_in fs f) ws
