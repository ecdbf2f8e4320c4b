-- A flat expression is worth what the expression is worth.
use Rattle.std.proofs.Common.{◌≡◌, ℕ, suc, ◌<◌, List, [], ◌∷◌, map, sym, ap, ◌∙◌}
use Rattle.std.specs.Prelude.{slice_get, not, neg_ℤ}
use Rattle.bg_ast.specs.Values.{Val, Num, Truth, select, update, number_of, truth_of}
use Rattle.bg_ast.specs.Syntax.{Ex, Exs, Number, Fact, Constant, Read, Local, Global, Not, Negative, Binary, Apply, Select, Update, Old, NoMore, More, Fun}
use Rattle.bg_ast.specs.Execution.{Interp}
use Rattle.bg_sense.specs.Eval.{Scope, value_at, ev, evs, operate, look_up, body_value, functions_to}
use Rattle.bg_terms.specs.Terms.{Applies, Selects, Updates, Term, over, IsModel}
use Rattle.bg_terms.specs.Flat.{HaveNoBodies, IsFlat, AreFlat}
use Rattle.bg_terms.proofs.Models.{term_means}

-- a function without a body means its table
means_its_table : (i : Interp) (depth : ℕ) (fs : List Fun) (none : HaveNoBodies fs) (f : ℕ) (args : List Val) → functions_to (suc depth) fs i f args ≡ look_up (slice_get i.tables f) args
means_its_table i depth fs none f args = ap (λ b. body_value b (functions_to depth fs i) i f args) (none f)

module _ (i : Interp) (n depth : ℕ) (fs : List Fun) (none : HaveNoBodies fs) (ts : List Term) (w values : List Val) (model : IsModel i w n ts) (first : (j : ℕ) → j < n → value_at w j ≡ value_at values j) where
  -- what names mean in passive blocks
  abbrev scope : Scope
  scope =
      record { functions = functions_to (suc depth) fs i; constants = i.constants; globals = []; before = []; frame = values }

  mutual
    pub flat_means : (e x : Ex) → IsFlat n ts e x → ev x (over w) ≡ ev e scope
    flat_means (Number z) x h = ap (λ y. ev y (over w)) h
    flat_means (Fact b) x h = ap (λ y. ev y (over w)) h
    flat_means (Constant k) x h = absurd h
    flat_means (Read (Local j)) x h = ap (λ y. ev y (over w)) h.0 ∙ first j h.1
    flat_means (Read (Global j)) x h = absurd h
    flat_means (Not e) x h =
        ap (λ y. ev y (over w)) h.1.0 ∙ ap (λ v. Truth (not (truth_of v))) (flat_means e h.0 h.1.1)
    flat_means (Negative e) x h =
        ap (λ y. ev y (over w)) h.1.0 ∙ ap (λ v. Num (neg_ℤ (number_of v))) (flat_means e h.0 h.1.1)
    flat_means (Binary op a b) x h =
        ap (λ y. ev y (over w)) h.1.1.0
        ∙ ap (λ v. operate op v (ev h.1.0 (over w))) (flat_means a h.0 h.1.1.1.0)
        ∙ ap (operate op (ev a scope)) (flat_means b h.1.0 h.1.1.1.1)
    flat_means (Apply f es) x h =
        term_means i w n ts model (Applies f) h.0 x h.1.1
        ∙ sym (means_its_table i depth fs none f (evs h.0 (over w)))
        ∙ ap (functions_to (suc depth) fs i f) (flats_mean es h.0 h.1.0)
    flat_means (Select m es) x (ks, (u, (y, (ys, (hm, (hs, ht)))))) =
        term_means i w n ts model (Selects ks u) (More y ys) x ht
        ∙ ap (λ v. select v (map number_of (evs ys (over w)))) (flat_means m y hm)
        ∙ ap (λ vs. select (ev m scope) (map number_of vs)) (flats_mean es ys hs)
    flat_means (Update m es e) x (ks, (u, (y, (ys, (z, (hm, (hs, (he, ht)))))))) =
        term_means i w n ts model (Updates ks u) (More y (More z ys)) x ht
        ∙ ap (λ v. update v (map number_of (evs ys (over w))) (ev z (over w))) (flat_means m y hm)
        ∙ ap (λ vs. update (ev m scope) (map number_of vs) (ev z (over w))) (flats_mean es ys hs)
        ∙ ap (update (ev m scope) (map number_of (evs es scope))) (flat_means e z he)
    flat_means (Old e) x h = flat_means e x h

    flats_mean : (es xs : Exs) → AreFlat n ts es xs → evs xs (over w) ≡ evs es scope
    flats_mean NoMore xs h = ap (λ ys. evs ys (over w)) h
    flats_mean (More e es) xs h =
        ap (λ ys. evs ys (over w)) h.1.1.0
        ∙ ap (λ v. v ∷ evs h.1.0 (over w)) (flat_means e h.0 h.1.1.1.0)
        ∙ ap (λ vs. ev e scope ∷ vs) (flats_mean es h.1.0 h.1.1.1.1)
