-- Candidates of a text have names of their own: they are among the values, which are declared once.
use Rattle.std.proofs.Common.{◌≡◌, ℕ, ◌+◌, Bool, true, false, List, [], ◌∷◌, ◌++◌, map, flat_map, refl, sym, ap, ◌∙◌, subst, inl, inr}
use Rattle.std.specs.Prelude.{◌⊎◌, Contains, if◌then◌else◌}
use Rattle.std.proofs.lemmas.List.{map-append}
use Rattle.std.proofs.lemmas.List.Elements.{Contains-append_left, Contains-append_right, Contains-append_cases}
use Rattle.bg_text.specs.Trees as t
use Rattle.bg_ast.specs.Resolved as r
use Rattle.bg_spaces.specs.Declarations.{Spaces, are_candidates, candidate_ids_of, value_ids_of, spaces_of}
use Rattle.bg_resolve.specs.Program.{decl_count}
use Rattle.bg_meant.specs.Once.{AreOnce}
use Rattle.bg_meant.specs.Declared.{MeansConstants, MeansDecl, MeanDecls, MeansProgram}
use Rattle.bg_certify.specs.Names.{text_in, HasOwnNames}

-- ---- the candidates of declarations

of_constants : (b : Bool) (c : t.Consts) (e : r.Ty) (p : r.Program) → MeansConstants b c e p → p.candidates ≡ (if b then c.group.names else [])
of_constants false c e p h = ap (λ (q : r.Program). q.candidates) h
of_constants true c e p h = ap (λ (q : r.Program). q.candidates) h.1

of_decl : (g : Spaces) (n : ℕ) (d : t.Decl) (p : r.Program) → MeansDecl g n d p → p.candidates ≡ candidate_ids_of d
of_decl g n (t.Types pos attrs ds) p h = ap (λ (q : r.Program). q.candidates) h.2
of_decl g n (t.Constants c) p h = of_constants (are_candidates c) c h.0 p h.2
of_decl g n (t.Function f) p h = ap (λ (q : r.Program). q.candidates) h.2
of_decl g n (t.Axiom pos attrs a) p h = ap (λ (q : r.Program). q.candidates) h.2
of_decl g n (t.Globals v) p h = ap (λ (q : r.Program). q.candidates) h.2
of_decl g n (t.Procedure q) p h = ap (λ (q : r.Program). q.candidates) h.1.3
of_decl g n (t.Implementation m) p h = ap (λ (q : r.Program). q.candidates) h.3

candidates_of : (g : Spaces) (n : ℕ) (ds : List t.Decl) (p : r.Program) → MeanDecls g n ds p → p.candidates ≡ flat_map candidate_ids_of ds
candidates_of g n [] p h = ap (λ (q : r.Program). q.candidates) h
candidates_of g n (d ∷ ds) p h =
    ap (λ (q : r.Program). q.candidates) h.1.3
    ∙ (ap (λ (xs : List t.Id). xs ++ h.1.0.candidates) (of_decl g n d h.0 h.1.1)
    ∙ ap (λ (xs : List t.Id). candidate_ids_of d ++ xs) (candidates_of g (n + decl_count d) ds h.1.0 h.1.2))

-- ---- names that stand once

abbrev Within : List (List ℕ) → List (List ℕ) → Type 0
Within xs ys = (x : List ℕ) → Contains xs x → Contains ys x

front_kept : (xs ys zs : List (List ℕ)) → Within zs ys → (x : List ℕ) → Contains (xs ++ zs) x → Contains (xs ++ ys) x
front_kept xs ys zs w x h = by (Contains-append_cases xs zs x h)
  where
    by : Contains xs x ⊎ Contains zs x → Contains (xs ++ ys) x
    by (inl a) = Contains-append_left xs ys x a
    by (inr b) = Contains-append_right xs ys x (w x b)

once_front : (xs ys zs : List (List ℕ)) → Within zs ys → AreOnce (xs ++ ys) → AreOnce zs → AreOnce (xs ++ zs)
once_front [] ys zs w h k = k
once_front (x ∷ xs) ys zs w h k = (λ c. h.0 (front_kept xs ys zs w x c), once_front xs ys zs w h.1 k)

all_or_none : (d : t.Decl) → (candidate_ids_of d ≡ value_ids_of d) ⊎ (candidate_ids_of d ≡ [])
all_or_none (t.Types pos attrs ds) = inr refl
all_or_none (t.Constants c) = by (are_candidates c)
  where
    by : (b : Bool) → ((if b then c.group.names else []) ≡ c.group.names) ⊎ ((if b then c.group.names else []) ≡ [])
    by true = inl refl
    by false = inr refl
all_or_none (t.Function f) = inr refl
all_or_none (t.Axiom pos attrs a) = inr refl
all_or_none (t.Globals v) = inr refl
all_or_none (t.Procedure q) = inr refl
all_or_none (t.Implementation m) = inr refl

module _ (cs vs : List t.Id) (rest others : List (List ℕ)) (among : Within rest others) where
  within_step : (cs ≡ vs) ⊎ (cs ≡ []) → Within (map text_in cs ++ rest) (map text_in vs ++ others)
  within_step (inl e) x h =
      front_kept (map text_in vs) others rest among x (subst (λ (l : List t.Id). Contains (map text_in l ++ rest) x) e h)
  within_step (inr e) x h =
      Contains-append_right (map text_in vs) others x (among x (subst (λ (l : List t.Id). Contains (map text_in l ++ rest) x) e h))

  once_step : (cs ≡ vs) ⊎ (cs ≡ []) → AreOnce (map text_in vs ++ others) → AreOnce rest → AreOnce (map text_in cs ++ rest)
  once_step (inl e) h k =
      subst (λ (l : List t.Id). AreOnce (map text_in l ++ rest)) (sym e) (once_front (map text_in vs) others rest among h k)
  once_step (inr e) h k = subst (λ (l : List t.Id). AreOnce (map text_in l ++ rest)) (sym e) k

behind : (xs ys : List (List ℕ)) → AreOnce (xs ++ ys) → AreOnce ys
behind [] ys h = h
behind (x ∷ xs) ys h = behind xs ys h.1

joins : (f : t.Decl → List t.Id) (d : t.Decl) (ds : List t.Decl) → map text_in (flat_map f (d ∷ ds)) ≡ map text_in (f d) ++ map text_in (flat_map f ds)
joins f d ds = map-append text_in (f d) (flat_map f ds)

within : (ds : List t.Decl) → Within (map text_in (flat_map candidate_ids_of ds)) (map text_in (flat_map value_ids_of ds))
within [] x h = h
within (d ∷ ds) x h =
    subst (λ (l : List (List ℕ)). Contains l x) (sym (joins value_ids_of d ds))
    (within_step (candidate_ids_of d) (value_ids_of d) (map text_in (flat_map candidate_ids_of ds)) (map text_in (flat_map value_ids_of ds)) (within ds) (all_or_none d) x
    (subst (λ (l : List (List ℕ)). Contains l x) (joins candidate_ids_of d ds) h))

once : (ds : List t.Decl) → AreOnce (map text_in (flat_map value_ids_of ds)) → AreOnce (map text_in (flat_map candidate_ids_of ds))
once [] h = h
once (d ∷ ds) h =
    let k : AreOnce (map text_in (value_ids_of d) ++ map text_in (flat_map value_ids_of ds)) = subst AreOnce (joins value_ids_of d ds) h in
    subst AreOnce (sym (joins candidate_ids_of d ds))
    (once_step (candidate_ids_of d) (value_ids_of d) (map text_in (flat_map candidate_ids_of ds)) (map text_in (flat_map value_ids_of ds)) (within ds) (all_or_none d) k
    (once ds (behind (map text_in (value_ids_of d)) (map text_in (flat_map value_ids_of ds)) k)))

pub own_names : (ds : List t.Decl) (p : r.Program) → MeansProgram ds p → HasOwnNames p
own_names ds p h =
    subst (λ (xs : List t.Id). AreOnce (map text_in xs)) (sym (candidates_of (spaces_of ds) 0 ds p h.decls)) (once ds h.values)
