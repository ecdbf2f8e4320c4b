-- Where no synonym reaches itself, synonyms are unfolded in one way.
use Rattle.std.proofs.Common.{◌≡◌, ◌⊎◌, inl, inr, ℕ, zero, suc, ◌<◌, ◌≤◌, List, [], ◌∷◌, ◌++◌, length, Option, Some, None, slice_get, Contains, refl, sym, ap, ◌∙◌, subst, arith}
use Rattle.std.proofs.lemmas.List.{get_or-map}
use Rattle.std.proofs.lemmas.List.Elements.{Contains-append_left, Contains-append_right}
use Rattle.std.proofs.lemmas.Option.{slice_get_past, slice_get_within, get_or_from_slice_get}
use mathlib.Core.Logic.{dite}
use mathlib.Core.Path.{fun_ext}
use native.Mathlib.Decide.{ℕ_discrete, dec_lt}
use Rattle.bg_graph.specs.Graphs.{IsEdge, Reaches, IsAcyclic, targets}
use Rattle.bg_graph.specs.Graphs.Reaches.{edge, through}
use Rattle.bg_ast.specs.Values as v
use Rattle.bg_ast.specs.Resolved as r
use Rattle.bg_kinds.specs.Kinds.{Kind, kind_in, mapped_in, keys_in, key_in, one_key, map_kind, synonym_or, synonym_by}
use Rattle.bg_kinds.specs.Synonyms.{IsUnfolded}
use Rattle.bg_kinds.specs.Synonyms.{mentions, mentioned_in, all_mentions, type_mentions, synonym_mentions, synonym_graph}

-- ---- lists of numbers, from which one is taken
abbrev In : ℕ → List ℕ → Type 0
In k [] = ⊥
In k (x ∷ xs) = (k ≡ x) ⊎ In k xs

abbrev without : (xs : List ℕ) (k : ℕ) → In k xs → List ℕ
without [] k h = absurd h
without (x ∷ xs) k (inl e) = xs
without (x ∷ xs) k (inr h) = x ∷ without xs k h

shorter : (xs : List ℕ) (k : ℕ) (h : In k xs) → suc (length (without xs k h)) ≡ length xs
shorter [] k h = absurd h
shorter (x ∷ xs) k (inl e) = refl
shorter (x ∷ xs) k (inr h) = ap suc (shorter xs k h)

others : (xs : List ℕ) (k : ℕ) (h : In k xs) (j : ℕ) → In j xs → (j ≡ k) ⊎ In j (without xs k h)
others [] k h j i = absurd h
others (x ∷ xs) k (inl e) j (inl f) = inl (f ∙ sym e)
others (x ∷ xs) k (inl e) j (inr i) = inr i
others (x ∷ xs) k (inr h) j (inl f) = inr (inl f)
others (x ∷ xs) k (inr h) j (inr i) = elim (others xs k h j i) [ inl e ↦ inl e | inr m ↦ inr (inr m) ]

abbrev below : ℕ → List ℕ
below zero = []
below (suc n) = n ∷ below n

all_below : (n j : ℕ) → j < n → In j (below n)
all_below zero j h = absurd (omega (arith, h))
all_below (suc n) j h = dite (ℕ_discrete j n) (λ e. inl e) (λ d. inr (all_below n j (omega (arith, h, d))))

-- ---- what a written type stands for hangs on the declared types that it names
abbrev Agree : (ℕ → Kind) → (ℕ → Kind) → List ℕ → Type 0
Agree m n ks = (k : ℕ) → Contains ks k → m k ≡ n k

left : (m n : ℕ → Kind) (xs ys : List ℕ) → Agree m n (xs ++ ys) → Agree m n xs
left m n xs ys h k c = h k (Contains-append_left xs ys k c)

right : (m n : ℕ → Kind) (xs ys : List ℕ) → Agree m n (xs ++ ys) → Agree m n ys
right m n xs ys h k c = h k (Contains-append_right xs ys k c)

mutual
  kind_same : (m n : ℕ → Kind) (t : r.Ty) → Agree m n (mentions t) → kind_in m t ≡ kind_in n t
  kind_same m n (r.IntType p) h = refl
  kind_same m n (r.BoolType p) h = refl
  kind_same m n (r.DeclaredType p k) h = h k (0, omega arith, refl)
  kind_same m n (r.InParens p t) h = kind_same m n t h
  kind_same m n (r.MapType is t) h =
      mapped_same m n is (kind_in m t) (left m n (mentioned_in is) (mentions t) h)
      ∙ ap (mapped_in n is) (kind_same m n t (right m n (mentioned_in is) (mentions t) h))

  mapped_same : (m n : ℕ → Kind) (is : r.Indices) (x : Kind) → Agree m n (mentioned_in is) → mapped_in m is x ≡ mapped_in n is x
  mapped_same m n r.NoIndex x h = refl
  mapped_same m n (r.Index p ts is) x h =
      ap (λ ks. map_kind ks (mapped_in m is x)) (keys_same m n ts (left m n (all_mentions ts) (mentioned_in is) h))
      ∙ ap (λ y. map_kind (keys_in n ts) y) (mapped_same m n is x (right m n (all_mentions ts) (mentioned_in is) h))

  keys_same : (m n : ℕ → Kind) (ts : r.Tys) → Agree m n (all_mentions ts) → keys_in m ts ≡ keys_in n ts
  keys_same m n r.NoType h = refl
  keys_same m n (r.OneType t ts) h =
      ap (λ x. one_key (key_in x) (keys_in m ts)) (kind_same m n t (left m n (mentions t) (all_mentions ts) h))
      ∙ ap (λ x. one_key (key_in (kind_in n t)) x) (keys_same m n ts (right m n (mentions t) (all_mentions ts) h))

synonym_same : (m n : ℕ → Kind) (other : Kind) (s : Option r.Ty) → Agree m n (synonym_mentions s) → synonym_by other (kind_in m) s ≡ synonym_by other (kind_in n) s
synonym_same m n other None h = refl
synonym_same m n other (Some t) h = kind_same m n t h

-- ---- a declared type after the other, along the edges
module _ (ds : List r.TypeName) (acyclic : IsAcyclic (synonym_graph ds)) (m n : ℕ → Kind) (a : IsUnfolded ds m) (b : IsUnfolded ds n) where
  edge_to : (k : ℕ) (d : r.TypeName) (x : ℕ) → slice_get ds k ≡ Some d → Contains (type_mentions d) x → IsEdge (synonym_graph ds) k x
  edge_to k d x e c =
      let at : targets (synonym_graph ds) k ≡ type_mentions d = get_or-map type_mentions ds k d [] (slice_get_within ds k d e) ∙ ap type_mentions (get_or_from_slice_get ds k d d e) in
      subst (λ (l : List ℕ). Contains l x) (sym at) c

  longer : (j k x : ℕ) → Reaches (synonym_graph ds) j k → IsEdge (synonym_graph ds) k x → Reaches (synonym_graph ds) j x
  longer j k x (edge _ _ d) e = through j k x d (edge k x e)
  longer j k x (through _ l _ d p) e = through j l x d (longer l k x p e)

  undeclared : (k : ℕ) → slice_get ds k ≡ None → m k ≡ n k
  undeclared k e = a k ∙ (ap (synonym_or (Some (v.UserTy k)) (kind_in m)) e ∙ sym (b k ∙ ap (synonym_or (Some (v.UserTy k)) (kind_in n)) e))

  by_edges : (k : ℕ) (o : Option r.TypeName) → slice_get ds k ≡ o → ((x : ℕ) → IsEdge (synonym_graph ds) k x → m x ≡ n x) → m k ≡ n k
  by_edges k None e h = undeclared k e
  by_edges k (Some d) e h =
      a k
      ∙ (ap (synonym_or (Some (v.UserTy k)) (kind_in m)) e
      ∙ (synonym_same m n (Some (v.UserTy k)) d.synonym (λ x c. h x (edge_to k d x e c))
      ∙ sym (b k ∙ ap (synonym_or (Some (v.UserTy k)) (kind_in n)) e)))

  -- each declared type is one of these, or reaches this one
  abbrev Left : List ℕ → ℕ → Type 0
  Left xs k = (j : ℕ) → j < length ds → In j xs ⊎ Reaches (synonym_graph ds) j k

  left_behind : (xs : List ℕ) (k : ℕ) (i : In k xs) (x : ℕ) → Left xs k → IsEdge (synonym_graph ds) k x → Left (without xs k i) x
  left_behind xs k i x left e j h =
      elim (left j h) [
        | inl y ↦ elim (others xs k i j y) [
          | inl same ↦ inr (edge j x (subst (λ (l : ℕ). IsEdge (synonym_graph ds) l x) (sym same) e))
          | inr z ↦ inl z
        ]
        | inr p ↦ inr (longer j k x p e)
      ]

  past : (k : ℕ) → length ds ≤ k → m k ≡ n k
  past k h = undeclared k (slice_get_past ds k h)

  within : (fuel : ℕ) (xs : List ℕ) → length xs ≤ fuel → (k : ℕ) → Left xs k → m k ≡ n k
  within zero xs l k left =
      dite (dec_lt k (length ds))
      (λ h. elim (left k h) [ inl i ↦ absurd (omega (arith, l, shorter xs k i)) | inr p ↦ absurd (acyclic k p) ])
      (λ no. past k (omega (arith, no)))
  within (suc fuel) xs l k left =
      dite (dec_lt k (length ds))
      (λ h. elim (left k h) [
        | inl i ↦ by_edges k (slice_get ds k) refl (λ x e. within fuel (without xs k i) (omega (arith, l, shorter xs k i)) x (left_behind xs k i x left e))
        | inr p ↦ absurd (acyclic k p)
      ])
      (λ no. past k (omega (arith, no)))

  pub one_unfolding : m ≡ n
  one_unfolding = fun_ext (λ k. within (length (below (length ds))) (below (length ds)) (omega arith) k (λ j h. inl (all_below (length ds) j h)))
