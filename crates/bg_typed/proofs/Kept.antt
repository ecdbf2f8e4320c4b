-- Written types that keep the rules have no fault, and synonyms that don't reach themselves are unfolded.
use Rattle.std.proofs.Common.{◌≡◌, ℕ, zero, suc, ◌<◌, ◌≤◌, List, [], ◌∷◌, ◌++◌, length, map, Option, Some, None, slice_get, slice_index_or, Contains, refl, sym, ap, ◌∙◌, subst, arith}
use Rattle.std.specs.Prelude.{All}
use Rattle.std.proofs.lemmas.List.{length-map}
use Rattle.std.proofs.lemmas.List.Elements.{Contains-append_left, Contains-append_right}
use Rattle.bg_base.specs.declared.pos.Pos.{Pos}
use Rattle.bg_graph.specs.Graphs.{targets, IsEdge, IsAcyclic}
use Rattle.bg_ast.specs.Values as v
use Rattle.bg_ast.specs.Resolved as r
use Rattle.bg_ast.specs.Meaning as m
use Rattle.bg_kinds.specs.Kinds.{Kind, key_in, one_key, map_kind, kind_in, mapped_in, keys_in, start_of, index_fault, type_faults, indices_faults, types_faults, synonym_by, synonym_or}
use Rattle.bg_kinds.specs.Synonyms.{mentions, mentioned_in, all_mentions, synonym_mentions, type_mentions, synonym_graph, IsUnfolded}
use Rattle.bg_typed.specs.Rules.{IsIndex, HasIndices, HaveIndices, AreIndices, SynonymWell}
use Rattle.bg_typed.proofs.Depth.{ranks}
use Rattle.bg_typed.proofs.Exact.{both_none}
use Rattle.bg_typed.proofs.Declarations.{all_at}

-- ---- written types

module _ (n : ℕ → v.Ty) where
  abbrev named : ℕ → Kind
  named k = Some (n k)

  key_kept : (t : v.Ty) → IsIndex t → key_in (Some t) ≡ Some (m.key_of t)
  key_kept v.IntTy h = refl
  key_kept (v.UserTy k) h = refl
  key_kept v.BoolTy h = absurd h
  key_kept (v.MapTy ks t) h = absurd h

  index_none : (p : Pos) (t : v.Ty) → IsIndex t → index_fault p (Some t) ≡ []
  index_none p v.IntTy h = refl
  index_none p (v.UserTy k) h = refl
  index_none p v.BoolTy h = absurd h
  index_none p (v.MapTy ks t) h = absurd h

  mutual
    kind_kept : (t : r.Ty) → HasIndices n t → kind_in named t ≡ Some (m.type_in n t)
    kind_kept (r.IntType p) h = refl
    kind_kept (r.BoolType p) h = refl
    kind_kept (r.DeclaredType p k) h = refl
    kind_kept (r.InParens p t) h = kind_kept t h
    kind_kept (r.MapType is t) h = row_kept is (kind_in named t) (m.type_in n t) (kind_kept t h.1) h.0

    row_kept : (is : r.Indices) (k : Kind) (t : v.Ty) → k ≡ Some t → HaveIndices n is → mapped_in named is k ≡ Some (m.map_type n is t)
    row_kept r.NoIndex k t e h = e
    row_kept (r.Index p ts is) k t e h =
        ap (λ (x : Option (List v.KeyType)). map_kind x (mapped_in named is k)) (keys_kept ts h.0)
        ∙ ap (map_kind (Some (m.keys_in n ts))) (row_kept is k t e h.1)

    keys_kept : (ts : r.Tys) → AreIndices n ts → keys_in named ts ≡ Some (m.keys_in n ts)
    keys_kept r.NoType h = refl
    keys_kept (r.OneType t ts) h =
        let key : key_in (kind_in named t) ≡ Some (m.key_of (m.type_in n t)) = ap key_in (kind_kept t h.0) ∙ key_kept (m.type_in n t) h.1 in
        ap (λ (x : Option v.KeyType). one_key x (keys_in named ts)) key
        ∙ ap (one_key (Some (m.key_of (m.type_in n t)))) (keys_kept ts h.2)

  mutual
    type_none : (t : r.Ty) → HasIndices n t → type_faults named t ≡ []
    type_none (r.IntType p) h = refl
    type_none (r.BoolType p) h = refl
    type_none (r.DeclaredType p k) h = refl
    type_none (r.InParens p t) h = type_none t h
    type_none (r.MapType is t) h = both_none (indices_faults named is) (type_faults named t) (indices_none is h.0) (type_none t h.1)

    indices_none : (is : r.Indices) → HaveIndices n is → indices_faults named is ≡ []
    indices_none r.NoIndex h = refl
    indices_none (r.Index p ts is) h = both_none (types_faults named ts) (indices_faults named is) (types_none ts h.0) (indices_none is h.1)

    types_none : (ts : r.Tys) → AreIndices n ts → types_faults named ts ≡ []
    types_none r.NoType h = refl
    types_none (r.OneType t ts) h =
        both_none
        (type_faults named t)
        (index_fault (start_of t) (kind_in named t) ++ types_faults named ts)
        (type_none t h.0)
        (both_none (index_fault (start_of t) (kind_in named t)) (types_faults named ts) (ap (index_fault (start_of t)) (kind_kept t h.0) ∙ index_none (start_of t) (m.type_in n t) h.1) (types_none ts h.2))

pub kept_kind : (n : ℕ → v.Ty) (t : r.Ty) → HasIndices n t → kind_in (λ k. Some (n k)) t ≡ Some (m.type_in n t)
kept_kind n t h = kind_kept n t h

pub kept_none : (n : ℕ → v.Ty) (t : r.Ty) → HasIndices n t → type_faults (λ k. Some (n k)) t ≡ []
kept_none n t h = type_none n t h

-- ---- unfoldings

abbrev Alike : (ℕ → v.Ty) → (ℕ → v.Ty) → List ℕ → Type 0
Alike n o ks = (j : ℕ) → Contains ks j → n j ≡ o j

mutual
  same_type : (n o : ℕ → v.Ty) (t : r.Ty) → Alike n o (mentions t) → m.type_in n t ≡ m.type_in o t
  same_type n o (r.IntType p) f = refl
  same_type n o (r.BoolType p) f = refl
  same_type n o (r.DeclaredType p k) f = f k (zero, omega arith, refl)
  same_type n o (r.InParens p t) f = same_type n o t f
  same_type n o (r.MapType is t) f =
      ap (m.map_type n is) (same_type n o t (λ j c. f j (Contains-append_right (mentioned_in is) (mentions t) j c)))
      ∙ same_row n o is (m.type_in o t) (λ j c. f j (Contains-append_left (mentioned_in is) (mentions t) j c))

  same_row : (n o : ℕ → v.Ty) (is : r.Indices) (t : v.Ty) → Alike n o (mentioned_in is) → m.map_type n is t ≡ m.map_type o is t
  same_row n o r.NoIndex t f = refl
  same_row n o (r.Index p ts is) t f =
      ap (λ (ks : List v.KeyType). v.MapTy ks (m.map_type n is t)) (same_keys n o ts (λ j c. f j (Contains-append_left (all_mentions ts) (mentioned_in is) j c)))
      ∙ ap (v.MapTy (m.keys_in o ts)) (same_row n o is t (λ j c. f j (Contains-append_right (all_mentions ts) (mentioned_in is) j c)))

  same_keys : (n o : ℕ → v.Ty) (ts : r.Tys) → Alike n o (all_mentions ts) → m.keys_in n ts ≡ m.keys_in o ts
  same_keys n o r.NoType f = refl
  same_keys n o (r.OneType t ts) f =
      ap (λ (x : v.Ty). m.key_of x ∷ m.keys_in n ts) (same_type n o t (λ j c. f j (Contains-append_left (mentions t) (all_mentions ts) j c)))
      ∙ ap (λ (ks : List v.KeyType). m.key_of (m.type_in o t) ∷ ks) (same_keys n o ts (λ j c. f j (Contains-append_right (mentions t) (all_mentions ts) j c)))

targets_there : (ds : List r.TypeName) (k : ℕ) (d : r.TypeName) → slice_get ds k ≡ Some d → slice_index_or (map type_mentions ds) k [] ≡ type_mentions d
targets_there [] k d e = let bad : None ≡ Some d = e in absurd (cc)
targets_there (c ∷ ds) zero d e = let same : c ≡ d = cc in ap type_mentions same
targets_there (c ∷ ds) (suc k) d e = targets_there ds k d e

side_same : (n o : ℕ → v.Ty) (k : ℕ) (x : Option r.Ty) → Alike n o (synonym_mentions x) → m.synonym_by (v.UserTy k) (m.type_in n) x ≡ m.synonym_by (v.UserTy k) (m.type_in o) x
side_same n o k None f = refl
side_same n o k (Some t) f = same_type n o t f

synonym_same : (ds : List r.TypeName) (n o : ℕ → v.Ty) (k : ℕ) (x : Option r.TypeName) → slice_get ds k ≡ x → Alike n o (targets (synonym_graph ds) k) → m.synonym_or (v.UserTy k) (m.type_in n) x ≡ m.synonym_or (v.UserTy k) (m.type_in o) x
synonym_same ds n o k None e f = refl
synonym_same ds n o k (Some d) e f = side_same n o k d.synonym (subst (Alike n o) (targets_there ds k d e) f)

module _ (ds : List r.TypeName) (rank : ℕ → ℕ) (falls : (f t : ℕ) → IsEdge (synonym_graph ds) f t → rank t < rank f) where
  -- more unfoldings than the rank change nothing
  stable : (d k : ℕ) → rank k < d → m.named_within d ds k ≡ m.named_within (suc d) ds k
  stable zero k h = absurd (let bad : ⊥ = omega (arith, h) in bad)
  stable (suc d) k h =
      synonym_same ds (m.named_within d ds) (m.named_within (suc d) ds) k (slice_get ds k) refl (λ j c. stable d j (let l = falls k j c in omega (arith, l, h)))

  side_stands : (k : ℕ) (x : Option r.Ty) → SynonymWell (m.named_of ds) x → Alike (m.named_within (length ds) ds) (m.named_of ds) (synonym_mentions x) → Some (m.synonym_by (v.UserTy k) (m.type_in (m.named_within (length ds) ds)) x) ≡ synonym_by (Some (v.UserTy k)) (kind_in (λ j. Some (m.named_of ds j))) x
  side_stands k None h f = refl
  side_stands k (Some t) h f =
      ap (λ (y : v.Ty). Some y) (same_type (m.named_within (length ds) ds) (m.named_of ds) t f) ∙ sym (kept_kind (m.named_of ds) t h)

  synonym_stands : (k : ℕ) (x : Option r.TypeName) → slice_get ds k ≡ x → ((d : r.TypeName) → x ≡ Some d → SynonymWell (m.named_of ds) d.synonym) → Alike (m.named_within (length ds) ds) (m.named_of ds) (targets (synonym_graph ds) k) → Some (m.synonym_or (v.UserTy k) (m.type_in (m.named_within (length ds) ds)) x) ≡ synonym_or (Some (v.UserTy k)) (kind_in (λ j. Some (m.named_of ds j))) x
  synonym_stands k None e w f = refl
  synonym_stands k (Some d) e w f =
      side_stands k d.synonym (w d refl) (subst (Alike (m.named_within (length ds) ds) (m.named_of ds)) (targets_there ds k d e) f)

pub kept_unfolded : (ds : List r.TypeName) → IsAcyclic (synonym_graph ds) → All (λ d. SynonymWell (m.named_of ds) d.synonym) ds → IsUnfolded ds (λ k. Some (m.named_of ds k))
kept_unfolded ds a w k =
    let given = ranks (synonym_graph ds) a in
    let long : length (synonym_graph ds) ≡ length ds = length-map ds type_mentions in
    let small : given.0 k ≤ length (synonym_graph ds) = given.2 k in
    synonym_stands ds given.0 given.1 k (slice_get ds k) refl
    (λ d e. all_at (λ (z : r.TypeName). SynonymWell (m.named_of ds) z.synonym) ds k d w e)
    (λ j c. stable ds given.0 given.1 (length ds) j (let l = given.1 k j c in omega (arith, l, small, long)))
