-- What a written type without faults stands for, and what a synonym stands for where none reaches itself.
use Rattle.std.proofs.Common.{◌≡◌, ℕ, zero, suc, ◌<◌, ◌≤◌, true, List, [], ◌∷◌, ◌++◌, length, map, Option, Some, None, slice_get, slice_index_or, Contains, refl, ap, ◌∙◌, subst, arith}
use Rattle.std.proofs.lemmas.List.{length-map}
use Rattle.std.proofs.lemmas.List.Elements.{Contains-append_left, Contains-append_right}
use Rattle.bg_base.specs.declared.pos.Pos.{Pos}
use Rattle.bg_graph.specs.Graphs.{targets, IsEdge, IsAcyclic}
use Rattle.bg_ast.specs.Values as v
use Rattle.bg_ast.specs.Resolved as r
use Rattle.bg_ast.specs.Meaning as m
use Rattle.bg_kinds.specs.Faults.{is_none}
use Rattle.bg_kinds.specs.Kinds.{Kind, key_in, one_key, map_kind, kind_in, mapped_in, keys_in, start_of, index_fault, type_faults, indices_faults, types_faults, synonym_by, synonym_or}
use Rattle.bg_kinds.specs.Synonyms.{mentions, mentioned_in, all_mentions, synonym_mentions, type_mentions, synonym_graph, IsUnfolded}
use Rattle.bg_types.specs.Programs.{synonym_faults, synonyms_faults}
use Rattle.bg_typed.proofs.Bits.{never, nothing, split_none, some_same}
use Rattle.bg_typed.proofs.Depth.{ranks}

-- these declared types stand for what the second says
abbrev pub Mean : (ℕ → Kind) → (ℕ → v.Ty) → List ℕ → Type 0
Mean named n ks = (j : ℕ) → Contains ks j → named j ≡ Some (n j)

key_means : (p : Pos) (k : Kind) (t : v.Ty) → k ≡ Some t → is_none (index_fault p k) ≡ true → key_in k ≡ Some (m.key_of t)
key_means p None t e h = nothing t e
key_means p (Some v.IntTy) t e h = ap (λ (x : v.Ty). Some (m.key_of x)) (some_same v.IntTy t e)
key_means p (Some v.BoolTy) t e h = never h
key_means p (Some (v.UserTy i)) t e h = ap (λ (x : v.Ty). Some (m.key_of x)) (some_same (v.UserTy i) t e)
key_means p (Some (v.MapTy ks u)) t e h = never h

mutual
  pub kind_means : (named : ℕ → Kind) (n : ℕ → v.Ty) (t : r.Ty) → Mean named n (mentions t) → is_none (type_faults named t) ≡ true → kind_in named t ≡ Some (m.type_in n t)
  kind_means named n (r.IntType p) f h = refl
  kind_means named n (r.BoolType p) f h = refl
  kind_means named n (r.DeclaredType p k) f h = f k (zero, omega arith, refl)
  kind_means named n (r.InParens p t) f h = kind_means named n t f h
  kind_means named n (r.MapType is t) f h =
      let parts = split_none (indices_faults named is) (type_faults named t) h in
      let inner = kind_means named n t (λ j c. f j (Contains-append_right (mentioned_in is) (mentions t) j c)) parts.1 in
      row_means named n is (kind_in named t) (m.type_in n t) (λ j c. f j (Contains-append_left (mentioned_in is) (mentions t) j c)) parts.0 inner

  row_means : (named : ℕ → Kind) (n : ℕ → v.Ty) (is : r.Indices) (k : Kind) (t : v.Ty) → Mean named n (mentioned_in is) → is_none (indices_faults named is) ≡ true → k ≡ Some t → mapped_in named is k ≡ Some (m.map_type n is t)
  row_means named n r.NoIndex k t f h e = e
  row_means named n (r.Index p ts is) k t f h e =
      let parts = split_none (types_faults named ts) (indices_faults named is) h in
      let keys = keys_mean named n ts (λ j c. f j (Contains-append_left (all_mentions ts) (mentioned_in is) j c)) parts.0 in
      let rest = row_means named n is k t (λ j c. f j (Contains-append_right (all_mentions ts) (mentioned_in is) j c)) parts.1 e in
      ap (λ (x : Option (List v.KeyType)). map_kind x (mapped_in named is k)) keys ∙ ap (map_kind (Some (m.keys_in n ts))) rest

  keys_mean : (named : ℕ → Kind) (n : ℕ → v.Ty) (ts : r.Tys) → Mean named n (all_mentions ts) → is_none (types_faults named ts) ≡ true → keys_in named ts ≡ Some (m.keys_in n ts)
  keys_mean named n r.NoType f h = refl
  keys_mean named n (r.OneType t ts) f h =
      let own = index_fault (start_of t) (kind_in named t) in
      let parts = split_none (type_faults named t) (own ++ types_faults named ts) h in
      let inner = split_none own (types_faults named ts) parts.1 in
      let kind = kind_means named n t (λ j c. f j (Contains-append_left (mentions t) (all_mentions ts) j c)) parts.0 in
      let key = key_means (start_of t) (kind_in named t) (m.type_in n t) kind inner.0 in
      let rest = keys_mean named n ts (λ j c. f j (Contains-append_right (mentions t) (all_mentions ts) j c)) inner.1 in
      ap (λ (x : Option v.KeyType). one_key x (keys_in named ts)) key ∙ ap (one_key (Some (m.key_of (m.type_in n t)))) rest

-- the edges from a declared type
targets_there : (ds : List r.TypeName) (k : ℕ) (d : r.TypeName) → slice_get ds k ≡ Some d → slice_index_or (map type_mentions ds) k [] ≡ type_mentions d
targets_there [] k d e = let bad : None ≡ Some d = e in absurd (cc)
targets_there (c ∷ ds) zero d e = let same : c ≡ d = cc in ap type_mentions same
targets_there (c ∷ ds) (suc k) d e = targets_there ds k d e

faults_there : (named : ℕ → Kind) (ds : List r.TypeName) (k : ℕ) (d : r.TypeName) → slice_get ds k ≡ Some d → is_none (synonyms_faults named ds) ≡ true → is_none (synonym_faults named d.synonym) ≡ true
faults_there named [] k d e h = let bad : None ≡ Some d = e in absurd (cc)
faults_there named (c ∷ ds) zero d e h =
    let same : c ≡ d = cc in
    subst (λ (x : r.TypeName). is_none (synonym_faults named x.synonym) ≡ true) same (split_none (synonym_faults named c.synonym) (synonyms_faults named ds) h).0
faults_there named (c ∷ ds) (suc k) d e h = faults_there named ds k d e (split_none (synonym_faults named c.synonym) (synonyms_faults named ds) h).1

side_means : (named : ℕ → Kind) (n : ℕ → v.Ty) (k : ℕ) (s : Option r.Ty) → Mean named n (synonym_mentions s) → is_none (synonym_faults named s) ≡ true → synonym_by (Some (v.UserTy k)) (kind_in named) s ≡ Some (m.synonym_by (v.UserTy k) (m.type_in n) s)
side_means named n k None f h = refl
side_means named n k (Some t) f h = kind_means named n t f h

module _ (ds : List r.TypeName) (named : ℕ → Kind) (none : is_none (synonyms_faults named ds) ≡ true) where
  -- one unfolding
  synonym_means : (n : ℕ → v.Ty) (k : ℕ) (o : Option r.TypeName) → slice_get ds k ≡ o → Mean named n (targets (synonym_graph ds) k) → synonym_or (Some (v.UserTy k)) (kind_in named) o ≡ Some (m.synonym_or (v.UserTy k) (m.type_in n) o)
  synonym_means n k None e f = refl
  synonym_means n k (Some d) e f = side_means named n k d.synonym (subst (Mean named n) (targets_there ds k d e) f) (faults_there named ds k d e none)

  module _ (unfolded : IsUnfolded ds named) (rank : ℕ → ℕ) (falls : (f t : ℕ) → IsEdge (synonym_graph ds) f t → rank t < rank f) where
    -- what has a small rank is unfolded
    named_within_means : (d k : ℕ) → rank k < d → named k ≡ Some (m.named_within d ds k)
    named_within_means zero k h = absurd (omega arith)
    named_within_means (suc d) k h =
        unfolded k ∙ synonym_means (m.named_within d ds) k (slice_get ds k) refl (λ j c. named_within_means d j (let l = falls k j c in omega arith))

pub named_if : (ds : List r.TypeName) (named : ℕ → Kind) → IsAcyclic (synonym_graph ds) → IsUnfolded ds named → is_none (synonyms_faults named ds) ≡ true → (k : ℕ) → named k ≡ Some (m.named_of ds k)
named_if ds named a u h k =
    let given = ranks (synonym_graph ds) a in
    let long : length (synonym_graph ds) ≡ length ds = length-map ds type_mentions in
    let small : given.0 k ≤ length (synonym_graph ds) = given.2 k in
    named_within_means ds named h u given.0 given.1 (suc (length ds)) k (omega arith)

-- a declared type stands for the type that it means
pub named_is : (ds : List r.TypeName) (named : ℕ → Kind) → IsAcyclic (synonym_graph ds) → IsUnfolded ds named → synonyms_faults named ds ≡ [] → (k : ℕ) → named k ≡ Some (m.named_of ds k)
named_is ds named a u h = named_if ds named a u (ap is_none h)

-- a written type without faults stands for the type that it means
pub kind_is : (ds : List r.TypeName) (named : ℕ → Kind) → IsAcyclic (synonym_graph ds) → IsUnfolded ds named → synonyms_faults named ds ≡ [] → (t : r.Ty) → type_faults named t ≡ [] → kind_in named t ≡ Some (m.type_in (m.named_of ds) t)
kind_is ds named a u h t n = kind_means named (m.named_of ds) t (λ j c. named_is ds named a u h j) (ap is_none n)
