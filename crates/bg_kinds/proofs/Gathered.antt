-- Index types and brackets that are gathered from the left.
use Rattle.std.proofs.Common.{◌≡◌, ℕ, List, [], ◌∷◌, ◌++◌, map, Option, Some, None, refl, sym, ap, ◌∙◌, append_assoc, append-nil, Vec, Box, Global}
use Rattle.bg_base.specs.declared.pos.Pos.{Pos}
use Rattle.bg_ast.specs.declared.resolved.WrittenType.{WrittenType}
use Rattle.bg_ast.specs.declared.resolved.WrittenType.TheVariants as type
use Rattle.bg_ast.specs.declared.resolved.IndexTypes.{IndexTypes}
use Rattle.bg_ast.specs.Values as v
use Rattle.bg_ast.specs.Resolved as r
use Rattle.bg_ast.specs.Views.{type_of, tys_of, indexed_of, index_view}
use Rattle.bg_ast.proofs.Lists.{type_of-Map}
use Rattle.bg_kinds.specs.declared.kinds.Base.{Base}
use Rattle.bg_kinds.specs.declared.kinds.Keys.{Keys}
use Rattle.bg_kinds.specs.Faults.{Fault, first_of}
use Rattle.bg_kinds.specs.Kinds.{Kind, one_key, map_kind, kind_in, keys_in, mapped_in, type_faults, indices_faults, types_faults, index_fault, start_in, start_of}
use Rattle.bg_kinds.specs.Synonyms.{mentions, mentioned_in}
use Rattle.bg_kinds.specs.Rows.{maps_before, maps_of, rows_in, both_keys, in_front}
use Rattle.bg_kinds.specs.Views.{keys_of, base_of, tower}
use Rattle.bg_kinds.proofs.Loops.{both}

pub front_nil : {A : Type 0} (o : Option (List A)) → in_front (Some []) o ≡ o
front_nil None = refl
front_nil (Some ks) = refl

pub front_end : {A : Type 0} (o : Option (List A)) → in_front o (Some []) ≡ o
front_end None = refl
front_end (Some ks) = ap Some (append-nil ks)

pub front_step : {A : Type 0} (o : Option (List A)) (k : Option A) (rest : Option (List A)) → in_front o (one_key k rest) ≡ in_front (both_keys o k) rest
front_step None k rest = refl
front_step (Some ks) None rest = refl
front_step (Some ks) (Some k) None = refl
front_step (Some ks) (Some k) (Some rest) = ap Some (sym (append_assoc ks (k ∷ []) rest))

no_map : (ks : Option (List v.KeyType)) → map_kind ks None ≡ None
no_map None = refl
no_map (Some ks) = refl

map_maps : (ks : Option (List v.KeyType)) (rows : Option (List (List v.KeyType))) (t : Kind) → map_kind ks (maps_of rows t) ≡ maps_of (one_key ks rows) t
map_maps None None t = refl
map_maps (Some ks) None t = refl
map_maps None (Some rows) t = refl
map_maps (Some ks) (Some rows) t = refl

pub mapped : (named : ℕ → Kind) (is : r.Indices) (t : Kind) → mapped_in named is t ≡ maps_of (rows_in (keys_in named) is) t
mapped named r.NoIndex t = refl
mapped named (r.Index p ts is) t = ap (map_kind (keys_in named ts)) (mapped named is t) ∙ map_maps (keys_in named ts) (rows_in (keys_in named) is) t

pub no_type : (rows : List (List v.KeyType)) → maps_before rows None ≡ None
no_type [] = refl
no_type (ks ∷ kss) = ap (map_kind (Some ks)) (no_type kss)

pub none_of : (rows : Option (List (List v.KeyType))) → maps_of rows None ≡ None
none_of None = refl
none_of (Some rows) = no_type rows

pub maps_tower : (ks ls : List Keys) (b : Base) → Some (tower (ks ++ ls) (base_of b)) ≡ maps_before (map keys_of ks) (Some (tower ls (base_of b)))
maps_tower [] ls b = refl
maps_tower (k ∷ ks) ls b = ap (map_kind (Some (keys_of k))) (maps_tower ks ls b)

-- the forms of a type, at the lists that code meets
pub map_best : (named : ℕ → Kind) (t : WrittenType) (bs : Vec IndexTypes Global) (e : Box WrittenType Global) (xs : List IndexTypes) (x : WrittenType) (b0 b1 b2 : Option Fault) → t ≡ type.Map bs e → xs ≡ bs.items → x ≡ e.value → b1 ≡ first_of b0 (indices_faults named (indexed_of (map index_view xs))) → b2 ≡ first_of b1 (type_faults named (type_of x)) → b2 ≡ first_of b0 (type_faults named (type_of t))
map_best named t bs e xs x b0 b1 b2 h i j k l =
    let faults : List IndexTypes → WrittenType → List Fault = λ xs x. indices_faults named (indexed_of (map index_view xs)) ++ type_faults named (type_of x) in
    both b0 b1 b2 (indices_faults named (indexed_of (map index_view xs))) (type_faults named (type_of x)) k l
    ∙ (ap (λ xs. first_of b0 (faults xs x)) i
    ∙ (ap (λ x. first_of b0 (faults bs.items x)) j
    ∙ ap (λ t. first_of b0 (type_faults named t)) (sym (ap type_of h ∙ type_of-Map bs e))))

pub map_kind_of : (named : ℕ → Kind) (t : WrittenType) (bs : Vec IndexTypes Global) (e : Box WrittenType Global) (xs : List IndexTypes) (x : WrittenType) (rows : Option (List (List v.KeyType))) (kind : Kind) → t ≡ type.Map bs e → xs ≡ bs.items → x ≡ e.value → rows ≡ rows_in (keys_in named) (indexed_of (map index_view xs)) → kind ≡ kind_in named (type_of x) → maps_of rows kind ≡ kind_in named (type_of t)
map_kind_of named t bs e xs x rows kind h i j k l =
    ap (λ rows. maps_of rows kind) (k ∙ ap (λ xs. rows_in (keys_in named) (indexed_of (map index_view xs))) i)
    ∙ (ap (maps_of (rows_in (keys_in named) (indexed_of (map index_view bs.items)))) (l ∙ ap (λ x. kind_in named (type_of x)) j)
    ∙ (sym (mapped named (indexed_of (map index_view bs.items)) (kind_in named (type_of e.value)))
    ∙ ap (kind_in named) (sym (ap type_of h ∙ type_of-Map bs e))))

pub types_step : (named : ℕ → Kind) (x : WrittenType) (rest : List WrittenType) → types_faults named (tys_of (map type_of (x ∷ rest))) ≡ (type_faults named (type_of x) ++ index_fault (start_of (type_of x)) (kind_in named (type_of x))) ++ types_faults named (tys_of (map type_of rest))
types_step named x rest = sym (append_assoc (type_faults named (type_of x)) (index_fault (start_of (type_of x)) (kind_in named (type_of x))) (types_faults named (tys_of (map type_of rest))))

-- a tower is told by what its keys are read as
rows_tower : List (List v.KeyType) → v.Ty → v.Ty
rows_tower [] t = t
rows_tower (ks ∷ kss) t = v.MapTy ks (rows_tower kss t)

tower_rows : (ks : List Keys) (t : v.Ty) → tower ks t ≡ rows_tower (map keys_of ks) t
unfolding rows_tower
tower_rows [] t = refl
tower_rows (k ∷ ks) t = ap (v.MapTy (keys_of k)) (tower_rows ks t)

pub tower_same : (ks ls : List Keys) (t : v.Ty) → map keys_of ks ≡ map keys_of ls → tower ks t ≡ tower ls t
tower_same ks ls t h = tower_rows ks t ∙ (ap (λ l. rows_tower l t) h ∙ sym (tower_rows ls t))

pub start_map : (t : WrittenType) (bs : Vec IndexTypes Global) (e : Box WrittenType Global) (xs : List IndexTypes) (x : WrittenType) (p q : Pos) → t ≡ type.Map bs e → xs ≡ bs.items → x ≡ e.value → p ≡ start_of (type_of x) → q ≡ start_in (indexed_of (map index_view xs)) p → q ≡ start_of (type_of t)
start_map t bs e xs x p q h i j k l =
    l
    ∙ (ap (start_in (indexed_of (map index_view xs))) (k ∙ ap (λ x. start_of (type_of x)) j)
    ∙ (ap (λ xs. start_in (indexed_of (map index_view xs)) (start_of (type_of e.value))) i
    ∙ ap start_of (sym (ap type_of h ∙ type_of-Map bs e))))

-- the step of a loop that gathers
pub gather_step : {A B : Type 0} (F : List A → Option (List B)) (o o' : Option (List B)) (k : Option B) (xs rest : List A) (x : A) → xs ≡ x ∷ rest → F (x ∷ rest) ≡ one_key k (F rest) → o' ≡ both_keys o k → in_front o' (F rest) ≡ in_front o (F xs)
gather_step F o o' k xs rest x h f e =
    ap (λ o. in_front o (F rest)) e
    ∙ (sym (front_step o k (F rest)) ∙ (ap (in_front o) (sym f) ∙ ap (λ l. in_front o (F l)) (sym h)))

pub mentions_map : (t : WrittenType) (bs : Vec IndexTypes Global) (e : Box WrittenType Global) (xs : List IndexTypes) (x : WrittenType) (o0 o1 o2 : List ℕ) → t ≡ type.Map bs e → xs ≡ bs.items → x ≡ e.value → o1 ≡ o0 ++ mentioned_in (indexed_of (map index_view xs)) → o2 ≡ o1 ++ mentions (type_of x) → o2 ≡ o0 ++ mentions (type_of t)
mentions_map t bs e xs x o0 o1 o2 h i j k l =
    let all : List IndexTypes → WrittenType → List ℕ = λ xs x. mentioned_in (indexed_of (map index_view xs)) ++ mentions (type_of x) in
    l
    ∙ (ap (λ o. o ++ mentions (type_of x)) k
    ∙ (append_assoc o0 (mentioned_in (indexed_of (map index_view xs))) (mentions (type_of x))
    ∙ (ap (λ xs. o0 ++ all xs x) i
    ∙ (ap (λ x. o0 ++ all bs.items x) j
    ∙ ap (λ t. o0 ++ mentions t) (sym (ap type_of h ∙ type_of-Map bs e))))))
