-- Brackets that are gathered from the left.
use Rattle.std.proofs.Common.{◌≡◌, ℕ, ◌+◌, suc, ◌-◌, ◌<◌, ◌≤◌, List, [], ◌∷◌, ◌++◌, map, refl, sym, ap, ◌∙◌, Vec, Box, Global, arith}
use Rattle.bg_ast.specs.Values as v
use Rattle.bg_ast.specs.Resolved as r
use Rattle.bg_ast.specs.Meaning.{type_in, map_type, keys_in, named_within}
use Rattle.bg_ast.specs.Views.{type_of, tys_of, indexed_of, index_view}
use Rattle.bg_ast.specs.declared.resolved.IndexTypes.{IndexTypes}
use Rattle.bg_ast.specs.declared.resolved.WrittenType.{WrittenType}
use Rattle.bg_ast.specs.declared.resolved.WrittenType.TheVariants as type
use Rattle.bg_ast.proofs.Lists.{type_of-Map}
use Rattle.bg_kinds.specs.declared.kinds.Keys.{Keys}
use Rattle.bg_kinds.specs.Views.{keys_of, tower}
use Rattle.bg_kinds.proofs.Gathered.{tower_same}
use Rattle.bg_fits.specs.Bases.{end_in}
use Rattle.bg_fits.specs.declared.written.End.{End}

pub tower_append : (ks ls : List Keys) (t : v.Ty) → tower (ks ++ ls) t ≡ tower ks (tower ls t)
tower_append [] ls t = refl
tower_append (k ∷ ks) ls t = ap (v.MapTy (keys_of k)) (tower_append ks ls t)

-- one bracket more
pub one_bracket : (named : ℕ → v.Ty) (xs rest : List IndexTypes) (x : IndexTypes) (old new : List Keys) (k : Keys) (ts : List WrittenType) (t : v.Ty) → xs ≡ x ∷ rest → new ≡ old ++ k ∷ [] → keys_of k ≡ keys_in named (tys_of (map type_of ts)) → ts ≡ x.indices.items → tower new (map_type named (indexed_of (map index_view rest)) t) ≡ tower old (map_type named (indexed_of (map index_view xs)) t)
one_bracket named xs rest x old new k ts t h e is at =
    let inner = map_type named (indexed_of (map index_view rest)) t in
    ap (λ l. tower l inner) e
    ∙ (tower_append old (k ∷ []) inner
    ∙ (ap (λ l. tower old (v.MapTy l inner)) (is ∙ ap (λ l. keys_in named (tys_of (map type_of l))) at)
    ∙ ap (λ l. tower old (map_type named (indexed_of (map index_view l)) t)) (sym h)))

-- brackets, and what stands behind them
pub whole_map : (named : ℕ → v.Ty) (ty : WrittenType) (bs : Vec IndexTypes Global) (e : Box WrittenType Global) (xs : List IndexTypes) (x : WrittenType) (old middle new : List Keys) (last : End) → ty ≡ type.Map bs e → xs ≡ bs.items → x ≡ e.value → ((t : v.Ty) → tower middle t ≡ tower old (map_type named (indexed_of (map index_view xs)) t)) → tower new (end_in named last) ≡ tower middle (type_in named (type_of x)) → tower new (end_in named last) ≡ tower old (type_in named (type_of ty))
whole_map named ty bs e xs x old middle new last h i j k l =
    l
    ∙ (k (type_in named (type_of x))
    ∙ (ap (λ y. tower old (map_type named (indexed_of (map index_view y)) (type_in named (type_of x)))) i
    ∙ (ap (λ y. tower old (map_type named (indexed_of (map index_view bs.items)) (type_in named (type_of y)))) j
    ∙ ap (λ t. tower old (type_in named t)) (sym (ap type_of h ∙ type_of-Map bs e)))))

-- a chain of synonyms, one further
pub next_end : (n i k : ℕ) (ds : List r.TypeName) (old new : List Keys) (last : End) (whole : v.Ty) → i < n + 1 → tower new (end_in (named_within (n - i) ds) last) ≡ tower old (named_within (suc (n - i)) ds k) → tower old (named_within ((n + 1) - i) ds k) ≡ whole → tower new (end_in (named_within ((n + 1) - (i + 1)) ds) last) ≡ whole
next_end n i k ds old new last whole l h inv =
    let a : (n + 1) - (i + 1) ≡ n - i = omega arith in
    let b : suc (n - i) ≡ (n + 1) - i = omega (arith, l) in
    ap (λ j. tower new (end_in (named_within j ds) last)) a ∙ (h ∙ (ap (λ j. tower old (named_within j ds k)) b ∙ inv))

-- a chain that is longer than there are types ends in a type that stands for itself
pub no_end : (n i : ℕ) (ds : List r.TypeName) (maps : List Keys) (last : End) (t whole : v.Ty) → n + 1 ≤ i → t ≡ end_in (named_within 0 ds) last → tower maps (end_in (named_within ((n + 1) - i) ds) last) ≡ whole → tower maps t ≡ whole
no_end n i ds maps last t whole l is inv =
    let e : 0 ≡ (n + 1) - i = omega (arith, l) in
    ap (tower maps) is ∙ (ap (λ j. tower maps (end_in (named_within j ds) last)) e ∙ inv)

-- a bracket in front of others
pub one_in_front : (made first : List Keys) (k : Keys) (inner : List Keys) (keys : Keys) (maps : List Keys) (t : v.Ty) → made ≡ first ++ inner → first ≡ [] ++ k ∷ [] → keys_of k ≡ keys_of keys → map keys_of inner ≡ map keys_of maps → tower made t ≡ v.MapTy (keys_of keys) (tower maps t)
one_in_front made first k inner keys maps t e f is same =
    ap (λ l. tower l t) (e ∙ ap (λ l. l ++ inner) f)
    ∙ (ap (λ ks. v.MapTy ks (tower inner t)) is ∙ ap (v.MapTy (keys_of keys)) (tower_same inner maps t same))
