-- What written types and synonyms stand for, where that is no map.
use Rattle.std.proofs.Common.{◌≡◌, ℕ, suc, ◌+◌, ◌-◌, ◌<◌, ◌≤◌, ap, ◌∙◌, map, List, [], ◌∷◌, Option, Some, None, refl, Vec, Box, Global, arith, slice_get}
use Rattle.std.specs.Prelude.{if◌then◌else◌}
use Rattle.bg_ast.specs.Values as v
use Rattle.bg_ast.specs.Resolved as r
use Rattle.bg_ast.specs.Meaning as m
use Rattle.bg_ast.specs.Meaning.{type_in, map_type, synonym_or, named_within}
use Rattle.bg_ast.specs.Views.{type_of, indexed_of, index_view}
use Rattle.bg_ast.specs.declared.resolved.IndexTypes.{IndexTypes}
use Rattle.bg_ast.specs.declared.resolved.WrittenType.{WrittenType}
use Rattle.bg_ast.specs.declared.resolved.WrittenType.TheVariants as type
use Rattle.bg_ast.proofs.Lists.{type_of-Map}
use Rattle.bg_kinds.specs.declared.kinds.Base.{Base}
use Rattle.bg_kinds.specs.declared.kinds.Base.TheVariants as base
use Rattle.bg_fits.specs.Valued.{is_empty}
use Rattle.bg_fits.specs.Bases.{base_in, key_by}

no_map_is : (named : ℕ → v.Ty) (bs : List IndexTypes) (t : v.Ty) → base_in (map_type named (indexed_of (map index_view bs)) t) ≡ (if is_empty bs then base_in t else None)
no_map_is named [] t = refl
no_map_is named (b ∷ bs) t = refl

pub base_map : (named : ℕ → v.Ty) (bs : Vec IndexTypes Global) (e : Box WrittenType Global) → base_in (type_in named (type_of (type.Map bs e))) ≡ (if is_empty bs.items then base_in (type_in named (type_of e.value)) else None)
base_map named bs e = ap (λ t. base_in (type_in named t)) (type_of-Map bs e) ∙ no_map_is named bs.items (type_in named (type_of e.value))

-- one more type, of a chain of synonyms that is followed from the one with the number `at`
pub next_synonym : (n i at next : ℕ) (ds : List r.TypeName) (b : Option Base) → i < n → ((named : ℕ → v.Ty) → base_in (named next) ≡ base_in (synonym_or (v.UserTy at) (type_in named) (slice_get ds at))) → base_in (named_within (n - i) ds at) ≡ b → base_in (named_within (n - (i + 1)) ds next) ≡ b
next_synonym n i at next ds b l h k =
    let e : n - i ≡ suc (n - (i + 1)) = omega arith in
    h (named_within (n - (i + 1)) ds) ∙ (rw e at k)

-- what a chain ends in
pub last_synonym : (n i at : ℕ) (ds : List r.TypeName) (b c : Option Base) → i < n → ((named : ℕ → v.Ty) → c ≡ base_in (synonym_or (v.UserTy at) (type_in named) (slice_get ds at))) → base_in (named_within (n - i) ds at) ≡ b → c ≡ b
last_synonym n i at ds b c l h k =
    let e : n - i ≡ suc (n - (i + 1)) = omega arith in
    h (named_within (n - (i + 1)) ds) ∙ (rw e at k)

-- a chain that is longer than it may be ends in a type that stands for itself
pub no_synonym : (n i at : ℕ) (ds : List r.TypeName) (b : Option Base) → n ≤ i → base_in (named_within (n - i) ds at) ≡ b → Some (base.User at) ≡ b
no_synonym n i at ds b l k =
    let e : n - i ≡ 0 = omega arith in
    rw e at k

-- an index type, by what stands for no map
pub key_is : (t : v.Ty) (b : Option Base) → b ≡ base_in t → key_by b ≡ m.key_of t
key_is v.IntTy b e = ap key_by e
key_is v.BoolTy b e = ap key_by e
key_is (v.UserTy u) b e = ap key_by e
key_is (v.MapTy ks t) b e = ap key_by e
