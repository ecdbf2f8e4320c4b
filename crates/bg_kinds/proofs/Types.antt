-- Lists of different lengths are different, of index types and of brackets.
use Rattle.std.proofs.Common.{◌≡◌, ◌≢◌, Bool, true, false, not, eqb, ◌&&◌, List, [], ◌∷◌, map, length, refl, ap, suc, rules, tests}
use Rattle.bg_ast.specs.Values as v
use Rattle.bg_sense.specs.Types.{key_types_eq, ty_eq}
use Rattle.bg_kinds.specs.declared.kinds.IndexType.{IndexType}
use Rattle.bg_kinds.specs.declared.kinds.Base.{Base}
use Rattle.bg_kinds.specs.declared.kinds.Base.TheVariants as base
use Rattle.bg_kinds.specs.declared.kinds.Keys.{Keys}
use Rattle.bg_kinds.specs.Views.{key_of, base_of, tower}

and_false : (a b : Bool) → b ≡ false → (a && b) ≡ false
and_false true b h = h
and_false false b h = refl

pub keys_differ : (a b : List IndexType) → length a ≢ length b → key_types_eq (map key_of a) (map key_of b) ≡ false
keys_differ [] [] h = absurd (h refl)
keys_differ [] (l ∷ ls) h = refl
keys_differ (k ∷ ks) [] h = refl
keys_differ (k ∷ ks) (l ∷ ls) h = and_false _ _ (keys_differ ks ls (λ e. h (ap suc e)))

base_no_map : (b : Base) (ks : List v.KeyType) (t : v.Ty) → ty_eq (base_of b) (v.MapTy ks t) ≡ false
base_no_map base.Int ks t = refl
base_no_map base.Bool ks t = refl
base_no_map (base.User u) ks t = refl

map_no_base : (b : Base) (ks : List v.KeyType) (t : v.Ty) → ty_eq (v.MapTy ks t) (base_of b) ≡ false
map_no_base base.Int ks t = refl
map_no_base base.Bool ks t = refl
map_no_base (base.User u) ks t = refl

pub towers_differ : (a b : List Keys) (c d : Base) → length a ≢ length b → ty_eq (tower a (base_of c)) (tower b (base_of d)) ≡ false
towers_differ [] [] c d h = absurd (h refl)
towers_differ [] (l ∷ ls) c d h = base_no_map c _ _
towers_differ (k ∷ ks) [] c d h = map_no_base d _ _
towers_differ (k ∷ ks) (l ∷ ls) c d h = and_false _ _ (towers_differ ks ls c d (λ e. h (ap suc e)))

base_is_no_map : (b : Base) → v.is_map (base_of b) ≡ false
base_is_no_map base.Int = refl
base_is_no_map base.Bool = refl
base_is_no_map (base.User u) = refl

pub is_map_tower : (ks : List Keys) (b : Base) → v.is_map (tower ks (base_of b)) ≡ not (eqb (length ks) 0)
is_map_tower [] b = base_is_no_map b
is_map_tower (k ∷ ks) b = search (rules, tests)
