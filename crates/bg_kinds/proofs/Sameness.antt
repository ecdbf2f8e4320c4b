-- Types that are found to be the same are the same.
use Rattle.std.proofs.Common.{◌≡◌, Bool, true, false, ◌&&◌, List, [], ◌∷◌, refl, ap, ◌∙◌, eqb-true}
use Rattle.bg_ast.specs.Values as v
use Rattle.bg_sense.specs.Types.{key_eq, key_types_eq, ty_eq}

left_true : (a b : Bool) → (a && b) ≡ true → a ≡ true
left_true true b h = refl
left_true false b h = h

right_true : (a b : Bool) → (a && b) ≡ true → b ≡ true
right_true true b h = h
right_true false b h = cc

keys_same : (k l : v.KeyType) → key_eq k l ≡ true → k ≡ l
keys_same v.IntKey v.IntKey h = refl
keys_same v.IntKey (v.UserKey u) h = cc
keys_same (v.UserKey t) v.IntKey h = cc
keys_same (v.UserKey t) (v.UserKey u) h = ap v.UserKey (eqb-true t u h)

rows_same : (ks ls : List v.KeyType) → key_types_eq ks ls ≡ true → ks ≡ ls
rows_same [] [] h = refl
rows_same [] (l ∷ ls) h = cc
rows_same (k ∷ ks) [] h = cc
rows_same (k ∷ ks) (l ∷ ls) h =
    ap (λ x. x ∷ ks) (keys_same k l (left_true (key_eq k l) (key_types_eq ks ls) h)) ∙ ap (λ x. l ∷ x) (rows_same ks ls (right_true (key_eq k l) (key_types_eq ks ls) h))

pub types_same : (t u : v.Ty) → ty_eq t u ≡ true → t ≡ u
types_same v.IntTy v.IntTy h = refl
types_same v.IntTy v.BoolTy h = cc
types_same v.IntTy (v.UserTy k) h = cc
types_same v.IntTy (v.MapTy ks t) h = cc
types_same v.BoolTy v.IntTy h = cc
types_same v.BoolTy v.BoolTy h = refl
types_same v.BoolTy (v.UserTy k) h = cc
types_same v.BoolTy (v.MapTy ks t) h = cc
types_same (v.UserTy j) v.IntTy h = cc
types_same (v.UserTy j) v.BoolTy h = cc
types_same (v.UserTy j) (v.UserTy k) h = ap v.UserTy (eqb-true j k h)
types_same (v.UserTy j) (v.MapTy ks t) h = cc
types_same (v.MapTy ks t) v.IntTy h = cc
types_same (v.MapTy ks t) v.BoolTy h = cc
types_same (v.MapTy ks t) (v.UserTy k) h = cc
types_same (v.MapTy ks t) (v.MapTy ls u) h =
    ap (λ x. v.MapTy x t) (rows_same ks ls (left_true (key_types_eq ks ls) (ty_eq t u) h)) ∙ ap (v.MapTy ls) (types_same t u (right_true (key_types_eq ks ls) (ty_eq t u) h))
